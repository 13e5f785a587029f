use Rattle.asm_portable.proofs.Integers.{integer_from, integer_stands}
use Rattle.asm_portable.proofs.laws.an_integer_is_read_from_its_own_digits.Goals as goal

pub returns : goal.returns
returns c tree n = (integer_from tree n, integer_stands tree n)
