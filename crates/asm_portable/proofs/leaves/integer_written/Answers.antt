-- Digits that aren't parsed write no integer.
use Rattle.std.proofs.Common.{Err, refl}
use Rattle.asm_portable.proofs.Digits.{unparsed}
use Rattle.asm_portable.proofs.leaves.integer_written.Goals as goal

pub returns-in-Err : goal.returns-in-Err
returns-in-Err c =
    unparsed c.args.digits.now (Err c.in-Err.field-0) c.in-Err.field-0 refl c.in-Err.ensures.value
