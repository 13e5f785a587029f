use Rattle.asm_portable.proofs.SameSets.{one_value}
use Rattle.asm_portable.proofs.laws.a_set_is_read_in_any_order.Goals as goal

pub returns : goal.returns
returns c = one_value
