-- No row that was passed has the name, so the rest decides.
use Rattle.std.proofs.Common.{◌≡◌, drop}
use Rattle.asm_typing.specs.Operators.{has_name}
use Rattle.asm_typing.proofs.operators.has_name.Given as goal

abbrev pub invariant-loop-row : goal.invariant-loop-row
invariant-loop-row l = has_name (drop l.row-index l.rows) l.name ≡ has_name l.rows l.name
