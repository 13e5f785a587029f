-- The last variable of a name is found from the end.
use Rattle.std.proofs.Common.{arith, rules}
use Rattle.asm_typed.proofs.InScope.{found-here, not-here}
use Rattle.asm_typed.proofs.variables.last_of.Goals as goal

pub returns-then-eq : goal.returns-then-eq
returns-then-eq c =
    found-here _ c.loop-passed.passed _ c.index-variables-at.result _ _ c.index-variables-at.is
    (omega arith) (omega arith) (search rules) (search rules) c.loop-passed.invariant

pub loop-passed-preserved : goal.loop-passed-preserved
loop-passed-preserved c =
    not-here _ c.loop-passed.passed _ c.index-variables-at.result _ c.index-variables-at.is
    (omega arith) (omega arith) (search rules) c.loop-passed.invariant
