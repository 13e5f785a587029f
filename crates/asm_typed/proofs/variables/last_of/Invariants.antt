-- No variable that was passed has the name, so those before it decide.
use Rattle.std.proofs.Common.{◌≡◌, ◌-◌, length, take}
use Rattle.asm_program.specs.TypedTerms.{variable_at}
use Rattle.asm_typed.proofs.variables.last_of.Given as goal

abbrev pub invariant-loop-passed : goal.invariant-loop-passed
invariant-loop-passed l =
    variable_at (take (length l.variables - l.passed) l.variables) l.name ≡ variable_at l.variables l.name
