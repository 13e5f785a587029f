use Rattle.std.proofs.Common.{◌≡◌, ◌+◌, ◌-◌}
use Rattle.asm_board.specs.Reads.{steps_from}
use Rattle.asm_core.specs.Language.{asmeta}
use Rattle.asm_core.proofs.steps.steps_from.Given as goal

-- what the steps that are left come to is what all of them do
abbrev pub invariant-loop-made : goal.invariant-loop-made
invariant-loop-made l = steps_from asmeta l.pick (l.count - l.made) (l.made + 1) l.content ≡ steps_from asmeta l.pick l.count 1 l.fn.first
