-- the marks so far are those of the functions passed
use Rattle.std.proofs.Common.{◌≡◌, map, take}
use Rattle.asm_board.specs.Kinds.{is_monitored}
use Rattle.asm_step.proofs.inputs.monitored.Given as goal

abbrev pub invariant-loop-info : goal.invariant-loop-info
invariant-loop-info l =
    l.marks.items ≡ map (λ info. is_monitored info.kind) (take l.info-index l.program.functions)
