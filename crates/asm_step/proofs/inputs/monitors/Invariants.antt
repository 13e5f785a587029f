-- no function so far is monitored
use Rattle.std.proofs.Common.{◌≡◌, drop}
use Rattle.std.specs.List.{list_any}
use Rattle.asm_board.specs.Kinds.{is_monitored}
use Rattle.asm_step.proofs.inputs.monitors.Given as goal

abbrev pub invariant-loop-info : goal.invariant-loop-info
invariant-loop-info l =
    list_any (λ info. is_monitored info.kind) (drop l.info-index l.program.functions)
    ≡ list_any (λ info. is_monitored info.kind) l.program.functions
