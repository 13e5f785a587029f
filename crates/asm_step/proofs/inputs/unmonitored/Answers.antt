-- What isn't marked is what isn't monitored.
use Rattle.std.proofs.Common.{◌∙◌}
use Rattle.std.proofs.lemmas.Result.{IfOk-weaker}
use Rattle.asm_step.proofs.Monitored.{kept_by_marks}
use Rattle.asm_step.proofs.inputs.unmonitored.Goals as goal

pub returns : goal.returns
returns c =
    IfOk-weaker c.without.result _ _
    (λ kept is. is ∙ kept_by_marks c.args.program.now c.args.state.now c.as_slice.result.now (c.as_slice.ensures.value ∙ c.in_ok-marks.ensures))
    c.without.ensures
