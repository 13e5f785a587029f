-- What was written there, or else what the state has.
use Rattle.std.proofs.Common.{sym, ◌∙◌}
use Rattle.asm_terms.proofs.OverlayLaws.{value_at-written, value_at-kept}
use Rattle.asm_terms.proofs.view.View.get.Goals as goal

pub returns-in-Some : goal.returns-in-Some
returns-in-Some c =
    let view = c.args.self.now in
    sym (value_at-written view.state.now view.written c.args.location.now c.in-Some.value.now
    c.in-Some.ensures.found)

pub returns-in-None : goal.returns-in-None
returns-in-None c =
    let view = c.args.self.now in
    c.get-in-None.ensures.value
    ∙ sym (value_at-kept view.state.now view.written c.args.location.now c.in-None.ensures.none)
