-- One more domain brings one more list.
use Rattle.std.proofs.Common.{[], ◌∷◌, ◌++◌, take, ap, sym, ◌∙◌, arith}
use Rattle.std.proofs.lemmas.List.{take_more, length-take-le}
use Rattle.asm_value.specs.Living.{members_from}
use Rattle.asm_state.proofs.Members.{members_from-push}
use Rattle.asm_state.proofs.state.State.listed.Goals as goal

pub loop-at-preserved : goal.loop-at-preserved
loop-at-preserved c =
    let state = c.args.self.now in
    let infos = c.as_slice-info-items.result.now in
    let i = c.loop-at.at in
    let info = c.info-item.result in
    let inside = length-take-le i infos (omega (arith, c.loop-at-test.true)) in
    c.in_ok-push.ensures.ok
    ∙ (λ k. c.loop-at.invariant k ++ c.in_ok-members_of_kind.ensures k ∷ [])
    ∙ sym (members_from-push state 0 (take i infos) info i (omega (arith, inside)))
    ∙ ap (members_from state 0)
    (ap (λ x. take i infos ++ x ∷ []) c.info-item.is
    ∙ sym (take_more infos i info c.loop-at-test.true))
