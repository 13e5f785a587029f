-- One more domain brings one more list.
use Rattle.std.proofs.Common.{[], ◌∷◌, ◌++◌, take, ap, sym, ◌∙◌, arith}
use Rattle.std.proofs.lemmas.List.{take_more, length-take-le}
use Rattle.asm_terms.specs.Lives.{lists_after, after}
use Rattle.asm_terms.proofs.LiveLaws.{lists_after-push}
use Rattle.asm_terms.proofs.live.live_after.Goals as goal

pub loop-at-preserved : goal.loop-at-preserved
loop-at-preserved c =
    let u = c.args.update.now in
    let live = c.args.live.now in
    let infos = c.as_slice-info-items.result.now in
    let i = c.loop-at.at in
    let info = c.info-item.result in
    let inside = length-take-le i infos (omega (arith, c.loop-at-test.true)) in
    c.in_ok-push.ensures.ok
    ∙ (λ k. c.loop-at.invariant k ++ (c.in_ok-indexes_after.ensures
    ∙ ap (after u i info.kind) c.indexes_of.ensures) k ∷ [])
    ∙ sym (lists_after-push u live 0 (take i infos) info i (omega (arith, inside)))
    ∙ ap (lists_after u live 0)
    (ap (λ x. take i infos ++ x ∷ []) c.info-item.is
    ∙ sym (take_more infos i info c.loop-at-test.true))
