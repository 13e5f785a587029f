-- One more domain's constants.
use Rattle.std.proofs.Common.{[], ◌∷◌, ◌++◌, take, ap, sym, ◌∙◌, arith}
use Rattle.std.specs.List.{range_with_len}
use Rattle.std.specs.FinMap as finite
use Rattle.std.proofs.lemmas.List.{take_more, length-take-le}
use Rattle.asm_program.specs.Members.{constants_of}
use Rattle.asm_program.specs.Initial.{with_members, with_constants}
use Rattle.asm_terms.proofs.StartLaws.{with_constants-push}
use Rattle.asm_terms.proofs.start.bare_state.Goals as goal

pub loop-at-preserved : goal.loop-at-preserved
loop-at-preserved c =
    let infos = c.as_slice-info-items.result.now in
    let i = c.loop-at.at in
    let info = c.info-item.result in
    let inside = length-take-le i infos (omega (arith, c.loop-at-test.true)) in
    c.in_ok-add_constants.ensures
    ∙ ap (with_members i (range_with_len 0 (constants_of info.kind))) c.loop-at.invariant
    ∙ sym (with_constants-push 0 (take i infos) info i finite.empty (omega (arith, inside)))
    ∙ ap (λ is. with_constants 0 is finite.empty)
    (ap (λ x. take i infos ++ x ∷ []) c.info-item.is
    ∙ sym (take_more infos i info c.loop-at-test.true))
