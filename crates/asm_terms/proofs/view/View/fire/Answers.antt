-- One more update fired.
use Rattle.std.proofs.Common.{[], ◌∷◌, ◌++◌, take, ap, sym, ◌∙◌}
use Rattle.std.proofs.lemmas.List.{take_more}
use Rattle.asm_value.specs.State.{fire_one, fire_all}
use Rattle.asm_state.proofs.Entries.{fire_all-push}
use Rattle.asm_terms.specs.Views.{map_of}
use Rattle.asm_terms.proofs.view.View.fire.Goals as goal

pub loop-update-preserved : goal.loop-update-preserved
loop-update-preserved c =
    let before = map_of c.args.self.now in
    let us = c.as_slice-update-items.result.now in
    let i = c.loop-update.update-index in
    let u = c.update-item.result in
    record {
      program = c.in_ok-write.ensures.program ∙ c.loop-update.invariant.program;
      map = c.in_ok-write.ensures.map
          ∙ ap (λ m. fire_one m u) c.loop-update.invariant.map
          ∙ sym (fire_all-push before (take i us) u)
          ∙ ap (fire_all before)
          (ap (λ x. take i us ++ x ∷ []) c.update-item.is
          ∙ sym (take_more us i u c.loop-update-test.true));
    }
