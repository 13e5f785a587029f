-- All updates of the set are taken back.
use Rattle.std.proofs.Common.{◌≡◌, ◌↔◌, true, [], ◌∷◌, ◌++◌, map, take, length, sym, ap, subst, ◌∙◌, arith}
use Rattle.std.proofs.lemmas.List.{take_more, take_all, map-append}
use Rattle.asm_value.specs.UpdateSet.{has, empty, add, add_all}
use Rattle.asm_value.specs.State.{IsConsistent, updates_at, value_at, fire}
use Rattle.asm_updates.proofs.Sets.{add_all-push}
use Rattle.asm_fire.specs.Inverses.{was, inverse}
use Rattle.asm_fire.proofs.Back.{has-inverse, inverse-IsConsistent, fire-inverse}
use Rattle.asm_fire.proofs.inverses.inverse.Goals as goal
use Rattle.asm_fire.proofs.inverses.inverse.Goals.{After-drop-updates-inside-2}

pub loop-update-preserved : goal.loop-update-preserved
loop-update-preserved c =
    let state = c.args.state.now in
    let us = c.as_slice-update-items.result.now in
    let i = c.loop-update.update-index in
    let u = c.update-item.result in
    let more = take_more us i u c.loop-update-test.true ∙ ap (λ w. take i us ++ w ∷ []) (sym c.update-item.is) in
    record {
      back = c.in_ok-add.ensures.ok
          ∙ (λ k. add (c.loop-update.invariant.back k) (c.in_ok-update_back.ensures.back k))
          ∙ sym (add_all-push empty (map (was state) (take i us)) (was state u))
          ∙ ap (add_all empty) (sym (ap (map (was state)) more ∙ map-append (was state) (take i us) (u ∷ [])));
      whole = λ _. c.in_ok-update_back.ensures.whole;
    }

is_inverse : (c : After-drop-updates-inside-2) → c.loop-update.back ≡ inverse c.args.state.now c.args.set.now
is_inverse c =
    c.loop-update.invariant.back
    ∙ ap (λ us. add_all empty (map (was c.args.state.now) us))
    (take_all c.loop-update.update-index c.as_slice-update-items.result.now c.loop-update-test.false
    ∙ c.as_slice-update-items.ensures ∙ c.in_ok-updates.ensures)

pub returns-clause-updates : goal.returns-clause-updates
returns-clause-updates c = λ u.
    subst (λ s. (has s u ≡ true) ↔ ((updates_at c.args.set.now u.location ≡ true) × (u.value ≡ value_at c.args.state.now u.location)))
    (sym (is_inverse c)) (has-inverse c.args.state.now c.args.set.now u)

pub returns-clause-consistent : goal.returns-clause-consistent
returns-clause-consistent c =
    subst IsConsistent (sym (is_inverse c)) (inverse-IsConsistent c.args.state.now c.args.set.now)

pub returns-clause-restores : goal.returns-clause-restores
returns-clause-restores c = λ one.
    let us = c.as_slice-update-items.ensures ∙ c.in_ok-updates.ensures in
    ap (fire (fire c.args.state.now c.args.set.now)) (is_inverse c)
    ∙ fire-inverse c.args.state.now c.args.set.now
    (λ some. c.loop-update.invariant.whole (let n = ap length us in omega arith)) one
