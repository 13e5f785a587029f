-- There is no name exactly where no invariant is broken.
use Rattle.std.proofs.Common.{◌≡◌, ◌↔◌, ℕ, List, Option, Some, None, option_map, refl, sym, ◌∙◌}
use Rattle.std.proofs.lemmas.Result.{IfOk-weaker}
use Rattle.asm_program.specs.declared.program.Inv.{Inv}
use Rattle.asm_program.specs.Invariants.{first_broken, AllHold}
use Rattle.asm_invariant.proofs.broken.first_broken.Goals as goal

some-not_none : {A : Type 0} (x : A) → ◌≡◌ {A = Option A} (Some x) None → ⊥
some-not_none x e = absurd (cc (e))

named : (H : Type 0) (name : Option (List ℕ)) (broken : Option Inv) → (broken ≡ None) ↔ H
    → name ≡ option_map (λ inv. inv.name) broken → (name ≡ None) ↔ H
named H name None holds is = (λ _. holds.0 refl, λ _. is)
named H name (Some inv) holds is = (
  λ none. absurd (some-not_none inv.name (sym is ∙ none)),
  λ all. absurd (some-not_none inv (holds.1 all)),
)

pub returns-clause-none : goal.returns-clause-none
returns-clause-none c =
    let p = c.args.program.now in
    let state = c.args.state.now in
    let invs = c.args.invs.now in
    IfOk-weaker c.broken_name.result _ _
    (λ name is. named (AllHold p state invs) name (first_broken p state invs)
    (c.none_is_broken_exactly_where_all_hold.ensures p state invs) is)
    c.broken_name.ensures
