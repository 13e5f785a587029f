-- What one more update adds to the weight of a set.
use Rattle.std.proofs.Common.{◌≡◌, ℕ, ◌+◌, ◌-◌, ◌^◌, min, Bool, true, false, cond, not, List, [], ◌∷◌}
use Rattle.std.proofs.Common.{map, sum_by, Some, is_some, refl, sym, ap, ◌∙◌, arith}
use Rattle.std.proofs.lemmas.Bool.{true≢false}
use Rattle.std.proofs.lemmas.List.Sums.{sum_by-cons}
use Rattle.std.specs.List.Sorted.{IsStrictlySortedBy}
use Rattle.std.specs.Ordering.{is_eq}
use Rattle.std.specs.declared.cmp.Ordering.TheVariants.{Less, Equal, Greater}
use Rattle.std.specs.FinMap as finite
use Rattle.std.specs.FinMap.Entries.{by_order, find, put}
use Rattle.asm_value.specs.declared.location.Update.{Update}
use Rattle.asm_value.specs.Location.{update_cmp}
use Rattle.asm_value.specs.TotalOrders.{update_cmp_total}
use Rattle.asm_value.specs.UpdateSet.{UpdateSet, has, empty, add, add_all}
use Rattle.asm_value.specs.State.{update_weight, set_weight}
use Rattle.asm_value.proofs.UpdateSetLaws.{items-add_all}

abbrev Marked : Type 0
Marked = List (Update × Unit {0})

abbrev updates_of : Marked → List Update
updates_of es = map (λ e. e.0) es

abbrev whole : Marked → ℕ
whole es = sum_by update_weight (updates_of es)

one_more : (u : Update) (us : List Update)
    → sum_by update_weight (u ∷ us) ≡ update_weight u + sum_by update_weight us
one_more u us = sum_by-cons update_weight u us

whole-put : (u : Update) (es : Marked) → is_some (find update_cmp u es) ≡ false
    → whole (put update_cmp u tt es) ≡ whole es + update_weight u
whole-put u [] new = refl
whole-put u (e ∷ es) new =
    elim (update_cmp u e.0) as (λ r. is_some (cond (is_eq r) (Some e.1) (find update_cmp u es)) ≡ false
    → whole (by_order r ((u, tt) ∷ e ∷ es) ((e.0, tt) ∷ es) (e ∷ put update_cmp u tt es))
    ≡ whole (e ∷ es) + update_weight u) [
      | Less ↦ λ _. omega (arith, one_more u (updates_of (e ∷ es)))
      | Equal ↦ λ known. absurd (true≢false known)
      | Greater ↦ λ rest. omega (
        arith,
        whole-put u es rest,
        one_more e.0 (updates_of (put update_cmp u tt es)),
        one_more e.0 (updates_of es),
      )
    ] new

-- what was told new wasn't there
pub unseen : (told there : Bool) → told ≡ not there → told ≡ true → there ≡ false
unseen told true is new = absurd (true≢false (sym new ∙ is))
unseen told false is new = refl

abbrev most : ℕ
most = 2 ^ 64 - 1

bounded : (a b n : ℕ) → n ≡ a + b → min n most ≡ min (min a most + min b most) most
bounded a b n e = omega (arith, e)

-- a new update adds its weight
pub weight-add : (s : UpdateSet) (u : Update) → has s u ≡ false
    → set_weight (add s u) ≡ min (set_weight s + min (update_weight u) most) most
weight-add s u new =
    bounded (whole (finite.entries s)) (update_weight u) (whole (finite.entries (add s u)))
    (ap whole (finite.entries-insert update_cmp_total s u tt)
    ∙ whole-put u (finite.entries s) (sym (ap is_some (finite.get-entries s u)) ∙ new))

none-ascends : IsStrictlySortedBy update_cmp []
unfolding IsStrictlySortedBy
none-ascends = tt

weight-empty : set_weight empty ≡ 0
weight-empty = ap (λ us. min (sum_by update_weight us) most) (items-add_all [] none-ascends)

-- the set without updates weighs nothing
pub weight-none : (us : List Update) → us ≡ [] → 0 ≡ set_weight (add_all empty us)
weight-none us none = sym (ap (λ vs. set_weight (add_all empty vs)) none ∙ weight-empty)
