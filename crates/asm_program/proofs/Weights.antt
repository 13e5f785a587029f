-- A set weighs no more than one that has its updates.
use Rattle.std.proofs.Common.{◌≡◌, ◌+◌, ◌≤◌, ◌⊎◌, inl, inr, Bool, true, false, T, ◌&&◌, ◌||◌, List}
use Rattle.std.proofs.Common.{[], ◌∷◌, map, refl, sym, ap, subst, ◌∙◌, arith}
use Rattle.std.specs.Prelude.{sum_by}
use Rattle.std.proofs.lemmas.Bool.{true≢false}
use Rattle.std.proofs.lemmas.List.Sums.{sum_by-cons}
use Rattle.std.specs.List.{list_any}
use Rattle.std.specs.Ordering.{is_lt, is_eq}
use Rattle.std.specs.declared.cmp.Ordering.{Ordering}
use Rattle.std.specs.declared.cmp.Ordering.TheVariants.{Less, Equal, Greater}
use Rattle.std.specs.FinMap as finite
use Rattle.std.specs.FinMap.Entries.{below_all}
use Rattle.asm_value.specs.declared.location.Update.{Update}
use Rattle.asm_value.specs.Location.{update_cmp}
use Rattle.asm_value.specs.State.{set_weight, update_weight}
use Rattle.asm_value.specs.UpdateSet as set
use Rattle.asm_value.specs.UpdateSet.{UpdateSet, has, same}
use Rattle.asm_value.proofs.UpdateSetLaws.{has-items}
use Rattle.asm_value.proofs.StateLaws.{or_cases, or_left, or_right, same_is, same_itself}

-- ---- the items of a set differ

Differ : List Update → Type 0
Differ [] = Unit {0}
Differ (x ∷ xs) = (list_any (same x) xs ≡ false) × Differ xs

lt_not_eq : (o : Ordering) → T (is_lt o) → is_eq o ≡ false
lt_not_eq Less h = refl
lt_not_eq Equal h = absurd h
lt_not_eq Greater h = absurd h

left_holds : (a b : Bool) → T (a && b) → T a
left_holds true b h = tt
left_holds false b h = absurd h

right_holds : (a b : Bool) → T (a && b) → T b
right_holds true b h = h
right_holds false b h = absurd h

neither : (a b : Bool) → a ≡ false → b ≡ false → (a || b) ≡ false
neither true b h k = h
neither false b h k = k

below_none : (x : Update) (es : List (Update × Unit {0})) → T (below_all update_cmp x es)
    → list_any (same x) (map (λ e. e.0) es) ≡ false
below_none x [] h = refl
below_none x (e ∷ es) h =
    neither (same x e.0) _ (lt_not_eq (update_cmp x e.0)
    (left_holds (is_lt (update_cmp x e.0)) _ h))
    (below_none x es (right_holds (is_lt (update_cmp x e.0)) _ h))

sorted_differ : (es : List (Update × Unit {0})) → T (finite.is_sorted update_cmp es)
    → Differ (map (λ e. e.0) es)
unfolding Differ
sorted_differ [] h = tt
sorted_differ (e ∷ es) h = (
  below_none e.0 es (left_holds (below_all update_cmp e.0 es) _ h),
  sorted_differ es (right_holds (below_all update_cmp e.0 es) _ h),
)

-- ---- sums

record Removed (x : Update) (ys : List Update) : Type 0 where
  pub rest : List Update
  pub total : sum_by update_weight ys ≡ update_weight x + sum_by update_weight rest
  pub others : (y : Update) → list_any (same y) ys ≡ true
      → (y ≡ x) ⊎ (list_any (same y) rest ≡ true)

remove : (x : Update) (ys : List Update) → list_any (same x) ys ≡ true → Removed x ys
remove x [] h = absurd (true≢false (sym h))
remove x (y ∷ ys) h = elim (or_cases (same x y) _ h) [
  | inl here ↦ record {
    rest = ys;
    total = sum_by-cons update_weight y ys ∙ ap (λ z. update_weight z + sum_by update_weight ys)
        (sym (same_is x y here));
    others = λ z m. elim (or_cases (same z y) _ m) [
      | inl e ↦ inl (same_is z y e ∙ sym (same_is x y here))
      | inr k ↦ inr k
    ];
  }
  | inr later ↦
      let r = remove x ys later in
      record {
        rest = y ∷ r.rest;
        total = let a = sum_by-cons update_weight y ys in
            let b = sum_by-cons update_weight y r.rest in
            let c = r.total in omega (arith, a, b, c);
        others = λ z m. elim (or_cases (same z y) _ m) [
          | inl e ↦ inr (or_left (same z y) _ e)
          | inr k ↦ elim (r.others z k) [ inl is ↦ inl is | inr l ↦ inr (or_right (same z y) _ l) ]
        ];
      }
]

not_both : (x y : Update) (xs : List Update) → list_any (same x) xs ≡ false
    → list_any (same y) xs ≡ true → y ≡ x → ⊥
not_both x y xs lacks has_y is =
    true≢false (sym (subst (λ z. list_any (same z) xs ≡ true) is has_y) ∙ lacks)

sub_sum : (xs ys : List Update) → Differ xs
    → ((x : Update) → list_any (same x) xs ≡ true → list_any (same x) ys ≡ true)
    → sum_by update_weight xs ≤ sum_by update_weight ys
unfolding Differ
sub_sum [] ys d h = omega arith
sub_sum (x ∷ xs) ys d h =
    let r = remove x ys (h x (or_left (same x x) _ (same_itself x x refl))) in
    let rest = sub_sum xs r.rest d.1 (λ y m. elim (r.others y (h y (or_right (same y x) _ m))) [
      | inl is ↦ absurd (not_both x y xs d.0 m is)
      | inr k ↦ k
    ]) in
    let a = sum_by-cons update_weight x xs in
    let b = r.total in
    omega (arith, a, b, rest)

pub weight_rises : (s t : UpdateSet) → ((x : Update) → has s x ≡ true → has t x ≡ true)
    → set_weight s ≤ set_weight t
weight_rises s t h =
    let total = sub_sum (set.items s) (set.items t) (sorted_differ (finite.entries s)
    (finite.entries_sorted s))
    (λ x m. sym (has-items t x) ∙ h x (has-items s x ∙ m)) in
    omega (arith, total)
