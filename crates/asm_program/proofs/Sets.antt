-- Unions of sets of updates, and the test of a clash.
use Rattle.std.proofs.Common.{◌≡◌, Bool, true, false, ◌&&◌, ◌||◌, not, inl, inr, List, [], ◌∷◌}
use Rattle.std.proofs.Common.{refl, sym, ap, subst, ◌∙◌}
use Rattle.std.proofs.lemmas.Bool.{true≢false}
use Rattle.std.specs.List.{list_any}
use Rattle.std.specs.Ordering.{eq_by_cmp}
use Rattle.asm_value.specs.declared.location.Update.{Update}
use Rattle.asm_value.specs.Location.{location_cmp, update_cmp}
use Rattle.asm_value.specs.State.{IsConsistent, overlaid, updates_at}
use Rattle.asm_value.specs.UpdateSet as set
use Rattle.asm_value.specs.UpdateSet.{UpdateSet, has, same}
use Rattle.asm_value.proofs.UpdateSetLaws.{has-empty, has-union, has-items, same_updates}
use Rattle.asm_value.proofs.StateLaws.{or_cases, or_left, or_right, same_is, same_itself}
use Rattle.asm_value.proofs.StateLaws.{location_is, location_itself, has-overlaid, false_by}
use Rattle.asm_value.proofs.StateLaws.{updates_at-found}
use Rattle.asm_program.specs.Yields.{clashes}

-- ---- unions

pub or_assoc : (a b c : Bool) → ((a || b) || c) ≡ (a || (b || c))
or_assoc true b c = refl
or_assoc false b c = refl

or_comm : (a b : Bool) → (a || b) ≡ (b || a)
or_comm true true = refl
or_comm true false = refl
or_comm false true = refl
or_comm false false = refl

pub or_false : (a : Bool) → (a || false) ≡ a
or_false true = refl
or_false false = refl

pub union-assoc : (a b c : UpdateSet) → set.union (set.union a b) c ≡ set.union a (set.union b c)
union-assoc a b c = same_updates _ _ (λ u.
    has-union (set.union a b) c u ∙ ap (λ x. x || has c u) (has-union a b u)
    ∙ or_assoc (has a u) (has b u) (has c u)
    ∙ sym (has-union a (set.union b c) u ∙ ap (λ x. has a u || x) (has-union b c u)))

pub union-comm : (a b : UpdateSet) → set.union a b ≡ set.union b a
union-comm a b = same_updates _ _ (λ u.
    has-union a b u ∙ or_comm (has a u) (has b u) ∙ sym (has-union b a u))

pub union-empty : (a : UpdateSet) → set.union a set.empty ≡ a
union-empty a = same_updates _ _ (λ u.
    has-union a set.empty u ∙ ap (λ x. has a u || x) (has-empty u) ∙ or_false (has a u))

pub empty-union : (a : UpdateSet) → set.union set.empty a ≡ a
empty-union a = same_updates _ _ (λ u.
    has-union set.empty a u ∙ ap (λ x. x || has a u) (has-empty u))

-- two sets in each other's place
pub union-swap : (a b c : UpdateSet) → set.union a (set.union b c) ≡ set.union b (set.union a c)
union-swap a b c =
    sym (union-assoc a b c) ∙ ap (λ s. set.union s c) (union-comm a b) ∙ union-assoc b a c

-- ---- overlays with nothing

updates_at-empty : (u : Update) → updates_at set.empty u.location ≡ false
updates_at-empty u = false_by _ (λ some.
    let f = updates_at-found set.empty u.location some in true≢false (sym f.2 ∙ has-empty f.0))

and_true : (a : Bool) → (a && true) ≡ a
and_true true = refl
and_true false = refl

and_false : (a b : Bool) → a ≡ false → (a && b) ≡ false
and_false true b e = absurd (true≢false e)
and_false false b e = refl

-- `∅ ⊕ V` is V, and `U ⊕ ∅` is U
pub empty-overlaid : (a : UpdateSet) → overlaid set.empty a ≡ a
empty-overlaid a = same_updates _ _ (λ u.
    has-overlaid set.empty a u
    ∙ ap (λ x. has a u || x) (and_false (has set.empty u) _ (has-empty u)) ∙ or_false (has a u))

pub overlaid-empty : (a : UpdateSet) → overlaid a set.empty ≡ a
overlaid-empty a = same_updates _ _ (λ u.
    has-overlaid a set.empty u ∙ ap (λ x. x || (has a u && not (updates_at set.empty u.location)))
    (has-empty u)
    ∙ ap (λ x. has a u && not x) (updates_at-empty u) ∙ and_true (has a u))

-- ---- clashes

abbrev differs : Update → Update → Bool
differs u v = eq_by_cmp location_cmp u.location v.location && not (eq_by_cmp update_cmp u v)

not_false : (b : Bool) → not b ≡ false → b ≡ true
not_false true h = refl
not_false false h = absurd (true≢false h)

or_first : (a b : Bool) → (a || b) ≡ false → a ≡ false
or_first true b h = h
or_first false b h = refl

or_second : (a b : Bool) → (a || b) ≡ false → b ≡ false
or_second true b h = absurd (true≢false h)
or_second false b h = h

if_no_clash : (u v : Update) → differs u v ≡ false → u.location ≡ v.location → u ≡ v
if_no_clash u v h e =
    let n = subst (λ b. (b && not (eq_by_cmp update_cmp u v)) ≡ false)
    (location_itself u.location v.location e) h in
    same_is u v (not_false (eq_by_cmp update_cmp u v) n)

any_false : (f : Update → Bool) (us : List Update) (u : Update) → list_any f us ≡ false
    → list_any (same u) us ≡ true → f u ≡ false
any_false f [] u h e = absurd (true≢false (sym e))
any_false f (v ∷ us) u h e =
    elim (or_cases (same u v) _ e) [
      | inl s ↦ subst (λ w. f w ≡ false) (sym (same_is u v s)) (or_first (f v) _ h)
      | inr later ↦ any_false f us u (or_second (f v) _ h) later
    ]

any_found : (f : Update → Bool) (us : List Update) → list_any f us ≡ true
    → (u : Update) × (f u ≡ true) × (list_any (same u) us ≡ true)
any_found f [] h = absurd (true≢false (sym h))
any_found f (v ∷ us) h =
    elim (or_cases (f v) _ h) [
      | inl now ↦ (v, now, or_left (same v v) _ (same_itself v v refl))
      | inr later ↦ let found =
          any_found f us later in (found.0, found.1, or_right (same found.0 v) _ found.2)
    ]

pub and_first : (a b : Bool) → (a && b) ≡ true → a ≡ true
and_first true b e = refl
and_first false b e = e

pub and_second : (a b : Bool) → (a && b) ≡ true → b ≡ true
and_second true b e = e
and_second false b e = absurd (true≢false (sym e))

-- a set in which the test finds no clash is consistent
pub consistent : (s : UpdateSet) → clashes s ≡ false → IsConsistent s
consistent s h u v p q e =
    let us = set.items s in
    let first = any_false (λ a. list_any (λ b. differs a b) us) us u h (sym (has-items s u) ∙ p) in
    if_no_clash u v (any_false (λ b. differs u b) us v first (sym (has-items s v) ∙ q)) e

-- and one in which it finds one is not
pub inconsistent : (s : UpdateSet) → clashes s ≡ true → IsConsistent s → ⊥
inconsistent s h one =
    let us = set.items s in
    let a = any_found (λ a. list_any (λ b. differs a b) us) us h in
    let b = any_found (λ b. differs a.0 b) us a.1 in
    let there = location_is a.0.location b.0.location (and_first _ _ b.1) in
    let alike = one a.0 b.0 (has-items s a.0 ∙ a.2) (has-items s b.0 ∙ b.2) there in
    let unlike : not true ≡ true = subst (λ t. not t ≡ true) (same_itself a.0 b.0 alike)
    (and_second _ _ b.1) in
    true≢false (sym unlike)

pub clash_by : (s : UpdateSet) → (IsConsistent s → ⊥) → clashes s ≡ true
clash_by s h = go (clashes s) refl
  where
    go : (b : Bool) → clashes s ≡ b → clashes s ≡ true
    go true e = e
    go false e = absurd (h (consistent s e))

pub no_clash_by : (s : UpdateSet) → IsConsistent s → clashes s ≡ false
no_clash_by s h = false_by (clashes s) (λ e. inconsistent s e h)
