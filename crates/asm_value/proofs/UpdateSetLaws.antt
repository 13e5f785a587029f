-- The laws of sets of updates: what each operation has, and when two sets are one.
use Rattle.std.proofs.Common.{◌≡◌, Bool, true, false, ◌||◌, ◌&&◌, cond, T, List, [], ◌∷◌, map}
use Rattle.std.proofs.Common.{Option, Some, None, is_some, refl, sym, ap, subst, ◌∙◌}
use Rattle.std.specs.List.{list_any, AllByRecursion}
use Rattle.std.specs.List.Sorted.{IsStrictlySortedBy}
use Rattle.std.specs.Ordering.{is_lt}
use Rattle.std.specs.declared.cmp.Ordering.TheVariants.{Less}
use Rattle.std.specs.FinMap as finite
use Rattle.std.specs.FinMap.Entries.{below_all}
use Rattle.asm_value.specs.declared.location.Update.{Update}
use Rattle.asm_value.specs.Location.{update_cmp}
use Rattle.asm_value.specs.UpdateSet.{UpdateSet, has, items, empty, add, add_all, union, keep, same}
use Rattle.asm_value.specs.TotalOrders.{update_cmp_total, update_cmp-IsAntisymmetric}

is_some-cond : (b : Bool) (x : Option (Unit {0})) → is_some (cond b (Some tt) x) ≡ (b || is_some x)
is_some-cond true x = refl
is_some-cond false x = refl

is_some-kept : (b : Bool) (x : Option (Unit {0})) → is_some (cond b x None) ≡ (is_some x && b)
is_some-kept true None = refl
is_some-kept true (Some u) = refl
is_some-kept false None = refl
is_some-kept false (Some u) = refl

or_swap : (a b c : Bool) → (a || (b || c)) ≡ (b || (a || c))
or_swap true true c = refl
or_swap true false c = refl
or_swap false b c = refl

or-assoc : (a b c : Bool) → ((a || b) || c) ≡ (b || (a || c))
or-assoc true true c = refl
or-assoc true false c = refl
or-assoc false b c = refl

or-false : (a : Bool) → a ≡ (a || false)
or-false true = refl
or-false false = refl

marked : (x y : Option (Unit {0})) → is_some x ≡ is_some y → x ≡ y
marked None None e = refl
marked None (Some u) e = absurd (cc)
marked (Some u) None e = absurd (cc)
marked (Some u) (Some v) e = refl

pub has-items : (s : UpdateSet) (u : Update) → has s u ≡ list_any (same u) (items s)
has-items s u = finite.contains_key-keys s u

pub has-empty : (u : Update) → has empty u ≡ false
has-empty u = ap is_some (finite.get-empty update_cmp u)

pub has-add : (s : UpdateSet) (v u : Update) → has (add s v) u ≡ (same u v || has s u)
has-add s v u =
    ap is_some (finite.get-insert update_cmp_total s v tt u)
    ∙ is_some-cond (same u v) (finite.get s u)

pub has-add_all : (s : UpdateSet) (us : List Update) (u : Update)
    → has (add_all s us) u ≡ (has s u || list_any (same u) us)
has-add_all s [] u = or-false _
has-add_all s (v ∷ us) u =
    has-add_all (add s v) us u ∙ ap (λ b. b || list_any (same u) us) (has-add s v u)
    ∙ or-assoc (same u v) (has s u) _

pub has-union : (s t : UpdateSet) (u : Update) → has (union s t) u ≡ (has s u || has t u)
has-union s t u = has-add_all s (items t) u ∙ ap (λ b. has s u || b) (sym (has-items t u))

pub has-keep : (s : UpdateSet) (p : Update → Bool) (u : Update)
    → has (keep s p) u ≡ (has s u && p u)
has-keep s p u =
    ap is_some (finite.get-retain_keys s p u (λ x e. ap p (sym (update_cmp-IsAntisymmetric u x e))))
    ∙ is_some-kept (p u) (finite.get s u)

-- two sets with the same updates are one
pub same_updates : (s t : UpdateSet) → ((u : Update) → has s u ≡ has t u) → s ≡ t
same_updates s t is =
    finite.same_map update_cmp_total update_cmp-IsAntisymmetric s t (λ u. marked _ _ (is u))

-- ---- the set of an ascending list

both : (a b : Bool) → T a → T b → T (a && b)
both true b p q = q
both false b p q = p

abbrev mark : Update → Update × Unit {0}
mark u = (u, tt)

rises : (x : Update) (us : List Update) → AllByRecursion (λ y. update_cmp x y ≡ Less) us
    → T (below_all update_cmp x (map mark us))
rises x [] h = tt
rises x (u ∷ us) h = both _ _ (subst (λ o. T (is_lt o)) (sym h.0) tt) (rises x us h.1)

sorted : (us : List Update) → IsStrictlySortedBy update_cmp us
    → T (finite.is_sorted update_cmp (map mark us))
unfolding IsStrictlySortedBy
sorted [] h = tt
sorted (u ∷ us) h = both _ _ (rises u us h.0) (sorted us h.1)

unmarked : (us : List Update) → map (λ e. e.0) (map mark us) ≡ us
unmarked [] = refl
unmarked (u ∷ us) = ap (λ vs. u ∷ vs) (unmarked us)

pub has-from_sorted : (us : List Update) (u : Update) → IsStrictlySortedBy update_cmp us
    → has (finite.from_sorted (map mark us)) u ≡ list_any (same u) us
has-from_sorted us u h =
    has-items (finite.from_sorted (map mark us)) u
    ∙ ap (list_any (same u)) (ap (map (λ e. e.0))
    (finite.entries-from_sorted update_cmp (map mark us) (sorted us h)) ∙ unmarked us)

-- what is added in ascending order is the set's list
pub items-add_all : (us : List Update) → IsStrictlySortedBy update_cmp us
    → items (add_all empty us) ≡ us
items-add_all us h =
    ap items (same_updates (add_all empty us) (finite.from_sorted (map mark us)) (λ u.
    has-add_all empty us u ∙ ap (λ b. b || list_any (same u) us) (has-empty u)
    ∙ sym (has-from_sorted us u h)))
    ∙ ap (map (λ e. e.0)) (finite.entries-from_sorted update_cmp (map mark us) (sorted us h))
    ∙ unmarked us
