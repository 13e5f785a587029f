-- The first two neighbours of a set's ascending updates that have one location are the set's clash.
use Rattle.std.proofs.Common.{◌≡◌, Bool, true, false, ◌&&◌, cond, T, List, [], ◌∷◌, map, Option, Some, None, refl, sym, ap, subst, ◌∙◌}
use Rattle.std.specs.List.{AllByRecursion}
use Rattle.std.specs.List.Sorted.{IsStrictlySortedBy}
use Rattle.std.specs.Ordering.{eq_by_cmp, is_lt}
use Rattle.std.specs.declared.cmp.Ordering.{Ordering}
use Rattle.std.specs.declared.cmp.Ordering.TheVariants.{Less, Equal, Greater}
use Rattle.std.proofs.lemmas.Cmp.{tied_itself}
use Rattle.std.specs.FinMap as finite
use Rattle.std.specs.FinMap.Entries.{below_all}
use Rattle.asm_value.specs.declared.value.Value.{Value}
use Rattle.asm_value.specs.declared.location.Location.{Location}
use Rattle.asm_value.specs.declared.location.Update.{Update}
use Rattle.asm_value.specs.Value.{compare}
use Rattle.asm_value.specs.TotalOrders.{compare_total}
use Rattle.asm_value.specs.Location.{location_cmp, update_cmp}
use Rattle.asm_value.specs.UpdateSet.{UpdateSet, items, empty, add_all}
use Rattle.asm_value.proofs.UpdateSetLaws.{has-items, same_updates}
use Rattle.asm_value.specs.State.{IsConsistent, IsClash}
use Rattle.asm_value.proofs.ClashLaws.{IsClash-alone}
use Rattle.asm_value.proofs.StateLaws.{location_is}
use Rattle.asm_updates.proofs.ListLaws.{has-listed, clash_from, IsConsistent-from_none, IsClash-from_some, clash-IsConsistent}
use Rattle.asm_board.specs.Stepping.{first_clash}

-- ---- the list of a set ascends

both_first : (a b : Bool) → T (a && b) → T a
both_first true b h = tt
both_first false b h = h

both_second : (a b : Bool) → T (a && b) → T b
both_second true b h = h
both_second false b h = absurd h

less : (o : Ordering) → T (is_lt o) → o ≡ Less
less Less h = refl
less Equal h = absurd h
less Greater h = absurd h

abbrev Entry : Type 0
Entry = Update × Unit {0}

abbrev keys_of : List Entry → List Update
keys_of es = map (λ e. e.0) es

rises : (u : Update) (es : List Entry) → T (below_all update_cmp u es) → AllByRecursion (λ v. update_cmp u v ≡ Less) (keys_of es)
rises u [] h = tt
rises u (e ∷ es) h = (less (update_cmp u e.0) (both_first _ _ h), rises u es (both_second _ _ h))

ascends : (es : List Entry) → T (finite.is_sorted update_cmp es) → IsStrictlySortedBy update_cmp (keys_of es)
unfolding IsStrictlySortedBy
ascends [] h = tt
ascends (e ∷ es) h = (rises e.0 es (both_first _ _ h), ascends es (both_second _ _ h))

items_ascend : (s : UpdateSet) → IsStrictlySortedBy update_cmp (items s)
items_ascend s = ascends (finite.entries s) (finite.entries_sorted s)

-- the set of its own list
of_items : (s : UpdateSet) → add_all empty (items s) ≡ s
of_items s = same_updates _ _ (λ u. has-listed (items s) u ∙ sym (has-items s u))

-- ---- the first clash of a list

clash_behind : (u : Update) (us : List Update) → clash_from (Some u) us ≡ first_clash (u ∷ us)
unfolding first_clash
clash_behind u [] = refl
clash_behind u (v ∷ us) = ap (cond (eq_by_cmp location_cmp u.location v.location) (Some (u, v))) (clash_behind v us)

clash_is : (us : List Update) → clash_from None us ≡ first_clash us
unfolding first_clash
clash_is [] = refl
clash_is (u ∷ us) = clash_behind u us

-- ---- from the first clash to the set

pub none-IsConsistent : (s : UpdateSet) → first_clash (items s) ≡ None → IsConsistent s
none-IsConsistent s none = subst IsConsistent (of_items s) (IsConsistent-from_none (items s) (items_ascend s) (clash_is (items s) ∙ none))

pub some-IsClash : (s : UpdateSet) (u v : Update) → first_clash (items s) ≡ Some (u, v) → IsClash s u.location u.value v.value
some-IsClash s u v some = subst (λ t. IsClash t u.location u.value v.value) (of_items s) (IsClash-from_some (items s) (u, v) (items_ascend s) (clash_is (items s) ∙ some))

some-not-IsConsistent : (s : UpdateSet) (c : Update × Update) → first_clash (items s) ≡ Some c → IsConsistent s → ⊥
some-not-IsConsistent s c some one = clash-IsConsistent (items s) c (items_ascend s) (clash_is (items s) ∙ some) (subst IsConsistent (sym (of_items s)) one)

same_pair : (p q : Update × Update) → ◌≡◌ {A = Option (Update × Update)} (Some p) (Some q) → p ≡ q
same_pair p q e = cc

-- the two are of one location
pub one_location : (us : List Update) (u v : Update) → first_clash us ≡ Some (u, v) → u.location ≡ v.location
unfolding first_clash
one_location [] u v some = absurd (cc)
one_location (x ∷ []) u v some = absurd (cc)
one_location (x ∷ y ∷ us) u v some =
    elim (eq_by_cmp location_cmp x.location y.location) as (λ b. eq_by_cmp location_cmp x.location y.location ≡ b → cond b (Some (x, y)) (first_clash (y ∷ us)) ≡ Some (u, v) → u.location ≡ v.location) [
      | true ↦ λ at is. subst (λ (p : Update × Update). p.0.location ≡ p.1.location) (same_pair (x, y) (u, v) is) (location_is x.location y.location at)
      | false ↦ λ _ is. one_location (y ∷ us) u v is
    ] refl some

-- ---- from the set to the first clash

pub IsConsistent-none : (s : UpdateSet) → IsConsistent s → first_clash (items s) ≡ None
IsConsistent-none s one =
    elim (first_clash (items s)) as (λ o. first_clash (items s) ≡ o → o ≡ None) [
      | None ↦ λ _. refl
      | Some c ↦ λ is. absurd (some-not-IsConsistent s c is one)
    ] refl

abbrev at : Location → Value → Update
at l v = record { location = l; value = v }

abbrev both_at : Location → Value → Value → Update × Update
both_at l v w = (at l v, at l w)

-- the values of a clash differ, so its set isn't consistent
clash-not-IsConsistent : (s : UpdateSet) (l : Location) (v w : Value) → IsClash s l v w → IsConsistent s → ⊥
clash-not-IsConsistent s l v w clash one =
    let same : at l v ≡ at l w = one (at l v) (at l w) clash.has_first clash.has_second refl in
    let tie : compare v w ≡ Equal = subst (λ (x : Update). compare v x.value ≡ Equal) same (tied_itself compare_total v) in
    let differs : Less ≡ Equal = sym clash.differ ∙ tie in
    cc

pair_is : (s : UpdateSet) (l : Location) (v w : Value) (c : Update × Update) → IsClash s l v w → first_clash (items s) ≡ Some c → c ≡ both_at l v w
pair_is s l v w c clash some =
    let is = IsClash-alone s c.0.location l c.0.value c.1.value v w (some-IsClash s c.0 c.1 some) clash in
    let second : c.1.location ≡ l = sym (one_location (items s) c.0 c.1 some) ∙ is.0 in
    λ i. (record { location = is.0 i; value = is.1 i }, record { location = second i; value = is.2 i })

pub IsClash-some : (s : UpdateSet) (l : Location) (v w : Value) → IsClash s l v w → first_clash (items s) ≡ Some (both_at l v w)
IsClash-some s l v w clash =
    elim (first_clash (items s)) as (λ o. first_clash (items s) ≡ o → o ≡ Some (both_at l v w)) [
      | None ↦ λ is. absurd (clash-not-IsConsistent s l v w clash (none-IsConsistent s is))
      | Some c ↦ λ is. ap (λ p. Some p) (pair_is s l v w c clash is)
    ] refl
