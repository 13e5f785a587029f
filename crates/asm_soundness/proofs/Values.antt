-- Values whose members pass a test: by their parts, and by a weaker test.
use Rattle.std.proofs.Common.{◌≡◌, ℕ, ℤ, zero, suc, Bool, true, false, cond}
use Rattle.std.proofs.Common.{unwrap_or, List, [], ◌∷◌, map, slice_get, refl, sym, ap, ◌∙◌, rules}
use Rattle.std.specs.List.{AllByRecursion, list_all}
use Rattle.asm_value.specs.declared.value.Value.{Value}
use Rattle.asm_value.specs.declared.value.Value.TheOpen.{Value-F}
use Rattle.asm_value.specs.declared.value.Value.TheVariants.{Undef, Truth, Int, Chars, Member}
use Rattle.asm_value.specs.declared.value.Value.TheVariants.{Tuple, Seq, Set}
use Rattle.asm_value.specs.declared.value.Value.TheFolds.{fold_out-Value, map-Value}
use Rattle.asm_value.specs.declared.value.Value.TheViews.{out-Value, the_lemmas}
use Rattle.asm_value.specs.Value.{items, parts}
use Rattle.asm_value.specs.TotalOrders.{by_parts}
use Rattle.asm_value.proofs.Listing.{first_true, second_true, both_true}
use Rattle.asm_value.proofs.MemberLists.{out_undef, out_truth, out_int, out_member, out_tuple}
use Rattle.asm_value.proofs.MemberLists.{out_set}
use Rattle.asm_soundness.specs.Sorted.{members_level, members_pass}

-- ---- lists of values

-- the members in each value pass
abbrev pub AllPass : (ℕ → ℕ → Bool) → List Value → Type 0
AllPass test vs = AllByRecursion (λ v. members_pass test v ≡ true) vs

module _ (test : ℕ → ℕ → Bool) where
  pub all-from_list : (xs : List Value)
      → list_all (λ b. b) (map (members_pass test) xs) ≡ true → AllPass test xs
  all-from_list [] h = tt
  all-from_list (x ∷ xs) h = (
    first_true (members_pass test x) _ h,
    all-from_list xs (second_true (members_pass test x) _ h),
  )

  pub list-from_all : (xs : List Value) → AllPass test xs
      → list_all (λ b. b) (map (members_pass test) xs) ≡ true
  list-from_all [] h = refl
  list-from_all (x ∷ xs) h = both_true (members_pass test x) _ h.0 (list-from_all xs h.1)

  -- ---- by the form

  -- one level, with what is said of each part in its place
  abbrev pub level_passes : Value-F Value → Bool
  level_passes a = members_level test (map-Value Value Bool (members_pass test) a)

  pub members_pass-out : (v : Value) → members_pass test v ≡ level_passes (out-Value v)
  unfolding members_pass
  members_pass-out v = fold_out-Value Bool (members_level test) v

  pub members_pass-as : (v : Value) (a : Value-F Value) → out-Value v ≡ a
      → members_pass test v ≡ level_passes a
  members_pass-as v a e = members_pass-out v ∙ ap level_passes e

  pub members_pass-Undef : members_pass test Undef ≡ true
  members_pass-Undef = members_pass-as Undef Value-F.Undef out_undef

  pub members_pass-Truth : (b : Bool) → members_pass test (Truth b) ≡ true
  members_pass-Truth b = members_pass-as (Truth b) (Value-F.Truth b) (out_truth b)

  pub members_pass-Int : (n : ℤ) → members_pass test (Int n) ≡ true
  members_pass-Int n = members_pass-as (Int n) (Value-F.Int n) (out_int n)

  pub members_pass-Chars : (t : List ℕ) → members_pass test (Chars t) ≡ true
  members_pass-Chars t =
      members_pass-as (Chars t) (Value-F.Chars t) (search (rules, the_lemmas))

  pub members_pass-Member : (d i : ℕ) → members_pass test (Member d i) ≡ test d i
  members_pass-Member d i = members_pass-as (Member d i) (Value-F.Member d i) (out_member d i)

  pub members_pass-Tuple : (xs : List Value)
      → members_pass test (Tuple xs) ≡ list_all (λ b. b) (map (members_pass test) xs)
  members_pass-Tuple xs = members_pass-as (Tuple xs) (Value-F.Tuple xs) (out_tuple xs)

  pub members_pass-Seq : (xs : List Value)
      → members_pass test (Seq xs) ≡ list_all (λ b. b) (map (members_pass test) xs)
  members_pass-Seq xs =
      members_pass-as (Seq xs) (Value-F.Seq xs) (search (rules, the_lemmas))

  pub members_pass-Set : (xs : List Value)
      → members_pass test (Set xs) ≡ list_all (λ b. b) (map (members_pass test) xs)
  members_pass-Set xs = members_pass-as (Set xs) (Value-F.Set xs) (out_set xs)

  pub tuple_passes : (xs : List Value) → AllPass test xs → members_pass test (Tuple xs) ≡ true
  tuple_passes xs h = members_pass-Tuple xs ∙ list-from_all xs h

  pub seq_passes : (xs : List Value) → AllPass test xs → members_pass test (Seq xs) ≡ true
  seq_passes xs h = members_pass-Seq xs ∙ list-from_all xs h

  pub set_passes : (xs : List Value) → AllPass test xs → members_pass test (Set xs) ≡ true
  set_passes xs h = members_pass-Set xs ∙ list-from_all xs h

  -- ---- parts

  level_items : (a : Value-F Value) → level_passes a ≡ true → AllPass test (items a)
  level_items (Value-F.Tuple xs) h = all-from_list xs h
  level_items (Value-F.Seq xs) h = all-from_list xs h
  level_items (Value-F.Set xs) h = all-from_list xs h
  level_items a h = tt

  -- the members in each item of a tuple, a sequence or a set pass
  pub parts_pass : (v : Value) → members_pass test v ≡ true → AllPass test (parts v)
  parts_pass v h = level_items (out-Value v) (sym (members_pass-out v) ∙ h)

  -- the item at a place, undef where there is none
  pub item_passes : (xs : List Value) (i : ℕ) → AllPass test xs
      → members_pass test (unwrap_or (slice_get xs i) Undef) ≡ true
  item_passes [] i h = members_pass-Undef
  item_passes (x ∷ xs) zero h = h.0
  item_passes (x ∷ xs) (suc i) h = item_passes xs i h.1

  pub chosen_passes : (b : Bool) (v w : Value) → members_pass test v ≡ true
      → members_pass test w ≡ true → members_pass test (cond b v w) ≡ true
  chosen_passes true v w h k = h
  chosen_passes false v w h k = k

-- ---- weaker tests

module _ (a b : ℕ → ℕ → Bool) (more : (d i : ℕ) → a d i ≡ true → b d i ≡ true) where
  abbrev More : Value → Type 0
  More v = members_pass a v ≡ true → members_pass b v ≡ true

  items_more : (xs : List Value) → AllByRecursion More xs → AllPass a xs → AllPass b xs
  items_more [] h k = tt
  items_more (x ∷ xs) h k = (h.0 k.0, items_more xs h.1 k.1)

  list_more : (xs : List Value) → AllByRecursion More xs
      → list_all (λ c. c) (map (members_pass a) xs) ≡ true
      → list_all (λ c. c) (map (members_pass b) xs) ≡ true
  list_more xs h k = list-from_all b xs (items_more xs h (all-from_list a xs k))

  level_more : (c : Value-F Value) → AllByRecursion More (items c) → level_passes a c ≡ true
      → level_passes b c ≡ true
  level_more (Value-F.Member d i) h k = more d i k
  level_more (Value-F.Tuple xs) h k = list_more xs h k
  level_more (Value-F.Seq xs) h k = list_more xs h k
  level_more (Value-F.Set xs) h k = list_more xs h k
  level_more c h k = refl

  -- what passes a test passes a weaker one
  pub passes_more : (v : Value) → members_pass a v ≡ true → members_pass b v ≡ true
  passes_more =
      by_parts More (λ v h k. members_pass-out b v
      ∙ level_more (out-Value v) h (sym (members_pass-out a v) ∙ k))

  pub all_pass_more : (vs : List Value) → AllPass a vs → AllPass b vs
  all_pass_more [] h = tt
  all_pass_more (v ∷ vs) h = (passes_more v h.0, all_pass_more vs h.1)
