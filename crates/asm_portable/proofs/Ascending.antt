-- What is put among items that ascend by key leaves them ascending, adds itself, and loses only what has its key.
use Rattle.std.proofs.Common.{◌≡◌, ◌≢◌, ◌⊎◌, inl, inr, ⊎_elim, ℕ, zero, suc, ◌<◌, List, [], ◌∷◌, map, length, slice_index_or, refl, sym, ap, subst, ◌∙◌, arith}
use Rattle.std.specs.List.{AllByRecursion, Contains}
use Rattle.std.specs.List.Sorted.{IsStrictlySortedBy}
use Rattle.std.specs.declared.cmp.Ordering.{Ordering}
use Rattle.std.specs.declared.cmp.Ordering.TheVariants.{Less, Equal, Greater}
use Rattle.std.specs.Ordering.{nat_cmp, ordering_reverse}
use Rattle.std.specs.Cmp.Lexicographic.{slice_cmp, nat_list_cmp_total}
use Rattle.std.specs.FinMap.{nat_cmp-IsAntisymmetric, slice_cmp-IsAntisymmetric}
use Rattle.asm_portable.specs.Ascending.{AscendsBy, put_by}

abbrev cmp : List ℕ → List ℕ → Ordering
cmp = slice_cmp nat_cmp

abbrev AllAbove : List ℕ → List (List ℕ) → Type 0
AllAbove k ks = AllByRecursion (λ l. cmp k l ≡ Less) ks

pub same_key : (k l : List ℕ) → cmp k l ≡ Equal → k ≡ l
same_key = slice_cmp-IsAntisymmetric nat_cmp-IsAntisymmetric

reversed : (o : Ordering) → ordering_reverse o ≡ Greater → o ≡ Less
reversed Less e = refl
reversed Equal e = absurd (cc)
reversed Greater e = absurd (cc)

below : (k l : List ℕ) → cmp k l ≡ Greater → cmp l k ≡ Less
below k l is = reversed (cmp l k) (sym (nat_list_cmp_total.antisymm k l) ∙ is)

lower : (k l : List ℕ) (ks : List (List ℕ)) → cmp k l ≡ Less → AllAbove l ks → AllAbove k ks
lower k l [] less all = tt
lower k l (x ∷ xs) less all = (nat_list_cmp_total.trans k l x less all.0, lower k l xs less all.1)

module _ {A : Type 0} (key : A → List ℕ) where
  above_at : (k : List ℕ) (a b : A) (bs : List A) (o : Ordering) → cmp k (key a) ≡ Less → AllAbove k (map key (b ∷ bs)) → AllAbove k (map key (put_by key a bs))
      → AllAbove k (map key (elim o as (λ _. List A) [ Less ↦ a ∷ b ∷ bs | Equal ↦ a ∷ bs | Greater ↦ b ∷ put_by key a bs ]))
  above_at k a b bs Less less all rest = (less, all)
  above_at k a b bs Equal less all rest = (less, all.1)
  above_at k a b bs Greater less all rest = (all.0, rest)

  above : (k : List ℕ) (a : A) (bs : List A) → cmp k (key a) ≡ Less → AllAbove k (map key bs) → AllAbove k (map key (put_by key a bs))
  above k a [] less all = (less, tt)
  above k a (b ∷ bs) less all = above_at k a b bs (cmp (key a) (key b)) less all (above k a bs less all.1)

  ascends_at : (a b : A) (bs : List A) (o : Ordering) → cmp (key a) (key b) ≡ o → AscendsBy key (b ∷ bs) → AscendsBy key (put_by key a bs)
      → AscendsBy key (elim o as (λ _. List A) [ Less ↦ a ∷ b ∷ bs | Equal ↦ a ∷ bs | Greater ↦ b ∷ put_by key a bs ])
  unfolding IsStrictlySortedBy
  ascends_at a b bs Less is all rest = ((is, lower (key a) (key b) (map key bs) is all.0), all)
  ascends_at a b bs Equal is all rest = (subst (λ k. AllAbove k (map key bs)) (sym (same_key (key a) (key b) is)) all.0, all.1)
  ascends_at a b bs Greater is all rest = (above (key b) a bs (below (key a) (key b) is) all.0, rest)

  tail_ascends : (b : A) (bs : List A) → AscendsBy key (b ∷ bs) → AscendsBy key bs
  unfolding IsStrictlySortedBy
  tail_ascends b bs all = all.1

  pub none_ascends : AscendsBy key []
  unfolding IsStrictlySortedBy
  none_ascends = tt

  one_ascends : (a : A) → AscendsBy key (a ∷ [])
  unfolding IsStrictlySortedBy
  one_ascends a = (tt, tt)

  -- an item put among items that ascend leaves them ascending
  pub put_by-ascends : (a : A) (bs : List A) → AscendsBy key bs → AscendsBy key (put_by key a bs)
  put_by-ascends a [] all = one_ascends a
  put_by-ascends a (b ∷ bs) all = ascends_at a b bs (cmp (key a) (key b)) refl all (put_by-ascends a bs (tail_ascends b bs all))

-- ---- what a list has, by recursion

-- the list has the item
abbrev pub Has : {A : Type 0} → List A → A → Type 0
Has [] x = ⊥
Has (y ∷ ys) x = (y ≡ x) ⊎ Has ys x

has_at : {A : Type 0} (xs : List A) (k : ℕ) (x : A) → k < length xs → slice_index_or xs k x ≡ x → Has xs x
has_at [] k x lt is = absurd (omega (arith, lt))
has_at (y ∷ ys) zero x lt is = inl is
has_at (y ∷ ys) (suc k) x lt is = inr (has_at ys k x (omega (arith, lt)) is)

pub Has-from_Contains : {A : Type 0} (xs : List A) (x : A) → Contains xs x → Has xs x
Has-from_Contains xs x h = has_at xs h.0 x h.1 h.2

pub Contains-from_Has : {A : Type 0} (xs : List A) (x : A) → Has xs x → Contains xs x
Contains-from_Has [] x h = absurd h
Contains-from_Has (y ∷ ys) x (inl e) = (0, omega arith, e)
Contains-from_Has (y ∷ ys) x (inr h) =
    let rest = Contains-from_Has ys x h in
    (suc rest.0, omega (arith, rest.1), rest.2)

module _ {A : Type 0} (key : A → List ℕ) where
  has_less : (a b : A) (bs : List A) (x : A) (o : Ordering) → (Has (put_by key a bs) x → (a ≡ x) ⊎ Has bs x)
      → Has (elim o as (λ _. List A) [ Less ↦ a ∷ b ∷ bs | Equal ↦ a ∷ bs | Greater ↦ b ∷ put_by key a bs ]) x → (a ≡ x) ⊎ Has (b ∷ bs) x
  has_less a b bs x Less rest h = h
  has_less a b bs x Equal rest (inl e) = inl e
  has_less a b bs x Equal rest (inr h) = inr (inr h)
  has_less a b bs x Greater rest (inl e) = inr (inl e)
  has_less a b bs x Greater rest (inr h) = ⊎_elim (λ e. inl e) (λ i. inr (inr i)) (rest h)

  -- what is there after an item was put is the item, or was there before
  pub Has-put_by : (a : A) (bs : List A) (x : A) → Has (put_by key a bs) x → (a ≡ x) ⊎ Has bs x
  Has-put_by a [] x h = h
  Has-put_by a (b ∷ bs) x h = has_less a b bs x (cmp (key a) (key b)) (Has-put_by a bs x) h

  has_itself : (a b : A) (bs : List A) (o : Ordering) → Has (put_by key a bs) a
      → Has (elim o as (λ _. List A) [ Less ↦ a ∷ b ∷ bs | Equal ↦ a ∷ bs | Greater ↦ b ∷ put_by key a bs ]) a
  has_itself a b bs Less rest = inl refl
  has_itself a b bs Equal rest = inl refl
  has_itself a b bs Greater rest = inr rest

  -- an item that was put is there
  pub put_by-itself : (a : A) (bs : List A) → Has (put_by key a bs) a
  put_by-itself a [] = inl refl
  put_by-itself a (b ∷ bs) = has_itself a b bs (cmp (key a) (key b)) (put_by-itself a bs)

  has_other : (a b : A) (bs : List A) (x : A) (o : Ordering) → cmp (key a) (key b) ≡ o → key x ≢ key a → (Has bs x → Has (put_by key a bs) x)
      → Has (b ∷ bs) x → Has (elim o as (λ _. List A) [ Less ↦ a ∷ b ∷ bs | Equal ↦ a ∷ bs | Greater ↦ b ∷ put_by key a bs ]) x
  has_other a b bs x Less is differs rest h = inr h
  has_other a b bs x Equal is differs rest (inl e) = absurd (differs (sym (ap key e) ∙ sym (same_key (key a) (key b) is)))
  has_other a b bs x Equal is differs rest (inr h) = inr h
  has_other a b bs x Greater is differs rest (inl e) = inl e
  has_other a b bs x Greater is differs rest (inr h) = inr (rest h)

  -- what has another key stays
  pub put_by-other : (a : A) (bs : List A) (x : A) → key x ≢ key a → Has bs x → Has (put_by key a bs) x
  put_by-other a [] x differs h = absurd h
  put_by-other a (b ∷ bs) x differs h = has_other a b bs x (cmp (key a) (key b)) refl differs (put_by-other a bs x differs) h
