-- Tuples over ascending lists and sets over one ascend too, item by item with a prefix first, and
-- none is left out.
use Rattle.std.proofs.Common.{◌≡◌, ◌≢◌, inl, inr, List, [], ◌∷◌, ◌++◌, map, append_assoc}
use Rattle.std.proofs.Common.{append-nil, refl, sym, ap, subst, ◌∙◌}
use Rattle.std.specs.List.{AllByRecursion}
use Rattle.std.specs.List.Sorted.{IsStrictlySortedBy}
use Rattle.std.specs.declared.cmp.Ordering.{Ordering}
use Rattle.std.specs.declared.cmp.Ordering.TheVariants.{Less, Equal}
use Rattle.std.specs.Ordering.{ordering_then}
use Rattle.std.specs.Cmp.{IsTotalOrder}
use Rattle.std.proofs.lemmas.Cmp.{tied_itself}
use Rattle.std.specs.Cmp.Lexicographic.{slice_cmp}
use Rattle.asm_value.specs.Ranges.{Mem, put_first, each_first, tuples, some_of, sets_of}

module _ {X : Type 0} where
  pub all_append : (P : X → Type 0) (xs ys : List X) → AllByRecursion P xs → AllByRecursion P ys
      → AllByRecursion P (xs ++ ys)
  all_append P [] ys h k = k
  all_append P (x ∷ xs) ys h k = (h.0, all_append P xs ys h.1 k)

  pub all_weaker : (P Q : X → Type 0) → ((x : X) → P x → Q x) → (xs : List X) → AllByRecursion P xs
      → AllByRecursion Q xs
  all_weaker P Q f [] h = h
  all_weaker P Q f (x ∷ xs) h = (f x h.0, all_weaker P Q f xs h.1)

  pub all_mem : (P : X → Type 0) (xs : List X) (x : X) → AllByRecursion P xs → Mem x xs → P x
  all_mem P [] x h m = absurd m
  all_mem P (y ∷ xs) x h m = elim m [ inl e ↦ subst P (sym e) h.0 | inr k ↦ all_mem P xs x h.1 k ]

  pub mem_left : (x : X) (xs ys : List X) → Mem x xs → Mem x (xs ++ ys)
  mem_left x [] ys m = absurd m
  mem_left x (y ∷ xs) ys m = elim m [ inl e ↦ inl e | inr k ↦ inr (mem_left x xs ys k) ]

  pub mem_right : (x : X) (xs ys : List X) → Mem x ys → Mem x (xs ++ ys)
  mem_right x [] ys m = m
  mem_right x (y ∷ xs) ys m = inr (mem_right x xs ys m)

  sorted_append : (R : X → X → Ordering) (xs ys : List X) → IsStrictlySortedBy R xs
      → IsStrictlySortedBy R ys → AllByRecursion (λ x. AllByRecursion (λ y. R x y ≡ Less) ys) xs
      → IsStrictlySortedBy R (xs ++ ys)
  unfolding IsStrictlySortedBy
  sorted_append R [] ys h k below = k
  sorted_append R (x ∷ xs) ys h k below =
      (all_append (λ y. R x y ≡ Less) xs ys h.0 below.0, sorted_append R xs ys h.1 k below.1)

module _ {X Y : Type 0} (f : X → Y) where
  pub all_map : (P : Y → Type 0) (xs : List X) → AllByRecursion (λ x. P (f x)) xs
      → AllByRecursion P (map f xs)
  all_map P [] h = h
  all_map P (x ∷ xs) h = (h.0, all_map P xs h.1)

  pub mem_map : (x : X) (xs : List X) → Mem x xs → Mem (f x) (map f xs)
  mem_map x [] m = absurd m
  mem_map x (y ∷ xs) m = elim m [ inl e ↦ inl (ap f e) | inr k ↦ inr (mem_map x xs k) ]

pub every : {X : Type 0} (P : X → Type 0) → ((x : X) → P x) → (xs : List X) → AllByRecursion P xs
every P f [] = tt
every P f (x ∷ xs) = (f x, every P f xs)

module _ {K : Type 0} where
  pub each_first-push : (xs : List K) (x : K) (zss : List (List K))
      → each_first (xs ++ x ∷ []) zss ≡ each_first xs zss ++ put_first x zss
  each_first-push [] x zss = append-nil (put_first x zss)
  each_first-push (y ∷ xs) x zss =
      ap (λ ws. put_first y zss ++ ws) (each_first-push xs x zss)
      ∙ sym (append_assoc (put_first y zss) (each_first xs zss) (put_first x zss))

module _ {K : Type 0} (R : K → K → Ordering) (o : IsTotalOrder R) where
  abbrev L : List K → List K → Ordering
  L = slice_cmp R

  abbrev AboveAll : K → List K → Type 0
  AboveAll x zs = (a : List K) → L (x ∷ a) zs ≡ Less

  heads : (x y : K) (a b : List K) → R x y ≡ Less → L (x ∷ a) (y ∷ b) ≡ Less
  heads x y a b h = ap (λ r. ordering_then r (L a b)) h

  one_head : (x : K) (a b : List K) → L a b ≡ Less → L (x ∷ a) (x ∷ b) ≡ Less
  one_head x a b h = ap (λ r. ordering_then r (L a b)) (tied_itself o x) ∙ h

  sorted_put_first : (x : K) (zss : List (List K)) → IsStrictlySortedBy L zss
      → IsStrictlySortedBy L (put_first x zss)
  unfolding IsStrictlySortedBy
  sorted_put_first x [] h = tt
  sorted_put_first x (zs ∷ zss) h = (
    all_map (λ ys. x ∷ ys) (λ ys. L (x ∷ zs) ys ≡ Less) zss
        (all_weaker (λ ys. L zs ys ≡ Less) (λ ys. L (x ∷ zs) (x ∷ ys) ≡ Less)
        (λ ys k. one_head x zs ys k) zss h.0),
    sorted_put_first x zss h.1,
  )

  above_put_first : (x y : K) (zss : List (List K)) → R x y ≡ Less
      → AllByRecursion (AboveAll x) (put_first y zss)
  above_put_first x y zss h =
      all_map (λ zs. y ∷ zs) (AboveAll x) zss (every _ (λ b a. heads x y a b h) zss)

  put_first_below : (x : K) (zss wss : List (List K)) → AllByRecursion (AboveAll x) wss
      → AllByRecursion (λ zs. AllByRecursion (λ ws. L zs ws ≡ Less) wss) (put_first x zss)
  put_first_below x zss wss h =
      all_map (λ zs. x ∷ zs) (λ zs. AllByRecursion (λ ws. L zs ws ≡ Less) wss) zss
      (every _ (λ a. all_weaker (AboveAll x) _ (λ ws k. k a) wss h) zss)

  -- ---- tuples

  above_each_first : (x : K) (xs : List K) (zss : List (List K))
      → AllByRecursion (λ y. R x y ≡ Less) xs → AllByRecursion (AboveAll x) (each_first xs zss)
  above_each_first x [] zss h = tt
  above_each_first x (y ∷ xs) zss h =
      all_append (AboveAll x) (put_first y zss) (each_first xs zss) (above_put_first x y zss h.0)
      (above_each_first x xs zss h.1)

  sorted_each_first : (xs : List K) (zss : List (List K)) → IsStrictlySortedBy R xs
      → IsStrictlySortedBy L zss → IsStrictlySortedBy L (each_first xs zss)
  unfolding IsStrictlySortedBy
  sorted_each_first [] zss h k = tt
  sorted_each_first (x ∷ xs) zss h k =
      sorted_append L (put_first x zss) (each_first xs zss) (sorted_put_first x zss k)
      (sorted_each_first xs zss h.1 k)
      (put_first_below x zss (each_first xs zss) (above_each_first x xs zss h.0))

  pub sorted_tuples : (rs : List (List K)) → AllByRecursion (IsStrictlySortedBy R) rs
      → IsStrictlySortedBy L (tuples rs)
  unfolding IsStrictlySortedBy
  sorted_tuples [] h = (tt, tt)
  sorted_tuples (r ∷ rs) h = sorted_each_first r (tuples rs) h.0 (sorted_tuples rs h.1)

  -- ---- sets

  some_above : (x : K) (xs : List K) → AllByRecursion (λ y. R x y ≡ Less) xs
      → AllByRecursion (AboveAll x) (some_of xs)
  some_above x [] h = tt
  some_above x (y ∷ xs) h =
      all_append (AboveAll x) (put_first y (sets_of xs)) (some_of xs)
      (above_put_first x y (sets_of xs) h.0) (some_above x xs h.1)

  some_not_empty : (xs : List K) → AllByRecursion (λ zs. L [] zs ≡ Less) (some_of xs)
  some_not_empty [] = tt
  some_not_empty (x ∷ xs) =
      all_append (λ zs. L [] zs ≡ Less) (put_first x (sets_of xs)) (some_of xs)
      (all_map (λ zs. x ∷ zs) (λ zs. L [] zs ≡ Less) (sets_of xs)
      (every _ (λ a. refl) (sets_of xs))) (some_not_empty xs)

  sorted_some : (xs : List K) → IsStrictlySortedBy R xs → IsStrictlySortedBy L (some_of xs)
  unfolding IsStrictlySortedBy
  sorted_some [] h = tt
  sorted_some (x ∷ xs) h =
      sorted_append L (put_first x (sets_of xs)) (some_of xs)
      (sorted_put_first x (sets_of xs) (some_not_empty xs, sorted_some xs h.1))
      (sorted_some xs h.1)
      (put_first_below x (sets_of xs) (some_of xs) (some_above x xs h.0))

  pub sorted_sets : (xs : List K) → IsStrictlySortedBy R xs → IsStrictlySortedBy L (sets_of xs)
  unfolding IsStrictlySortedBy
  sorted_sets xs h = (some_not_empty xs, sorted_some xs h)

  not_itself : (x y : K) → R x y ≡ Less → y ≢ x
  not_itself x y h e =
      let unlike : Less ≡ Equal = sym h ∙ subst (λ z. R x z ≡ Equal) (sym e) (tied_itself o x) in cc

  mem_later : (x w : K) (xs : List K) → R x w ≡ Less → Mem w (x ∷ xs) → Mem w xs
  mem_later x w xs h m = elim m [ inl e ↦ absurd (not_itself x w h e) | inr k ↦ k ]

  mems_later : (x : K) (xs zs : List K) → AllByRecursion (λ z. R x z ≡ Less) zs
      → AllByRecursion (λ z. Mem z (x ∷ xs)) zs → AllByRecursion (λ z. Mem z xs) zs
  mems_later x xs [] h k = tt
  mems_later x xs (z ∷ zs) h k = (mem_later x z xs h.0 k.0, mems_later x xs zs h.1 k.1)

  chained : (x z : K) (zs : List K) → R x z ≡ Less → AllByRecursion (λ w. R z w ≡ Less) zs
      → AllByRecursion (λ w. R x w ≡ Less) (z ∷ zs)
  chained x z zs h k =
      (h, all_weaker (λ w. R z w ≡ Less) (λ w. R x w ≡ Less) (λ w l. o.trans x z w h l) zs k)

  not_first : (z : K) (zs : List K) (wss : List (List K)) → Mem (z ∷ zs) ([] ∷ wss)
      → Mem (z ∷ zs) wss
  not_first z zs wss m = elim m [ inl e ↦ absurd (cc) | inr k ↦ k ]

  -- each ascending list of items of xs is among the sets
  pub sets_complete : (xs : List K) → IsStrictlySortedBy R xs → (zs : List K)
      → IsStrictlySortedBy R zs → AllByRecursion (λ z. Mem z xs) zs → Mem zs (sets_of xs)
  unfolding IsStrictlySortedBy
  sets_complete xs h [] k all = inl refl
  sets_complete [] h (z ∷ zs) k all = absurd all.0
  sets_complete (x ∷ xs) h (z ∷ zs) k all = inr (elim all.0 [
    | inl e ↦
        let above = subst (λ w. AllByRecursion (λ v. R w v ≡ Less) zs) e k.0 in
        mem_left (z ∷ zs) (put_first x (sets_of xs)) (some_of xs)
        (subst (λ w. Mem (w ∷ zs) (put_first x (sets_of xs))) (sym e)
        (mem_map (λ ys. x ∷ ys) zs (sets_of xs)
        (sets_complete xs h.1 zs k.1 (mems_later x xs zs above all.1))))
    | inr m ↦
        let less = all_mem (λ y. R x y ≡ Less) xs z h.0 m in
        mem_right (z ∷ zs) (put_first x (sets_of xs)) (some_of xs)
        (not_first z zs (some_of xs)
        (sets_complete xs h.1 (z ∷ zs) k
        (m, mems_later x xs zs (chained x z zs less k.0).1 all.1)))
  ])
