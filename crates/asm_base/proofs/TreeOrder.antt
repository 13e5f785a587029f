-- The order of a tree's nodes: by what a node says of itself, then by its parts item by item, a
-- prefix first. It is total, and only equal trees tie.
use Rattle.std.proofs.Common.{◌≡◌, ◌<◌, ◌≤◌, length, arith, ◌⊎◌, inl, inr, List, [], ◌∷◌, refl, sym}
use Rattle.std.proofs.Common.{ap, subst, ◌∙◌}
use Rattle.std.specs.List.{AllByRecursion}
use Rattle.std.specs.declared.cmp.Ordering.{Ordering}
use Rattle.std.specs.declared.cmp.Ordering.TheVariants.{Less, Equal, Greater}
use Rattle.std.specs.Ordering.{ordering_then, ordering_reverse}
use Rattle.std.specs.Cmp.{IsTotalOrder, then_flip}
use Rattle.std.proofs.lemmas.Cmp.{alike_right}
use Rattle.std.specs.Cmp.Lexicographic.{slice_cmp}

-- what holds of each tree whose parts have it holds of every tree
abbrev pub Inducts : {K : Type 0} → (K → List K) → Type 1
Inducts {K} parts = (P : K → Type 0) → ((x : K) → AllByRecursion P (parts x) → P x) → (x : K) → P x

-- an order that goes by `head` and then by the parts
abbrev pub GoesByParts : {K : Type 0} → (K → List K) → (K → K → Ordering) → (K → K → Ordering)
    → Type 0
GoesByParts {K} parts head cmp =
    (x y : K) → cmp x y ≡ ordering_then (head x y) (slice_cmp cmp (parts x) (parts y))

pub then_equal : (a b : Ordering) → ordering_then a b ≡ Equal → (a ≡ Equal) × (b ≡ Equal)
then_equal Less b e = absurd (cc)
then_equal Equal b e = (refl, e)
then_equal Greater b e = absurd (cc)

pub then_less : (a b : Ordering) → ordering_then a b ≡ Less
    → (a ≡ Less) ⊎ ((a ≡ Equal) × (b ≡ Less))
then_less Less b e = inl refl
then_less Equal b e = inr (refl, e)
then_less Greater b e = absurd (cc)

self_reverse : (a : Ordering) → a ≡ ordering_reverse a → a ≡ Equal
self_reverse Less e = absurd (cc)
self_reverse Equal e = refl
self_reverse Greater e = absurd (cc)

module _ {K : Type 0} (cmp : K → K → Ordering) where
  -- x ties with no other value
  abbrev pub TiesAlone : K → Type 0
  TiesAlone x = (y : K) → cmp x y ≡ Equal → x ≡ y

  abbrev pub TurnsRound : K → Type 0
  TurnsRound x = (y : K) → cmp x y ≡ ordering_reverse (cmp y x)

  abbrev pub Passes : K → Type 0
  Passes x = (y z : K) → cmp x y ≡ Less → cmp y z ≡ Less → cmp x z ≡ Less

  lists_turn : (xs : List K) → AllByRecursion TurnsRound xs → (ys : List K)
      → slice_cmp cmp xs ys ≡ ordering_reverse (slice_cmp cmp ys xs)
  lists_turn [] h [] = refl
  lists_turn [] h (y ∷ ys) = refl
  lists_turn (x ∷ xs) h [] = refl
  lists_turn (x ∷ xs) h (y ∷ ys) =
      (λ i. ordering_then (h.0 y i) (lists_turn xs h.1 ys i))
      ∙ then_flip (cmp y x) (slice_cmp cmp ys xs)

  lists_tie : (xs : List K) → AllByRecursion TiesAlone xs → (ys : List K)
      → slice_cmp cmp xs ys ≡ Equal → xs ≡ ys
  lists_tie [] h [] e = refl
  lists_tie [] h (y ∷ ys) e = absurd (cc)
  lists_tie (x ∷ xs) h [] e = absurd (cc)
  lists_tie (x ∷ xs) h (y ∷ ys) e =
      let p = then_equal (cmp x y) (slice_cmp cmp xs ys) e in λ i. h.0 y p.0 i
      ∷ lists_tie xs h.1 ys p.1 i

  module _ (turns : (x : K) → TurnsRound x) (ties : (x : K) → TiesAlone x) where
    itself : (x z : K) → x ≡ z → cmp x z ≡ Equal
    itself x z e = subst (λ w. cmp x w ≡ Equal) e (self_reverse (cmp x x) (turns x x))

    lists_pass : (xs : List K) → AllByRecursion Passes xs → (ys zs : List K)
        → slice_cmp cmp xs ys ≡ Less → slice_cmp cmp ys zs ≡ Less → slice_cmp cmp xs zs ≡ Less
    lists_pass [] h [] zs e f = absurd (cc)
    lists_pass [] h (y ∷ ys) [] e f = absurd (cc)
    lists_pass [] h (y ∷ ys) (z ∷ zs) e f = refl
    lists_pass (x ∷ xs) h [] zs e f = absurd (cc)
    lists_pass (x ∷ xs) h (y ∷ ys) [] e f = absurd (cc)
    lists_pass (x ∷ xs) h (y ∷ ys) (z ∷ zs) e f =
        let tail = slice_cmp cmp xs zs in
        elim (then_less (cmp x y) (slice_cmp cmp xs ys) e) [
          | inl p ↦ elim (then_less (cmp y z) (slice_cmp cmp ys zs) f) [
            | inl q ↦ ap (λ c. ordering_then c tail) (h.0 y z p q)
            | inr q ↦ ap (λ c. ordering_then c tail) (subst (λ w. cmp x w ≡ Less) (ties y z q.0) p)
          ]
          | inr p ↦ elim (then_less (cmp y z) (slice_cmp cmp ys zs) f) [
            | inl q ↦ ap (λ c. ordering_then c tail)
                (subst (λ w. cmp w z ≡ Less) (sym (ties x y p.0)) q)
            | inr q ↦ ap (λ c. ordering_then c tail) (itself x z (ties x y p.0 ∙ ties y z q.0))
                ∙ lists_pass xs h.1 ys zs p.1 q.1
          ]
        ]

module _ {K : Type 0} (parts : K → List K) (head cmp : K → K → Ordering) (ind : Inducts parts)
    (goes : GoesByParts parts head cmp) (o : IsTotalOrder head)
    (alone : (x y : K) → head x y ≡ Equal → parts x ≡ parts y → x ≡ y) where
  turns : (x : K) → TurnsRound cmp x
  turns = ind (TurnsRound cmp) (λ x h y. goes x y
      ∙ (λ i. ordering_then (o.antisymm x y i) (lists_turn cmp (parts x) h (parts y) i))
      ∙ then_flip (head y x) (slice_cmp cmp (parts y) (parts x))
      ∙ ap ordering_reverse (sym (goes y x)))

  -- only equal trees tie
  pub tree_ties : (x y : K) → cmp x y ≡ Equal → x ≡ y
  tree_ties = ind (TiesAlone cmp) (λ x h y e.
      let p = then_equal (head x y) (slice_cmp cmp (parts x) (parts y)) (sym (goes x y) ∙ e) in
      alone x y p.0 (lists_tie cmp (parts x) h (parts y) p.1))

  passes : (x : K) → Passes cmp x
  passes = ind (Passes cmp) (λ x h y z e f.
      let tail = slice_cmp cmp (parts x) (parts z) in
      goes x z ∙ elim (then_less (head x y) (slice_cmp cmp (parts x) (parts y))
      (sym (goes x y) ∙ e)) [
        | inl p ↦ elim (then_less (head y z) (slice_cmp cmp (parts y) (parts z))
            (sym (goes y z) ∙ f)) [
              | inl q ↦ ap (λ c. ordering_then c tail) (o.trans x y z p q)
              | inr q ↦ ap (λ c. ordering_then c tail) (sym (alike_right o y z x q.0) ∙ p)
            ]
        | inr p ↦ elim (then_less (head y z) (slice_cmp cmp (parts y) (parts z))
            (sym (goes y z) ∙ f)) [
              | inl q ↦ ap (λ c. ordering_then c tail) (o.congr x y z p.0 ∙ q)
              | inr q ↦ ap (λ c. ordering_then c tail) (o.congr x y z p.0 ∙ q.0)
                  ∙ lists_pass cmp turns tree_ties (parts x) h (parts y) (parts z) p.1 q.1
            ]
      ])

  pub tree_total : IsTotalOrder cmp
  tree_total = record {
    antisymm = turns;
    trans = passes;
    congr = λ x y z e. ap (λ w. cmp w z) (tree_ties x y e);
  }

-- where one list ends first
module _ {K : Type 0} (cmp : K → K → Ordering) where
  pub second_ends : (xs ys : List K) → 0 < length xs → length ys ≤ 0 → slice_cmp cmp xs ys ≡ Greater
  second_ends [] ys h k = absurd (omega arith)
  second_ends (x ∷ xs) [] h k = refl
  second_ends (x ∷ xs) (y ∷ ys) h k = absurd (omega arith)

  pub first_ends : (xs ys : List K) → length xs ≤ 0 → 0 < length ys → slice_cmp cmp xs ys ≡ Less
  first_ends xs [] h k = absurd (omega arith)
  first_ends [] (y ∷ ys) h k = refl
  first_ends (x ∷ xs) (y ∷ ys) h k = absurd (omega arith)
