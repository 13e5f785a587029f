-- New members that are numbered from one list of next indexes on to another.
use Rattle.std.proofs.Common.{◌≡◌, ◌≢◌, ℕ, zero, suc, ◌+◌, ◌<◌, ◌≤◌, ◌⊎◌, inl, inr, List, [], ◌∷◌}
use Rattle.std.proofs.Common.{◌++◌, length, refl, sym, ap, subst, ◌∙◌, arith}
use Rattle.std.specs.Prelude.{slice_index, slice_set}
use Rattle.std.proofs.lemmas.List.{get_or-set_same, get_or-set_other}
use Rattle.std.specs.List.{range_with_len, AllByRecursion}
use Rattle.asm_value.specs.declared.value.Value.{Value}
use Rattle.asm_value.specs.declared.value.Value.TheOpen.{Value-F}
use Rattle.asm_value.specs.declared.value.Value.TheVariants.{Undef, Member}
use Rattle.asm_value.specs.declared.value.Value.TheViews.{out-Value}
use Rattle.asm_value.specs.declared.location.Location.{Location}
use Rattle.asm_value.proofs.MemberLists.{out_member}
use Rattle.asm_value.specs.Ranges.{Mem}
use Rattle.asm_value.proofs.RangeLaws.{mem_left, mem_right}
use Rattle.asm_value.specs.Living.{member_location, HasMember}
use Rattle.asm_value.specs.State.{StateMap}
use Rattle.asm_program.specs.BookYields.{AreDisjoint, AreDistinct, AreBelow, IsOutside}
use Rattle.asm_program.specs.BookYields.{member_locations, Rises, AreNumbered}

-- ---- lists

pub mem_append : {X : Type 0} (x : X) (xs ys : List X) → Mem x (xs ++ ys) → Mem x xs ⊎ Mem x ys
mem_append x [] ys m = inr m
mem_append x (z ∷ xs) ys m =
    elim m [
      | inl e ↦ inl (inl e)
      | inr k ↦ elim (mem_append x xs ys k) [ inl a ↦ inl (inr a) | inr b ↦ inr b ]
    ]

pub distinct_append : {X : Type 0} (xs ys : List X) → AreDistinct xs → AreDistinct ys
    → ((x : X) → Mem x xs → Mem x ys → ⊥) → AreDistinct (xs ++ ys)
distinct_append [] ys h k apart = k
distinct_append (x ∷ xs) ys h k apart = (
  λ m. elim (mem_append x xs ys m) [ inl a ↦ h.0 a | inr b ↦ apart x (inl refl) b ],
  distinct_append xs ys h.1 k (λ y a b. apart y (inr a) b),
)

-- ---- locations of members

first_arg : List Value → Value
first_arg [] = Undef
first_arg (v ∷ vs) = v

pub same_member : (d i e j : ℕ) → member_location d i ≡ member_location e j → (d ≡ e) × (i ≡ j)
unfolding first_arg
same_member d i e j h =
    let values : Member d i ≡ Member e j = ap (λ l. first_arg l.args) h in
    let levels : Value-F.Member d i ≡ Value-F.Member e j = sym (out_member d i)
    ∙ ap out-Value values ∙ out_member e j in
    let first : d ≡ e = cc in
    let second : i ≡ j = cc in
    (first, second)

-- ---- numbering

pub numbered-none : (next : List ℕ) → AreNumbered [] next next
numbered-none next = record {
  rises = λ d. omega arith;
  between = λ l m. absurd m;
  complete = λ d i low high. absurd (omega (arith, low, high));
}

pub numbered-append : (new more : List Location) (next later after : List ℕ)
    → AreNumbered new next later → AreNumbered more later after
    → AreNumbered (new ++ more) next after
numbered-append new more next later after n m = record {
  rises = λ d. omega (arith, n.rises d, m.rises d);
  between = λ l at. elim (mem_append l new more at) [
    | inl a ↦ let b = n.between l a in (b.0, b.1, b.2, b.3, omega (arith, b.4, m.rises b.0))
    | inr a ↦ let b = m.between l a in (b.0, b.1, b.2, omega (arith, b.3, n.rises b.0), b.4)
  ];
  complete = λ d i low high. split d i low high (cases (slice_index later d) i);
}
  where
    cases : (k i : ℕ) → (i < k) ⊎ (k ≤ i)
    cases k i = grind (arith)

    split : (d i : ℕ) → slice_index next d ≤ i → i < slice_index after d
        → (i < slice_index later d) ⊎ (slice_index later d ≤ i)
        → Mem (member_location d i) (new ++ more)
    split d i low high (inl a) = mem_left _ new more (n.complete d i low a)
    split d i low high (inr b) = mem_right _ new more (m.complete d i b high)

pub numbered-disjoint : (new more : List Location) (next later after : List ℕ)
    → AreNumbered new next later → AreNumbered more later after → AreDisjoint new more
numbered-disjoint new more next later after n m l a b =
    let x = n.between l a in
    let y = m.between l b in
    let same = same_member x.0 x.1 y.0 y.1 (sym x.2 ∙ y.2) in
    let low : slice_index later x.0 ≤ x.1 = subst (λ i. slice_index later x.0 ≤ i) (sym same.1)
    (subst (λ d. slice_index later d ≤ y.1) (sym same.0) y.3) in
    absurd (omega (arith, x.4, low))

pub below-later : (start : StateMap) (next later : List ℕ) → AreBelow start next → Rises next later
    → AreBelow start later
below-later start next later h r d i m = omega (arith, h d i m, r d)

-- ---- the next members of a domain

range_from : (a n : ℕ) (d i : ℕ) → Mem (member_location d i)
    (member_locations d (range_with_len a n)) → (a ≤ i) × (i < a + n)
range_from a zero d i m = absurd m
range_from a (suc n) d i m = elim m [
  | inl e ↦ let same = (same_member d i d a e).1 in (omega arith, omega arith)
  | inr k ↦ let later =
      range_from (a + 1) n d i k in (omega (arith, later.0), omega (arith, later.1))
]

range_at : (a n d : ℕ) (l : Location) → Mem l (member_locations d (range_with_len a n))
    → (i : ℕ) × (l ≡ member_location d i)
range_at a zero d l m = absurd m
range_at a (suc n) d l m = elim m [ inl e ↦ (a, e) | inr k ↦ range_at (a + 1) n d l k ]

same_or_not : (d e : ℕ) → (e ≡ d) ⊎ (e ≢ d)
same_or_not d e = grind (arith)

range_all : (a n d i : ℕ) → a ≤ i → i < a + n → Mem (member_location d i)
    (member_locations d (range_with_len a n))
range_all a zero d i low high = absurd (omega (arith, low, high))
range_all a (suc n) d i low high = elim (same_or_not a i) [
  | inl e ↦ inl (ap (member_location d) e)
  | inr e ↦ inr (range_all (a + 1) n d i (grind (arith, e, low)) (omega (arith, high)))
]

pub range-distinct : (a n d : ℕ) → AreDistinct (member_locations d (range_with_len a n))
range-distinct a zero d = tt
range-distinct a (suc n) d =
    (λ m. absurd (omega (arith, (range_from (a + 1) n d a m).0)), range-distinct (a + 1) n d)

pub range-outside : (start : StateMap) (a n d : ℕ) → a + n ≤ 256
    → ((i : ℕ) → HasMember start d i → i < a)
    → AllByRecursion (IsOutside start d) (range_with_len a n)
range-outside start a zero d room h = tt
range-outside start a (suc n) d room h = (
  (omega (arith, room), λ m. absurd (omega (arith, h a m))),
  range-outside start (a + 1) n d (omega (arith, room)) (λ i m. omega (arith, h i m)),
)

set_same : (next : List ℕ) (d x : ℕ) → d < length next → slice_index (slice_set next d x) d ≡ x
set_same next d x h = get_or-set_same next d x 0 h

set_other : (next : List ℕ) (d x e : ℕ) → e ≢ d → slice_index (slice_set next d x) e
    ≡ slice_index next e
set_other next d x e h = get_or-set_other next d e x 0 h

module _ (next : List ℕ) (d count : ℕ) (declared : d < length next) where
  abbrev after : List ℕ
  after = slice_set next d (slice_index next d + count)

  abbrev taken : List Location
  taken = member_locations d (range_with_len (slice_index next d) count)

  at_taken : slice_index after d ≡ slice_index next d + count
  at_taken = set_same next d (slice_index next d + count) declared

  rises_at : (e : ℕ) → (e ≡ d) ⊎ (e ≢ d) → slice_index next e ≤ slice_index after e
  rises_at e (inl is) =
      subst (λ k. slice_index next k ≤ slice_index after k) (sym is) (omega (arith, at_taken))
  rises_at e (inr other) = omega (arith, set_other next d (slice_index next d + count) e other)

  all_at : (e i : ℕ) → (e ≡ d) ⊎ (e ≢ d) → slice_index next e ≤ i → i < slice_index after e
      → Mem (member_location e i) taken
  all_at e i (inl is) low high =
      let low_there : slice_index next d ≤ i = subst (λ k. slice_index next k ≤ i) is low in
      let high_there : i < slice_index after d = subst (λ k. i < slice_index after k) is high in
      subst (λ k. Mem (member_location k i) taken) (sym is)
      (range_all (slice_index next d) count d i low_there (omega (arith, high_there, at_taken)))
  all_at e i (inr other) low high =
      absurd (omega (arith, low, high, set_other next d (slice_index next d + count) e other))

  pub numbered-taken : AreNumbered taken next after
  numbered-taken = record {
    rises = λ e. rises_at e (same_or_not d e);
    between = λ l m.
        let at = range_at (slice_index next d) count d l m in
        let there = range_from (slice_index next d) count d at.0
        (subst (λ k. Mem k taken) at.1 m) in
        (d, at.0, at.1, there.0, omega (arith, there.1, at_taken));
    complete = λ e i low high. all_at e i (same_or_not d e) low high;
  }
