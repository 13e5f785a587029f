-- A step leaves the members of each domain numbered from 0 on.
use Rattle.std.proofs.Common.{◌≡◌, ◌↔◌, ℕ, zero, suc, ◌<◌, ◌≤◌, ◌⊎◌, inl, inr, Bool, true, false}
use Rattle.std.proofs.Common.{Some, None, List, [], ◌∷◌, length, map, slice_get, refl, sym, ap}
use Rattle.std.proofs.Common.{subst, ◌∙◌, arith}
use Rattle.std.specs.Prelude.{slice_index}
use Rattle.std.proofs.lemmas.Bool.{true≢false}
use Rattle.std.specs.List.{AllByRecursion}
use Rattle.asm_value.specs.declared.value.Value.TheVariants.{Truth}
use Rattle.asm_value.specs.declared.location.Location.{Location}
use Rattle.asm_value.specs.Ranges.{Mem}
use Rattle.asm_value.specs.Members.{live_indexes}
use Rattle.asm_value.specs.Living.{is_abstract, member_location, HasMember, live_of}
use Rattle.asm_value.specs.State.{StateMap, IsConsistent, fire, updates_at, value_at}
use Rattle.asm_value.specs.UpdateSet.{UpdateSet}
use Rattle.asm_value.proofs.FiringLaws.{value_at-fire-member, value_at-fire-other}
use Rattle.asm_value.proofs.LivingLaws.{live_of-ListsMembers}
use Rattle.asm_value.proofs.RangeLaws.{all_mem}
use Rattle.asm_value.proofs.StateLaws.{updates_at-found}
use Rattle.asm_program.specs.declared.program.Program.{Program}
use Rattle.asm_program.specs.Yields.{counts_in}
use Rattle.asm_program.specs.BookYields.{AreNumbered}
use Rattle.asm_program.specs.RuleLaws.{AddsExactly}
use Rattle.asm_program.specs.Numbered.{MembersAreNumbered, StepsLeaveNumbered}
use Rattle.asm_program.proofs.AddedMembers.{new_members_are_added}
use Rattle.asm_program.proofs.BookLaws.{steps_are_of_the_book}
use Rattle.asm_program.proofs.Counting.{count_is, fills}
use Rattle.asm_program.proofs.Extends.{OfAbstract, new_are_abstract}
use Rattle.asm_program.proofs.Numbering.{same_member}

-- ---- the numbers of members

count_at : (ms : List (List ℕ)) (d : ℕ)
    → slice_index (map length ms) d ≡ length (elim (slice_get ms d) as
    (λ _. List ℕ) [ None ↦ [] | Some indexes ↦ indexes ])
count_at [] d = refl
count_at (m ∷ ms) zero = refl
count_at (m ∷ ms) (suc d) = count_at ms d

pub true_or_false : (b : Bool) → (b ≡ true) ⊎ (b ≡ false)
true_or_false true = inl refl
true_or_false false = inr refl

module _ (p : Program) (state : StateMap) (d : ℕ) where
  abbrev indexes : List ℕ
  indexes = live_indexes (live_of state p.domains) d

  abbrev pub count : ℕ
  count = slice_index (counts_in p state) d

  count_live : count ≡ length indexes
  count_live = count_at (live_of state p.domains).members d

  is_listed : (i : ℕ) → Mem i indexes ↔ ((is_abstract p.domains d ≡ true) × HasMember state d i)
  is_listed i = (live_of-ListsMembers state p.domains).members d i

  -- where the members are exactly those below a number, this is how many they are
  pub counted : (n : ℕ) → is_abstract p.domains d ≡ true → ((i : ℕ) → HasMember state d i → i < n)
      → ((i : ℕ) → i < n → HasMember state d i) → count ≡ n
  counted n abstract below all =
      count_live ∙ count_is indexes n ((live_of-ListsMembers state p.domains).ascends d)
      (λ i m. below i ((is_listed i).0 m).1) (λ i h. (is_listed i).1 (abstract, all i h))

  -- members that are numbered from 0 on are all those below their number
  pub all_below : MembersAreNumbered p state → is_abstract p.domains d ≡ true → (i : ℕ) → i < count
      → HasMember state d i
  all_below numbered abstract i h =
      ((is_listed i).0 (fills indexes ((live_of-ListsMembers state p.domains).ascends d)
      (λ j m. subst (λ n. j < n) count_live (numbered d j ((is_listed j).0 m).1)) i
      (subst (λ n. i < n) count_live h))).1

  -- no member of another domain is counted
  pub none_else : is_abstract p.domains d ≡ false → count ≡ 0
  none_else other =
      count_live ∙ by_list indexes (λ i m. true≢false (sym ((is_listed i).0 m).0 ∙ other))
    where
      by_list : (xs : List ℕ) → ((i : ℕ) → Mem i xs → ⊥) → length xs ≡ 0
      by_list [] h = refl
      by_list (x ∷ xs) h = absurd (h x (inl refl))

-- ---- after a step

module _ (p : Program) (state : StateMap) (u : UpdateSet) (new : List Location) (after : List ℕ)
    (one : IsConsistent u) (adds : AddsExactly u new) (numbered : AreNumbered new
    (counts_in p state) after)
    (abstract : AllByRecursion (OfAbstract p state) new) (from_0 : MembersAreNumbered p state) where
  abbrev then_there : ℕ → ℕ → Type 0
  then_there d i = HasMember (fire state u) d i

  -- a member that is there after the step is new, or was there before
  new_or_old : (d i : ℕ) → then_there d i → Mem (member_location d i) new ⊎ HasMember state d i
  new_or_old d i h = elim (true_or_false (updates_at u (member_location d i))) [
    | inl some ↦
        let f = updates_at-found u (member_location d i) some in
        let q = adds.no_others f.0 d f.2 (ap (λ l. l.subject) f.1) in
        inl (subst (λ l. Mem l new) f.1 q.0)
    | inr none ↦ inr (sym (value_at-fire-other state u (member_location d i) none) ∙ h)
  ]

  -- what was there stays, and what is new comes
  old_stays : (d i : ℕ) → HasMember state d i → then_there d i
  old_stays d i h = elim (true_or_false (updates_at u (member_location d i))) [
    | inl some ↦
        let f = updates_at-found u (member_location d i) some in
        let q = adds.no_others f.0 d f.2 (ap (λ l. l.subject) f.1) in
        ap (value_at (fire state u)) (sym f.1) ∙ value_at-fire-member state u f.0 one f.2 ∙ q.1
    | inr none ↦ value_at-fire-other state u (member_location d i) none ∙ h
  ]

  new_comes : (d i : ℕ) → Mem (member_location d i) new → then_there d i
  new_comes d i m =
      value_at-fire-member state u (record {
        location = member_location d i;
        value =
            Truth true;
      }) one (adds.added (member_location d i) m)

  new_below : (d i : ℕ) → Mem (member_location d i) new → i < slice_index after d
  new_below d i m =
      let b = numbered.between (member_location d i) m in
      let same = same_member d i b.0 b.1 b.2 in
      subst (λ e. i < slice_index after e) (sym same.0) (subst (λ j. j < slice_index after b.0)
      (sym same.1) b.4)

  there_below : (d i : ℕ) → then_there d i → i < slice_index after d
  there_below d i h = elim (new_or_old d i h) [
    | inl m ↦ new_below d i m
    | inr old ↦ omega (arith, from_0 d i old, numbered.rises d)
  ]

  below_or_from : (k i : ℕ) → (i < k) ⊎ (k ≤ i)
  below_or_from k i = grind (arith)

  below_there : (d i : ℕ) → is_abstract p.domains d ≡ true → i < slice_index after d
      → then_there d i
  below_there d i is h = elim (below_or_from (slice_index (counts_in p state) d) i) [
    | inl low ↦ old_stays d i (all_below p state d from_0 is i low)
    | inr high ↦ new_comes d i (numbered.complete d i high h)
  ]

  -- no member of another domain comes
  abstract_at : (d i : ℕ) → Mem (member_location d i) new → is_abstract p.domains d ≡ true
  abstract_at d i m =
      let q = all_mem (OfAbstract p state) new (member_location d i) abstract m in
      subst (λ e. is_abstract p.domains e ≡ true) (sym (same_member d i q.0 q.1 q.2).0) q.3

  stays_numbered : MembersAreNumbered p (fire state u)
  stays_numbered d i h = elim (true_or_false (is_abstract p.domains d)) [
    | inl is ↦
        let count_is_after = counted p (fire state u) d (slice_index after d) is (there_below d)
        (λ j k. below_there d j is k) in
        omega (arith, there_below d i h, count_is_after)
    | inr other ↦ elim (new_or_old d i h) [
      | inl m ↦ absurd (true≢false (sym (abstract_at d i m) ∙ other))
      | inr old ↦ let none =
          none_else p state d other in let low = from_0 d i old in absurd (omega (arith, low, none))
    ]
  ]

pub steps_leave_numbered : (p : Program) → StepsLeaveNumbered p
steps_leave_numbered p pick state u after abstract from_0 e one =
    let b = steps_are_of_the_book p pick state u after from_0 e in
    stays_numbered p state u b.new after one
    (new_members_are_added p state state [] p.main u b.new b.book) b.numbered
    (new_are_abstract p state abstract b.book) from_0
