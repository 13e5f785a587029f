-- The updates of a set of the textbook's that write locations of domains are those of its new
-- members.
use Rattle.std.proofs.Common.{◌≡◌, ℕ, inl, inr, Bool, true, false, not, ◌&&◌, ◌||◌, Option, List}
use Rattle.std.proofs.Common.{[], ◌∷◌, ◌++◌, map, refl, sym, ap, subst, ◌∙◌, append_assoc}
use Rattle.std.proofs.lemmas.List.{append-nil}
use Rattle.std.proofs.lemmas.Bool.{true≢false}
use Rattle.std.specs.List.{list_any}
use Rattle.asm_value.specs.declared.value.Value.{Value}
use Rattle.asm_value.specs.declared.value.Value.TheVariants.{Truth}
use Rattle.asm_value.specs.declared.location.Location.{Location}
use Rattle.asm_value.specs.declared.location.Subject.TheVariants as subjects
use Rattle.asm_value.specs.declared.location.Update.{Update}
use Rattle.asm_value.specs.Ranges.{Mem}
use Rattle.asm_value.specs.Living.{member_location}
use Rattle.asm_value.specs.State.{StateMap, overlaid, updates_at}
use Rattle.asm_value.specs.UpdateSet as set
use Rattle.asm_value.specs.UpdateSet.{UpdateSet, same}
use Rattle.asm_value.proofs.StateLaws.{or_cases, or_left, or_right, same_is, same_itself}
use Rattle.asm_value.proofs.StateLaws.{has-overlaid, updates_at-found, false_by}
use Rattle.asm_value.proofs.UpdateSetLaws.{has-empty, has-add, has-add_all, has-union}
use Rattle.asm_program.specs.declared.trees.Term.{Term}
use Rattle.asm_program.specs.declared.trees.Rule.{Rule}
use Rattle.asm_program.specs.declared.trees.RuleCase.{RuleCase}
use Rattle.asm_program.specs.declared.program.Program.{Program}
use Rattle.asm_program.specs.Yields.{memberships}
use Rattle.asm_program.specs.BookYields as book
use Rattle.asm_program.specs.BookYields.{Book, BookAll, BookInTurn, BookElse, BookEach, BookCases}
use Rattle.asm_program.specs.BookYields.{AreDisjoint, member_locations}
use Rattle.asm_program.specs.RuleLaws.{AddsExactly, NewMembersAreAdded, update_to}
use Rattle.asm_value.proofs.RangeLaws.{mem_left, mem_right}
use Rattle.asm_program.proofs.Numbering.{mem_append}
use Rattle.asm_program.proofs.Sets.{or_false}

abbrev becomes_true : Location → Update
becomes_true l = record { location = l; value = Truth true }

no_function : {A : Type 0} (f d : ℕ) → subjects.Function f ≡ subjects.Domain d → A
no_function f d e = absurd (cc)

-- ---- unions and overlays

adds_none : AddsExactly set.empty []
adds_none = record {
  members = λ l m. absurd m;
  added = λ l m. absurd m;
  no_others = λ x d h s. absurd (true≢false (sym h ∙ has-empty x));
}

-- an update of a function adds no member
adds_update : (f : ℕ) (vs : List Value) (v : Value) → AddsExactly
    (set.add set.empty (update_to f vs v)) []
adds_update f vs v = record {
  members = λ l m. absurd m;
  added = λ l m. absurd m;
  no_others = λ x d h s.
      let is = same_is x (update_to f vs v) (sym (has-add set.empty (update_to f vs v) x
      ∙ ap (λ b. same x (update_to f vs v) || b) (has-empty x)
      ∙ or_false (same x (update_to f vs v))) ∙ h) in
      no_function f d (sym (ap (λ y. y.location.subject) is) ∙ s);
}

adds_both : (u v : UpdateSet) (new more : List Location) → AddsExactly u new → AddsExactly v more
    → AddsExactly (set.union u v) (new ++ more)
adds_both u v new more a b = record {
  members = λ l m. elim (mem_append l new more m) [ inl k ↦ a.members l k | inr k ↦ b.members l k ];
  added = λ l m. has-union u v (becomes_true l) ∙ elim (mem_append l new more m) [
    | inl k ↦ or_left (set.has u (becomes_true l)) _ (a.added l k)
    | inr k ↦ or_right (set.has u (becomes_true l)) _ (b.added l k)
  ];
  no_others = λ x d h s. elim (or_cases (set.has u x) _ (sym (has-union u v x) ∙ h)) [
    | inl k ↦ let q = a.no_others x d k s in (mem_left x.location new more q.0, q.1)
    | inr k ↦ let q = b.no_others x d k s in (mem_right x.location new more q.0, q.1)
  ];
}

both_hold : (a b : Bool) → a ≡ true → b ≡ false → (a && not b) ≡ true
both_hold true true h k = absurd (true≢false k)
both_hold true false h k = refl
both_hold false b h k = absurd (true≢false (sym h))

first_holds : (a b : Bool) → (a && b) ≡ true → a ≡ true
first_holds true b h = refl
first_holds false b h = h

-- where the later updates add others, an overlay keeps the earlier members
adds_over : (u v : UpdateSet) (new more : List Location) → AddsExactly u new → AddsExactly v more
    → AreDisjoint new more → AddsExactly (overlaid u v) (new ++ more)
adds_over u v new more a b apart = record {
  members = λ l m. elim (mem_append l new more m) [ inl k ↦ a.members l k | inr k ↦ b.members l k ];
  added = λ l m. has-overlaid u v (becomes_true l) ∙ elim (mem_append l new more m) [
    | inl k ↦ or_right (set.has v (becomes_true l)) _
        (both_hold (set.has u (becomes_true l)) (updates_at v l) (a.added l k) (not_later l k))
    | inr k ↦ or_left (set.has v (becomes_true l)) _ (b.added l k)
  ];
  no_others = λ x d h s. elim (or_cases (set.has v x) _ (sym (has-overlaid u v x) ∙ h)) [
    | inl k ↦ let q = b.no_others x d k s in (mem_right x.location new more q.0, q.1)
    | inr k ↦ let q =
        a.no_others x d (first_holds (set.has u x) _ k) s in (mem_left x.location new more q.0, q.1)
  ];
}
  where
    not_later : (l : Location) → Mem l new → updates_at v l ≡ false
    not_later l k = false_by (updates_at v l) (λ some.
        let f = updates_at-found v l some in
        let m = a.members l k in
        let q = b.no_others f.0 m.0 f.2 (ap (λ z. z.subject) (f.1 ∙ m.2)) in
        apart l k (subst (λ z. Mem z more) f.1 q.0))

-- ---- the members that an `extend` takes

taken_has : (d : ℕ) (indexes : List ℕ) (l : Location) → Mem l (member_locations d indexes)
    → list_any (same (becomes_true l)) (map (λ i. becomes_true (member_location d i)) indexes)
    ≡ true
taken_has d [] l m = absurd m
taken_has d (i ∷ indexes) l m = elim m [
  | inl e ↦ or_left _ _ (same_itself (becomes_true l) (becomes_true (member_location d i))
      (ap becomes_true e))
  | inr k ↦ or_right _ _ (taken_has d indexes l k)
]

has_taken : (d : ℕ) (indexes : List ℕ) (x : Update)
    → list_any (same x) (map (λ i. becomes_true (member_location d i)) indexes) ≡ true
    → Mem x.location (member_locations d indexes) × (x.value ≡ Truth true)
has_taken d [] x h = absurd (true≢false (sym h))
has_taken d (i ∷ indexes) x h = elim (or_cases (same x (becomes_true (member_location d i))) _ h) [
  | inl e ↦
      let is = same_is x (becomes_true (member_location d i)) e in
      (inl (ap (λ y. y.location) is), ap (λ y. y.value) is)
  | inr k ↦ let q = has_taken d indexes x k in (inr q.0, q.1)
]

taken_members : (d : ℕ) (indexes : List ℕ) (l : Location) → Mem l (member_locations d indexes)
    → (e : ℕ) × (i : ℕ) × (l ≡ member_location e i)
taken_members d [] l m = absurd m
taken_members d (i ∷ indexes) l m =
    elim m [ inl e ↦ (d, i, e) | inr k ↦ taken_members d indexes l k ]

has_memberships : (d : ℕ) (indexes : List ℕ) (x : Update) → set.has (memberships d indexes) x
    ≡ list_any (same x) (map (λ i. becomes_true (member_location d i)) indexes)
has_memberships d indexes x =
    has-add_all set.empty (map (λ i. becomes_true (member_location d i)) indexes) x
    ∙ ap (λ b. b || list_any (same x) (map (λ i. becomes_true (member_location d i)) indexes))
    (has-empty x)

adds_taken : (d : ℕ) (indexes : List ℕ) → AddsExactly (memberships d indexes)
    (member_locations d indexes)
adds_taken d indexes = record {
  members = taken_members d indexes;
  added = λ l m. has_memberships d indexes (becomes_true l) ∙ taken_has d indexes l m;
  no_others = λ x e h s. has_taken d indexes x (sym (has_memberships d indexes x) ∙ h);
}

-- ---- by the derivation

module _ (p : Program) (start : StateMap) where
  apart_after : (before new more : List Location) → AreDisjoint before (new ++ more)
      → AreDisjoint new more
      → AreDisjoint (before ++ new) more
  apart_after before new more h k l m n = elim (mem_append l before new m) [
    | inl a ↦ h l a (mem_right l new more n)
    | inr b ↦ k l b n
  ]

  mutual
    adds : {state : StateMap} {env : List Value} {r : Rule} {u : UpdateSet} {new : List Location}
        → Book p start state env r u new → AddsExactly u new
    adds (book.skips e) = adds_none
    adds (book.calls e args found b) = adds b
    adds (book.calls_none e args none) = adds_none
    adds (book.updates {f = f} {vs = vs} {v = v} e args value) = adds_update f vs v
    adds (book.pars e b) = adds_all b
    adds (book.seqs e b) = adds_in_turn b [] adds_none (λ l m n. m)
    adds (book.thens e g t b) = adds b
    adds (book.elses e g t b) = adds_else b
    adds (book.foralls e b) = adds_each b
    adds (book.chooses e c m g t b) = adds b
    adds (book.chooses_none e none b) = adds_else b
    adds (book.lets e binds b) = adds b
    adds (book.switches e v b) = adds_cases b
    adds (book.extends {d = d} {u = u} {new = new} e indexes many outside distinct b apart) =
        adds_both (memberships d indexes) u (member_locations d indexes) new (adds_taken d indexes)
        (adds b)

    adds_all : {state : StateMap} {env : List Value} {rs : List Rule} {u : UpdateSet}
        {new : List Location}
        → BookAll p start state env rs u new → AddsExactly u new
    adds_all book.no_rule = adds_none
    adds_all (book.one_rule {u = u} {v = v} {new = new} {more = more} b bs apart) =
        adds_both u v new more (adds b) (adds_all bs)

    adds_in_turn : {state : StateMap} {env : List Value} {sofar : UpdateSet} {rs : List Rule}
        {u : UpdateSet} {new : List Location}
        → BookInTurn p start state env sofar rs u new
        → (before : List Location) → AddsExactly sofar before → AreDisjoint before new
        → AddsExactly u (before ++ new)
    adds_in_turn (book.none_left {u = u}) before a apart =
        subst (AddsExactly u) (sym (append-nil before)) a
    adds_in_turn (book.clash {u = u} c) before a apart =
        subst (AddsExactly u) (sym (append-nil before)) a
    adds_in_turn (book.in_turn {u = u} {v = v} {w = w} {new = new}
        {more = more} one b bs later) before a apart =
        subst (AddsExactly w) (append_assoc before new more)
        (adds_in_turn bs (before ++ new)
        (adds_over u v before new a (adds b) (λ l m n. apart l m (mem_left l new more n)))
        (apart_after before new more apart later))

    adds_else : {state : StateMap} {env : List Value} {o : Option Rule} {u : UpdateSet}
        {new : List Location}
        → BookElse p start state env o u new → AddsExactly u new
    adds_else book.no_other = adds_none
    adds_else (book.the_other b) = adds b

    adds_each : {state : StateMap} {env : List Value} {guard : Option Term} {body : Rule}
        {cs : List (List Value)} {u : UpdateSet} {new : List Location}
        → BookEach p start state env guard body cs u new → AddsExactly u new
    adds_each book.no_combination = adds_none
    adds_each (book.passed_over g t b) = adds_each b
    adds_each (book.one_combination {u = u} {v = v} {new = new} {more = more} g t b bs apart) =
        adds_both u v new more (adds b) (adds_each bs)

    adds_cases : {state : StateMap} {env : List Value} {v : Value} {cases : List RuleCase}
        {o : Option Rule} {u : UpdateSet} {new : List Location}
        → BookCases p start state env v cases o u new → AddsExactly u new
    adds_cases (book.no_case b) = adds_else b
    adds_cases (book.this_case g t b) = adds b
    adds_cases (book.a_later_case g t b) = adds_cases b

pub new_members_are_added : (p : Program) → NewMembersAreAdded p
new_members_are_added p start state env r u new b = adds p start b
