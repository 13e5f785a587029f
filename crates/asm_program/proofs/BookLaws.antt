-- What a rule yields is one of the textbook's sets.
use Rattle.std.proofs.Common.{◌≡◌, ℕ, zero, suc, ◌+◌, ◌<◌, ◌≤◌, Bool, true, false, ◌||◌}
use Rattle.std.proofs.Common.{if◌then◌else◌, Option, Some, None, List, [], ◌∷◌, ◌++◌, length, map}
use Rattle.std.proofs.Common.{slice_get, refl, sym, ap, subst, ◌∙◌, arith}
use Rattle.std.specs.Prelude.{slice_index, slice_set}
use Rattle.std.specs.Option.{option_map, option_map_or}
use Rattle.std.specs.List.{AllByRecursion, range_with_len}
use Rattle.std.proofs.lemmas.Bool.Decides.{nat_tests}
use Rattle.std.proofs.lemmas.List.FromFn.{length-range_with_len}
use Rattle.asm_value.specs.declared.value.Value.{Value}
use Rattle.asm_value.specs.declared.domain.Domain.{Domain}
use Rattle.asm_value.specs.declared.location.Location.{Location}
use Rattle.asm_value.specs.Living.{is_true}
use Rattle.asm_value.specs.State.{StateMap, is_undef, fire, overlaid}
use Rattle.asm_value.specs.UpdateSet as set
use Rattle.asm_value.specs.UpdateSet.{UpdateSet}
use Rattle.asm_syntax.specs.declared.token.Span.{Span}
use Rattle.asm_program.specs.declared.outcome.Outcome.{Outcome}
use Rattle.asm_program.specs.declared.outcome.Outcome.TheVariants as outcome
use Rattle.asm_program.specs.declared.outcome.Parts.TheVariants as parts
use Rattle.asm_program.specs.declared.trees.Term.{Term}
use Rattle.asm_program.specs.declared.trees.Rule.{Rule}
use Rattle.asm_program.specs.declared.trees.RuleCase.{RuleCase}
use Rattle.asm_program.specs.declared.trees.Rule.TheOpen.{Rule-F}
use Rattle.asm_program.specs.declared.trees.Rule.TheViews.{out-Rule}
use Rattle.asm_program.specs.declared.program.Program.{Program}
use Rattle.asm_program.specs.Forms.{optional, of_rule, of_macro, rule_of}
use Rattle.asm_program.specs.Nesting.{rule_nesting_level}
use Rattle.asm_program.specs.Members.{combinations}
use Rattle.asm_program.specs.Initial.{in_codomain}
use Rattle.asm_program.specs.Meaning.{eval, all_of, is_same, function_takes, location_of}
use Rattle.asm_program.specs.Yields.{Yielded, Yields, RuleMeaning, RuleCalls, on_set, on_term}
use Rattle.asm_program.specs.Yields.{yields}
use Rattle.asm_program.specs.Yields.{on_terms, limited, nothing, update_of, union_of, clashes}
use Rattle.asm_program.specs.Yields.{one_by_one, guard_of, guarded, Found, satisfying, on_found}
use Rattle.asm_program.specs.Yields.{picked, otherwise, choice, first_case, bind_all, new_members}
use Rattle.asm_program.specs.Yields.{memberships, has_room, extended, yields_level, rule_values}
use Rattle.asm_program.specs.Yields.{counts_in}
use Rattle.asm_program.specs.BookYields as book
use Rattle.asm_program.specs.BookYields.{Book, BookAll, BookInTurn, BookElse, BookEach, BookCases}
use Rattle.asm_program.specs.BookYields.{AreBelow, Binds, member_locations, AreNumbered}
use Rattle.asm_program.specs.BookYields.{IsOfTheBook, YieldsAreOfTheBook, StepsAreOfTheBook}
use Rattle.asm_program.proofs.RuleParts.{case_rule, case_term, sub_rules, by_parts, level_of}
use Rattle.asm_program.proofs.RuleParts.{of_rule-out}
use Rattle.asm_program.proofs.Choices.{found_at, none_at, got_is_mem, none_picked}
use Rattle.asm_program.proofs.Outcomes.{same_set, same_next, set_of, term_of, terms_of, found_of}
use Rattle.asm_program.proofs.Outcomes.{if_of, unless_of, limited_of, limited_on}
use Rattle.asm_program.proofs.Numbering.{numbered-none, numbered-append, numbered-disjoint}
use Rattle.asm_program.proofs.Numbering.{numbered-taken, below-later, range-distinct, range-outside}
use Rattle.asm_program.proofs.Ranks.{parts_low, deepest_calls, depth_of, depth_of-body}
use Rattle.asm_program.proofs.Ranks.{depth_of-rule}
use Rattle.asm_program.proofs.Sets.{union-assoc, union-empty, empty-union, consistent, inconsistent}

-- ---- a rule and its parts

module _ (p : Program) (pick : Option ℕ) (start : StateMap) (calls : RuleCalls) where
  abbrev given : Rule → RuleMeaning
  given = of_rule (yields_level p pick) calls

  -- where the rule yields a set, it is one of the textbook's
  abbrev Ready : Rule → Type 0
  Ready r = (state : StateMap) (env : List Value) (next after : List ℕ) (u : UpdateSet)
      → AreBelow start next → given r state env next ≡ Yields u after
      → IsOfTheBook p start state env r u next after

  moved : (state : StateMap) (env : List Value) (r : Rule) (v u : UpdateSet)
      (next later after : List ℕ)
      → Yields v later ≡ Yields u after → IsOfTheBook p start state env r v next later
      → IsOfTheBook p start state env r u next after
  moved state env r v u next later after e h =
      subst (λ z. IsOfTheBook p start state env r z next after) (same_set v u later after e)
      (subst (λ z. IsOfTheBook p start state env r v next z) (same_next v u later after e) h)

  -- ---- side by side

  record OfAll (state : StateMap) (env : List Value) (rules : List Rule) (sofar u : UpdateSet)
      (next after : List ℕ) : Type 0 where
    pub part : UpdateSet
    pub new : List Location
    pub book : BookAll p start state env rules part new
    pub whole : set.union sofar part ≡ u
    pub numbered : AreNumbered new next after

  side_by_side : (span : Span) (state : StateMap) (env : List Value) (rules : List Rule)
      → AllByRecursion Ready rules → (sofar u : UpdateSet) (next after : List ℕ)
      → AreBelow start next
      → union_of span sofar (map (λ m. m state env) (map given rules)) next ≡ Yields u after
      → OfAll state env rules sofar u next after
  side_by_side span state env [] ready sofar u next after below e = record {
    part = set.empty;
    new = [];
    book = book.no_rule;
    whole = union-empty sofar ∙ same_set sofar u next after e;
    numbered = subst (AreNumbered [] next) (same_next sofar u next after e) (numbered-none next);
  }
  side_by_side span state env (r ∷ rules) ready sofar u next after below e =
      let a = set_of u after (given r state env next) _ e in
      let b = limited_on u after span (set.union sofar a.0) a.1
      (λ all later. union_of span all (map (λ m. m state env) (map given rules)) later) a.3 in
      let first = ready.0 state env next a.1 a.0 below a.2 in
      let rest = side_by_side span state env rules ready.1 (set.union sofar a.0) u a.1 after
      (below-later start next a.1 below first.numbered.rises) b in
      record {
        part = set.union a.0 rest.part;
        new = first.new ++ rest.new;
        book = book.one_rule first.book rest.book
            (numbered-disjoint first.new rest.new next a.1 after first.numbered rest.numbered);
        whole = sym (union-assoc sofar a.0 rest.part) ∙ rest.whole;
        numbered = numbered-append first.new rest.new next a.1 after first.numbered rest.numbered;
      }

  -- ---- one after the other

  record OfTurn (state : StateMap) (env : List Value) (sofar : UpdateSet) (rules : List Rule)
      (u : UpdateSet) (next after : List ℕ) : Type 0 where
    pub new : List Location
    pub book : BookInTurn p start state env sofar rules u new
    pub numbered : AreNumbered new next after

  ended : (state : StateMap) (env : List Value) (sofar : UpdateSet) (rules : List Rule)
      (u : UpdateSet) (next after : List ℕ) → Yields sofar next ≡ Yields u after
      → BookInTurn p start state env sofar rules sofar []
      → OfTurn state env sofar rules u next after
  ended state env sofar rules u next after e b = record {
    new = [];
    book = subst (λ z. BookInTurn p start state env sofar rules z [])
        (same_set sofar u next after e) b;
    numbered = subst (AreNumbered [] next) (same_next sofar u next after e) (numbered-none next);
  }

  -- the rule where the updates so far don't clash, and those after it
  abbrev goes_on : Span → StateMap → List Value → Rule → List Rule → UpdateSet → List ℕ → Yielded
  goes_on span state env r rules sofar next =
      on_set (given r (fire state sofar) env next) (λ updates later.
      on_set (limited span (overlaid sofar updates) later) (λ all last.
      one_by_one span all (map given rules) state env last))

  in_turns : (span : Span) (state : StateMap) (env : List Value) (rules : List Rule)
      → AllByRecursion Ready rules → (sofar u : UpdateSet) (next after : List ℕ)
      → AreBelow start next
      → one_by_one span sofar (map given rules) state env next ≡ Yields u after
      → OfTurn state env sofar rules u next after
  in_turns span state env [] ready sofar u next after below e =
      ended state env sofar [] u next after e book.none_left
  in_turns span state env (r ∷ rules) ready sofar u next after below e =
      by_test (clashes sofar) refl e
      (λ s l lower h. in_turns span state env rules ready.1 s u l after lower h)
    where
      by_test : (b : Bool) → clashes sofar ≡ b → (if b then Yields sofar next
          else goes_on span state env r rules sofar next) ≡ Yields u after
          → ((s : UpdateSet) (l : List ℕ) → AreBelow start l
          → one_by_one span s (map given rules) state env l ≡ Yields u after
          → OfTurn state env s rules u l after)
          → OfTurn state env sofar (r ∷ rules) u next after
      by_test true clash h later =
          ended state env sofar (r ∷ rules) u next after h (book.clash (inconsistent sofar clash))
      by_test false none h later =
          let a = set_of u after (given r (fire state sofar) env next) _ h in
          let b = limited_on u after span (overlaid sofar a.0) a.1
          (λ all last. one_by_one span all (map given rules) state env last) a.3 in
          let first = ready.0 (fire state sofar) env next a.1 a.0 below a.2 in
          let rest = later (overlaid sofar a.0) a.1 (below-later start next a.1 below
          first.numbered.rises) b in
          record {
            new = first.new ++ rest.new;
            book = book.in_turn (consistent sofar none) first.book rest.book
                (numbered-disjoint first.new rest.new next a.1 after first.numbered rest.numbered);
            numbered =
                numbered-append first.new rest.new next a.1 after first.numbered rest.numbered;
          }

  -- ---- the other rule, if there is one

  record OfElse (state : StateMap) (env : List Value) (o : Option Rule) (u : UpdateSet)
      (next after : List ℕ) : Type 0 where
    pub new : List Location
    pub book : BookElse p start state env o u new
    pub numbered : AreNumbered new next after

  other_rule : (state : StateMap) (env : List Value) (o : Option Rule)
      → AllByRecursion Ready (optional o)
      → (u : UpdateSet) (next after : List ℕ) → AreBelow start next
      → otherwise (option_map given o) state env next ≡ Yields u after
      → OfElse state env o u next after
  other_rule state env None ready u next after below e = record {
    new = [];
    book = subst (λ z. BookElse p start state env None z [])
        (same_set set.empty u next after e) book.no_other;
    numbered =
        subst (AreNumbered [] next) (same_next set.empty u next after e) (numbered-none next);
  }
  other_rule state env (Some r) ready u next after below e =
      let h = ready.0 state env next after u below e in
      record { new = h.new; book = book.the_other h.book; numbered = h.numbered }

  -- ---- combinations

  record OfEach (state : StateMap) (env : List Value) (guard : Option Term) (body : Rule)
      (cs : List (List Value)) (sofar u : UpdateSet) (next after : List ℕ) : Type 0 where
    pub part : UpdateSet
    pub new : List Location
    pub book : BookEach p start state env guard body cs part new
    pub whole : set.union sofar part ≡ u
    pub numbered : AreNumbered new next after

  abbrev at_each : StateMap → List Value → Option Term → Rule → List (List Value)
      → List (List ℕ → Yielded)
  at_each state env guard body cs =
      map (λ c. guarded (guard_of p state guard (env ++ c)) (given body state (env ++ c))) cs

  each_of : (span : Span) (state : StateMap) (env : List Value) (guard : Option Term) (body : Rule)
      → Ready body → (cs : List (List Value)) (sofar u : UpdateSet) (next after : List ℕ)
      → AreBelow start next
      → union_of span sofar (at_each state env guard body cs) next ≡ Yields u after
      → OfEach state env guard body cs sofar u next after
  each_of span state env guard body ready [] sofar u next after below e = record {
    part = set.empty;
    new = [];
    book = book.no_combination;
    whole = union-empty sofar ∙ same_set sofar u next after e;
    numbered = subst (AreNumbered [] next) (same_next sofar u next after e) (numbered-none next);
  }
  each_of span state env guard body ready (c ∷ cs) sofar u next after below e =
      let a = set_of u after (guarded (guard_of p state guard (env ++ c))
      (given body state (env ++ c)) next) _ e in
      let b = limited_on u after span (set.union sofar a.0) a.1
      (λ all later. union_of span all (at_each state env guard body cs) later) a.3 in
      let g = term_of a.0 a.1 (guard_of p state guard (env ++ c)) _ a.2 in
      by_test a.0 a.1 g.0 g.1 (is_true g.0) refl g.2
      (λ lower. each_of span state env guard body ready cs
      (set.union sofar a.0) u a.1 after lower b)
    where
      by_test : (v : UpdateSet) (later : List ℕ) (w : Value)
          → guard_of p state guard (env ++ c) ≡ outcome.Value w
          → (t : Bool) → is_true w ≡ t → (if t then given body state (env ++ c) next
          else nothing next) ≡ Yields v later
          → (AreBelow start later → OfEach state env guard body cs
          (set.union sofar v) u later after)
          → OfEach state env guard body (c ∷ cs) sofar u next after
      by_test v later w g true holds h go =
          let first = ready state (env ++ c) next later v below h in
          let rest = go (below-later start next later below first.numbered.rises) in
          record {
            part = set.union v rest.part;
            new = first.new ++ rest.new;
            book = book.one_combination g holds first.book rest.book
                (numbered-disjoint first.new rest.new next later after first.numbered
                rest.numbered);
            whole = sym (union-assoc sofar v rest.part) ∙ rest.whole;
            numbered =
                numbered-append first.new rest.new next later after first.numbered rest.numbered;
          }
      by_test v later w g false fails h go =
          let none = same_set set.empty v next later h in
          let stays = same_next set.empty v next later h in
          let rest = go (subst (AreBelow start) stays below) in
          record {
            part = rest.part;
            new = rest.new;
            book = book.passed_over g fails rest.book;
            whole = ap (λ s. set.union s rest.part) (sym (union-empty sofar)
                ∙ ap (set.union sofar) none) ∙ rest.whole;
            numbered = subst (λ n. AreNumbered rest.new n after) (sym stays) rest.numbered;
          }

  -- ---- choices

  abbrev guard_at : StateMap → List Value → Option Term → List Value → Outcome
  guard_at state env guard c = guard_of p state guard (env ++ c)

  chosen : (state : StateMap) (env : List Value) (r body : Rule) (ranges : List Domain)
      (guard : Option Term)
      (other : Option Rule) (place : ℕ) → out-Rule r ≡ Rule-F.Choose ranges guard body other place
      → Ready body → AllByRecursion Ready (optional other)
      → (next after : List ℕ) (u : UpdateSet) → AreBelow start next
      → on_found (satisfying (guard_at state env guard) (combinations p.domains state ranges))
      (choice pick place (λ c. given body state (env ++ c) next)
      (otherwise (option_map given other) state env next))
      ≡ Yields u after
      → IsOfTheBook p start state env r u next after
  chosen state env r body ranges guard other place is ready others next after u below e =
      let cs = combinations p.domains state ranges in
      let f = found_of u after (satisfying (guard_at state env guard) cs) _ e in
      by_pick f.0 f.1 (slice_get f.0 (picked pick place (length f.0))) refl f.2
    where
      by_pick : (fs : List (List Value)) → satisfying (guard_at state env guard)
          (combinations p.domains state ranges) ≡ Found fs
          → (o : Option (List Value)) → slice_get fs (picked pick place (length fs)) ≡ o
          → option_map_or (λ c. given body state (env ++ c) next) o
          (otherwise (option_map given other) state env next) ≡ Yields u after
          → IsOfTheBook p start state env r u next after
      by_pick fs found (Some c) got h =
          let at = found_at (guard_at state env guard) (combinations p.domains state ranges) fs
          found c (got_is_mem fs _ c got) in
          let b = ready state (env ++ c) next after u below h in
          record {
            new = b.new;
            book = book.chooses is c at.0 at.1.1 at.1.2 b.book;
            numbered =
                b.numbered;
          }
      by_pick fs found None got h =
          let nothing_there = found ∙ ap (λ z. Found z) (none_picked pick place fs got) in
          let b = other_rule state env other others u next after below h in
          record {
            new = b.new;
            book = book.chooses_none is (λ c m. none_at (guard_at state env guard)
                (combinations p.domains state ranges) nothing_there c m) b.book;
            numbered = b.numbered;
          }

  -- ---- variables

  record OfBinds (state : StateMap) (env : List Value) (ts : List Term) (go : List Value → Yielded)
      (u : UpdateSet) (after : List ℕ) : Type 0 where
    pub inner : List Value
    pub binds : Binds p state ts env inner
    pub goes : go inner ≡ Yields u after

  bound : (state : StateMap) (ts : List Term) (env : List Value) (go : List Value → Yielded)
      (u : UpdateSet) (after : List ℕ) → bind_all (eval p state) ts env go ≡ Yields u after
      → OfBinds state env ts go u after
  bound state [] env go u after e = record { inner = env; binds = refl; goes = e }
  bound state (t ∷ ts) env go u after e =
      let v = term_of u after (eval p state t env) _ e in
      let rest = bound state ts (env ++ v.0 ∷ []) go u after v.2 in
      record { inner = rest.inner; binds = (v.0, v.1, rest.binds); goes = rest.goes }

  -- ---- cases

  record OfCases (state : StateMap) (env : List Value) (v : Value) (cases : List RuleCase)
      (o : Option Rule)
      (u : UpdateSet) (next after : List ℕ) : Type 0 where
    pub new : List Location
    pub book : BookCases p start state env v cases o u new
    pub numbered : AreNumbered new next after

  in_cases : (state : StateMap) (env : List Value) (v : Value) (cases : List RuleCase)
      (o : Option Rule)
      → AllByRecursion Ready (map case_rule cases ++ optional o)
      → (u : UpdateSet) (next after : List ℕ) → AreBelow start next
      → first_case p v (map (λ c. (case_term c, given (case_rule c))) cases)
      (option_map given o) state env next ≡ Yields u after
      → OfCases state env v cases o u next after
  in_cases state env v [] o ready u next after below e =
      let h = other_rule state env o ready u next after below e in
      record { new = h.new; book = book.no_case h.book; numbered = h.numbered }
  in_cases state env v (c ∷ cases) o ready u next after below e =
      let w = term_of u after (eval p state (case_term c) env) _ e in
      by_test w.0 w.1 (is_same v w.0) refl w.2
      (λ h. in_cases state env v cases o ready.1 u next after below h)
    where
      by_test : (w : Value) → eval p state (case_term c) env ≡ outcome.Value w
          → (b : Bool) → is_same v w ≡ b
          → (if b then given (case_rule c) state env next
          else first_case p v (map (λ c. (case_term c, given (case_rule c))) cases)
          (option_map given o) state env next) ≡ Yields u after
          → (first_case p v (map (λ c. (case_term c, given (case_rule c))) cases)
          (option_map given o) state env next ≡ Yields u after
          → OfCases state env v cases o u next after)
          → OfCases state env v (c ∷ cases) o u next after
      by_test w g true same h go =
          let b = ready.0 state env next after u below h in
          record { new = b.new; book = book.this_case g same b.book; numbered = b.numbered }
      by_test w g false differs h go =
          let b = go h in
          record { new = b.new; book = book.a_later_case g differs b.book; numbered = b.numbered }

  -- ---- new members

  abbrev taken : List ℕ → ℕ → ℕ → List ℕ
  taken next d count = range_with_len (slice_index next d) count

  room_is : (next : List ℕ) (d count : ℕ) → has_room next d count ≡ true
      → (d < length next) × (slice_index next d + count ≤ 256)
  room_is next d count h = (grind (arith, nat_tests, h), grind (arith, nat_tests, h))

  extends_by : (state : StateMap) (env : List Value) (r body : Rule) (d count : ℕ) (span : Span)
      → out-Rule r ≡ Rule-F.Extend d count body span → Ready body
      → (next after : List ℕ) (u : UpdateSet) → AreBelow start next
      → extended d count span (given body) state env next ≡ Yields u after
      → IsOfTheBook p start state env r u next after
  extends_by state env r body d count span is ready next after u below e =
      let test = unless_of u after (has_room next d count) _ _ e in
      let room = room_is next d count test.0 in
      let indexes = taken next d count in
      let passed = slice_set next d (slice_index next d + count) in
      let numbers = numbered-taken next d count room.0 in
      let a = set_of u after (given body state (env ++ new_members d indexes) passed) _ test.1 in
      let inner = ready state (env ++ new_members d indexes) passed a.1 a.0
      (below-later start next passed below numbers.rises) a.2 in
      let whole = limited_of u after span (set.union (memberships d indexes) a.0) a.1 a.3 in
      moved state env r (set.union (memberships d indexes) a.0) u next a.1 after whole (record {
        new = member_locations d indexes ++ inner.new;
        book = book.extends is indexes (length-range_with_len (slice_index next d) count)
            (range-outside start (slice_index next d) count d room.1 (below d))
            (range-distinct (slice_index next d) count d)
            inner.book
            (numbered-disjoint (member_locations d indexes) inner.new next passed a.1 numbers
            inner.numbered);
        numbered =
            numbered-append (member_locations d indexes) inner.new next passed a.1 numbers
            inner.numbered;
      })

  -- ---- one level

  -- what a called macro rule yields is one of the textbook's sets of its body
  abbrev Called : ℕ → Type 0
  Called n = (m : ℕ) → 1 + deepest_calls p m ≤ n → (body : Rule) → rule_of p.macros m ≡ Some body
      → (state : StateMap) (vs : List Value) (next after : List ℕ) (u : UpdateSet)
      → AreBelow start next
      → calls m state vs next ≡ Yields u after → IsOfTheBook p start state vs body u next after

  -- a number that no macro rule has yields nothing
  abbrev Uncalled : Type 0
  Uncalled =
      (m : ℕ) → rule_of p.macros m ≡ None → (state : StateMap) (vs : List Value) (next : List ℕ)
      → calls m state vs next ≡ nothing next

  called_by : (n : ℕ) → Called n → Uncalled → (state : StateMap) (env : List Value) (r : Rule)
      (m : ℕ) (args : List Term)
      → out-Rule r ≡ Rule-F.Call m args → 1 + deepest_calls p m ≤ n
      → (next after : List ℕ) (u : UpdateSet) → AreBelow start next
      → on_terms (all_of (map (eval p state) args) env) (λ vs. calls m state vs next)
      ≡ Yields u after
      → IsOfTheBook p start state env r u next after
  called_by n called uncalled state env r m args is low next after u below e =
      let vs = terms_of u after (all_of (map (eval p state) args) env) _ e in
      by_body vs.0 vs.1 vs.2 (rule_of p.macros m) refl
    where
      by_body : (vs : List Value) → all_of (map (eval p state) args) env ≡ parts.Values vs
          → calls m state vs next ≡ Yields u after
          → (o : Option Rule) → rule_of p.macros m ≡ o → IsOfTheBook p start state env r u next
          after
      by_body vs given_args h (Some body) found =
          let b = called m low body found state vs next after u below h in
          record {
            new = b.new;
            book = book.calls is given_args found b.book;
            numbered =
                b.numbered;
          }
      by_body vs given_args h None none =
          moved state env r set.empty u next next after (sym (uncalled m none state vs next) ∙ h)
          (record {
            new = [];
            book = book.calls_none is given_args none;
            numbered = numbered-none next;
          })

  updated_by : (state : StateMap) (env : List Value) (r : Rule) (f : ℕ) (args : List Term)
      (value : Term) (span : Span)
      → out-Rule r ≡ Rule-F.Update f args value span → (next after : List ℕ) (u : UpdateSet)
      → on_terms (all_of (map (eval p state) args) env) (λ vs.
      on_term (eval p state value env) (λ v. update_of p f span vs v next)) ≡ Yields u after
      → IsOfTheBook p start state env r u next after
  updated_by state env r f args value span is next after u e =
      let vs = terms_of u after (all_of (map (eval p state) args) env) _ e in
      let v = term_of u after (eval p state value env) _ vs.2 in
      let fits = unless_of u after (function_takes p f vs.0) _ _ v.2 in
      let whole = if_of u after (is_undef v.0 || in_codomain p f v.0) _ _ fits.1 in
      moved state env r (set.add set.empty (record { location = location_of f vs.0; value = v.0 }))
      u next next after whole.1 (record {
        new = [];
        book = book.updates is vs.1 v.1;
        numbered = numbered-none next;
      })

  branch_by : (state : StateMap) (env : List Value) (r first : Rule) (other : Option Rule)
      (guard : Term)
      → out-Rule r ≡ Rule-F.If guard first other → Ready first
      → AllByRecursion Ready (optional other)
      → (next after : List ℕ) (u : UpdateSet) → AreBelow start next
      → on_term (eval p state guard env) (λ v. if is_true v then given first state env next
      else otherwise (option_map given other) state env next) ≡ Yields u after
      → IsOfTheBook p start state env r u next after
  branch_by state env r first other guard is ready others next after u below e =
      let v = term_of u after (eval p state guard env) _ e in
      by_truth v.0 v.1 (is_true v.0) refl v.2
    where
      by_truth : (v : Value) → eval p state guard env ≡ outcome.Value v → (b : Bool) → is_true v ≡ b
          → (if b then given first state env next else otherwise
          (option_map given other) state env next) ≡ Yields u after
          → IsOfTheBook p start state env r u next after
      by_truth v g true t h =
          let b = ready state env next after u below h in
          record { new = b.new; book = book.thens is g t b.book; numbered = b.numbered }
      by_truth v g false t h =
          let b = other_rule state env other others u next after below h in
          record { new = b.new; book = book.elses is g t b.book; numbered = b.numbered }

  switched_by : (state : StateMap) (env : List Value) (r : Rule) (value : Term)
      (cases : List RuleCase) (other : Option Rule)
      → out-Rule r ≡ Rule-F.Switch value cases other → AllByRecursion Ready
      (map case_rule cases ++ optional other)
      → (next after : List ℕ) (u : UpdateSet) → AreBelow start next
      → on_term (eval p state value env) (λ v. first_case p v
      (map (λ c. (case_term c, given (case_rule c))) cases) (option_map given other) state env next)
      ≡ Yields u after
      → IsOfTheBook p start state env r u next after
  switched_by state env r value cases other is ready next after u below e =
      let v = term_of u after (eval p state value env) _ e in
      let b = in_cases state env v.0 cases other ready u next after below v.2 in
      record { new = b.new; book = book.switches is v.1 b.book; numbered = b.numbered }

  level_by : (n : ℕ) → Called n → Uncalled → (r : Rule) (a : Rule-F Rule RuleCase) → out-Rule r ≡ a
      → level_of rule_nesting_level (deepest_calls p) a ≤ n → AllByRecursion Ready (sub_rules a)
      → (state : StateMap) (env : List Value) (next after : List ℕ) (u : UpdateSet)
      → AreBelow start next
      → level_of (yields_level p pick) calls a state env next ≡ Yields u after
      → IsOfTheBook p start state env r u next after
  level_by n called uncalled r Rule-F.Skip is low ready state env next after u below e =
      moved state env r set.empty u next next after e (record
      { new = []; book = book.skips is; numbered = numbered-none next })
  level_by n called uncalled r (Rule-F.Call m args) is low ready state env next after u below e =
      called_by n called uncalled state env r m args is (omega (arith, low)) next after u below e
  level_by n called uncalled r (Rule-F.Update f args value span) is low ready state env next after u
      below e =
      updated_by state env r f args value span is next after u e
  level_by n called uncalled r (Rule-F.Par rules span) is low ready state env next after u below e =
      let b = side_by_side span state env rules ready set.empty u next after below e in
      record {
        new = b.new;
        book = book.pars is (subst (λ s. BookAll p start state env rules s b.new)
            (sym (empty-union b.part) ∙ b.whole) b.book);
        numbered = b.numbered;
      }
  level_by n called uncalled r (Rule-F.Seq rules span) is low ready state env next after u below e =
      let b = in_turns span state env rules ready set.empty u next after below e in
      record { new = b.new; book = book.seqs is b.book; numbered = b.numbered }
  level_by n called uncalled r (Rule-F.If guard first None) is low ready state env next after u
      below e =
      branch_by state env r first None guard is ready.0 tt next after u below e
  level_by n called uncalled r (Rule-F.If guard first (Some other)) is low ready state env next
      after u below e =
      branch_by state env r first (Some other) guard is ready.0 ready.1 next after u below e
  level_by n called uncalled r (Rule-F.Forall ranges guard body span) is low ready state env next
      after u below e =
      let b = each_of span state env guard body ready.0 (combinations p.domains state ranges)
      set.empty u next after below e in
      record {
        new = b.new;
        book = book.foralls is (subst (λ s. BookEach p start state env guard body
            (combinations p.domains state ranges) s b.new) (sym (empty-union b.part)
            ∙ b.whole) b.book);
        numbered = b.numbered;
      }
  level_by n called uncalled r (Rule-F.Choose ranges guard body None place) is low ready state env
      next after u below e =
      chosen state env r body ranges guard None place is ready.0 tt next after u below e
  level_by n called uncalled r (Rule-F.Choose ranges guard body
      (Some other) place) is low ready state env next after u below e =
      chosen state env r body ranges guard (Some other) place is ready.0 ready.1 next after u below
      e
  level_by n called uncalled r (Rule-F.Let values body) is low ready state env next after u below e
      =
      let b = bound state values env (λ inner. given body state inner next) u after e in
      let h = ready.0 state b.inner next after u below b.goes in
      record { new = h.new; book = book.lets is b.binds h.book; numbered = h.numbered }
  level_by n called uncalled r (Rule-F.Switch value cases None) is low ready state env next after u
      below e =
      switched_by state env r value cases None is ready next after u below e
  level_by n called uncalled r (Rule-F.Switch value cases
      (Some other)) is low ready state env next after u below e =
      switched_by state env r value cases (Some other) is ready next after u below e
  level_by n called uncalled r (Rule-F.Extend d count body span) is low ready state env next after u
      below e =
      extends_by state env r body d count span is ready.0 next after u below e

  both : (P Q : Rule → Type 0) (rs : List Rule) → AllByRecursion (λ r. P r → Q r) rs
      → AllByRecursion P rs → AllByRecursion Q rs
  both P Q [] h k = tt
  both P Q (r ∷ rs) h k = (h.0 k.0, both P Q rs h.1 k.1)

  -- where the calls of the rule nest no deeper than these are followed
  ready_by : (n : ℕ) → Called n → Uncalled → (r : Rule) → depth_of p r ≤ n → Ready r
  ready_by n called uncalled =
      by_parts (λ r. depth_of p r ≤ n → Ready r) (λ r a is parts low state env next after u below e.
      let here = subst (λ k. k ≤ n) (of_rule-out rule_nesting_level (deepest_calls p) r a is) low in
      level_by n called uncalled r a is here
      (both (λ q. depth_of p q ≤ n) Ready (sub_rules a) parts
      (parts_low (deepest_calls p) a n here))
      state env next after u below
      (sym (ap (λ m. m state env next) (of_rule-out (yields_level p pick) calls r a is)) ∙ e))

-- ---- macro rules, followed as deep as their calls nest

module _ (p : Program) (pick : Option ℕ) (start : StateMap) where
  value_zero : (m : ℕ) (state : StateMap) (vs : List Value) (next : List ℕ)
      → rule_values p pick zero m state vs next ≡ nothing next
  unfolding of_macro rule_values
  value_zero m state vs next = refl

  value_body : (n m : ℕ) (body : Rule) (state : StateMap) (vs : List Value) (next : List ℕ)
      → rule_of p.macros m ≡ Some body
      → rule_values p pick (suc n) m state vs next ≡ of_rule (yields_level p pick)
      (rule_values p pick n) body state vs next
  unfolding of_macro rule_values
  value_body n m body state vs next e =
      ap (λ o. (option_map_or (of_rule (yields_level p pick) (rule_values p pick n)) o
      (λ s v k. nothing k)) state vs next) e

  value_none : (n m : ℕ) → rule_of p.macros m ≡ None → (state : StateMap) (vs : List Value)
      (next : List ℕ)
      → rule_values p pick n m state vs next ≡ nothing next
  unfolding of_macro rule_values
  value_none zero m e state vs next = refl
  value_none (suc n) m e state vs next =
      ap (λ o. (option_map_or (of_rule (yields_level p pick) (rule_values p pick n)) o
      (λ s v k. nothing k)) state vs next) e

  followed : (n : ℕ) (r : Rule) → depth_of p r ≤ n → Ready p pick start (rule_values p pick n) r
  followed zero r low = ready_by p pick start (rule_values p pick zero) zero
      (λ m deep body e state vs next after u below h. absurd (omega (arith, deep)))
      (value_none zero) r low
  followed (suc n) r low = ready_by p pick start (rule_values p pick (suc n)) (suc n)
      (λ m deep body e state vs next after u below h.
      followed n body (omega (arith, deep, depth_of-body p m body e)) state vs next after u below
      (sym (value_body n m body state vs next e) ∙ h))
      (value_none (suc n)) r low

pub yields_are_of_the_book : (p : Program) → YieldsAreOfTheBook p
unfolding yields
yields_are_of_the_book p pick r start = followed p pick start 512 r (depth_of-rule p r)

pub steps_are_of_the_book : (p : Program) → StepsAreOfTheBook p
steps_are_of_the_book p pick state u after =
    yields_are_of_the_book p pick p.main state state [] (counts_in p state) after u
