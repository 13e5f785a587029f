-- New members are of abstract domains, where each `extend` is of one.
use Rattle.std.proofs.Common.{◌≡◌, ℕ, zero, suc, Bool, true, Option, Some, None, List, [], ◌∷◌}
use Rattle.std.proofs.Common.{◌++◌, map, slice_get, refl, sym, subst, ◌∙◌}
use Rattle.std.specs.List.{AllByRecursion, list_all}
use Rattle.asm_value.specs.declared.value.Value.{Value}
use Rattle.asm_value.specs.declared.location.Location.{Location}
use Rattle.asm_value.specs.Living.{is_abstract, member_location}
use Rattle.asm_value.specs.State.{StateMap}
use Rattle.asm_value.specs.UpdateSet.{UpdateSet}
use Rattle.asm_value.proofs.RangeLaws.{all_append}
use Rattle.asm_program.specs.declared.trees.Term.{Term}
use Rattle.asm_program.specs.declared.trees.Rule.{Rule}
use Rattle.asm_program.specs.declared.trees.RuleCase.{RuleCase}
use Rattle.asm_program.specs.declared.trees.Rule.TheOpen.{Rule-F}
use Rattle.asm_program.specs.declared.trees.Rule.TheViews.{out-Rule}
use Rattle.asm_program.specs.declared.program.MacroInfo.{MacroInfo}
use Rattle.asm_program.specs.declared.program.Program.{Program}
use Rattle.asm_program.specs.Forms.{optional, rule_in, rule_of}
use Rattle.asm_program.specs.BookYields as book
use Rattle.asm_program.specs.BookYields.{Book, BookAll, BookInTurn, BookElse, BookEach, BookCases}
use Rattle.asm_program.specs.BookYields.{member_locations}
use Rattle.asm_program.specs.Numbered.{extends_level, extends_abstract, extends_are_abstract}
use Rattle.asm_program.proofs.RuleParts.{case_rule, case_term, sub_rules, level_of, of_rule-out}
use Rattle.asm_program.proofs.Sets.{and_first, and_second}

module _ (p : Program) (start : StateMap) where
  abbrev extends : Rule → Bool
  extends = extends_abstract p.domains

  abbrev Good : Rule → Type 0
  Good r = extends r ≡ true

  all_good : (rs : List Rule) → list_all (λ b. b) (map extends rs) ≡ true → AllByRecursion Good rs
  all_good [] h = tt
  all_good (r ∷ rs) h = (and_first (extends r) _ h, all_good rs (and_second (extends r) _ h))

  cases_good : (cases : List RuleCase) (others : List Rule)
      → list_all (λ b. b) (map (λ (c : Term × Bool). c.1)
      (map (λ c. (case_term c, extends (case_rule c))) cases) ++ map extends others) ≡ true
      → AllByRecursion Good (map case_rule cases ++ others)
  cases_good [] others h = all_good others h
  cases_good (c ∷ cases) others h = (
    and_first (extends (case_rule c)) _ h,
    cases_good cases others
        (and_second (extends (case_rule c)) _ h),
  )

  abbrev level : Rule-F Rule RuleCase → Bool
  level = level_of (extends_level p.domains) (λ m. true)

  parts_good : (a : Rule-F Rule RuleCase) → level a ≡ true → AllByRecursion Good (sub_rules a)
  parts_good Rule-F.Skip h = tt
  parts_good (Rule-F.Call m args) h = tt
  parts_good (Rule-F.Update f args value span) h = tt
  parts_good (Rule-F.Par rules span) h = all_good rules h
  parts_good (Rule-F.Seq rules span) h = all_good rules h
  parts_good (Rule-F.If guard first None) h = all_good (first ∷ []) h
  parts_good (Rule-F.If guard first (Some other)) h = all_good (first ∷ other ∷ []) h
  parts_good (Rule-F.Forall ranges guard body span) h = all_good (body ∷ []) h
  parts_good (Rule-F.Choose ranges guard body None place) h = all_good (body ∷ []) h
  parts_good (Rule-F.Choose ranges guard body (Some other) place) h = all_good (body ∷ other ∷ []) h
  parts_good (Rule-F.Let values body) h = all_good (body ∷ []) h
  parts_good (Rule-F.Switch v cases None) h = cases_good cases [] h
  parts_good (Rule-F.Switch v cases (Some other)) h = cases_good cases (other ∷ []) h
  parts_good (Rule-F.Extend d count body span) h =
      (and_second (is_abstract p.domains d) (extends body) h, tt)

  good_level : (r : Rule) (a : Rule-F Rule RuleCase) → out-Rule r ≡ a → Good r → level a ≡ true
  good_level r a e h = sym (of_rule-out (extends_level p.domains) (λ m. true) r a e) ∙ h

  good_parts : (r : Rule) (a : Rule-F Rule RuleCase) → out-Rule r ≡ a → Good r
      → AllByRecursion Good (sub_rules a)
  good_parts r a e h = parts_good a (good_level r a e h)

  -- the location of a member of an abstract domain
  abbrev pub OfAbstract : Location → Type 0
  OfAbstract l = (d : ℕ) × (i : ℕ) × (l ≡ member_location d i) × (is_abstract p.domains d ≡ true)

  taken_abstract : (d : ℕ) (indexes : List ℕ) → is_abstract p.domains d ≡ true
      → AllByRecursion OfAbstract (member_locations d indexes)
  taken_abstract d [] h = tt
  taken_abstract d (i ∷ indexes) h = ((d, i, refl, h), taken_abstract d indexes h)

  module _ (macros_good : (m : ℕ) (body : Rule) → rule_of p.macros m ≡ Some body → Good body) where
    mutual
      abstract_only : {state : StateMap} {env : List Value} {r : Rule} {u : UpdateSet}
          {new : List Location}
          → Book p start state env r u new → Good r → AllByRecursion OfAbstract new
      abstract_only (book.skips e) h = tt
      abstract_only (book.calls {m = m} {body = body} e args found b) h =
          abstract_only b (macros_good m body found)
      abstract_only (book.calls_none e args none) h = tt
      abstract_only (book.updates e args value) h = tt
      abstract_only (book.pars {r = r} {rules = rules} {span = span} e b) h =
          abstract_all b (good_parts r (Rule-F.Par rules span) e h)
      abstract_only (book.seqs {r = r} {rules = rules} {span = span} e b) h =
          abstract_in_turn b (good_parts r (Rule-F.Seq rules span) e h)
      abstract_only (book.thens {r = r} {first = first} {other = other} {guard = guard} e g t b) h =
          abstract_only b (good_parts r (Rule-F.If guard first other) e h).0
      abstract_only (book.elses {r = r} {first = first} {other = other} {guard = guard} e g t b) h =
          abstract_else b (good_parts r (Rule-F.If guard first other) e h).1
      abstract_only (book.foralls {r = r} {body = body} {ranges = ranges} {guard = guard}
          {span = span} e b) h =
          abstract_each b (good_parts r (Rule-F.Forall ranges guard body span) e h).0
      abstract_only (book.chooses {r = r} {body = body} {other = other} {ranges = ranges}
          {guard = guard} {place = place} e c m g t b) h =
          abstract_only b (good_parts r (Rule-F.Choose ranges guard body other place) e h).0
      abstract_only (book.chooses_none {r = r} {body = body} {other = other} {ranges = ranges}
          {guard = guard} {place = place} e none b) h =
          abstract_else b (good_parts r (Rule-F.Choose ranges guard body other place) e h).1
      abstract_only (book.lets {r = r} {body = body} {values = values} e binds b) h =
          abstract_only b (good_parts r (Rule-F.Let values body) e h).0
      abstract_only (book.switches {r = r} {value = value} {cases = cases}
          {other = other} e v b) h =
          abstract_cases b (good_parts r (Rule-F.Switch value cases other) e h)
      abstract_only (book.extends {r = r} {body = body} {d = d} {count = count} {span = span}
          {new = new} e indexes many outside distinct b apart) h =
          all_append OfAbstract (member_locations d indexes) new
          (taken_abstract d indexes (and_first (is_abstract p.domains d) _
          (good_level r (Rule-F.Extend d count body span) e h)))
          (abstract_only b (good_parts r (Rule-F.Extend d count body span) e h).0)

      abstract_all : {state : StateMap} {env : List Value} {rs : List Rule} {u : UpdateSet}
          {new : List Location}
          → BookAll p start state env rs u new → AllByRecursion Good rs
          → AllByRecursion OfAbstract new
      abstract_all book.no_rule h = tt
      abstract_all (book.one_rule {new = new} {more = more} b bs apart) h =
          all_append OfAbstract new more (abstract_only b h.0) (abstract_all bs h.1)

      abstract_in_turn : {state : StateMap} {env : List Value} {sofar : UpdateSet} {rs : List Rule}
          {u : UpdateSet} {new : List Location}
          → BookInTurn p start state env sofar rs u new → AllByRecursion Good rs
          → AllByRecursion OfAbstract new
      abstract_in_turn book.none_left h = tt
      abstract_in_turn (book.clash c) h = tt
      abstract_in_turn (book.in_turn {new = new} {more = more} one b bs apart) h =
          all_append OfAbstract new more (abstract_only b h.0) (abstract_in_turn bs h.1)

      abstract_else : {state : StateMap} {env : List Value} {o : Option Rule} {u : UpdateSet}
          {new : List Location}
          → BookElse p start state env o u new → AllByRecursion Good (optional o)
          → AllByRecursion OfAbstract new
      abstract_else book.no_other h = tt
      abstract_else (book.the_other b) h = abstract_only b h.0

      abstract_each : {state : StateMap} {env : List Value} {guard : Option Term} {body : Rule}
          {cs : List (List Value)} {u : UpdateSet} {new : List Location}
          → BookEach p start state env guard body cs u new → Good body
          → AllByRecursion OfAbstract new
      abstract_each book.no_combination h = tt
      abstract_each (book.passed_over g t b) h = abstract_each b h
      abstract_each (book.one_combination {new = new} {more = more} g t b bs apart) h =
          all_append OfAbstract new more (abstract_only b h) (abstract_each bs h)

      abstract_cases : {state : StateMap} {env : List Value} {v : Value} {cases : List RuleCase}
          {o : Option Rule} {u : UpdateSet} {new : List Location}
          → BookCases p start state env v cases o u new → AllByRecursion Good
          (map case_rule cases ++ optional o) → AllByRecursion OfAbstract new
      abstract_cases (book.no_case b) h = abstract_else b h
      abstract_cases (book.this_case g t b) h = abstract_only b h.0
      abstract_cases (book.a_later_case g t b) h = abstract_cases b h.1

  good_at : (macros : List MacroInfo) (m : ℕ) (body : Rule)
      → list_all (λ info. extends info.body) macros ≡ true
      → rule_in (slice_get macros m) ≡ Some body → Good body
  good_at [] m body h e = absurd (cc)
  good_at (info ∷ macros) zero body h e =
      let is : info.body ≡ body = cc in subst Good is (and_first (extends info.body) _ h)
  good_at (info ∷ macros) (suc m) body h e =
      good_at macros m body (and_second (extends info.body) _ h) e

  -- of what the main rule yields
  pub new_are_abstract : extends_are_abstract p ≡ true → {state : StateMap} {env : List Value}
      {u : UpdateSet} {new : List Location}
      → Book p start state env p.main u new → AllByRecursion OfAbstract new
  new_are_abstract h b =
      abstract_only (λ m body e. good_at p.macros m body (and_second (extends p.main) _ h) e) b
      (and_first (extends p.main) _ h)
