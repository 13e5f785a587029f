-- The new members of one step differ, and the state in which it begins has none of them.
use Rattle.std.proofs.Common.{ℕ, Option, List, [], ◌∷◌, ◌++◌, refl}
use Rattle.std.specs.List.{AllByRecursion}
use Rattle.asm_value.specs.declared.value.Value.{Value}
use Rattle.asm_value.specs.declared.location.Location.{Location}
use Rattle.asm_value.specs.State.{StateMap}
use Rattle.asm_value.specs.UpdateSet.{UpdateSet}
use Rattle.asm_program.specs.declared.trees.Term.{Term}
use Rattle.asm_program.specs.declared.trees.Rule.{Rule}
use Rattle.asm_program.specs.declared.trees.RuleCase.{RuleCase}
use Rattle.asm_program.specs.declared.program.Program.{Program}
use Rattle.asm_program.specs.BookYields as book
use Rattle.asm_program.specs.BookYields.{Book, BookAll, BookInTurn, BookElse, BookEach, BookCases}
use Rattle.asm_program.specs.BookYields.{AreDisjoint, AreDistinct, IsOutside, member_locations}
use Rattle.asm_program.specs.RuleLaws.{IsNewMember, NewMembersDiffer}
use Rattle.asm_program.proofs.Numbering.{distinct_append}
use Rattle.asm_value.proofs.RangeLaws.{all_append}

module _ (p : Program) (start : StateMap) where
  -- they differ, and the first state has none
  abbrev AreNew : List Location → Type 0
  AreNew new = AreDistinct new × AllByRecursion (IsNewMember start) new

  new_append : (new more : List Location) → AreNew new → AreNew more → AreDisjoint new more
      → AreNew (new ++ more)
  new_append new more h k apart =
      (distinct_append new more h.0 k.0 apart, all_append (IsNewMember start) new more h.1 k.1)

  taken_outside : (d : ℕ) (indexes : List ℕ) → AllByRecursion (IsOutside start d) indexes
      → AllByRecursion (IsNewMember start) (member_locations d indexes)
  taken_outside d [] h = tt
  taken_outside d (i ∷ indexes) h = ((d, i, refl, h.0), taken_outside d indexes h.1)

  none_new : AreNew []
  none_new = (tt, tt)

  mutual
    differ : {state : StateMap} {env : List Value} {r : Rule} {u : UpdateSet} {new : List Location}
        → Book p start state env r u new → AreNew new
    differ (book.skips e) = none_new
    differ (book.calls e args found b) = differ b
    differ (book.calls_none e args none) = none_new
    differ (book.updates e args value) = none_new
    differ (book.pars e b) = differ_all b
    differ (book.seqs e b) = differ_in_turn b
    differ (book.thens e g t b) = differ b
    differ (book.elses e g t b) = differ_else b
    differ (book.foralls e b) = differ_each b
    differ (book.chooses e c m g t b) = differ b
    differ (book.chooses_none e none b) = differ_else b
    differ (book.lets e binds b) = differ b
    differ (book.switches e v b) = differ_cases b
    differ (book.extends {d = d} {new = new} e indexes many outside distinct b apart) =
        new_append (member_locations d indexes) new (distinct, taken_outside d indexes outside)
        (differ b) apart

    differ_all : {state : StateMap} {env : List Value} {rs : List Rule} {u : UpdateSet}
        {new : List Location}
        → BookAll p start state env rs u new → AreNew new
    differ_all book.no_rule = none_new
    differ_all (book.one_rule {new = new} {more = more} b bs apart) =
        new_append new more (differ b) (differ_all bs) apart

    differ_in_turn : {state : StateMap} {env : List Value} {sofar : UpdateSet} {rs : List Rule}
        {u : UpdateSet} {new : List Location}
        → BookInTurn p start state env sofar rs u new → AreNew new
    differ_in_turn book.none_left = none_new
    differ_in_turn (book.clash c) = none_new
    differ_in_turn (book.in_turn {new = new} {more = more} one b bs apart) =
        new_append new more (differ b) (differ_in_turn bs) apart

    differ_else : {state : StateMap} {env : List Value} {o : Option Rule} {u : UpdateSet}
        {new : List Location}
        → BookElse p start state env o u new → AreNew new
    differ_else book.no_other = none_new
    differ_else (book.the_other b) = differ b

    differ_each : {state : StateMap} {env : List Value} {guard : Option Term} {body : Rule}
        {cs : List (List Value)} {u : UpdateSet} {new : List Location}
        → BookEach p start state env guard body cs u new → AreNew new
    differ_each book.no_combination = none_new
    differ_each (book.passed_over g t b) = differ_each b
    differ_each (book.one_combination {new = new} {more = more} g t b bs apart) =
        new_append new more (differ b) (differ_each bs) apart

    differ_cases : {state : StateMap} {env : List Value} {v : Value} {cases : List RuleCase}
        {o : Option Rule} {u : UpdateSet} {new : List Location}
        → BookCases p start state env v cases o u new → AreNew new
    differ_cases (book.no_case b) = differ_else b
    differ_cases (book.this_case g t b) = differ b
    differ_cases (book.a_later_case g t b) = differ_cases b

pub new_members_differ : (p : Program) → NewMembersDiffer p
new_members_differ p start state env r u new b = differ p start b
