-- What each form of terms gives in a view: the definitions' words with the view in their place.
use Rattle.std.specs.Prelude.{ℕ, Bool, true, false, if◌then◌else◌, Option, Some, None, List}
use Rattle.std.specs.Prelude.{◌++◌, map}
use Rattle.std.specs.Option.{option_map}
use Rattle.asm_value.specs.declared.value.Value.{Value}
use Rattle.asm_value.specs.declared.domain.Domain.{Domain}
use Rattle.asm_value.specs.Living.{is_true}
use Rattle.asm_value.specs.Ranges.{tuples}
use Rattle.asm_syntax.specs.declared.token.Span.{Span}
use Rattle.asm_tables.specs.declared.rows.Operation.{Operation}
use Rattle.asm_operations.specs.Operations.{tuple_of, sequence_of, set_of, interval_of}
use Rattle.asm_program.specs.declared.outcome.Fault.{Fault}
use Rattle.asm_program.specs.declared.outcome.Outcome.{Outcome}
use Rattle.asm_program.specs.declared.outcome.Outcome.TheVariants.{Value as Gives, Fault as Faults}
use Rattle.asm_program.specs.declared.outcome.Parts.{Parts}
use Rattle.asm_program.specs.declared.outcome.Parts.TheVariants as parts
use Rattle.asm_program.specs.declared.trees.Term.{Term}
use Rattle.asm_program.specs.declared.trees.Case.{Case}
use Rattle.asm_program.specs.Meaning.{Meaning, on_value, on_parts, all_of, bind_all, truth}
use Rattle.asm_program.specs.Meaning.{is_false, conjunction, disjunction, implication, of_applied}
use Rattle.asm_program.specs.Meaning.{otherwise, first_case, read, values, eval}
use Rattle.asm_program.specs.MeaningLaws.{operation_of, case_meanings}
use Rattle.asm_terms.specs.declared.results.Evaluated.{Evaluated}
use Rattle.asm_terms.specs.declared.results.Evaluated.TheVariants as evaluated
use Rattle.asm_terms.specs.declared.quantifier.Quantifier.{Quantifier}
use Rattle.asm_terms.specs.declared.view.View.{View}
use Rattle.asm_terms.specs.declared.quantifier.Progress.{Progress}
use Rattle.asm_terms.specs.Quantifiers.{walked, quantified}
use Rattle.asm_terms.specs.Views.{program_of, map_of, range}

-- what a term gives, what both terms of a case give, and what a function that a term defines gives
unfoldable pub gives : View → Term → Meaning
gives view t = eval (program_of view) (map_of view) t

unfoldable pub case_gives : View → Case → Meaning × Meaning
case_gives view c = case_meanings (program_of view) (map_of view) c

unfoldable pub call_gives : View → ℕ → Meaning
call_gives view f = values (program_of view) (map_of view) 512 f

-- ---- several terms

abbrev pub parts_of : Evaluated → Parts
parts_of (evaluated.Values vs) = parts.Values vs.items
parts_of (evaluated.Fault e) = parts.Fault e

-- the outcome, unless a fault came before
abbrev pub unless_fault : Option Fault → Outcome → Outcome
unless_fault None outcome = outcome
unless_fault (Some e) outcome = Faults e

module _ (view : View) where
  abbrev pub all_give : List Term → List Value → Parts
  all_give ts env = all_of (map (gives view) ts) env

  abbrev pub binds : List Term → List Value → (List Value → Outcome) → Outcome
  binds ts env go = bind_all (map (gives view) ts) env go

  -- the members of each domain
  abbrev pub ranges_in : List Domain → List (List Value)
  ranges_in ranges = map (range view) ranges

  -- ---- each form

  abbrev pub operator_gives : Option Operation → List Term → Span → Meaning
  operator_gives operation args span env =
      on_parts (all_give args env) (operation_of span operation)

  -- where the left side has this value, and whole
  abbrev pub and_after : Value → Term → Meaning
  and_after v right env =
      if is_false v then truth false else on_value (gives view right env) (conjunction v)

  abbrev pub and_gives : Term → Term → Meaning
  and_gives left right env = on_value (gives view left env) (λ v. and_after v right env)

  abbrev pub or_after : Value → Term → Meaning
  or_after v right env =
      if is_true v then truth true else on_value (gives view right env) (disjunction v)

  abbrev pub or_gives : Term → Term → Meaning
  or_gives left right env = on_value (gives view left env) (λ v. or_after v right env)

  abbrev pub implies_after : Value → Term → Meaning
  implies_after v right env =
      if is_false v then truth true else on_value (gives view right env) (implication v)

  abbrev pub implies_gives : Term → Term → Meaning
  implies_gives left right env = on_value (gives view left env) (λ v. implies_after v right env)

  abbrev pub read_gives : ℕ → List Term → Meaning
  read_gives f args env =
      on_parts (all_give args env) (λ vs. Gives (read (program_of view) (map_of view) f vs))

  abbrev pub call_of_gives : ℕ → List Term → Meaning
  call_of_gives f args env = on_parts (all_give args env) (call_gives view f)

  abbrev pub tuple_gives : List Term → Span → Meaning
  tuple_gives items span env =
      on_parts (all_give items env) (λ vs. of_applied span (tuple_of vs))

  -- how far a quantifier comes by these combinations of the innermost variables
  abbrev pub walks : Quantifier → Bool → List (List Value) → Term → List Value → Progress
  walks q found cs body env = walked q found cs (λ c. gives view body (env ++ c))

  abbrev pub quantifier_gives : Quantifier → List Domain → Term → Meaning
  quantifier_gives q ranges body env =
      quantified q (tuples (ranges_in ranges)) (λ c. gives view body (env ++ c))

  abbrev pub interval_from : Value → Term → Span → Meaning
  interval_from v to span env =
      on_value (gives view to env) (λ w. of_applied span (interval_of v w))

  abbrev pub interval_gives : Term → Term → Span → Meaning
  interval_gives from to span env =
      on_value (gives view from env) (λ v. interval_from v to span env)

  abbrev pub set_gives : List Term → Span → Meaning
  set_gives items span env = on_parts (all_give items env) (λ vs. of_applied span (set_of vs))

  abbrev pub sequence_gives : List Term → Span → Meaning
  sequence_gives items span env =
      on_parts (all_give items env) (λ vs. of_applied span (sequence_of vs))

  abbrev pub other_gives : Option Term → Meaning
  other_gives other env = otherwise (option_map (gives view) other) env

  abbrev pub if_gives : Term → Term → Option Term → Meaning
  if_gives guard first other env =
      on_value (gives view guard env) (λ v.
      if is_true v then gives view first env else other_gives other env)

  abbrev pub let_gives : List Term → Term → Meaning
  let_gives bound body env = binds bound env (gives view body)

  abbrev pub cases_give : Value → List Case → Option Term → Meaning
  cases_give v cases other env =
      first_case v (map (case_gives view) cases) (option_map (gives view) other) env

  abbrev pub switch_gives : Term → List Case → Option Term → Meaning
  switch_gives value cases other env =
      on_value (gives view value env) (λ v. cases_give v cases other env)
