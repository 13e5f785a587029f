-- What a term gives in a view, form by form.
use Rattle.std.proofs.Common.{◌≡◌, ℕ, Option, Some, None, List, unwrap_or, slice_get}
use Rattle.asm_value.specs.declared.value.Value.{Value}
use Rattle.asm_value.specs.declared.domain.Domain.{Domain}
use Rattle.asm_syntax.specs.declared.token.Span.{Span}
use Rattle.asm_tables.specs.declared.rows.Operation.{Operation}
use Rattle.asm_program.specs.declared.trees.Term.{Term}
use Rattle.asm_program.specs.declared.trees.Case.{Case}
use Rattle.asm_program.specs.declared.trees.Term.TheVariants as form
use Rattle.asm_terms.specs.declared.view.View.{View}
use Rattle.asm_terms.specs.Views.{program_of, map_of}
use Rattle.asm_value.specs.declared.value.Value.TheVariants.{Undef}
use Rattle.asm_program.specs.declared.outcome.Outcome.TheVariants.{Value as Gives}
use Rattle.asm_program.specs.Forms.{body_of}
use Rattle.asm_program.specs.Meaning.{undefined}
use Rattle.asm_program.specs.MeaningLaws as laws
use Rattle.asm_terms.specs.declared.quantifier.Quantifier.TheVariants as q
use Rattle.asm_terms.specs.Evaluation.{gives, case_gives, call_gives, operator_gives, and_gives}
use Rattle.asm_terms.specs.Evaluation.{or_gives, implies_gives, read_gives, call_of_gives}
use Rattle.asm_terms.specs.Evaluation.{tuple_gives, quantifier_gives, interval_gives, set_gives}
use Rattle.asm_terms.specs.Evaluation.{sequence_gives, if_gives, let_gives, switch_gives}

module _ (view : View) (t : Term) (env : List Value) where
  pub gives-Operator : (o : Option Operation) (args : List Term) (span : Span) → t
      ≡ form.Operator o args span
      → gives view t env ≡ operator_gives view o args span env
  unfolding gives case_gives call_gives
  gives-Operator o args span is = laws.eval-Operator (program_of view) (map_of view) t env o args
      span is

  pub gives-And : (a : Term) (b : Term) → t ≡ form.And a b
      → gives view t env ≡ and_gives view a b env
  unfolding gives case_gives call_gives
  gives-And a b is = laws.eval-And (program_of view) (map_of view) t env a b is

  pub gives-Or : (a : Term) (b : Term) → t ≡ form.Or a b
      → gives view t env ≡ or_gives view a b env
  unfolding gives case_gives call_gives
  gives-Or a b is = laws.eval-Or (program_of view) (map_of view) t env a b is

  pub gives-Implies : (a : Term) (b : Term) → t ≡ form.Implies a b
      → gives view t env ≡ implies_gives view a b env
  unfolding gives case_gives call_gives
  gives-Implies a b is = laws.eval-Implies (program_of view) (map_of view) t env a b is

  pub gives-Constant : (v : Value) → t ≡ form.Constant v
      → gives view t env ≡ Gives v
  unfolding gives case_gives call_gives
  gives-Constant v is = laws.eval-Constant (program_of view) (map_of view) t env v is

  pub gives-Variable : (i : ℕ) → t ≡ form.Variable i
      → gives view t env ≡ Gives (unwrap_or (slice_get env i) Undef)
  unfolding gives case_gives call_gives
  gives-Variable i is = laws.eval-Variable (program_of view) (map_of view) t env i is

  pub gives-Read : (f : ℕ) (args : List Term) → t ≡ form.Read f args
      → gives view t env ≡ read_gives view f args env
  unfolding gives case_gives call_gives
  gives-Read f args is = laws.eval-Read (program_of view) (map_of view) t env f args is

  pub gives-Call : (f : ℕ) (args : List Term) → t ≡ form.Call f args
      → gives view t env ≡ call_of_gives view f args env
  unfolding gives case_gives call_gives
  gives-Call f args is = laws.eval-Call (program_of view) (map_of view) t env f args is

  pub gives-Tuple : (items : List Term) (span : Span) → t ≡ form.Tuple items span
      → gives view t env ≡ tuple_gives view items span env
  unfolding gives case_gives call_gives
  gives-Tuple items span is = laws.eval-Tuple (program_of view) (map_of view) t env items span is

  pub gives-Forall : (ranges : List Domain) (b : Term) → t ≡ form.Forall ranges b
      → gives view t env ≡ quantifier_gives view q.Forall ranges b env
  unfolding gives case_gives call_gives
  gives-Forall ranges b is = laws.eval-Forall (program_of view) (map_of view) t env ranges b is

  pub gives-Exist : (ranges : List Domain) (b : Term) → t ≡ form.Exist ranges b
      → gives view t env ≡ quantifier_gives view q.Exist ranges b env
  unfolding gives case_gives call_gives
  gives-Exist ranges b is = laws.eval-Exist (program_of view) (map_of view) t env ranges b is

  pub gives-ExistUnique : (ranges : List Domain) (b : Term) → t ≡ form.ExistUnique ranges b
      → gives view t env ≡ quantifier_gives view q.ExistUnique ranges b env
  unfolding gives case_gives call_gives
  gives-ExistUnique ranges b is = laws.eval-ExistUnique (program_of view) (map_of view) t env
      ranges b is

  pub gives-Interval : (a : Term) (b : Term) (span : Span) → t ≡ form.Interval a b span
      → gives view t env ≡ interval_gives view a b span env
  unfolding gives case_gives call_gives
  gives-Interval a b span is = laws.eval-Interval (program_of view) (map_of view) t env a b span is

  pub gives-Set : (items : List Term) (span : Span) → t ≡ form.Set items span
      → gives view t env ≡ set_gives view items span env
  unfolding gives case_gives call_gives
  gives-Set items span is = laws.eval-Set (program_of view) (map_of view) t env items span is

  pub gives-Seq : (items : List Term) (span : Span) → t ≡ form.Seq items span
      → gives view t env ≡ sequence_gives view items span env
  unfolding gives case_gives call_gives
  gives-Seq items span is = laws.eval-Seq (program_of view) (map_of view) t env items span is

  pub gives-If : (a : Term) (b : Term) (other : Option Term) → t ≡ form.If a b other
      → gives view t env ≡ if_gives view a b other env
  unfolding gives case_gives call_gives
  gives-If a b other is = laws.eval-If (program_of view) (map_of view) t env a b other is

  pub gives-Let : (bound : List Term) (b : Term) → t ≡ form.Let bound b
      → gives view t env ≡ let_gives view bound b env
  unfolding gives case_gives call_gives
  gives-Let bound b is = laws.eval-Let (program_of view) (map_of view) t env bound b is

  pub gives-Switch : (a : Term) (cases : List Case) (other : Option Term) → t
      ≡ form.Switch a cases other
      → gives view t env ≡ switch_gives view a cases other env
  unfolding gives case_gives call_gives
  gives-Switch a cases other is = laws.eval-Switch (program_of view) (map_of view) t env a cases
      other is

pub call_gives-Some : (view : View) (f : ℕ) (body : Term) (vs : List Value)
    → body_of (program_of view).functions f ≡ Some body → call_gives view f vs ≡ gives view body vs
unfolding gives call_gives
call_gives-Some view f body vs e = laws.values-body (program_of view) (map_of view) f body vs e

pub call_gives-None : (view : View) (f : ℕ) (vs : List Value)
    → body_of (program_of view).functions f ≡ None → call_gives view f vs ≡ undefined
unfolding call_gives
call_gives-None view f vs e = laws.values-none (program_of view) (map_of view) f vs e

pub case_gives-out : (view : View) (c : Case)
    → case_gives view c ≡ (gives view c.value, gives view c.term)
unfolding gives case_gives
case_gives-out view c = laws.case_meanings-out (program_of view) (map_of view) c

pub ruleset call_steps = (call_gives-Some, call_gives-None)
