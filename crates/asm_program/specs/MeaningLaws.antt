-- The equations of what terms give: one for each form, and what a call gives.
use Rattle.std.proofs.Common.{◌≡◌, ℕ, true, false, if◌then◌else◌, Option, Some, None}
use Rattle.std.proofs.Common.{List, ◌++◌, map, slice_get, unwrap_or, refl, ap, ◌∙◌}
use Rattle.std.proofs.Common.{◌≤◌, length, arith}
use Rattle.std.specs.Option.{option_map}
use Rattle.asm_value.specs.declared.value.Value.{Value}
use Rattle.asm_value.specs.declared.value.Value.TheVariants.{Undef}
use Rattle.asm_value.specs.declared.domain.Domain.{Domain}
use Rattle.asm_value.specs.Living.{is_true}
use Rattle.asm_value.specs.State.{StateMap}
use Rattle.asm_syntax.specs.declared.token.Span.{Span}
use Rattle.asm_tables.specs.declared.rows.Operation.{Operation}
use Rattle.asm_operations.specs.Operations.{apply, tuple_of, sequence_of, set_of, interval_of}
use Rattle.asm_program.specs.declared.outcome.Outcome.{Outcome}
use Rattle.asm_program.specs.declared.outcome.Outcome.TheVariants.{Value as Gives}
use Rattle.asm_program.specs.declared.trees.Term.{Term}
use Rattle.asm_program.specs.declared.trees.Case.{Case}
use Rattle.asm_program.specs.declared.trees.Term.TheOpen.{Term-F}
use Rattle.asm_program.specs.declared.trees.Term.TheVariants as form
use Rattle.asm_program.specs.declared.trees.Term.TheViews.{out-Term, out-Case}
use Rattle.asm_program.specs.declared.program.Program.{Program}
use Rattle.asm_program.specs.Forms.{body_of}
use Rattle.asm_program.specs.Meaning.{Meaning, on_value, on_parts, all_of, bind_all}
use Rattle.asm_program.specs.Meaning.{truth, undefined, is_false, conjunction, disjunction}
use Rattle.asm_program.specs.Meaning.{implication, of_applied, for_all, for_some, for_one}
use Rattle.asm_program.specs.Meaning.{otherwise, first_case, read, over, eval_level, values, eval}
use Rattle.asm_program.specs.CallLaws.{LooksAtCalled, of_case, mapped, of_term-out, of_case-out}
use Rattle.asm_program.specs.CallLaws.{of_function-body, of_function-None}
use Rattle.asm_program.specs.CallLaws.{of_function-deeper, nesting-bound}
use Rattle.asm_program.specs.FormViews as views

-- an operation, or an operator that is only admitted, of these arguments
abbrev pub operation_of : Span → Option Operation → List Value → Outcome
operation_of span None vs = undefined
operation_of span (Some operation) vs = of_applied span (apply operation vs)

-- what both terms of a case give
abbrev pub case_meanings : Program → StateMap → Case → Meaning × Meaning
case_meanings p state = of_case (eval_level p state) (values p state 512)

pub eval_looks : (p : Program) (state : StateMap) → LooksAtCalled (eval_level p state)
eval_looks p state c d (Term-F.Operator None args span) h = refl
eval_looks p state c d (Term-F.Operator (Some o) args span) h = refl
eval_looks p state c d (Term-F.Call f args) h = λ i env. on_parts (all_of args env) (h f refl i)
eval_looks p state c d a h = refl

-- what a function gives is what its term gives with the arguments as its variables
pub values-body : (p : Program) (state : StateMap) (f : ℕ) (body : Term) (vs : List Value)
    → body_of p.functions f ≡ Some body → values p state 512 f vs ≡ eval p state body vs
values-body p state f body vs e =
    ap (λ g. g vs) (of_function-body p.functions p.ranked (eval_level p state)
    (eval_looks p state) (λ ws. undefined) p.few f body e)

pub values-none : (p : Program) (state : StateMap) (f : ℕ) (vs : List Value)
    → body_of p.functions f ≡ None → values p state 512 f vs ≡ undefined
values-none p state f vs e =
    ap (λ g. g vs) (of_function-None (eval_level p state) (λ ws. undefined) p.functions 512 f e)

-- one level of what a term gives
pub eval-out : (p : Program) (state : StateMap) (t : Term) (env : List Value)
    → eval p state t env
    ≡ eval_level p state (values p state 512)
    (mapped (eval_level p state) (values p state 512) (out-Term t)) env
eval-out p state t env =
    ap (λ f. f env) (of_term-out (eval_level p state) (values p state 512) t)

-- following calls deeper changes nothing
pub values-deeper : (p : Program) (state : StateMap) (n f : ℕ) (vs : List Value) → 512 ≤ n
    → values p state n f vs ≡ values p state 512 f vs
values-deeper p state n f vs h =
    let b = nesting-bound p.functions (length p.functions) f in
    let few = p.few in
    ap (λ g. g vs) (of_function-deeper p.functions p.ranked (eval_level p state)
    (eval_looks p state) (λ ws. undefined) n 512 f (omega (arith, b, few, h))
    (omega (arith, b, few)))

-- a term gives what one level of it gives
abbrev pub MeansByParts : Type 0
MeansByParts =
    (p : Program) (state : StateMap) (t : Term) (env : List Value)
    → eval p state t env
    ≡ eval_level p state (values p state 512)
    (mapped (eval_level p state) (values p state 512) (out-Term t)) env

pub case_meanings-out : (p : Program) (state : StateMap) (c : Case)
    → case_meanings p state c
    ≡ (eval p state (out-Case c).value, eval p state (out-Case c).term)
case_meanings-out p state c = of_case-out (eval_level p state) (values p state 512) c

module _ (p : Program) (state : StateMap) (t : Term) (env : List Value) where
  meant : (a : Term-F Term Case) → out-Term t ≡ a
      → eval p state t env
      ≡ eval_level p state (values p state 512)
      (mapped (eval_level p state) (values p state 512) a) env
  meant a e =
      eval-out p state t env
      ∙ ap (λ x. eval_level p state (values p state 512)
      (mapped (eval_level p state) (values p state 512) x) env) e

  pub eval-Operator : (o : Option Operation) (args : List Term) (span : Span) → t
      ≡ form.Operator o args span
      → eval p state t env
      ≡ on_parts (all_of (map (eval p state) args) env) (λ vs. operation_of span o vs)
  eval-Operator None args span is =
      meant (Term-F.Operator None args span) (ap out-Term is ∙ views.out-Operator None args span)
  eval-Operator (Some row) args span is =
      meant (Term-F.Operator (Some row) args span)
      (ap out-Term is ∙ views.out-Operator (Some row) args span)

  pub eval-And : (a : Term) (b : Term) → t ≡ form.And a b
      → eval p state t env
      ≡ on_value (eval p state a env) (λ v. if is_false v then truth false else on_value
      (eval p state b env) (conjunction v))
  eval-And a b is =
      meant (Term-F.And a b) (ap out-Term is ∙ views.out-And a b)

  pub eval-Or : (a : Term) (b : Term) → t ≡ form.Or a b
      → eval p state t env
      ≡ on_value (eval p state a env) (λ v. if is_true v then truth true else on_value
      (eval p state b env) (disjunction v))
  eval-Or a b is =
      meant (Term-F.Or a b) (ap out-Term is ∙ views.out-Or a b)

  pub eval-Implies : (a : Term) (b : Term) → t ≡ form.Implies a b
      → eval p state t env
      ≡ on_value (eval p state a env) (λ v. if is_false v then truth true else on_value
      (eval p state b env) (implication v))
  eval-Implies a b is =
      meant (Term-F.Implies a b) (ap out-Term is ∙ views.out-Implies a b)

  pub eval-Constant : (v : Value) → t ≡ form.Constant v
      → eval p state t env
      ≡ Gives v
  eval-Constant v is =
      meant (Term-F.Constant v) (ap out-Term is ∙ views.out-Constant v)

  pub eval-Variable : (i : ℕ) → t ≡ form.Variable i
      → eval p state t env
      ≡ Gives (unwrap_or (slice_get env i) Undef)
  eval-Variable i is =
      meant (Term-F.Variable i) (ap out-Term is ∙ views.out-Variable i)

  pub eval-Read : (f : ℕ) (args : List Term) → t ≡ form.Read f args
      → eval p state t env
      ≡ on_parts (all_of (map (eval p state) args) env) (λ vs. Gives (read p state f vs))
  eval-Read f args is =
      meant (Term-F.Read f args) (ap out-Term is ∙ views.out-Read f args)

  pub eval-Call : (f : ℕ) (args : List Term) → t ≡ form.Call f args
      → eval p state t env
      ≡ on_parts (all_of (map (eval p state) args) env) (values p state 512 f)
  eval-Call f args is =
      meant (Term-F.Call f args) (ap out-Term is ∙ views.out-Call f args)

  pub eval-Tuple : (items : List Term) (span : Span) → t ≡ form.Tuple items span
      → eval p state t env
      ≡ on_parts (all_of (map (eval p state) items) env) (λ vs. of_applied span (tuple_of vs))
  eval-Tuple items span is =
      meant (Term-F.Tuple items span) (ap out-Term is ∙ views.out-Tuple items span)

  pub eval-Forall : (ranges : List Domain) (b : Term) → t ≡ form.Forall ranges b
      → eval p state t env
      ≡ for_all (over p state ranges) (λ c. eval p state b (env ++ c))
  eval-Forall ranges b is =
      meant (Term-F.Forall ranges b) (ap out-Term is ∙ views.out-Forall ranges b)

  pub eval-Exist : (ranges : List Domain) (b : Term) → t ≡ form.Exist ranges b
      → eval p state t env
      ≡ for_some (over p state ranges) (λ c. eval p state b (env ++ c))
  eval-Exist ranges b is =
      meant (Term-F.Exist ranges b) (ap out-Term is ∙ views.out-Exist ranges b)

  pub eval-ExistUnique : (ranges : List Domain) (b : Term) → t ≡ form.ExistUnique ranges b
      → eval p state t env
      ≡ for_one false (over p state ranges) (λ c. eval p state b (env ++ c))
  eval-ExistUnique ranges b is =
      meant (Term-F.ExistUnique ranges b) (ap out-Term is ∙ views.out-ExistUnique ranges b)

  pub eval-Interval : (a : Term) (b : Term) (span : Span) → t ≡ form.Interval a b span
      → eval p state t env
      ≡ on_value (eval p state a env) (λ v. on_value (eval p state b env)
      (λ w. of_applied span (interval_of v w)))
  eval-Interval a b span is =
      meant (Term-F.Interval a b span) (ap out-Term is ∙ views.out-Interval a b span)

  pub eval-Set : (items : List Term) (span : Span) → t ≡ form.Set items span
      → eval p state t env
      ≡ on_parts (all_of (map (eval p state) items) env) (λ vs. of_applied span (set_of vs))
  eval-Set items span is =
      meant (Term-F.Set items span) (ap out-Term is ∙ views.out-Set items span)

  pub eval-Seq : (items : List Term) (span : Span) → t ≡ form.Seq items span
      → eval p state t env
      ≡ on_parts (all_of (map (eval p state) items) env) (λ vs. of_applied span (sequence_of vs))
  eval-Seq items span is =
      meant (Term-F.Seq items span) (ap out-Term is ∙ views.out-Seq items span)

  pub eval-If : (a : Term) (b : Term) (other : Option Term) → t ≡ form.If a b other
      → eval p state t env
      ≡ on_value (eval p state a env) (λ v. if is_true v then eval p state b env else otherwise
      (option_map (eval p state) other) env)
  eval-If a b None is =
      meant (Term-F.If a b None) (ap out-Term is ∙ views.out-If a b None)
  eval-If a b (Some o) is =
      meant (Term-F.If a b (Some o)) (ap out-Term is ∙ views.out-If a b (Some o))

  pub eval-Let : (bound : List Term) (b : Term) → t ≡ form.Let bound b
      → eval p state t env
      ≡ bind_all (map (eval p state) bound) env (eval p state b)
  eval-Let bound b is =
      meant (Term-F.Let bound b) (ap out-Term is ∙ views.out-Let bound b)

  pub eval-Switch : (a : Term) (cases : List Case) (other : Option Term) → t
      ≡ form.Switch a cases other
      → eval p state t env
      ≡ on_value (eval p state a env) (λ v. first_case v (map (case_meanings p state) cases)
      (option_map (eval p state) other) env)
  eval-Switch a cases None is =
      meant (Term-F.Switch a cases None) (ap out-Term is ∙ views.out-Switch a cases None)
  eval-Switch a cases (Some o) is =
      meant (Term-F.Switch a cases (Some o)) (ap out-Term is ∙ views.out-Switch a cases (Some o))
