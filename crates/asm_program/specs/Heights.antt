-- The height of a term: a number that falls from a term to its parts, and from a call to the called
-- body.
use Rattle.std.proofs.Common.{◌≡◌, ℕ, ◌+◌, max, Option, Some, None, List, [], ◌∷◌, ◌++◌}
use Rattle.std.proofs.Common.{map, length, refl, ap, ◌∙◌}
use Rattle.std.specs.Option.{option_map}
use Rattle.asm_value.specs.declared.value.Value.{Value}
use Rattle.asm_value.specs.declared.domain.Domain.{Domain}
use Rattle.asm_syntax.specs.declared.token.Span.{Span}
use Rattle.asm_tables.specs.declared.rows.Operation.{Operation}
use Rattle.asm_program.specs.declared.trees.Term.{Term}
use Rattle.asm_program.specs.declared.trees.Case.{Case}
use Rattle.asm_program.specs.declared.trees.Term.TheOpen.{Term-F}
use Rattle.asm_program.specs.declared.trees.Term.TheVariants as form
use Rattle.asm_program.specs.declared.trees.Term.TheViews.{out-Term, out-Case}
use Rattle.asm_program.specs.declared.program.FunctionInfo.{FunctionInfo}
use Rattle.asm_program.specs.declared.program.Program.{Program}
use Rattle.asm_program.specs.Forms.{optional, of_cases, parts, body_of, of_term, of_function}
use Rattle.asm_program.specs.Nesting.{greatest}
use Rattle.asm_program.specs.CallLaws.{LooksAtCalled, of_case, mapped, of_term-out, of_case-out}
use Rattle.asm_program.specs.CallLaws.{of_function-body}
use Rattle.asm_program.specs.FormViews as views

-- a quantifier counts its ranges too
abbrev pub height_level : (ℕ → ℕ) → Term-F ℕ (ℕ × ℕ) → ℕ
height_level calls (Term-F.Call f args) = 1 + max (greatest args) (calls f)
height_level calls (Term-F.Forall ranges body) = 1 + length ranges + body
height_level calls (Term-F.Exist ranges body) = 1 + length ranges + body
height_level calls (Term-F.ExistUnique ranges body) = 1 + length ranges + body
height_level calls a = 1 + greatest (parts a)

-- the height of a function's term, 0 where it has none
abbrev pub height_of : List FunctionInfo → ℕ → ℕ
height_of functions = of_function height_level 0 functions 512

abbrev pub height : List FunctionInfo → Term → ℕ
height functions = of_term height_level (height_of functions)

-- the heights of both terms of a case
abbrev pub case_heights : List FunctionInfo → Case → ℕ × ℕ
case_heights functions = of_case height_level (height_of functions)

pub height_looks : LooksAtCalled height_level
height_looks c d (Term-F.Call f args) h = ap (λ n. 1 + max (greatest args) n) (h f refl)
height_looks c d a h = refl

-- a function is as high as its term
pub height_of-body : (p : Program) (f : ℕ) (body : Term) → body_of p.functions f ≡ Some body
    → height_of p.functions f ≡ height p.functions body
height_of-body p f body e =
    of_function-body p.functions p.ranked height_level height_looks 0 p.few f body e

module _ (fs : List FunctionInfo) where
  level_of : (t : Term) (a : Term-F Term Case) → out-Term t ≡ a
      → height fs t ≡ height_level (height_of fs) (mapped height_level (height_of fs) a)
  level_of t a e =
      of_term-out height_level (height_of fs) t
      ∙ ap (λ x. height_level (height_of fs) (mapped height_level (height_of fs) x)) e

  pub case_heights-out : (c : Case)
      → case_heights fs c ≡ (height fs (out-Case c).value, height fs (out-Case c).term)
  case_heights-out c = of_case-out height_level (height_of fs) c

  pub height-Operator : (t : Term) (o : Option Operation) (args : List Term) (span : Span) → t
      ≡ form.Operator o args span
      → height fs t ≡ 1 + greatest (map (height fs) args)
  height-Operator t o args span is =
      level_of t (Term-F.Operator o args span) (ap out-Term is ∙ views.out-Operator o args span)

  pub height-And : (t : Term) (a : Term) (b : Term) → t ≡ form.And a b
      → height fs t ≡ 1 + greatest (height fs a ∷ height fs b ∷ [])
  height-And t a b is =
      level_of t (Term-F.And a b) (ap out-Term is ∙ views.out-And a b)

  pub height-Or : (t : Term) (a : Term) (b : Term) → t ≡ form.Or a b
      → height fs t ≡ 1 + greatest (height fs a ∷ height fs b ∷ [])
  height-Or t a b is =
      level_of t (Term-F.Or a b) (ap out-Term is ∙ views.out-Or a b)

  pub height-Implies : (t : Term) (a : Term) (b : Term) → t ≡ form.Implies a b
      → height fs t ≡ 1 + greatest (height fs a ∷ height fs b ∷ [])
  height-Implies t a b is =
      level_of t (Term-F.Implies a b) (ap out-Term is ∙ views.out-Implies a b)

  pub height-Constant : (t : Term) (v : Value) → t ≡ form.Constant v
      → height fs t ≡ 1
  height-Constant t v is =
      level_of t (Term-F.Constant v) (ap out-Term is ∙ views.out-Constant v)

  pub height-Variable : (t : Term) (i : ℕ) → t ≡ form.Variable i
      → height fs t ≡ 1
  height-Variable t i is =
      level_of t (Term-F.Variable i) (ap out-Term is ∙ views.out-Variable i)

  pub height-Read : (t : Term) (f : ℕ) (args : List Term) → t ≡ form.Read f args
      → height fs t ≡ 1 + greatest (map (height fs) args)
  height-Read t f args is =
      level_of t (Term-F.Read f args) (ap out-Term is ∙ views.out-Read f args)

  pub height-Call : (t : Term) (f : ℕ) (args : List Term) → t ≡ form.Call f args
      → height fs t ≡ 1 + max (greatest (map (height fs) args)) (height_of fs f)
  height-Call t f args is =
      level_of t (Term-F.Call f args) (ap out-Term is ∙ views.out-Call f args)

  pub height-Tuple : (t : Term) (items : List Term) (span : Span) → t ≡ form.Tuple items span
      → height fs t ≡ 1 + greatest (map (height fs) items)
  height-Tuple t items span is =
      level_of t (Term-F.Tuple items span) (ap out-Term is ∙ views.out-Tuple items span)

  pub height-Forall : (t : Term) (ranges : List Domain) (b : Term) → t ≡ form.Forall ranges b
      → height fs t ≡ 1 + length ranges + height fs b
  height-Forall t ranges b is =
      level_of t (Term-F.Forall ranges b) (ap out-Term is ∙ views.out-Forall ranges b)

  pub height-Exist : (t : Term) (ranges : List Domain) (b : Term) → t ≡ form.Exist ranges b
      → height fs t ≡ 1 + length ranges + height fs b
  height-Exist t ranges b is =
      level_of t (Term-F.Exist ranges b) (ap out-Term is ∙ views.out-Exist ranges b)

  pub height-ExistUnique : (t : Term) (ranges : List Domain) (b : Term) → t
      ≡ form.ExistUnique ranges b
      → height fs t ≡ 1 + length ranges + height fs b
  height-ExistUnique t ranges b is =
      level_of t (Term-F.ExistUnique ranges b) (ap out-Term is ∙ views.out-ExistUnique ranges b)

  pub height-Interval : (t : Term) (a : Term) (b : Term) (span : Span) → t ≡ form.Interval a b span
      → height fs t ≡ 1 + greatest (height fs a ∷ height fs b ∷ [])
  height-Interval t a b span is =
      level_of t (Term-F.Interval a b span) (ap out-Term is ∙ views.out-Interval a b span)

  pub height-Set : (t : Term) (items : List Term) (span : Span) → t ≡ form.Set items span
      → height fs t ≡ 1 + greatest (map (height fs) items)
  height-Set t items span is =
      level_of t (Term-F.Set items span) (ap out-Term is ∙ views.out-Set items span)

  pub height-Seq : (t : Term) (items : List Term) (span : Span) → t ≡ form.Seq items span
      → height fs t ≡ 1 + greatest (map (height fs) items)
  height-Seq t items span is =
      level_of t (Term-F.Seq items span) (ap out-Term is ∙ views.out-Seq items span)

  pub height-If : (t : Term) (a : Term) (b : Term) (other : Option Term) → t ≡ form.If a b other
      → height fs t ≡ 1 + greatest (height fs a ∷ height fs b
      ∷ optional (option_map (height fs) other))
  height-If t a b None is =
      level_of t (Term-F.If a b None) (ap out-Term is ∙ views.out-If a b None)
  height-If t a b (Some o) is =
      level_of t (Term-F.If a b (Some o)) (ap out-Term is ∙ views.out-If a b (Some o))

  pub height-Let : (t : Term) (bound : List Term) (b : Term) → t ≡ form.Let bound b
      → height fs t ≡ 1 + greatest (map (height fs) bound ++ height fs b ∷ [])
  height-Let t bound b is =
      level_of t (Term-F.Let bound b) (ap out-Term is ∙ views.out-Let bound b)

  pub height-Switch : (t : Term) (a : Term) (cases : List Case) (other : Option Term) → t
      ≡ form.Switch a cases other
      → height fs t ≡ 1 + greatest (height fs a ∷ of_cases (map (case_heights fs) cases)
      ++ optional (option_map (height fs) other))
  height-Switch t a cases None is =
      level_of t (Term-F.Switch a cases None) (ap out-Term is ∙ views.out-Switch a cases None)
  height-Switch t a cases (Some o) is =
      level_of t (Term-F.Switch a cases (Some o))
      (ap out-Term is ∙ views.out-Switch a cases (Some o))
