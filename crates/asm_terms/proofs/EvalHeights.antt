-- The heights of terms in a view, by which evaluation ends.
use Rattle.std.proofs.Common.{◌≡◌, ℕ, zero, suc, ◌+◌, ◌<◌, ◌≤◌, max, Option, Some, List, []}
use Rattle.std.proofs.Common.{◌∷◌, ◌++◌, map, length, get_or, sym, ap, subst, ◌∙◌, arith}
use Rattle.std.specs.Option.{option_map}
use Rattle.asm_value.specs.declared.domain.Domain.{Domain}
use Rattle.asm_syntax.specs.declared.token.Span.{Span}
use Rattle.asm_tables.specs.declared.rows.Operation.{Operation}
use Rattle.asm_program.specs.declared.trees.Term.{Term}
use Rattle.asm_program.specs.declared.trees.Case.{Case}
use Rattle.asm_program.specs.declared.trees.Term.TheVariants as form
use Rattle.asm_terms.specs.declared.view.View.{View}
use Rattle.asm_terms.specs.Views.{program_of}
use Rattle.asm_program.specs.Forms.{optional, of_cases, body_of}
use Rattle.asm_program.specs.Nesting.{greatest}
use Rattle.asm_program.specs.Heights as heights

pub height_in : View → Term → ℕ
height_in view t = heights.height (program_of view).functions t

pub case_heights_in : View → Case → ℕ × ℕ
case_heights_in view c = heights.case_heights (program_of view).functions c

pub call_height : View → ℕ → ℕ
call_height view f = heights.height_of (program_of view).functions f

module _ (view : View) (t : Term) where
  pub height-Operator : (o : Option Operation) (args : List Term) (span : Span) → t
      ≡ form.Operator o args span
      → height_in view t
      ≡ 1 + greatest (map (height_in view) args)
  unfolding height_in case_heights_in call_height
  height-Operator o args span is = heights.height-Operator (program_of view).functions t o args
      span is

  pub height-And : (a : Term) (b : Term) → t ≡ form.And a b
      → height_in view t
      ≡ 1 + greatest (height_in view a ∷ height_in view b ∷ [])
  unfolding height_in case_heights_in call_height
  height-And a b is = heights.height-And (program_of view).functions t a b is

  pub height-Or : (a : Term) (b : Term) → t ≡ form.Or a b
      → height_in view t
      ≡ 1 + greatest (height_in view a ∷ height_in view b ∷ [])
  unfolding height_in case_heights_in call_height
  height-Or a b is = heights.height-Or (program_of view).functions t a b is

  pub height-Implies : (a : Term) (b : Term) → t ≡ form.Implies a b
      → height_in view t
      ≡ 1 + greatest (height_in view a ∷ height_in view b ∷ [])
  unfolding height_in case_heights_in call_height
  height-Implies a b is = heights.height-Implies (program_of view).functions t a b is

  pub height-Read : (f : ℕ) (args : List Term) → t ≡ form.Read f args
      → height_in view t
      ≡ 1 + greatest (map (height_in view) args)
  unfolding height_in case_heights_in call_height
  height-Read f args is = heights.height-Read (program_of view).functions t f args is

  pub height-Call : (f : ℕ) (args : List Term) → t ≡ form.Call f args
      → height_in view t
      ≡ 1 + max (greatest (map (height_in view) args)) (call_height view f)
  unfolding height_in case_heights_in call_height
  height-Call f args is = heights.height-Call (program_of view).functions t f args is

  pub height-Tuple : (items : List Term) (span : Span) → t ≡ form.Tuple items span
      → height_in view t
      ≡ 1 + greatest (map (height_in view) items)
  unfolding height_in case_heights_in call_height
  height-Tuple items span is = heights.height-Tuple (program_of view).functions t items span is

  pub height-Forall : (ranges : List Domain) (b : Term) → t ≡ form.Forall ranges b
      → height_in view t
      ≡ 1 + length ranges + height_in view b
  unfolding height_in case_heights_in call_height
  height-Forall ranges b is = heights.height-Forall (program_of view).functions t ranges b is

  pub height-Exist : (ranges : List Domain) (b : Term) → t ≡ form.Exist ranges b
      → height_in view t
      ≡ 1 + length ranges + height_in view b
  unfolding height_in case_heights_in call_height
  height-Exist ranges b is = heights.height-Exist (program_of view).functions t ranges b is

  pub height-ExistUnique : (ranges : List Domain) (b : Term) → t ≡ form.ExistUnique ranges b
      → height_in view t
      ≡ 1 + length ranges + height_in view b
  unfolding height_in case_heights_in call_height
  height-ExistUnique ranges b is = heights.height-ExistUnique (program_of view).functions t ranges
      b is

  pub height-Interval : (a : Term) (b : Term) (span : Span) → t ≡ form.Interval a b span
      → height_in view t
      ≡ 1 + greatest (height_in view a ∷ height_in view b ∷ [])
  unfolding height_in case_heights_in call_height
  height-Interval a b span is = heights.height-Interval (program_of view).functions t a b span is

  pub height-Set : (items : List Term) (span : Span) → t ≡ form.Set items span
      → height_in view t
      ≡ 1 + greatest (map (height_in view) items)
  unfolding height_in case_heights_in call_height
  height-Set items span is = heights.height-Set (program_of view).functions t items span is

  pub height-Seq : (items : List Term) (span : Span) → t ≡ form.Seq items span
      → height_in view t
      ≡ 1 + greatest (map (height_in view) items)
  unfolding height_in case_heights_in call_height
  height-Seq items span is = heights.height-Seq (program_of view).functions t items span is

  pub height-If : (a : Term) (b : Term) (other : Option Term) → t ≡ form.If a b other
      → height_in view t
      ≡ 1 + greatest (height_in view a ∷ height_in view b
      ∷ optional (option_map (height_in view) other))
  unfolding height_in case_heights_in call_height
  height-If a b other is = heights.height-If (program_of view).functions t a b other is

  pub height-Let : (bound : List Term) (b : Term) → t ≡ form.Let bound b
      → height_in view t
      ≡ 1 + greatest (map (height_in view) bound ++ height_in view b ∷ [])
  unfolding height_in case_heights_in call_height
  height-Let bound b is = heights.height-Let (program_of view).functions t bound b is

  pub height-Switch : (a : Term) (cases : List Case) (other : Option Term) → t
      ≡ form.Switch a cases other
      → height_in view t
      ≡ 1 + greatest (height_in view a ∷ of_cases (map (case_heights_in view) cases)
      ++ optional (option_map (height_in view) other))
  unfolding height_in case_heights_in call_height
  height-Switch a cases other is = heights.height-Switch (program_of view).functions t a cases
      other is

-- a function is as high as its term
pub call_height-body : (view : View) (f : ℕ) (body : Term)
    → body_of (program_of view).functions f ≡ Some body → call_height view f ≡ height_in view body
unfolding height_in call_height
call_height-body view f body e = heights.height_of-body (program_of view) f body e

pub case_heights-out : (view : View) (c : Case)
    → case_heights_in view c
    ≡ (height_in view c.value, height_in view c.term)
unfolding height_in case_heights_in
case_heights-out view c = heights.case_heights-out (program_of view).functions c

-- a term of a list is no higher than the list
pub part-height : (view : View) (ts : List Term) (i : ℕ) (d : Term) → i < length ts
    → height_in view (get_or ts i d) ≤ greatest (map (height_in view) ts)
part-height view [] i d h = absurd (omega (arith, h))
part-height view (t ∷ ts) zero d h = omega arith
part-height view (t ∷ ts) (suc i) d h =
    let later = part-height view ts i d (omega (arith, h)) in omega (arith, later)

-- both terms of a case are no higher than the cases
pub case-height : (view : View) (cs : List Case) (i : ℕ) (d : Case) → i < length cs
    → max (case_heights_in view (get_or cs i d)).0 (case_heights_in view (get_or cs i d)).1
    ≤ greatest (of_cases (map (case_heights_in view) cs))
case-height view [] i d h = absurd (omega (arith, h))
case-height view (c ∷ cs) zero d h = omega arith
case-height view (c ∷ cs) (suc i) d h =
    let later = case-height view cs i d (omega (arith, h)) in omega (arith, later)

-- both terms of a case, taken out of the list
pub case-parts : (view : View) (cs : List Case) (i : ℕ) (d : Case) → i < length cs
    → d ≡ get_or cs i d
    → (height_in view d.value ≤ greatest (of_cases (map (case_heights_in view) cs)))
    × (height_in view d.term ≤ greatest (of_cases (map (case_heights_in view) cs)))
case-parts view cs i d h is =
    let low : max (height_in view d.value) (height_in view d.term)
    ≤ greatest (of_cases (map (case_heights_in view) cs)) =
    subst (λ z. max z.0 z.1 ≤ greatest (of_cases (map (case_heights_in view) cs)))
    (ap (case_heights_in view) (sym is) ∙ case_heights-out view d) (case-height view cs i d h) in
    (omega (arith, low), omega (arith, low))
