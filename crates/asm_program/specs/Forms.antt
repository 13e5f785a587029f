-- Terms and rules level by level: the parts of each form, and what is said of a whole from what is
-- said of its parts and of what it calls.
use Rattle.std.specs.Prelude.{ℕ, zero, suc, Option, Some, None, List, [], ◌∷◌, ◌++◌, map, slice_get}
use Rattle.std.specs.Option.{option_map_or}
use Rattle.asm_program.specs.declared.trees.Term.{Term}
use Rattle.asm_program.specs.declared.trees.Term.TheOpen.{Term-F, Case-F}
use Rattle.asm_program.specs.declared.trees.Term.TheFolds.{fold-Term}
use Rattle.asm_program.specs.declared.trees.Rule.{Rule}
use Rattle.asm_program.specs.declared.trees.Rule.TheOpen.{Rule-F, RuleCase-F}
use Rattle.asm_program.specs.declared.trees.Rule.TheFolds.{fold-Rule}
use Rattle.asm_program.specs.declared.program.FunctionInfo.{FunctionInfo}
use Rattle.asm_program.specs.declared.program.MacroInfo.{MacroInfo}

abbrev pub optional : {A : Type 0} → Option A → List A
optional None = []
optional (Some a) = a ∷ []

-- both terms of each case
abbrev pub of_cases : {A : Type 0} → List (A × A) → List A
of_cases [] = []
of_cases (c ∷ cs) = c.0 ∷ c.1 ∷ of_cases cs

-- ---- terms

-- the parts of a term, from left to right
abbrev pub parts : {A : Type 0} → Term-F A (A × A) → List A
parts (Term-F.Operator operation args span) = args
parts (Term-F.And left right) = left ∷ right ∷ []
parts (Term-F.Or left right) = left ∷ right ∷ []
parts (Term-F.Implies left right) = left ∷ right ∷ []
parts (Term-F.Constant v) = []
parts (Term-F.Variable i) = []
parts (Term-F.Read f args) = args
parts (Term-F.Call f args) = args
parts (Term-F.Tuple items span) = items
parts (Term-F.Forall ranges body) = body ∷ []
parts (Term-F.Exist ranges body) = body ∷ []
parts (Term-F.ExistUnique ranges body) = body ∷ []
parts (Term-F.Interval from to span) = from ∷ to ∷ []
parts (Term-F.Set items span) = items
parts (Term-F.Seq items span) = items
parts (Term-F.If guard first other) = guard ∷ first ∷ optional other
parts (Term-F.Let values body) = values ++ body ∷ []
parts (Term-F.Switch v cases other) = v ∷ of_cases cases ++ optional other

-- the function that a term calls
abbrev pub called : {A B : Type 0} → Term-F A B → Option ℕ
called (Term-F.Call f args) = Some f
called _ = None

abbrev pub case_pair : {A B : Type 0} → Case-F A B → A × A
case_pair c = (c.value, c.term)

module _ {X : Type 0} where
  -- what is said of a term from what is said of calls and of its parts
  unfoldable pub of_term : ((ℕ → X) → Term-F X (X × X) → X) → (ℕ → X) → Term → X
  of_term level calls = fold-Term X (X × X) (level calls) case_pair

abbrev pub body_in : Option FunctionInfo → Option Term
body_in None = None
body_in (Some info) = info.body

-- the term that defines a function
abbrev pub body_of : List FunctionInfo → ℕ → Option Term
body_of functions f = body_in (slice_get functions f)

-- what is said of a function where calls are followed so deep; of all else this
module _ {X : Type 0} (level : (ℕ → X) → Term-F X (X × X) → X) (none : X) where
  unfoldable pub of_function : List FunctionInfo → ℕ → ℕ → X
  of_function functions zero f = none
  of_function functions (suc n) f =
      option_map_or (of_term level (of_function functions n)) (body_of functions f) none

-- ---- rules

-- the rules that a rule is made of
abbrev pub rule_parts : {A : Type 0} → Rule-F A (Term × A) → List A
rule_parts Rule-F.Skip = []
rule_parts (Rule-F.Call m args) = []
rule_parts (Rule-F.Update f args value span) = []
rule_parts (Rule-F.Par rules span) = rules
rule_parts (Rule-F.Seq rules span) = rules
rule_parts (Rule-F.If guard first other) = first ∷ optional other
rule_parts (Rule-F.Forall ranges guard body span) = body ∷ []
rule_parts (Rule-F.Choose ranges guard body other place) = body ∷ optional other
rule_parts (Rule-F.Let values body) = body ∷ []
rule_parts (Rule-F.Switch v cases other) = map (λ c. c.1) cases ++ optional other
rule_parts (Rule-F.Extend d count body span) = body ∷ []

-- the macro rule that a rule calls
abbrev pub rule_called : {A B : Type 0} → Rule-F A B → Option ℕ
rule_called (Rule-F.Call m args) = Some m
rule_called _ = None

-- a case of a rule with what is said of its rule
abbrev pub rule_case_pair : {A B : Type 0} → RuleCase-F A B → Term × A
rule_case_pair c = (c.value, c.rule)

module _ {X : Type 0} where
  unfoldable pub of_rule : ((ℕ → X) → Rule-F X (Term × X) → X) → (ℕ → X) → Rule → X
  of_rule level calls = fold-Rule X (Term × X) (level calls) rule_case_pair

abbrev pub rule_in : Option MacroInfo → Option Rule
rule_in None = None
rule_in (Some info) = Some info.body

abbrev pub rule_of : List MacroInfo → ℕ → Option Rule
rule_of macros m = rule_in (slice_get macros m)

-- what is said of a macro rule where calls are followed so deep; of all else this
module _ {X : Type 0} (level : (ℕ → X) → Rule-F X (Term × X) → X) (none : X) where
  unfoldable pub of_macro : List MacroInfo → ℕ → ℕ → X
  of_macro macros zero m = none
  of_macro macros (suc n) m =
      option_map_or (of_rule level (of_macro macros n)) (rule_of macros m) none
