-- Functions and macro rules that are made of definitions of which none reaches itself.
use Rattle.std.specs.Prelude.{◌≡◌, ℕ, ◌<◌, ◌==◌, Bool, true, Some, List, [], ◌∷◌, ◌++◌, length}
use Rattle.std.specs.List.{list_any}
use Rattle.asm_program.specs.declared.trees.Term.{Term}
use Rattle.asm_program.specs.declared.trees.Term.TheOpen.{Term-F}
use Rattle.asm_program.specs.declared.trees.Rule.{Rule}
use Rattle.asm_program.specs.declared.trees.Rule.TheOpen.{Rule-F}
use Rattle.asm_program.specs.declared.program.FunctionInfo.{FunctionInfo}
use Rattle.asm_program.specs.declared.program.MacroInfo.{MacroInfo}
use Rattle.asm_program.specs.Forms.{optional, parts, called, of_term, body_of, rule_parts, rule_called, of_rule, rule_of}
use Rattle.asm_program.specs.Nesting.{functions_are_ranked, macros_are_ranked}
use Rattle.asm_program.specs.Calls.{CallGraph}
use Rattle.asm_calls.specs.Orders.{calls, NoneRecursive}

abbrev pub all_of : List (List ℕ) → List ℕ
all_of [] = []
all_of (n ∷ ns) = n ++ all_of ns

-- ---- functions

abbrev pub called_level : (ℕ → List ℕ) → Term-F (List ℕ) (List ℕ × List ℕ) → List ℕ
called_level calls a = optional (called a) ++ all_of (parts a)

-- the functions that a term calls
abbrev pub functions_called : Term → List ℕ
functions_called = of_term called_level (λ f. [])

abbrev pub has_number : List ℕ → ℕ → Bool
has_number ns g = list_any (λ n. n == g) ns

-- Each function that a function's term calls, and that has a term of its own, is called by the
-- definition of the first. Functions have these numbers of definitions.
abbrev pub FunctionsLieIn : CallGraph → (ℕ → ℕ) → List FunctionInfo → Type 0
FunctionsLieIn graph definition functions =
    (f g : ℕ) (body other : Term) → body_of functions f ≡ Some body
    → body_of functions g ≡ Some other → has_number (functions_called body) g ≡ true
    → (definition g < length graph) × (calls graph (definition f) (definition g) ≡ true)

-- Where no definition reaches itself, no function of a program that is made of them does.
abbrev pub FunctionsAreRanked : Type 0
FunctionsAreRanked =
    (graph : CallGraph) (definition : ℕ → ℕ) (functions : List FunctionInfo)
    → NoneRecursive graph → FunctionsLieIn graph definition functions
    → functions_are_ranked functions ≡ true

-- ---- macro rules

abbrev pub called_rule_level : (ℕ → List ℕ) → Rule-F (List ℕ) (Term × List ℕ) → List ℕ
called_rule_level calls a = optional (rule_called a) ++ all_of (rule_parts a)

-- the macro rules that a rule calls
abbrev pub macros_called : Rule → List ℕ
macros_called = of_rule called_rule_level (λ m. [])

abbrev pub MacrosLieIn : CallGraph → (ℕ → ℕ) → List MacroInfo → Type 0
MacrosLieIn graph definition macros =
    (m k : ℕ) (body other : Rule) → rule_of macros m ≡ Some body
    → rule_of macros k ≡ Some other → has_number (macros_called body) k ≡ true
    → (definition k < length graph) × (calls graph (definition m) (definition k) ≡ true)

abbrev pub MacrosAreRanked : Type 0
MacrosAreRanked =
    (graph : CallGraph) (definition : ℕ → ℕ) (macros : List MacroInfo)
    → NoneRecursive graph → MacrosLieIn graph definition macros → macros_are_ranked macros ≡ true
