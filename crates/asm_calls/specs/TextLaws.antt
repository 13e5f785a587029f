-- What the items of a text's definitions say of its call graph.
use Rattle.std.specs.Prelude.{◌≡◌, ℕ, ◌<◌, Bool, true, false, List, Some, [], length, slice_get, position}
use Rattle.asm_syntax.specs.declared.token.Token.{Token}
use Rattle.asm_syntax.specs.declared.tree.ModelTree.{ModelTree}
use Rattle.asm_syntax.specs.Marks.{text_of}
use Rattle.asm_program.specs.declared.trees.Term.{Term}
use Rattle.asm_program.specs.declared.trees.Rule.{Rule}
use Rattle.asm_program.specs.declared.program.FunctionInfo.{FunctionInfo}
use Rattle.asm_program.specs.declared.program.MacroInfo.{MacroInfo}
use Rattle.asm_program.specs.Forms.{body_of, rule_of}
use Rattle.asm_program.specs.Nesting.{functions_are_ranked, macros_are_ranked}
use Rattle.asm_program.specs.Items.{Item, NamesFunction, NamesMacro}
use Rattle.asm_program.specs.Calls.{Defined, is_called, call_graph, definitions, calls_refused}
use Rattle.asm_calls.specs.Orders.{calls, NoneRecursive}
use Rattle.asm_calls.specs.Nested.{functions_called, macros_called, has_number}

-- the j-th definition is one of the text, and the i-th calls it
abbrev pub IsCallOf : ModelTree → ℕ → ℕ → Type 0
IsCallOf tree i j =
    (j < length (call_graph (definitions tree)))
    × (calls (call_graph (definitions tree)) i j ≡ true)

-- The i-th definition calls the one whose function or macro rule an item of it names: the first of
-- this name.
abbrev pub CallsNamed : Type 0
CallsNamed =
    (tree : ModelTree) (i j k : ℕ) (d : Defined) (t : Token)
    → slice_get (definitions tree) i ≡ Some d
    → (slice_get d.items k ≡ Some (NamesFunction t)
    → position (is_called false (text_of t)) (definitions tree) ≡ Some j → IsCallOf tree i j)
    × (slice_get d.items k ≡ Some (NamesMacro t)
    → position (is_called true (text_of t)) (definitions tree) ≡ Some j → IsCallOf tree i j)

-- where no call of a text is refused, no definition of it reaches itself
abbrev pub NoneRefused : Type 0
NoneRefused =
    (tree : ModelTree) → calls_refused tree ≡ [] → NoneRecursive (call_graph (definitions tree))

-- ---- what a text's functions and macro rules call

-- an item of the i-th definition names the j-th, which is the first of this name
pub record Names (tree : ModelTree) (is_rule : Bool) (names : Token → Item) (i j : ℕ) : Type 0 where
  pub definition : Defined
  pub place : ℕ
  pub token : Token
  pub is_there : slice_get (definitions tree) i ≡ Some definition
  pub named : slice_get definition.items place ≡ Some (names token)
  pub first : position (is_called is_rule (text_of token)) (definitions tree) ≡ Some j

-- Each function that a function's term calls, and that has a term of its own, is named in the
-- definition of the first. Functions have these numbers of definitions.
abbrev pub CalledAreNamed : ModelTree → (ℕ → ℕ) → List FunctionInfo → Type 0
CalledAreNamed tree definition functions =
    (f g : ℕ) (body other : Term) → body_of functions f ≡ Some body
    → body_of functions g ≡ Some other → has_number (functions_called body) g ≡ true
    → Names tree false NamesFunction (definition f) (definition g)

-- Where no call of a text is refused, no function that is made of it reaches itself.
abbrev pub TextFunctionsAreRanked : Type 0
TextFunctionsAreRanked =
    (tree : ModelTree) (definition : ℕ → ℕ) (functions : List FunctionInfo)
    → calls_refused tree ≡ [] → CalledAreNamed tree definition functions
    → functions_are_ranked functions ≡ true

-- the same of macro rules
abbrev pub CalledMacrosAreNamed : ModelTree → (ℕ → ℕ) → List MacroInfo → Type 0
CalledMacrosAreNamed tree definition macros =
    (m k : ℕ) (body other : Rule) → rule_of macros m ≡ Some body
    → rule_of macros k ≡ Some other → has_number (macros_called body) k ≡ true
    → Names tree true NamesMacro (definition m) (definition k)

abbrev pub TextMacrosAreRanked : Type 0
TextMacrosAreRanked =
    (tree : ModelTree) (definition : ℕ → ℕ) (macros : List MacroInfo)
    → calls_refused tree ≡ [] → CalledMacrosAreNamed tree definition macros
    → macros_are_ranked macros ≡ true
