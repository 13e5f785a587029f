-- Texts of which the first five passes refuse nothing: what their definitions call, and that none of
-- them reaches itself.
use Rattle.std.specs.Prelude.{◌≡◌, ℕ, Bool, true, false, Option, Some, None, unwrap_or, List, [], ◌++◌, slice_get}
use Rattle.std.specs.Option.{option_map}
use Rattle.std.specs.List.{position}
use Rattle.asm_syntax.specs.declared.tree.ModelTree.{ModelTree}
use Rattle.asm_program.specs.declared.type_refusal.TypeRefusal.{TypeRefusal}
use Rattle.asm_program.specs.declared.program.FunctionInfo.{FunctionInfo}
use Rattle.asm_program.specs.declared.program.MacroInfo.{MacroInfo}
use Rattle.asm_program.specs.Items.{model_items, starts_of}
use Rattle.asm_program.specs.Signatures.{names_of}
use Rattle.asm_program.specs.NamesPass.{names_refused}
use Rattle.asm_program.specs.DomainsPass.{domains_refused}
use Rattle.asm_program.specs.FunctionsPass.{functions_refused}
use Rattle.asm_program.specs.Calls.{is_called, call_graph, definitions, calls_refused}
use Rattle.asm_program.specs.TypedModels.{scope_of, types_refused}
use Rattle.asm_program.specs.Typed.{uncounted, macros_of}
use Rattle.asm_program.specs.Nesting.{functions_are_ranked, macros_are_ranked}
use Rattle.asm_calls.specs.Nested.{FunctionsLieIn, MacrosLieIn}

-- all that the first three passes refuse, of names, domains and functions
abbrev pub declared_refused : ModelTree → List TypeRefusal
declared_refused tree =
    names_refused (model_items tree)
    ++ domains_refused tree.decls (names_of tree) (model_items tree)
    ++ functions_refused tree.defs (names_of tree) (scope_of tree).functions tree.decls
    (starts_of tree.init)

-- the first five passes refuse nothing
pub record IsSound (tree : ModelTree) : Type 0 where
  pub declared : declared_refused tree ≡ []
  pub calls : calls_refused tree ≡ []
  pub types : types_refused tree ≡ []

-- with numbers for names, before depth and work are counted
abbrev pub functions_in : ModelTree → List FunctionInfo
functions_in tree = uncounted (scope_of tree) tree

abbrev pub macros_in : ModelTree → List MacroInfo
macros_in tree = macros_of (scope_of tree) tree

-- ---- the numbers of definitions

abbrev pub definition_named : Bool → ModelTree → Option (List ℕ) → ℕ
definition_named is_rule tree None = 0
definition_named is_rule tree (Some name) =
    unwrap_or (position (is_called is_rule name) (definitions tree)) 0

-- the number of the definition of the function with this number, which has one
abbrev pub function_definition : ModelTree → ℕ → ℕ
function_definition tree f =
    definition_named false tree (option_map (λ info. info.name) (slice_get (functions_in tree) f))

-- that of a macro rule
abbrev pub macro_definition : ModelTree → ℕ → ℕ
macro_definition tree m =
    definition_named true tree (option_map (λ info. info.name) (slice_get (macros_in tree) m))

-- ---- laws

abbrev pub FunctionsLie : Type 0
FunctionsLie =
    (tree : ModelTree) → IsSound tree
    → FunctionsLieIn (call_graph (definitions tree)) (function_definition tree) (functions_in tree)

abbrev pub MacrosLie : Type 0
MacrosLie =
    (tree : ModelTree) → IsSound tree
    → MacrosLieIn (call_graph (definitions tree)) (macro_definition tree) (macros_in tree)

abbrev pub FunctionsRanked : Type 0
FunctionsRanked = (tree : ModelTree) → IsSound tree → functions_are_ranked (functions_in tree) ≡ true

abbrev pub MacrosRanked : Type 0
MacrosRanked = (tree : ModelTree) → IsSound tree → macros_are_ranked (macros_in tree) ≡ true
