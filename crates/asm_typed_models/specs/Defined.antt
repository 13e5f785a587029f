-- What a text defines, once its names are numbers.
use Rattle.std.specs.Prelude.{◌≡◌, ℕ, List, map}
use Rattle.asm_syntax.specs.declared.tree.ModelTree.{ModelTree}
use Rattle.asm_program.specs.TypedModels.{scope_of}
use Rattle.asm_program.specs.Typed.{macros_of, main_of, inits_of, invariants_from}
use Rattle.asm_typed_calls.specs.CalledNames.{functions_in}
use Rattle.asm_typed_models.specs.declared.definitions.Definitions.{Definitions}

-- these are what the text defines
pub record AreDefinitions (text : List ℕ) (tree : ModelTree) (d : Definitions) : Type 0 where
  pub bodies : d.bodies.items ≡ map (λ info. info.body) (functions_in tree)
  pub macros : d.macros ≡ macros_of (scope_of tree) tree
  pub main : d.main ≡ main_of (scope_of tree) tree
  pub inits : d.inits ≡ inits_of (scope_of tree) tree
  pub invariants : d.invariants ≡ invariants_from text (scope_of tree) 1 tree.defs
