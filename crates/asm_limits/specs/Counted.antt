-- The counts of what a text defines.
use Rattle.asm_syntax.specs.declared.tree.ModelTree.{ModelTree}
use Rattle.asm_program.specs.TypedModels.{scope_of}
use Rattle.asm_program.specs.Counts.{function_depth, function_work, macro_depth, macro_work}
use Rattle.asm_counts.specs.CountLevels.{known}
use Rattle.asm_counts.specs.CountLaws.{AllTell}
use Rattle.asm_typed_calls.specs.CalledNames.{functions_in, macros_in}
use Rattle.asm_limits.specs.declared.limits.Counted.{Counted}

-- these are the depth and the work of each function and of each macro rule
pub record AreCounted (tree : ModelTree) (c : Counted) : Type 0 where
  pub functions : AllTell (known c.functions.items) (function_depth (functions_in tree))
      (function_work (scope_of tree).domains (functions_in tree))
  pub macros : AllTell (known c.macros.items) (macro_depth (functions_in tree) (macros_in tree))
      (macro_work (scope_of tree).domains (functions_in tree) (macros_in tree))
