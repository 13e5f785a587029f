use Rattle.std.proofs.Common.{◌≡◌, [], ◌++◌, drop}
use Rattle.std.specs.List.{filter_map}
use Rattle.asm_program.specs.TypedModels.{macro_params}
use Rattle.asm_names.proofs.scope.macro_params.Given as goal

abbrev pub invariant-loop-def : goal.invariant-loop-def
invariant-loop-def l = l.macros ++ filter_map (macro_params [] l.names) (drop l.def-index l.defs) ≡ filter_map (macro_params [] l.names) l.defs
