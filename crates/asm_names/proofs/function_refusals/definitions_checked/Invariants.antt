use Rattle.std.proofs.Common.{◌≡◌, [], drop}
use Rattle.asm_program.specs.FunctionsPass.{definitions_refused}
use Rattle.asm_names.proofs.function_refusals.definitions_checked.Given as goal

abbrev pub invariant-loop-def : goal.invariant-loop-def
invariant-loop-def l =
    definitions_refused [] l.names l.functions l.done (drop l.def-index l.defs) ≡ definitions_refused [] l.names l.functions [] l.defs
