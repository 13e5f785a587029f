use Rattle.std.proofs.Common.{drop}
use Rattle.asm_names.proofs.Lists.{DefinedFrom}
use Rattle.asm_names.proofs.headers.defined_names.Given as goal

abbrev pub invariant-loop-def : goal.invariant-loop-def
invariant-loop-def l = DefinedFrom l.names (drop l.def-index l.defs) l.defs
