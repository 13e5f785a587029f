use Rattle.std.proofs.Common.{take}
use Rattle.asm_scope.specs.Index.{IsIndexOf}
use Rattle.asm_scope.proofs.names.index_of.Given as goal

abbrev pub invariant-loop-entry : goal.invariant-loop-entry
invariant-loop-entry l = IsIndexOf l.index (take l.entry-index l.names)
