-- The headers so far are those of the functions that were passed.
use Rattle.std.proofs.Common.{◌≡◌, map, take}
use Rattle.asm_program.specs.TypedAlone.{header_of}
use Rattle.asm_typed_alone.proofs.scope.headers_of.Given as goal

abbrev pub invariant-loop-info : goal.invariant-loop-info
invariant-loop-info l = l.headers ≡ map header_of (take l.info-index l.functions)
