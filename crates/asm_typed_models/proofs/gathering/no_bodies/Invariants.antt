-- A function without a term for each that was passed.
use Rattle.std.proofs.Common.{◌≡◌, ◌++◌, drop}
use Rattle.asm_typed_models.specs.Forms.{no_bodies}
use Rattle.asm_typed_models.proofs.gathering.no_bodies.Given as goal

abbrev pub invariant-loop-function : goal.invariant-loop-function
invariant-loop-function l = l.bodies.items ++ no_bodies (drop l._function-index l.functions) ≡ no_bodies l.functions
