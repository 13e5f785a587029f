-- What is defined so far, with what the rest defines, is all.
use Rattle.std.proofs.Common.{◌≡◌, [], drop}
use Rattle.asm_typed_models.specs.Forms.{defs_refused, bodies_with, macros_with, chooses_with, invariants_with, no_bodies}
use Rattle.asm_typed_models.proofs.gathering.defs_typed.Given as goal

abbrev pub invariant-loop-def : goal.invariant-loop-def
invariant-loop-def l =
    (defs_refused l.scope (drop l.def-index l.defs) ≡ defs_refused l.scope l.defs)
    × (bodies_with l.scope l.defined.bodies.items (drop l.def-index l.defs) ≡ bodies_with l.scope (no_bodies l.scope.functions) l.defs)
    × (macros_with l.scope l.defined.macros l.defined.chooses (drop l.def-index l.defs) ≡ macros_with l.scope [] 0 l.defs)
    × (chooses_with l.scope l.defined.chooses (drop l.def-index l.defs) ≡ chooses_with l.scope 0 l.defs)
    × (invariants_with l.text l.scope l.defined.invariants (drop l.def-index l.defs) ≡ invariants_with l.text l.scope [] l.defs)
