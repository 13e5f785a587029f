-- Nothing was refused of the names that were passed.
use Rattle.std.proofs.Common.{◌≡◌, drop}
use Rattle.asm_typed_models.specs.Forms.{subjects_refused}
use Rattle.asm_typed_models.proofs.invariants.all_subjects.Given as goal

abbrev pub invariant-loop-name : goal.invariant-loop-name
invariant-loop-name l = subjects_refused l.scope (drop l.name-index l.names) ≡ subjects_refused l.scope l.names
