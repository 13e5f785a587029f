-- Each of the types that were passed joins with the one.
use Rattle.std.proofs.Common.{◌≡◌, drop}
use Rattle.asm_typed.specs.Own.{joins_refused}
use Rattle.asm_typed.proofs.forms.all_join.Given as goal

abbrev pub invariant-loop-other : goal.invariant-loop-other
invariant-loop-other l = joins_refused l.of (drop l.other-index l.types) l.span ≡ joins_refused l.of l.types l.span
