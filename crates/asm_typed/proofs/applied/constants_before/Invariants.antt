-- The constants so far are those of the functions that were passed.
use Rattle.std.proofs.Common.{◌≡◌, ◌≤◌, take}
use Rattle.std.specs.List.{count_by}
use Rattle.asm_program.specs.TypedTerms.{is_constant_of}
use Rattle.asm_typed.proofs.applied.constants_before.Given as goal

abbrev pub invariant-loop-at : goal.invariant-loop-at
invariant-loop-at l =
    (l.count ≡ count_by (is_constant_of l.domain) (take l.at l.functions)) × (l.count ≤ l.at)
