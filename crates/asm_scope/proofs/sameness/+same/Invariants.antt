use Rattle.std.proofs.Common.{◌≡◌, length, drop, map}
use Rattle.asm_value.specs.Domain.{each_passes}
use Rattle.asm_program.specs.FunctionsPass.{same_domain}
use Rattle.asm_scope.proofs.sameness.+same.Given as goal

abbrev pub invariant-same_domains-loop-at : goal.invariant-same_domains-loop-at
invariant-same_domains-loop-at l =
    (each_passes (map same_domain (drop l.at l.left)) (drop l.at l.right) ≡ each_passes (map same_domain l.left) l.right) × (length l.right ≡ length l.left)
