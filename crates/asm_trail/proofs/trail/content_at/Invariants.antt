-- none of the pairs so far has the version
use Rattle.std.proofs.Common.{◌≡◌, ◌==◌, drop}
use Rattle.std.specs.Prelude.{find}
use Rattle.asm_trail.proofs.trail.content_at.Given as goal

abbrev pub invariant-loop-pair : goal.invariant-loop-pair
invariant-loop-pair l =
    find (λ p. p.version == l.version) (drop l.pair-index l.slot.trail.pairs)
    ≡ find (λ p. p.version == l.version) l.slot.trail.pairs
