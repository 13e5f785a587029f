-- The types passed so far fit, so the rest decides.
use Rattle.std.proofs.Common.{◌≡◌, length, drop, map}
use Rattle.asm_value.specs.Domain.{each_passes}
use Rattle.asm_typing.specs.Fits.{fits}
use Rattle.asm_typing.proofs.fitting.+fits.Given as goal

abbrev pub invariant-each_fits-loop-at : goal.invariant-each_fits-loop-at
invariant-each_fits-loop-at l =
    (each_passes (map fits (drop l.at l.types)) (drop l.at l.wanted)
    ≡ each_passes (map fits l.types) l.wanted)
    × (length l.wanted ≡ length l.types)
