-- What was joined so far comes before the joins of the rest.
use Rattle.std.proofs.Common.{◌≡◌, ◌++◌, length, drop}
use Rattle.std.specs.Option.{option_map}
use Rattle.asm_typing.specs.Joins.{joins}
use Rattle.asm_typing.proofs.joining.+join.Given as goal

abbrev pub invariant-joins-loop-at : goal.invariant-joins-loop-at
invariant-joins-loop-at l =
    (option_map (λ us. l.joined ++ us) (joins (drop l.at l.types) (drop l.at l.others))
    ≡ joins l.types l.others)
    × (length l.types ≡ length l.others)
