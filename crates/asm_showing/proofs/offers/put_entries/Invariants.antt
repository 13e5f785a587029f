-- what is offered so far, and then each location that is left
use Rattle.std.proofs.Common.{◌≡◌, ◌++◌, drop, map}
use Rattle.std.specs.Map.Iter.{deref_pair}
use Rattle.asm_board.specs.Shown.{offered_entry}
use Rattle.asm_showing.proofs.offers.put_entries.Given as goal

abbrev pub invariant-loop-entry : goal.invariant-loop-entry
invariant-loop-entry l =
    l.offers.items
    ++ map (offered_entry l.domains l.function) (map deref_pair (drop l.entry-index l.entries))
    ≡ l.initial.offers.items ++ map (offered_entry l.domains l.function) (map deref_pair l.entries)
