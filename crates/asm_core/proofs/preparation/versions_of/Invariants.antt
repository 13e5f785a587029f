-- the versions so far, and then those of the names that are left
use Rattle.std.proofs.Common.{◌≡◌, ◌++◌, drop}
use Rattle.asm_board.specs.Slots.{versions_in}
use Rattle.asm_core.proofs.preparation.versions_of.Given as goal

abbrev pub invariant-loop-name : goal.invariant-loop-name
invariant-loop-name l =
    l.versions ++ versions_in l.board.slots (drop l.name-index l.names) ≡ versions_in l.board.slots l.names
