-- the new slots so far, and then those of the news that are left
use Rattle.std.proofs.Common.{◌≡◌, ◌++◌, drop}
use Rattle.asm_board.specs.Slots.{new_slots}
use Rattle.asm_core.proofs.preparation.all_changed.Given as goal

abbrev pub invariant-loop-one : goal.invariant-loop-one
invariant-loop-one l =
    l.slots ++ new_slots l.board.slots (drop l.one-index l.news) ≡ new_slots l.board.slots l.news
