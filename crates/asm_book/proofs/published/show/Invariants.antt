use Rattle.std.proofs.Common.{◌≤◌, length}
use Rattle.asm_book.proofs.published.show.Given as goal

abbrev pub invariant-loop : goal.invariant-loop
invariant-loop g l =
    (goal.iterator-loop g).can_next l.iterator' × (goal.iterator-loop g).is_finite l.iterator' × (length l.writer.desk.shown.value.log ≤ length l.fn.next.log)
