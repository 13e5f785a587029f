-- There are fewer ranges left; and the members so far were gone through.
use Rattle.std.proofs.Common.{◌≡◌, ◌+◌, ◌*◌, drop, length}
use Rattle.asm_value.specs.Ranges.{tuples, each_first}
use Rattle.asm_terms.specs.Starts.{starts_after}
use Rattle.asm_terms.proofs.start.+start.Given as goal

abbrev pub decreases-start_each : goal.decreases-start_each
decreases-start_each l = 3 * length l.ranges.now

abbrev pub decreases-start_members : goal.decreases-start_members
decreases-start_members l = 3 * length l.others.now + 2

abbrev pub decreases-start_with : goal.decreases-start_with
decreases-start_with l = 3 * length l.others.now + 1

abbrev pub invariant-start_members-loop-member : goal.invariant-start_members-loop-member
invariant-start_members-loop-member l = record {
  rest : starts_after l.view l.init l.env (each_first (drop l.member-index l.members)
      (tuples l.others)) l.state
      ≡ starts_after l.view l.init l.fn.env (each_first l.members (tuples l.others)) l.fn.state;
  same : l.env ≡ l.fn.env;
}
