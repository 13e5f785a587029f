-- The word so far, with the rest of the calls, is that of all.
use Rattle.std.proofs.Common.{◌≡◌, drop}
use Rattle.asm_calls.specs.Rows.{with_calls}
use Rattle.asm_calls.proofs.reach.word_of.Given as goal

abbrev pub invariant-loop-to : goal.invariant-loop-to
invariant-loop-to l = with_calls l.at l.word (drop l.to-index l.calls) ≡ with_calls l.at 0 l.calls
