use Rattle.std.proofs.Common.{◌≡◌, None, drop}
use Rattle.std.specs.List.{last_or}
use Rattle.asm_board.specs.Changes.{version_of_pair}
use Rattle.asm_core.proofs.Newest.{newest_from}
use Rattle.asm_core.proofs.changes.newest_of.Given as goal

-- with the pairs that are left it is the version of the last
abbrev pub invariant-loop-pair : goal.invariant-loop-pair
invariant-loop-pair l = newest_from l.newest (drop l.pair-index l.pairs) ≡ version_of_pair (last_or None l.pairs)
