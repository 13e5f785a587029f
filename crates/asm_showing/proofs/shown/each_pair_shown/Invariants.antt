use Rattle.std.proofs.Common.{◌≡◌, ◌++◌, map, drop}
use Rattle.std.specs.Map.Iter.{deref_pair}
use Rattle.asm_board.specs.Shown as spec
use Rattle.asm_showing.proofs.shown.each_pair_shown.Given as goal

-- the pairs shown, and those still to show
abbrev pub invariant-loop-entry : goal.invariant-loop-entry
invariant-loop-entry l = l.trees ++ map (spec.pair_shown l.domains) (map deref_pair (drop l.entry-index l.entries)) ≡ map (spec.pair_shown l.domains) (map deref_pair l.entries)
