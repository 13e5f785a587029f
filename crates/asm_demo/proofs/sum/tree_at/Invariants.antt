use Rattle.std.proofs.Common.{◌≡◌, drop}
use Rattle.asm_demo.specs.Sums.{tree_at}
use Rattle.asm_demo.proofs.sum.tree_at.Given as goal

abbrev pub invariant-loop-field : goal.invariant-loop-field
invariant-loop-field l = tree_at l.key (drop l.field-index l.fields) ≡ tree_at l.key l.fields
