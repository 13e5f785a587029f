-- The trees copied so far are those that were passed.
use Rattle.std.proofs.Common.{◌≡◌, take}
use Rattle.asm_compose.proofs.given.copy_trees.Given as goal

abbrev pub invariant-loop-tree : goal.invariant-loop-tree
invariant-loop-tree l = l.copies ≡ take l.tree-index l.trees
