-- the news so far, and those of the leaves still to come
use Rattle.std.proofs.Common.{◌≡◌, ◌++◌, drop}
use Rattle.asm_board.specs.Changes.{news_of}
use Rattle.asm_core.proofs.formulas.news_of.Given as goal

abbrev pub invariant-loop-leaf : goal.invariant-loop-leaf
invariant-loop-leaf l = l.news ++ news_of (drop l.leaf-index l.leaves) ≡ news_of l.leaves
