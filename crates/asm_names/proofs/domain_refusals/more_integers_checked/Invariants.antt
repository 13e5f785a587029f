use Rattle.std.proofs.Common.{◌≡◌, drop}
use Rattle.asm_program.specs.DomainsPass.{integers_refused}
use Rattle.asm_names.proofs.domain_refusals.more_integers_checked.Given as goal

abbrev pub invariant-loop-tree : goal.invariant-loop-tree
invariant-loop-tree l = integers_refused l.natural l.seen (drop l.tree-index l.trees) ≡ integers_refused l.natural l.initial.seen l.trees
