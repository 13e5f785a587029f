use Rattle.std.proofs.Common.{◌≡◌, ◌++◌, drop, map}
use Rattle.asm_program.specs.Signatures.{domain_of}
use Rattle.asm_scope.proofs.domains.+domains.Given as goal

abbrev pub invariant-add_domains-loop-tree : goal.invariant-add_domains-loop-tree
invariant-add_domains-loop-tree l = l.domains ++ map (domain_of l.names) (drop l.tree-index l.trees) ≡ l.initial.domains ++ map (domain_of l.names) l.trees
