-- Those so far, with those of the rest, are all.
use Rattle.std.proofs.Common.{◌≡◌, [], drop}
use Rattle.asm_calls.specs.Texts.{all_defined, defined_from}
use Rattle.asm_calls.proofs.texts.definitions_in.Given as goal

abbrev pub invariant-loop-tree : goal.invariant-loop-tree
invariant-loop-tree l =
    defined_from (all_defined l.all) (drop l.tree-index l.trees) ≡ defined_from [] l.trees
