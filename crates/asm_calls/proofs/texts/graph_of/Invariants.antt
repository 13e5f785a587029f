-- The calls of the definitions that were passed.
use Rattle.std.proofs.Common.{◌≡◌, take}
use Rattle.asm_calls.specs.Texts.{all_defined, graph_in}
use Rattle.asm_calls.proofs.texts.graph_of.Given as goal

abbrev pub invariant-loop-one : goal.invariant-loop-one
invariant-loop-one l = l.graph ≡ graph_in l.index (all_defined (take l.one-index l.all))
