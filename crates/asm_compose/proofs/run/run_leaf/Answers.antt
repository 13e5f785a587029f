-- The step was made, whatever follows it.
use Rattle.std.proofs.Common.{[], ◌∷◌}
use Rattle.std.proofs.lemmas.Result.{err_from_is_err_and}
use Rattle.asm_compose.specs.Steps.{made_of}
use Rattle.asm_compose.proofs.Following.{part_all}
use Rattle.asm_compose.proofs.run.run_leaf.Goals as goal

pub returns-in_err-copy-in-None-clause-follows : goal.returns-in_err-copy-in-None-clause-follows
returns-in_err-copy-in-None-clause-follows g c =
    let begins = g.L.Leaf.begins c.args.leaf.now in
    let p = err_from_is_err_and c.from_residual-in_err-copy-in-None.result c.from_residual-in_err-copy-in-None.ensures.1 in
    rw p.1
    (part_all g.L.Leaf.has_made c.args.leaf.now c.step.new.self
    (made_of begins c.args.name.now c.args.offer.now ∷ []) c.in_ok-gives.ensures.makes)
