use Rattle.asm_names.proofs.ScopeSteps.{few_of}
use Rattle.asm_names.proofs.scope.declared_names.Goals as goal

pub names_of-requires-clause-few : goal.names_of-requires-clause-few
names_of-requires-clause-few c = few_of c.in_ok-items.items c.args.tree.now c.in_ok-items.ensures c.in_ok-names_checked.ensures.0
