-- Where the numbers of domains and trees differ there are no arguments.
use Rattle.std.proofs.Common.{sym}
use Rattle.asm_inputs.proofs.Behind.{args_in-lengths}
use Rattle.asm_inputs.proofs.values.args_in.Goals as goal

pub returns-then-domains-trees : goal.returns-then-domains-trees
returns-then-domains-trees c =
    sym (args_in-lengths c.args.present.now.content.now c.args.domains.now c.args.trees.now c.if-domains-trees.true)
