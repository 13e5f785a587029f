-- The counts that settled tell of the text.
use Rattle.std.proofs.Common.{ap}
use Rattle.asm_limits.proofs.Tells.{counted-result}
use Rattle.asm_limits.proofs.limits.counts_of.Goals as goal

pub returns : goal.returns
returns c =
    counted-result c.args.tree.now c.args.definitions.now c.args.scope.now.domains
    (ap (λ scope. scope.domains) c.requires.scoped) c.requires.defined c.settled.result
    c.settled.ensures
