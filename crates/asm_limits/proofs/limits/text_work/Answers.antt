-- What the walk refuses, and the work that it finds, are the text's.
use Rattle.asm_limits.proofs.Texts.{text-walk}
use Rattle.asm_limits.proofs.limits.text_work.Goals as goal

pub returns : goal.returns
returns c =
    text-walk c.args.tree.now c.args.scope.now c.args.definitions.now c.args.counted.now
    c.known.result.domains.now c.known.result.functions.now c.known.result.macros.now
    c.walked.result c.requires.scoped c.requires.sound c.requires.defined c.requires.counted
    c.known.ensures.domains c.known.ensures.functions c.known.ensures.macros c.walked.ensures
