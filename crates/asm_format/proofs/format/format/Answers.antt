use Rattle.asm_syntax.specs.Canonical.{canonical}
use Rattle.asm_format.proofs.Answers as answers
use Rattle.asm_format.proofs.format.format.Goals as goal

pub returns-in-Ok-clause-formatted : goal.returns-in-Ok-clause-formatted
returns-in-Ok-clause-formatted c = answers.formatted c.args.text.now c.in-Ok.tree _ c.in-Ok.ensures.found c.printed.ensures.text

pub returns-in-Ok-clause-same : goal.returns-in-Ok-clause-same
returns-in-Ok-clause-same c = answers.same c.args.text.now c.in-Ok.tree _ c.in-Ok.ensures.found c.printed.ensures.again

pub returns-in-Ok-clause-cause : goal.returns-in-Ok-clause-cause
returns-in-Ok-clause-cause c = answers.no_cause c.args.text.now _ c.printed.ensures.memory

pub returns-in-Ok-clause-only : goal.returns-in-Ok-clause-only
returns-in-Ok-clause-only c = λ tree model. answers.only c.in-Ok.tree tree _ (c.in-Ok.ensures.only tree model) c.printed.ensures.text c.printed.ensures.memory

pub returns-in-Ok-clause-first : goal.returns-in-Ok-clause-first
returns-in-Ok-clause-first c = λ why cause. answers.reported_first c.in-Ok.tree why _ (c.in-Ok.ensures.first why cause)

pub returns-in-Ok-clause-within : goal.returns-in-Ok-clause-within
returns-in-Ok-clause-within c = answers.within c.args.text.now _ c.printed.ensures.memory

pub returns-in-Err-clause-only : goal.returns-in-Err-clause-only
returns-in-Err-clause-only c = λ tree model. answers.none_read tree (canonical tree) c.in-Err.why (c.in-Err.ensures.only tree model)

pub returns-in-Err-clause-first : goal.returns-in-Err-clause-first
returns-in-Err-clause-first c = λ why cause. answers.same_reported c.in-Err.why why (c.in-Err.ensures.first why cause)
