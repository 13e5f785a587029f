use Rattle.asm_core.specs.Language.{asmeta}
use Rattle.asm_core.proofs.Logged.{answer_told}
use Rattle.asm_core.proofs.logs.answer_log.Goals as goal

pub returns-clause-answer : goal.returns-clause-answer
returns-clause-answer c room seat journal is long asked =
    answer_told asmeta room seat c.args.front journal c.args.entries.now c.args.call.now c.new.result is long asked (rw c.in_ok-body.ensures at c.new.ensures)
