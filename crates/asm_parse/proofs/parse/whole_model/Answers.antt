use Rattle.std.proofs.Common.{sym}
use Rattle.asm_parse.proofs.Answers.{model_foreign}
use Rattle.asm_parse.proofs.parse.whole_model.Goals as goal

pub returns-in-Ok-Some : goal.returns-in-Ok-Some
returns-in-Ok-Some c =
    model_foreign c.args.bytes c.args.tokens.now c.in-Ok-Some.import.rest.now (c.in-Ok-Some.import.first, c.in-Ok-Some.import.others) _
    (sym (rw c.in-Ok-Some.field-0-is at c.in-Ok-Some.ensures)) c.unsupported.ensures
