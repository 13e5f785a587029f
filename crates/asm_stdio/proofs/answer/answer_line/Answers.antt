use Rattle.asm_io.specs.Lines.{whole}
use Rattle.asm_stdio.proofs.Parts.{part_if_failed}
use Rattle.asm_stdio.proofs.answer.answer_line.Goals as goal

pub returns-clause-part : goal.returns-clause-part
returns-clause-part g c =
    part_if_failed c.args.one.now.journal c.reply_to-reply.new.one.journal (whole c.args.line.now) c.reply_to-reply.result (g.K.Sink.held c.args.sink.now) (g.K.Sink.held c.put.new.sink) c.put.result
    c.reply_to-reply.ensures.leaves c.put.ensures.part
