use Rattle.asm_io.specs.Lines.{too_long}
use Rattle.asm_stdio.proofs.Parts.{part_if_failed}
use Rattle.asm_stdio.proofs.answer.answer_long_line.Goals as goal

pub returns-clause-part : goal.returns-clause-part
returns-clause-part g c =
    part_if_failed c.args.one.now.journal c.args.one.now.journal too_long c.long_reply.result (g.K.Sink.held c.args.sink.now) (g.K.Sink.held c.put.new.sink) c.put.result
    c.long_reply.ensures c.put.ensures.part
