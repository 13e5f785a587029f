use Rattle.std.proofs.Common.{[], ◌∷◌}
use Rattle.asm_wire.specs.Lines.{line_of}
use Rattle.asm_wire.proofs.Parts.{part_of_second, on_err}
use Rattle.asm_wire.proofs.reply.put_tail.Goals as goal

pub returns-clause-part : goal.returns-clause-part
returns-clause-part g c = on_err c.put_end.result _ _ (part_of_second _ _ _ (44 ∷ []) (line_of c.args.tail.now) c.in_ok-write_whole.ensures.all) c.put_end.ensures.part
