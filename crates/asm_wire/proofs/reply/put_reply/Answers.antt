use Rattle.std.proofs.Common.{ℕ, List, ◌∷◌, ◌++◌, codes, decimal, sym, ap, subst, ◌∙◌}
use Rattle.asm_wire.specs.Lines.{line_of, AppendsPart}
use Rattle.asm_wire.proofs.Parts.{part_of_first, part_of_second, reply_line-pieces, on_err, on_any}
use Rattle.asm_wire.proofs.reply.put_reply.Goals as goal

pub returns-in_err-put_count-clause-part : goal.returns-in_err-put_count-clause-part
returns-in_err-put_count-clause-part g c =
    let reply = c.args.reply.now in
    let part = part_of_first _ _ _ (line_of (44 ∷ reply.tail)) c.in_err-put_count.ensures.part in
    on_any c.from_residual.result _ (subst (λ (bytes : List ℕ). AppendsPart (g.K.Sink.held c.args.sink.now) (g.K.Sink.held c.put_count.new.sink) bytes) (sym (reply_line-pieces reply)) part)

pub returns-clause-part : goal.returns-clause-part
returns-clause-part g c =
    let reply = c.args.reply.now in
    let Part : List ℕ → Type 0 = λ bytes. AppendsPart (g.K.Sink.held c.args.sink.now) (g.K.Sink.held c.put_tail.new.sink) bytes in
    let tail = c.as_bytes.ensures.value ∙ c.as_str.ensures in
    let whole = ap (λ bytes. (codes "{\"at\":" ++ decimal reply.at) ++ line_of (44 ∷ bytes)) tail ∙ sym (reply_line-pieces reply) in
    on_err c.put_tail.result _ _ (λ part. subst Part whole (part_of_second _ _ _ _ _ c.in_ok-put_count.ensures.all part)) c.put_tail.ensures.part
