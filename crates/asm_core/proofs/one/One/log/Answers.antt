use Rattle.std.proofs.Common.{sym, ◌∙◌, ap}
use Rattle.asm_board.specs.Logs.{asked_of}
use Rattle.asm_core.proofs.Logged.{server_told}
use Rattle.asm_core.proofs.one.One.log.Goals as goal

pub returns : goal.returns
returns c =
    server_told c.args.self.now c.self.inside.room c.self.inside.journal.items c.asked_of-entries.result.now c.args.call.now c.answer_log.result (sym c.self.view_is)
    (c.answer_log.ensures.answer c.self.inside.room 0 c.self.inside.journal.items c.requires (sym (c.front.ensures ∙ c.self.invariant.front))
    (c.asked_of-entries.ensures ∙ ap (asked_of c.args.call.now) c.as_slice.ensures.value))
