use Rattle.std.proofs.Common.{◌≡◌, [], List, sym, ap, ◌∙◌, subst}
use Rattle.std.proofs.lemmas.List.{append-nil}
use Rattle.asm_board.specs.declared.entry.Entry.{Entry}
use Rattle.asm_board.specs.declared.prepared.Prepared.{Prepared}
use Rattle.asm_board.specs.declared.board.Board.{Board}
use Rattle.asm_board.specs.Boards.{board_of}
use Rattle.asm_board.specs.Answers.{Stands}
use Rattle.asm_seats.proofs.calls.change_held.Goals as goal

pub commit-requires-clause-stands : goal.commit-requires-clause-stands
commit-requires-clause-stands g c =
    let m = g.L.Opening.meanings in
    let history : List Entry = c.hold-held.new.self.history in
    let p : Prepared = c.in-Ok.prepared in
    let s = c.in-Ok.ensures in
    let at : c.board.result.now ≡ board_of m history = c.board.ensures ∙ ap (board_of m) c.hold-held.ensures.held in
    let stands : Stands m p c.args.call.now c.board.result.now = subst (λ k. Stands k p c.args.call.now c.board.result.now) (sym c.requires.meanings) s in
    (history, ([], append-nil history), subst (λ (b : Board). Stands m p p.call b) at (subst (λ k. Stands m p k c.board.result.now) (sym s.is_call) stands))
