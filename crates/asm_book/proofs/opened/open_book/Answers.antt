use Rattle.std.proofs.Common.{sym, ap, ◌∙◌}
use Rattle.asm_book.proofs.Journals.{board_of-nil}
use Rattle.asm_book.proofs.opened.open_book.Goals as goal

pub new-journal-requires-clause-empty : goal.new-journal-requires-clause-empty
new-journal-requires-clause-empty g c = (
  c.named-blank.ensures.front,
  c.in-Ok.ensures ∙ sym (board_of-nil g.L.Opening.meanings),
  ap (λ w. w.desk.shown.value.log) c.new-writer.ensures ∙ c.in-Ok-make.ensures.shown,
  c.open-total.ensures.total,
)
