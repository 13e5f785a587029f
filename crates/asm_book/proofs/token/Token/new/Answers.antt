use Rattle.std.proofs.Common.{List, length, sym, ap, ◌∙◌, subst}
use Rattle.asm_board.specs.declared.entry.Entry.{Entry}
use Rattle.asm_book.specs.Seats.{IsPick, none, numbers_of}
use Rattle.asm_book.proofs.token.Token.new.Goals as goal

pub invariant_of-result : goal.invariant_of-result
invariant_of-result g c =
    let items = c.new.ensures.items in
    record {
      seated = c.requires.seat;
      own = subst (λ (h : List Entry). IsPick c.new.result.items (numbers_of c.args.seat h)) (sym c.requires.reader) (rw items none);
      one_part = c.requires.share.0;
      counted = c.requires.share.1 ∙ sym (ap length items);
    }
