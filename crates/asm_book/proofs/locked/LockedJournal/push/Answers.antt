use Rattle.std.proofs.Common.{MatchOption, ◌≡◌, ◌<◌, ◌++◌, ◌∷◌, [], List, length, sym, ap, ◌∙◌, subst, arith, length-append}
use Rattle.std.specs.Arc.{arc_value}
use Rattle.asm_board.specs.declared.entry.Entry.{Entry}
use Rattle.asm_board.specs.Boards.{board_of}
use Rattle.asm_book.specs.Seats.{SeatsBelow}
use Rattle.asm_book.proofs.SeatLists.{seats_push}
use Rattle.asm_book.proofs.locked.LockedJournal.push.Goals as goal

pub invariant_of-self-2 : goal.invariant_of-self-2
invariant_of-self-2 g c =
    let h : List Entry = c.self.inside.front in
    let e : Entry = c.in_ok-entry.entry in
    let i = c.self.invariant.0 in
    let pushed : c.push.new.self ≡ h ++ e ∷ [] = c.if-not-push.ensures in
    let is : e ≡ c.args.next.entry = c.in_ok-entry.ensures.0 in
    let whole : c.args.self.now ++ c.args.next.entry ∷ [] ≡ c.push.new.self =
    ap (λ (xs : List Entry). xs ++ c.args.next.entry ∷ []) (sym c.self.view_is) ∙ (ap (λ (x : Entry). h ++ x ∷ []) (sym is) ∙ sym pushed) in
    let new : arc_value c.in_ok-entry.board ≡ board_of g.L.Opening.meanings c.push.new.self =
    c.in_ok-entry.ensures.1 ∙ (c.requires.board ∙ ap (board_of g.L.Opening.meanings) whole) in (
      record {
        journal_is = c.push_reserved.ensures.items ∙ (ap (λ (xs : List Entry). xs ++ e ∷ []) (c.in_ok-reserve_both.ensures.journal ∙ i.journal_is) ∙ sym pushed);
        board_is = new;
        counted = omega (arith, c.add.ensures.total, i.counted, ap length pushed, length-append h (e ∷ []));
        room_is = i.room_is;
        small = i.small;
        seated = subst (SeatsBelow g.L.Opening.seats) (sym pushed) (seats_push g.L.Opening.seats h e i.seated (subst (λ (x : Entry). x.seat < g.L.Opening.seats) (sym is) c.requires.seat));
      },
      subst (λ (l : List Entry). MatchOption c.show_through.new.place ⊥ (λ w. w.writer.desk.shown.value.log ≡ l)) c.new-next.ensures.log c.show_through.ensures,
    )
