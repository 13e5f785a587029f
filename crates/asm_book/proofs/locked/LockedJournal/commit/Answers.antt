use Rattle.std.proofs.Common.{◌≡◌, ◌<◌, List, None, sym, ap, ◌∙◌, subst}
use Rattle.std.specs.Prelude.{IfSome}
use Rattle.asm_board.specs.declared.entry.Entry.{Entry}
use Rattle.asm_board.specs.Boards.{board_of, with_entry}
use Rattle.asm_board.specs.Answers.{Legal, answer_in, first_stale, outcome_of}
use Rattle.asm_book.proofs.Settling.{Enters, enters, entered_ends, pick_entered}
use Rattle.asm_book.proofs.locked.LockedJournal.commit.Goals as goal

pub push-requires-clause-legal : goal.push-requires-clause-legal
push-requires-clause-legal g c =
    let m = g.L.Opening.meanings in
    let room = g.L.Opening.room in
    let p = c.args.prepared in
    let o = c.in-Ok.outcome in
    let journal : List Entry = c.args.self.now in
    let i = c.self.invariant.0 in
    let held = i.board_is ∙ ap (board_of m) c.self.view_is in
    let first : c.deref.result.now ≡ board_of m journal = c.deref.ensures ∙ held in
    let second : c.deref-2.result.now ≡ board_of m journal = c.deref-2.ensures ∙ held in
    let fresh : None ≡ first_stale p.versions (board_of m journal) = c.in_default.ensures ∙ (λ j. first_stale (c.as_slice.ensures j) (first j)) in
    let answered : answer_in o ≡ outcome_of room (board_of m journal) c.args.seat p = c.in-Ok.ensures.answer ∙ (λ j. outcome_of (i.room_is j) (second j) c.args.seat p) in
    let left = subst (λ b. IfSome o.next (λ next. next.board ≡ with_entry b p.weight p.slots)) second c.in-Ok.ensures.board in
    let legal = subst (λ (h : List Entry). Legal m room h) c.self.view_is c.len-count.ensures.legal in
    let s = c.requires.stands in
    let e : Enters m room journal c.args.seat p c.in-Some-next.next = enters m room s.0 journal c.args.seat p o c.in-Some-next.next c.requires.change legal s.1 s.2 fresh answered left c.in-Some-next.is in
    e.adds.legal

pub push-requires-clause-board : goal.push-requires-clause-board
push-requires-clause-board g c =
    let m = g.L.Opening.meanings in
    let room = g.L.Opening.room in
    let p = c.args.prepared in
    let o = c.in-Ok.outcome in
    let journal : List Entry = c.args.self.now in
    let i = c.self.invariant.0 in
    let held = i.board_is ∙ ap (board_of m) c.self.view_is in
    let first : c.deref.result.now ≡ board_of m journal = c.deref.ensures ∙ held in
    let second : c.deref-2.result.now ≡ board_of m journal = c.deref-2.ensures ∙ held in
    let fresh : None ≡ first_stale p.versions (board_of m journal) = c.in_default.ensures ∙ (λ j. first_stale (c.as_slice.ensures j) (first j)) in
    let answered : answer_in o ≡ outcome_of room (board_of m journal) c.args.seat p = c.in-Ok.ensures.answer ∙ (λ j. outcome_of (i.room_is j) (second j) c.args.seat p) in
    let left = subst (λ b. IfSome o.next (λ next. next.board ≡ with_entry b p.weight p.slots)) second c.in-Ok.ensures.board in
    let legal = subst (λ (h : List Entry). Legal m room h) c.self.view_is c.len-count.ensures.legal in
    let s = c.requires.stands in
    let e : Enters m room journal c.args.seat p c.in-Some-next.next = enters m room s.0 journal c.args.seat p o c.in-Some-next.next c.requires.change legal s.1 s.2 fresh answered left c.in-Some-next.is in
    e.board

pub push-requires-clause-seat : goal.push-requires-clause-seat
push-requires-clause-seat g c =
    let m = g.L.Opening.meanings in
    let room = g.L.Opening.room in
    let p = c.args.prepared in
    let o = c.in-Ok.outcome in
    let journal : List Entry = c.args.self.now in
    let i = c.self.invariant.0 in
    let held = i.board_is ∙ ap (board_of m) c.self.view_is in
    let first : c.deref.result.now ≡ board_of m journal = c.deref.ensures ∙ held in
    let second : c.deref-2.result.now ≡ board_of m journal = c.deref-2.ensures ∙ held in
    let fresh : None ≡ first_stale p.versions (board_of m journal) = c.in_default.ensures ∙ (λ j. first_stale (c.as_slice.ensures j) (first j)) in
    let answered : answer_in o ≡ outcome_of room (board_of m journal) c.args.seat p = c.in-Ok.ensures.answer ∙ (λ j. outcome_of (i.room_is j) (second j) c.args.seat p) in
    let left = subst (λ b. IfSome o.next (λ next. next.board ≡ with_entry b p.weight p.slots)) second c.in-Ok.ensures.board in
    let legal = subst (λ (h : List Entry). Legal m room h) c.self.view_is c.len-count.ensures.legal in
    let s = c.requires.stands in
    let e : Enters m room journal c.args.seat p c.in-Some-next.next = enters m room s.0 journal c.args.seat p o c.in-Some-next.next c.requires.change legal s.1 s.2 fresh answered left c.in-Some-next.is in
    subst (λ k. k < g.L.Opening.seats) (sym e.adds.of_seat) c.requires.seat

pub returns-in-Ok-push-clause-commits : goal.returns-in-Ok-push-clause-commits
returns-in-Ok-push-clause-commits g c =
    let m = g.L.Opening.meanings in
    let room = g.L.Opening.room in
    let p = c.args.prepared in
    let o = c.in-Ok.outcome in
    let journal : List Entry = c.args.self.now in
    let i = c.self.invariant.0 in
    let held = i.board_is ∙ ap (board_of m) c.self.view_is in
    let first : c.deref.result.now ≡ board_of m journal = c.deref.ensures ∙ held in
    let second : c.deref-2.result.now ≡ board_of m journal = c.deref-2.ensures ∙ held in
    let fresh : None ≡ first_stale p.versions (board_of m journal) = c.in_default.ensures ∙ (λ j. first_stale (c.as_slice.ensures j) (first j)) in
    let answered : answer_in o ≡ outcome_of room (board_of m journal) c.args.seat p = c.in-Ok.ensures.answer ∙ (λ j. outcome_of (i.room_is j) (second j) c.args.seat p) in
    entered_ends m room journal c.args.seat p c.args.mine.now.items o c.in-Some-next.next c.push.new.self c.push.new.mine.items fresh answered c.in-Some-next.is c.in-Ok-push.ensures.journal c.in-Ok-push.ensures.mine

pub returns-in-Ok-push-clause-own : goal.returns-in-Ok-push-clause-own
returns-in-Ok-push-clause-own g c =
    let m = g.L.Opening.meanings in
    let room = g.L.Opening.room in
    let p = c.args.prepared in
    let o = c.in-Ok.outcome in
    let journal : List Entry = c.args.self.now in
    let i = c.self.invariant.0 in
    let held = i.board_is ∙ ap (board_of m) c.self.view_is in
    let first : c.deref.result.now ≡ board_of m journal = c.deref.ensures ∙ held in
    let second : c.deref-2.result.now ≡ board_of m journal = c.deref-2.ensures ∙ held in
    let fresh : None ≡ first_stale p.versions (board_of m journal) = c.in_default.ensures ∙ (λ j. first_stale (c.as_slice.ensures j) (first j)) in
    let answered : answer_in o ≡ outcome_of room (board_of m journal) c.args.seat p = c.in-Ok.ensures.answer ∙ (λ j. outcome_of (i.room_is j) (second j) c.args.seat p) in
    let left = subst (λ b. IfSome o.next (λ next. next.board ≡ with_entry b p.weight p.slots)) second c.in-Ok.ensures.board in
    let legal = subst (λ (h : List Entry). Legal m room h) c.self.view_is c.len-count.ensures.legal in
    let s = c.requires.stands in
    let e : Enters m room journal c.args.seat p c.in-Some-next.next = enters m room s.0 journal c.args.seat p o c.in-Some-next.next c.requires.change legal s.1 s.2 fresh answered left c.in-Some-next.is in
    pick_entered m room journal c.args.seat p c.in-Some-next.next.entry c.args.mine.now.items c.push.new.self c.push.new.mine.items e.adds c.in-Ok-push.ensures.journal c.in-Ok-push.ensures.mine
