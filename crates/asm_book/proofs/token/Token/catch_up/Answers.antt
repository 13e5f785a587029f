use Rattle.std.proofs.Common.{List, sym, ap, subst}
use mathlib.Core.List.{IsPrefix}
use Rattle.asm_board.specs.declared.entry.Entry.{Entry}
use Rattle.asm_book.proofs.SeatLists.{numbers_later}
use Rattle.asm_book.proofs.token.Token.catch_up.Goals as goal

pub invariant_of-self : goal.invariant_of-self
invariant_of-self g c =
    let i = c.self.invariant in
    let old : List Entry = c.self.inside.reader in
    let new : List Entry = c.catch_up.new.self in
    let pre : IsPrefix old new = subst (λ (h : List Entry). IsPrefix old h) (sym c.catch_up.ensures) (subst (λ (h : List Entry). IsPrefix h c.args.front.now) (sym (ap (λ k. k.history) c.self.view_is)) c.requires) in
    record {
      seated = i.seated;
      own = numbers_later c.self.inside.seat old new c.self.inside.mine.items i.own pre;
      one_part = i.one_part;
      counted = i.counted;
    }
