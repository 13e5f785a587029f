use Rattle.std.proofs.Common.{◌≡◌, List, sym, ap, ◌∙◌, subst, arith}
use mathlib.Core.List.{IsPrefix}
use Rattle.asm_board.specs.declared.entry.Entry.{Entry}
use Rattle.asm_book.specs.Seats.{IsPick, numbers_of}
use Rattle.asm_book.proofs.SeatLists.{numbers_later}
use Rattle.asm_book.proofs.Prefixes.{prefix_trans}
use Rattle.asm_book.proofs.Settling.{commits_later}
use Rattle.asm_book.proofs.token.Token.commit_at.Goals as goal

pub catch_up-requires : goal.catch_up-requires
catch_up-requires g c =
    let m = g.L.Opening.meanings in
    let old : List Entry = c.self.inside.reader in
    let journal : List Entry = c.args.journal.now in
    let after : List Entry = c.commit-result.new.self in
    let before : IsPrefix old journal = subst (λ (h : List Entry). IsPrefix h journal) (sym (ap (λ k. k.history) c.self.view_is)) c.requires.later in
    let later : IsPrefix journal after = commits_later m g.L.Opening.room journal c.self.inside.seat c.args.prepared c.self.inside.mine.items c.commit-result.result after c.commit-result.new.mine.items c.commit-result.ensures.commits in
    subst (λ (h : List Entry). IsPrefix old h) (sym c.front.ensures) (prefix_trans old journal after before later)

pub invariant_of-self : goal.invariant_of-self
invariant_of-self g c =
    let i = c.self.invariant in
    let seat = c.self.inside.seat in
    let pre : IsPrefix c.self.inside.reader c.args.journal.now = subst (λ (h : List Entry). IsPrefix h c.args.journal.now) (sym (ap (λ k. k.history) c.self.view_is)) c.requires.later in
    let own = c.commit-result.ensures.own (numbers_later seat c.self.inside.reader c.args.journal.now c.self.inside.mine.items i.own pre) in
    let now : c.catch_up.new.self ≡ c.commit-result.new.self = c.catch_up.ensures ∙ c.front.ensures in
    record {
      seated = i.seated;
      own = subst (λ (h : List Entry). IsPick c.commit-result.new.mine.items (numbers_of seat h)) (sym now) own;
      one_part = c.commit-result.ensures.parts ∙ i.one_part;
      counted = omega (arith, c.commit-result.ensures.amount, i.counted);
    }
