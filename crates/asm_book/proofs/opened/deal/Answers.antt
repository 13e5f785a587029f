use Rattle.std.proofs.Common.{◌≡◌, ◌++◌, ◌∷◌, ◌+◌, [], ℕ, List, length, sym, ap, ◌∙◌, arith, length-append}
use Rattle.asm_board.specs.declared.entry.Entry.{Entry}
use Rattle.asm_book.specs.Tokens.{Known}
use Rattle.asm_book.specs.Gathered.{fresh_from}
use Rattle.asm_book.proofs.Gathers.{fresh-push, replicate_last}
use Rattle.asm_book.proofs.opened.deal.Goals as goal

pub loop-reader-preserved : goal.loop-reader-preserved
loop-reader-preserved g c =
    let i = c.loop-reader.invariant in
    let left : List (List Entry) = c.pop.new.self.items in
    let seat : ℕ = c.loop-reader.seat in
    let items : c.loop-reader.readers.items ≡ left ++ c.in-Some.reader ∷ [] = c.in-Some.ensures.items in
    let count = length-append left (c.in-Some.reader ∷ []) in
    let last = replicate_last (length c.loop-reader.readers.items) left c.in-Some.reader [] (sym items ∙ i.empty) in
    let zero-more : seat ≡ 0 + seat = omega arith in
    let token : c.new.result ≡ record { seat = 0 + seat; history = []; mine = []; holds = 0 } = c.new.ensures ∙ ap (λ (k : ℕ). record { seat = k; history = []; mine = []; holds = 0 }) zero-more in
    record {
      seats = omega (arith, i.seats, ap length items, count);
      empty = last.1;
      parts = omega (arith, c.split_off-part.ensures.parts_left, i.parts, ap length items, count);
      amount = omega (arith, c.split_off-part.ensures.amount_left, i.amount);
      fresh = c.in_ok-push.ensures.items ∙ (ap (λ (ts : List Known). ts ++ c.new.result ∷ []) i.fresh ∙ (ap (λ (t : Known). fresh_from 0 seat ++ t ∷ []) token ∙ sym (fresh-push 0 seat)));
    }
