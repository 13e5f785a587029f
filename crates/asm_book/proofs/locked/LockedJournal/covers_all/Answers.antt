use Rattle.std.proofs.Common.{refl, ◌≡◌, ℕ, ◌<◌, List, length, get_or, ap, subst, arith, below_more}
use Rattle.std.proofs.lemmas.List.{get_or_read}
use mathlib.Core.List.{IsPrefix}
use Rattle.asm_board.specs.declared.entry.Entry.{Entry}
use Rattle.asm_book.specs.Tokens.{Known}
use Rattle.asm_book.specs.Gathered.{Begins}
use Rattle.asm_book.proofs.locked.LockedJournal.covers_all.Goals as goal

pub loop-token-preserved : goal.loop-token-preserved
loop-token-preserved g c =
    let journal : List Entry = c.args.self.now in
    let ts : List Known = c.args.tokens.now.items in
    let i : ℕ = c.loop-token.token-index in
    let token : Known = c.token-item.result in
    let pre : IsPrefix token.history journal = subst (λ (h : List Entry). IsPrefix h journal) c.front.ensures.history (c.if-not-covers.ensures.covers refl) in
    let begins : Begins journal token = (pre, c.front.ensures.own) in
    let same : c.deref-token-items.result.now ≡ ts = c.deref-token-items.ensures.value in
    let lt : i < length ts = omega (arith, c.loop-token-test.true, ap length same) in
    let is : token ≡ get_or ts i token = subst (λ (xs : List Known). token ≡ get_or xs i token) same c.token-item.is in
    let P : ℕ → Type 0 = λ k. (d : Known) → Begins journal (get_or ts k d) in
    let all = below_more P i (λ k h d. c.loop-token.invariant.at k d h) (λ d. subst (Begins journal) (get_or_read ts i token lt is d) begins) in
    record { at = λ k d h. all k h d }

pub returns : goal.returns
returns g c t = record { at = λ k d h. c.loop-token.invariant.at k d (omega (arith, h, c.loop-token-test.false, c.deref-token-items.ensures.len)) }
