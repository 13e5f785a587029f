use Rattle.std.proofs.Common.{◌≡◌, ◌++◌, ◌<◌, List, ℕ, length, take, drop, get_or, sym, ap, ◌∙◌, subst, arith}
use Rattle.std.proofs.lemmas.Grind.{common_steps}
use Rattle.asm_book.specs.Tokens.{Known}
use Rattle.asm_book.specs.Gathered.{SeatedFrom, fresh_from}
use Rattle.asm_book.proofs.Gathers.{seats_kept, fresh_seated, length-fresh}
use Rattle.asm_seats.proofs.threads.day.Goals as goal

whole : (xs ys : List Known) (n : ℕ) → n ≡ length xs → take n (xs ++ ys) ≡ xs
whole xs ys n is = grind (arith, common_steps)

pub gather-requires-clause-all : goal.gather-requires-clause-all
gather-requires-clause-all g c =
    let tokens : c.in_ok-book.tokens.items ≡ fresh_from 0 c.args.seats = c.in_ok-book.ensures.tokens in
    omega (arith, c.in_ok-book.tokens.ok.0, ap length tokens, length-fresh 0 c.args.seats, c.requires.seats.2)

pub gather-requires-clause-order : goal.gather-requires-clause-order
gather-requires-clause-order g c =
    let new : List Known = c.work_all.new.tokens in
    let old : List Known = c.in_ok-book.tokens.items in
    let tail : List Known = drop (length new) old in
    let n : ℕ = c.in_ok-book.tokens.len in
    let slice : c.as_mut_slice.result.now ≡ old = c.as_mut_slice.ensures.value in
    let tokens : old ≡ fresh_from 0 c.args.seats = c.in_ok-book.ensures.tokens in
    let same : length new ≡ length old = c.work_all.ensures.length ∙ ap length slice in
    let count : n ≡ length new = omega (arith, same, c.in_ok-book.tokens.ok.0) in
    let all : take n (new ++ tail) ≡ new = whole new tail n count in
    let kept : (k : ℕ) (d : Known) → k < length old → (get_or new k d).seat ≡ (get_or old k d).seat = subst (λ (xs : List Known). (k : ℕ) (d : Known) → k < length xs → (get_or new k d).seat ≡ (get_or xs k d).seat) slice c.work_all.ensures.seats in
    subst (SeatedFrom 0) (sym all) (seats_kept 0 old new same kept (subst (SeatedFrom 0) (sym tokens) (fresh_seated 0 c.args.seats)))
