use Rattle.std.proofs.Common.{◌≡◌, ◌++◌, ◌∷◌, [], List, length, ap, arith, length-append}
use Rattle.asm_book.specs.Seats.{total_length}
use Rattle.asm_book.specs.Tokens.{Known}
use Rattle.asm_book.specs.Gathered.{mines}
use Rattle.asm_book.proofs.Gathers.{total-push}
use Rattle.asm_book.proofs.locked.merge_all.Goals as goal

pub loop-token-preserved : goal.loop-token-preserved
loop-token-preserved g c =
    let left : List Known = c.pop.new.self.items in
    let token : Known = c.in-Some.token in
    let items : c.loop-token.tokens.items ≡ left ++ token ∷ [] = c.in-Some.ensures.items in (
      omega (arith, c.merge.ensures.parts, c.into_share.ensures.parts, c.loop-token.invariant.0, ap length items, length-append left (token ∷ [])),
      omega (arith, c.merge.ensures.amount, c.into_share.ensures.amount, c.loop-token.invariant.1, ap (λ (ts : List Known). total_length (mines ts)) items, total-push left token),
    )
