use Rattle.asm_book.proofs.SeatLists.{numbers_later}
use Rattle.asm_book.proofs.token.Token.peek.Goals as goal

pub invariant_of-self : goal.invariant_of-self
invariant_of-self g c =
    let i = c.self.invariant in
    record {
      seated = i.seated;
      own = numbers_later c.self.inside.seat c.self.inside.reader c.enter.new.reader c.self.inside.mine.items i.own c.enter.ensures.later;
      one_part = i.one_part;
      counted = i.counted;
    }
