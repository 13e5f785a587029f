use Rattle.std.proofs.Common.{◌≡◌, true, Some, refl, sym, ap}
use Rattle.asm_board.specs.Calls.{is_change}
use Rattle.asm_board.specs.Answers.{Answer}
use Rattle.asm_core.proofs.Answered.{settled, keeps_settled}
use Rattle.asm_core.proofs.one.One.answer.Goals as goal

pub invariant_of-self-in-Some : goal.invariant_of-self-in-Some
invariant_of-self-in-Some c =
    let is : is_change c.in_ok-prepared.prepared.call ≡ true = search (c.is_change.ensures, c.if-not-is_change.false) in
    let some : c.in_ok-reply.field-0.next ≡ Some c.in-Some.field-0 = cc in
    keeps_settled c.self.inside.room c.self.inside.journal.items c.push.new.self.items c.self.inside.board c.args.call.now c.in_ok-prepared.prepared c.in_ok-reply.field-0 c.in-Some.field-0 c.in-Some.field-0.entry
    c.self.invariant c.in_ok-prepared.ensures is c.in_ok-reply.ensures.answer some refl (rw some at c.in_ok-reply.ensures.board) c.in_ok-push-in-Some.ensures.items

pub returns-clause-reply : goal.returns-clause-reply
returns-clause-reply c =
    let is : is_change c.in_ok-prepared.prepared.call ≡ true = search (c.is_change.ensures, c.if-not-is_change.false) in
    sym (ap (λ (a : Answer). a.reply) (settled c.args.self.now c.self.inside.room c.self.inside.journal.items c.self.inside.board c.args.call.now c.in_ok-prepared.prepared c.in_ok-reply.field-0
    (sym c.self.view_is) c.self.invariant c.in_ok-prepared.ensures is c.in_ok-reply.ensures.answer))
