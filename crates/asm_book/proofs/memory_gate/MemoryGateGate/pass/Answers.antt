use Rattle.std.proofs.Common.{◌≡◌, Some, None, cond, ◌∙◌, ap, subst, vec_capacity}
use Rattle.std.specs.Prelude.{option_map}
use Rattle.asm_book.specs.Looks.{Passed, last_passed}
use Rattle.asm_book.specs.MemoryGates.{Watch}
use Rattle.asm_book.proofs.LastLooks.{passes, tells_passed}
use Rattle.asm_book.proofs.memory_gate.MemoryGateGate.pass.Goals as goal

pub returns-in-Some-clause-passed : goal.returns-in-Some-clause-passed
returns-in-Some-clause-passed g c =
    let s = c.self.inside in
    let after = c.push_reserved.new.self.items in
    subst (λ (w : Watch). Passed w.looks (cond s.tells (Some after) None)) c.self.view_is
    (passes s.tells s.looks.items c.pop.new.self.items c.in-Some.look after c.in-Some.ensures.items c.push_reserved.ensures.items)

pub returns-in-Some-clause-tells : goal.returns-in-Some-clause-tells
returns-in-Some-clause-tells g c =
    let s = c.self.inside in
    let after = c.push_reserved.new.self.items in
    let looks = tells_passed s.tells s.looks.items c.pop.new.self.items c.in-Some.look after c.in-Some.ensures.items c.push_reserved.ensures.items in
    let room : vec_capacity c.push_reserved.new.self ≡ vec_capacity s.looks = c.push_reserved.ensures.capacity ∙ c.in-Some.ensures.capacity in
    (λ i. record { looks = looks i; room = room i; refusing = s.refusing.items; entrances = s.entrances; faults = s.faults })
    ∙ ap (λ (w : Watch). record { looks = option_map last_passed w.looks; room = w.room; refusing = w.refusing; entrances = w.entrances; faults = w.faults }) c.self.view_is
