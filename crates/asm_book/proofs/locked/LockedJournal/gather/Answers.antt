use Rattle.std.proofs.Common.{◌≡◌, List, length, sym, ap, subst, arith}
use Rattle.asm_board.specs.declared.entry.Entry.{Entry}
use Rattle.asm_book.specs.Seats.{total_length, SeatsBelow}
use Rattle.asm_book.specs.Tokens.{Known}
use Rattle.asm_book.specs.Gathered.{mines, AreBegun, IsGathered}
use Rattle.asm_book.proofs.Gathers.{gathers}
use Rattle.asm_book.proofs.Longest.{longest}
use Rattle.asm_book.proofs.locked.LockedJournal.gather.Goals as goal

pub returns-clause-gathered : goal.returns-clause-gathered
returns-clause-gathered g c =
    let journal : List Entry = c.args.self.now in
    let ts : List Known = c.args.tokens.items in
    let len = c.args.tokens.ok.0 in
    let count : length ts ≡ g.L.Opening.seats = omega (arith, len, c.requires.all) in
    let parts = c.audit.ensures.whole (omega (arith, c.merge_all.ensures.parts, c.empty-all.ensures.parts, count, c.requires.parts)) in
    let whole : total_length (mines ts) ≡ length journal = omega (arith, parts, c.merge_all.ensures.amount, c.empty-all.ensures.amount, c.self.invariant.0.counted, ap length c.self.view_is) in
    let below : SeatsBelow (length ts) journal = subst (λ n. SeatsBelow n journal) (sym count) (subst (SeatsBelow g.L.Opening.seats) c.self.view_is c.self.invariant.0.seated) in
    let begun : AreBegun journal ts (length ts) = subst (AreBegun journal ts) (omega (arith, len)) c.requires.within in
    let all : IsGathered journal ts = gathers journal ts c.requires.order begun below whole in
    record { gathered = all; whole = whole; longest = longest journal ts c.requires.order begun below all }
