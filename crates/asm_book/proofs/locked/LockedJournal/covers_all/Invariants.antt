use Rattle.asm_book.specs.Gathered.{AreBegun}
use Rattle.asm_book.proofs.locked.LockedJournal.covers_all.Given as goal

abbrev pub invariant-loop-token : goal.invariant-loop-token
invariant-loop-token g l = AreBegun l.self l.tokens.items l.token-index
