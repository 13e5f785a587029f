use Rattle.asm_core.specs.Language.{asmeta}
use Rattle.asm_seats.proofs.peeks.peeked_after.Given as goal

abbrev pub ghosts-peeked_day-L-Ledger : goal.ghosts-peeked_day-L-Ledger
ghosts-peeked_day-L-Ledger g a = record { name = a.unopened.blank.name; parts = a.unopened.blank.parts }

abbrev pub ghosts-peeked_day-L-Opening : goal.ghosts-peeked_day-L-Opening
ghosts-peeked_day-L-Opening g a = record { meanings = asmeta; history = a.unopened.seen.book; seats = a.seats; room = 8388608 }
