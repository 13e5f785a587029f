use Rattle.asm_core.specs.Language.{asmeta}
use Rattle.asm_seats.proofs.threads.length_after.Given as goal

abbrev pub ghosts-day-L-Ledger : goal.ghosts-day-L-Ledger
ghosts-day-L-Ledger g a = record { name = a.unopened.blank.name; parts = a.unopened.blank.parts }

abbrev pub ghosts-day-L-Opening : goal.ghosts-day-L-Opening
ghosts-day-L-Opening g a = record { meanings = asmeta; history = a.unopened.seen.book; seats = a.seats; room = 8388608 }
