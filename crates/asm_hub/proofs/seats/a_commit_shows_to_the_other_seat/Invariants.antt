use Rattle.asm_core.specs.Language.{asmeta}
use Rattle.asm_hub.proofs.seats.a_commit_shows_to_the_other_seat.Given as goal

abbrev pub ghosts-two_seats-L-Ledger : goal.ghosts-two_seats-L-Ledger
ghosts-two_seats-L-Ledger g a = record { name = a.unopened.blank.name; parts = a.unopened.blank.parts }

abbrev pub ghosts-two_seats-L-Opening : goal.ghosts-two_seats-L-Opening
ghosts-two_seats-L-Opening g a = record { meanings = asmeta; history = a.unopened.seen.book; seats = 2; room = 1000 }
