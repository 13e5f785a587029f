use Rattle.asm_core.specs.Language.{asmeta}
use Rattle.asm_hub.proofs.seats.a_full_journal_takes_no_step.Given as goal

abbrev pub ghosts-little_room-L-Ledger : goal.ghosts-little_room-L-Ledger
ghosts-little_room-L-Ledger g a = record { name = a.unopened.blank.name; parts = a.unopened.blank.parts }

abbrev pub ghosts-little_room-L-Opening : goal.ghosts-little_room-L-Opening
ghosts-little_room-L-Opening g a = record { meanings = asmeta; history = a.unopened.seen.book; seats = 2; room = 12 }
