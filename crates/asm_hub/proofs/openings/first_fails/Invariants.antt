use Rattle.asm_core.specs.Language.{asmeta}
use Rattle.asm_hub.proofs.openings.first_fails.Given as goal

abbrev pub ghosts-fails-L-Ledger : goal.ghosts-fails-L-Ledger
ghosts-fails-L-Ledger g a = record { name = a.unopened.blank.name; parts = a.unopened.blank.parts }

abbrev pub ghosts-fails-L-Opening : goal.ghosts-fails-L-Opening
ghosts-fails-L-Opening g a = record { meanings = asmeta; history = a.unopened.seen.book; seats = 2; room = 12 }
