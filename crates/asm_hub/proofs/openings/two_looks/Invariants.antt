use Rattle.asm_core.specs.Language.{asmeta}
use Rattle.asm_hub.proofs.openings.two_looks.Given as goal

abbrev pub ghosts-looks-L-Ledger : goal.ghosts-looks-L-Ledger
ghosts-looks-L-Ledger g a = record { name = a.unopened.blank.name; parts = a.unopened.blank.parts }

abbrev pub ghosts-looks-L-Opening : goal.ghosts-looks-L-Opening
ghosts-looks-L-Opening g a = record { meanings = asmeta; history = a.unopened.seen.book; seats = 1; room = 12 }
