use Rattle.asm_core.specs.Language.{asmeta}
use Rattle.asm_book_bench.proofs.wanting.try_commit.Given as goal

abbrev pub ghosts-found-L-Ledger : goal.ghosts-found-L-Ledger
ghosts-found-L-Ledger g a = record { name = a.unopened.blank.name; parts = a.unopened.blank.parts }

abbrev pub ghosts-found-L-Opening : goal.ghosts-found-L-Opening
ghosts-found-L-Opening g a = record { meanings = asmeta; history = a.unopened.seen.book; seats = 2; room = 1000 }
