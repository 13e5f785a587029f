use Rattle.std.proofs.Common.{◌≡◌, drop}
use Rattle.asm_board.specs.Answers.{first_stale}
use Rattle.asm_book.proofs.settle.first_stale.Given as goal

-- none of the versions so far is another
abbrev pub invariant-loop-version : goal.invariant-loop-version
invariant-loop-version l = first_stale (drop l.version-index l.versions) l.board ≡ first_stale l.versions l.board
