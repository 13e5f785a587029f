-- What a server's parts say of one another, at first and after an entry.
use Rattle.std.proofs.Common.{◌≡◌, ℕ, ◌≤◌, ◌^◌, List, [], refl, sym, subst, arith}
use Rattle.asm_board.specs.declared.board.Board.{Board}
use Rattle.asm_board.specs.declared.entry.Entry.{Entry}
use Rattle.asm_board.specs.Boards.{empty_board}
use Rattle.asm_core.specs.Servers.{Keeps}
use Rattle.asm_core.specs.Language.{asmeta}
use Rattle.asm_board.proofs.Journals.{board_of-nil}

pub keeps_new : (room : ℕ) (board : Board) (journal : List Entry) → board ≡ empty_board → journal ≡ [] → room ≤ 2 ^ 23 → Keeps room journal board
keeps_new room board journal is none small =
    subst (λ b. Keeps room journal b) (sym is) (subst (λ j. Keeps room j empty_board) (sym none) (record {
      is_board = sym (board_of-nil asmeta);
      front = refl;
      light = omega arith;
      within = omega arith;
      small = small;
    }))
