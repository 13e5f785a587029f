-- where the other names are all found, all names are
use Rattle.std.proofs.Common.{◌≡◌, drop}
use Rattle.asm_board.specs.Changes.{all_found}
use Rattle.asm_board.specs.Slots.{only}
use Rattle.asm_core.specs.Language.{asmeta}
use Rattle.asm_core.proofs.formulas.all_found.Given as goal

abbrev pub invariant-loop-name : goal.invariant-loop-name
invariant-loop-name l =
    all_found asmeta (only l.board.slots l.names) (drop l.name-index l.names)
    ≡ all_found asmeta (only l.board.slots l.names) l.names
