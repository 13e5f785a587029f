-- what is given so far fits
use Rattle.std.proofs.Common.{◌≡◌, drop}
use Rattle.asm_portable.specs.Ports.{fields_of}
use Rattle.asm_board.specs.Inputs.{all_given}
use Rattle.asm_board.specs.Slots.{only}
use Rattle.asm_inputs.proofs.models.all_given.Given as goal

abbrev pub invariant-loop-field : goal.invariant-loop-field
invariant-loop-field l =
    all_given (only l.board.slots l.names) (drop l.field-index (fields_of l.inputs))
    ≡ all_given (only l.board.slots l.names) (fields_of l.inputs)
