-- nothing so far is given for the function
use Rattle.std.proofs.Common.{◌≡◌, drop}
use Rattle.asm_board.specs.Inputs.{is_given}
use Rattle.asm_inputs.proofs.offers.is_given.Given as goal

abbrev pub invariant-loop-field : goal.invariant-loop-field
invariant-loop-field l = is_given (drop l.field-index l.fields) l.name ≡ is_given l.fields l.name
