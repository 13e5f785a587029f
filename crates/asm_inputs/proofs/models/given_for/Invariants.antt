-- no field so far is the model's
use Rattle.std.proofs.Common.{◌≡◌, drop}
use Rattle.asm_board.specs.Inputs.{given_for}
use Rattle.asm_inputs.proofs.models.given_for.Given as goal

abbrev pub invariant-loop-field : goal.invariant-loop-field
invariant-loop-field l =
    given_for (drop l.field-index l.fields) l.name ≡ given_for l.fields l.name
