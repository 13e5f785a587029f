-- How a set without a clash ends a step.
use Rattle.std.proofs.Common.{◌≡◌, None, ap}
use Rattle.asm_value.specs.State.{StateMap, fire}
use Rattle.asm_value.specs.UpdateSet.{UpdateSet, items}
use Rattle.asm_board.specs.Contents.{Contents, with_state}
use Rattle.asm_board.specs.Stepping.{admitted, first_clash, stepped_by, fired}

-- a set without a clash is fired
pub fires : (content : Contents) (state : StateMap) (updates : UpdateSet)
    → first_clash (items updates) ≡ None
    → fired content state updates ≡ admitted (with_state content (fire state updates))
fires content state updates none = ap (stepped_by content state updates) none
