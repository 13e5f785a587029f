-- What a call is prepared to, by what it comes to at the board.
use Rattle.std.specs.Prelude.{ℕ, Bool, false, List, []}
use Rattle.asm_board.specs.declared.board.Board.{Board}
use Rattle.asm_board.specs.declared.call.Call.{Call}
use Rattle.asm_board.specs.declared.reply.Body.{Body}
use Rattle.asm_board.specs.declared.prepared.Prepared.{Prepared}
use Rattle.asm_board.specs.Replies.{tail_of}
use Rattle.asm_board.specs.Slots.{Models, versions_in}
use Rattle.asm_board.specs.Changes.{Change}
use Rattle.asm_board.specs.Boards.{body_of_change, slots_of_change, weight_of_change}
use Rattle.asm_core.specs.declared.preparation.Effect.{Effect}

-- what a change has for its entry
abbrev pub effect_of : Models → Call → Change → Effect
effect_of models call change = record {
  body = body_of_change change;
  slots = slots_of_change models change;
  weight = weight_of_change call change;
}

-- a read speaks of no model and changes none
abbrev pub read_made : Call → Body → Prepared
read_made call body = record {
  call = call;
  versions = [];
  body = body;
  tail = tail_of body;
  slots = [];
  loads = false;
  weight = 0;
}

-- a change of the models of these names
abbrev pub change_made : Board → Call → List (List ℕ) → Bool → Change → Prepared
change_made board call names loads change = record {
  call = call;
  versions = versions_in board.slots names;
  body = body_of_change change;
  tail = tail_of (body_of_change change);
  slots = slots_of_change board.slots change;
  loads = loads;
  weight = weight_of_change call change;
}
