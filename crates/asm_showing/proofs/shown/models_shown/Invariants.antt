use Rattle.std.proofs.Common.{◌≡◌, ◌++◌, map, drop}
use Rattle.asm_board.specs.Shown.{model_shown}
use Rattle.asm_showing.proofs.shown.models_shown.Given as goal

-- the models shown, and those still to show
abbrev pub invariant-loop-model : goal.invariant-loop-model
invariant-loop-model l = l.trees ++ map model_shown (drop l.model-index l.models) ≡ map model_shown l.models
