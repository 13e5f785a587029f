-- The calls of the demo: a model is loaded, steps twenty times, gets an invariant that its next step
-- would break, and goes back.
use Rattle.std.specs.Prelude.{ℕ, zero, suc, ◌≤◌, None, List, [], ◌∷◌, ◌++◌, codes, decimal}
use Rattle.asm_portable.specs.Ports.{fields}
use Rattle.asm_board.specs.declared.call.Call.{Call}
use Rattle.asm_board.specs.declared.call.Call.TheVariants as call

-- the sizes of a demo
pub record IsSize (size : ℕ) : Type 0 where
  pub least : 1 ≤ size
  pub most : size ≤ 256

-- the text of the model, whose function has the arguments 1 to the size
unfoldable pub demo_text : ℕ → List ℕ
demo_text size =
    codes "asm Demo signature: domain Ix subsetof Integer controlled c: Ix -> Integer "
    ++ codes "definitions: domain Ix = {1.." ++ decimal size
    ++ codes "} main rule r_Main = forall $i in Ix do c($i) := c($i) + $i "
    ++ codes "default init s0: function c($i in Ix) = 0"

abbrev pub model : List ℕ
model = codes "demo"

abbrev pub load : ℕ → Call
load size = call.Load model (demo_text size)

abbrev pub step : Call
step = call.Step model (fields []) None

-- at most as much as twenty steps make of a value
abbrev pub add_cap : Call
add_cap =
    call.AddInvariant model (codes "inv_cap") (codes "(forall $i in Ix with c($i) <= 20 * $i)")

-- to the content after ten steps
abbrev pub roll_back : Call
roll_back = call.Rollback model 11

abbrev pub state : Call
state = call.State model 0

-- this many steps
unfoldable pub steps : ℕ → List Call
steps zero = []
steps (suc count) = step ∷ steps count

-- all calls, in their order
abbrev pub calls : ℕ → List Call
calls size = load size ∷ steps 20 ++ add_cap ∷ step ∷ roll_back ∷ state ∷ []
