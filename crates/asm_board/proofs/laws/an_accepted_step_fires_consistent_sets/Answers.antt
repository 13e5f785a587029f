use Rattle.asm_board.proofs.Fired.{fire_their_sets}
use Rattle.asm_board.proofs.laws.an_accepted_step_fires_consistent_sets.Goals as goal

pub returns : goal.returns
returns c m models formula inputs pick step is = fire_their_sets m models inputs pick formula step is
