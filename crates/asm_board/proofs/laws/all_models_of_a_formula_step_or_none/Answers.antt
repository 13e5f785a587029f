use Rattle.asm_board.specs.declared.call.Call.TheVariants.{Step}
use Rattle.asm_board.proofs.Firing.{no_entry, steps_together}
use Rattle.asm_board.proofs.laws.all_models_of_a_formula_step_or_none.Goals as goal

pub returns-clause-all : goal.returns-clause-all
returns-clause-all c m board seat formula inputs pick entry is = steps_together m c.args.room board seat formula inputs pick entry is

pub returns-clause-none : goal.returns-clause-none
returns-clause-none c m board seat formula inputs pick why refused = no_entry m c.args.room board seat (Step formula inputs pick) why refused
