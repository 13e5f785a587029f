use Rattle.asm_print.proofs.Again.{model_again}
use Rattle.asm_print.proofs.print.print_model.Goals as goal

pub returns-clause-again : goal.returns-clause-again
returns-clause-again c = model_again c.a_canonical_model_is_read_again.ensures c.args.tree.now _ c.written_model.ensures
