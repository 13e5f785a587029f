use Rattle.asm_print.proofs.Again.{term_again}
use Rattle.asm_print.proofs.print.print_term.Goals as goal

pub returns-clause-again : goal.returns-clause-again
returns-clause-again c = term_again c.a_canonical_term_is_read_again.ensures c.args.tree.now _ c.written_term.ensures
