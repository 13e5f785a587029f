-- What is spelled is spelled again by its canonical words.
use Rattle.asm_print_theory.proofs.Whole.{term_reads_back}
use Rattle.asm_print_theory.proofs.laws.a_canonical_term_is_read_again.Goals as goal

pub returns : goal.returns
returns c = term_reads_back
