-- What is spelled is spelled again by its canonical words.
use Rattle.asm_print_theory.proofs.Whole.{model_reads_back}
use Rattle.asm_print_theory.proofs.laws.a_canonical_model_is_read_again.Goals as goal

pub returns : goal.returns
returns c = model_reads_back
