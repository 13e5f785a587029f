-- So is the program of its tree.
use Rattle.asm_meaning.proofs.Texts.{program_sound, program_complete}
use Rattle.asm_meaning.proofs.laws.a_text_has_its_program.Goals as goal

pub returns : goal.returns
returns c text program = (program_sound text program, program_complete text program)
