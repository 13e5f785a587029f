-- The language of the texts: what boards take of it.
use Rattle.asm_program.specs.Initial.{initial}
use Rattle.asm_program.specs.Yields.{main_yields}
use Rattle.asm_meaning.specs.Texts.{meaning_of_text}
use Rattle.asm_meaning.specs.Terms.{meaning_of_term}
use Rattle.asm_checking.specs.Canonicals.{canonical_of}
use Rattle.asm_board.specs.Meanings.{Meanings}

-- a text means its program or its term, or what is reported of it; a program starts in its initial
-- state; a rule means what it yields
abbrev pub asmeta : Meanings
asmeta = record {
  program_of = meaning_of_text;
  term_of = meaning_of_term;
  canonical = canonical_of;
  initial = initial;
  yields = main_yields;
}
