use Rattle.asm_parse.proofs.Texts.{term_only, term_first, term_within}
use Rattle.asm_parse.proofs.parse.parse_term.Goals as goal

pub returns-in-Ok-clause-only : goal.returns-in-Ok-clause-only
returns-in-Ok-clause-only c =
    term_only c.args.text.now c.in-Ok.tokens c.in-Ok.ensures.tokens c.in-Ok.ensures.only c.whole_term.result (rw c.as_slice.ensures at c.whole_term.ensures)

pub returns-in-Ok-clause-first : goal.returns-in-Ok-clause-first
returns-in-Ok-clause-first c =
    term_first c.args.text.now c.in-Ok.tokens c.in-Ok.ensures.tokens c.in-Ok.ensures.only c.in-Ok.ensures.first c.whole_term.result (rw c.as_slice.ensures at c.whole_term.ensures)

pub returns-in-Ok-clause-within : goal.returns-in-Ok-clause-within
returns-in-Ok-clause-within c =
    term_within c.args.text.now c.in-Ok.tokens c.in-Ok.ensures.tokens c.in-Ok.ensures.only c.in-Ok.ensures.spans c.whole_term.result (rw c.as_slice.ensures at c.whole_term.ensures)
