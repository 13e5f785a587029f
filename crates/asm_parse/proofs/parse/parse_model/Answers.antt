use Rattle.asm_parse.proofs.Texts.{model_only, model_first, model_within}
use Rattle.asm_parse.proofs.parse.parse_model.Goals as goal

pub returns-in-Ok-clause-only : goal.returns-in-Ok-clause-only
returns-in-Ok-clause-only c =
    model_only c.args.text.now c.in-Ok.tokens c.in-Ok.ensures.tokens c.in-Ok.ensures.only c.whole_model.result (rw c.as_slice.ensures at c.whole_model.ensures)

pub returns-in-Ok-clause-first : goal.returns-in-Ok-clause-first
returns-in-Ok-clause-first c =
    model_first c.args.text.now c.in-Ok.tokens c.in-Ok.ensures.tokens c.in-Ok.ensures.only c.in-Ok.ensures.first c.whole_model.result (rw c.as_slice.ensures at c.whole_model.ensures)

pub returns-in-Ok-clause-within : goal.returns-in-Ok-clause-within
returns-in-Ok-clause-within c =
    model_within c.args.text.now c.in-Ok.tokens c.in-Ok.ensures.tokens c.in-Ok.ensures.only c.in-Ok.ensures.spans c.whole_model.result (rw c.as_slice.ensures at c.whole_model.ensures)
