use Rattle.asm_parse_cursor.proofs.Spans.{span_is}
use Rattle.asm_parse_cursor.proofs.tokens.span_of.Goals as goal

pub returns-in-Some-Some : goal.returns-in-Some-Some
returns-in-Some-Some c = span_is c.args.tokens.now c.in-Some-Some.first.now c.in-Some-Some.last.now c.in-Some-Some.ensures.value c.in-Some-Some.ensures'.value
