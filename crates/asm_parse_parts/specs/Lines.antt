-- The lines that are read one construct deeper.
use Rattle.asm_syntax.specs.Terms as t
use Rattle.asm_parse_parts.specs.declared.line.Line.{Line}
use Rattle.asm_parse_parts.specs.declared.line.Line.TheVariants as lines

abbrev pub line_of : Line → t.Line
line_of lines.Term = t.term
line_of lines.Imp = t.imp
line_of lines.And = t.and
line_of lines.Neg = t.neg
line_of lines.Sum = t.sum
line_of lines.Prod = t.prod
line_of lines.Sign = t.sign
line_of lines.Quantifier = t.quantifier
