use Rattle.std.proofs.Common.{arith}
use Rattle.asm_parse_parts.specs.Lines.{line_of}
use Rattle.asm_parse_parts.proofs.Deeper.{line_deeper}
use Rattle.asm_parse_parts.proofs.grammar.Grammar.inside.Goals as goal

pub returns : goal.returns
returns g c = rw (line_deeper c.args.self.now.depth (line_of c.args.line) c.args.tokens.now c.requires.open) (c.requires.nests.reads _ _ _ _ _ _ (omega arith) c.line.ensures)
