use Rattle.asm_parse_parts.proofs.Deeper.{ranges_deeper}
use Rattle.asm_parse_parts.proofs.grammar.Grammar.ranges.Goals as goal

pub returns : goal.returns
returns g c = rw (ranges_deeper c.args.self.now.depth c.args.tokens.now c.requires.open) c.ranges-2.ensures
