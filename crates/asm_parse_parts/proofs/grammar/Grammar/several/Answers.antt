use Rattle.asm_parse_parts.proofs.Deeper.{term_deeper}
use Rattle.asm_parse_parts.proofs.grammar.Grammar.several.Goals as goal

pub returns : goal.returns
returns g c = rw (term_deeper c.args.self.now.depth c.requires.open) c.several.ensures
