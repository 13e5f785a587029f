use Rattle.asm_parse_parts.proofs.Deeper.{binds_deeper}
use Rattle.asm_parse_parts.proofs.grammar.Grammar.inner_binds.Goals as goal

pub returns : goal.returns
returns g c = rw (binds_deeper c.args.self.now.depth c.args.tokens.now c.requires.open) c.binds.ensures
