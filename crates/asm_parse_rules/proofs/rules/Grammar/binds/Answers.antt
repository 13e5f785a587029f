use Rattle.asm_parse_rules.proofs.Nested.{binds_deeper}
use Rattle.asm_parse_rules.proofs.rules.Grammar.binds.Goals as goal

pub returns : goal.returns
returns g c = rw (binds_deeper c.args.self.now.depth c.args.tokens.now c.requires.open) c.binds.ensures
