use Rattle.asm_parse_rules.proofs.Nested.{arguments_deeper}
use Rattle.asm_parse_rules.proofs.rules.Grammar.arguments.Goals as goal

pub returns : goal.returns
returns g c = rw (arguments_deeper c.args.self.now.depth c.args.tokens.now c.requires.open) c.arguments.ensures
