use Rattle.asm_parse_rules.proofs.Nested.{term_deeper}
use Rattle.asm_parse_rules.proofs.rules.Grammar.term.Goals as goal

pub returns : goal.returns
returns g c = rw (term_deeper c.args.self.now.depth c.args.tokens.now c.requires.open) c.term.ensures
