use Rattle.std.proofs.Common.{arith}
use Rattle.asm_parse_rules.proofs.Nested.{rule_deeper}
use Rattle.asm_parse_rules.proofs.rules.Grammar.inside.Goals as goal

pub returns : goal.returns
returns g c = rw (rule_deeper c.args.self.now.depth c.args.tokens.now c.requires.open) (c.requires.nests.reads _ _ _ _ _ (omega arith) c.rule.ensures)
