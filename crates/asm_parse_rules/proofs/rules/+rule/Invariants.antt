use Rattle.asm_parse_rules.proofs.rules.+rule.Given as goal

abbrev pub decreases-rule : goal.decreases-rule
decreases-rule l = l.depth
