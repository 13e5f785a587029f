use Rattle.asm_parse_terms.proofs.terms.+line.Given as goal

abbrev pub decreases-line : goal.decreases-line
decreases-line l = l.depth
