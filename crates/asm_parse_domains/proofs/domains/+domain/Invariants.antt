use Rattle.asm_parse_domains.proofs.domains.+domain.Given as goal

abbrev pub decreases-domain : goal.decreases-domain
decreases-domain l = l.depth
