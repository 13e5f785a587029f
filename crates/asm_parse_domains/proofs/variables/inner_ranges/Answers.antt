use Rattle.asm_parse_domains.proofs.Deeper.{domain_deeper}
use Rattle.asm_parse_domains.proofs.variables.inner_ranges.Goals as goal

pub returns : goal.returns
returns c = rw (domain_deeper c.args.depth c.requires.open) c.ranges-2.ensures
