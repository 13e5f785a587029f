use Rattle.std.proofs.Common.{arith}
use Rattle.asm_parse_domains.proofs.Deeper.{domain_deeper}
use Rattle.asm_parse_domains.proofs.domains.Domains.inside.Goals as goal

pub returns : goal.returns
returns g c = rw (domain_deeper c.args.self.now.depth c.requires.open) (c.requires.nests.reads _ _ _ _ _ (omega arith) c.domain.ensures)
