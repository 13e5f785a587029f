use Rattle.asm_parse_theory.specs.Domains.{domain}
use Rattle.asm_parse_domains.proofs.domains.+domain.Goals as goal

pub returns : goal.returns
unfolding domain
returns t c = c.form.ensures
