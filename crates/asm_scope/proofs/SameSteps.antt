-- What `same_domain` computes.
use Rattle.std.proofs.Common.{◌≡◌, Bool, ap}
use Rattle.asm_value.specs.declared.domain.Domain.{Domain}
use Rattle.asm_value.specs.declared.domain.Domain.TheFolds.{fold_out-Domain, map-Domain}
use Rattle.asm_value.specs.declared.domain.Domain.TheViews.{out-Domain, the_lemmas}
use Rattle.asm_value.proofs.DomainLaws.{each_passes-drop}
use Rattle.asm_program.specs.FunctionsPass.{same_level, same_domain}

pub same_domain-out : (d e : Domain) → same_domain d e ≡ same_level (map-Domain Domain (Domain → Bool) same_domain (out-Domain d)) (out-Domain e)
unfolding same_domain
same_domain-out d e = ap (λ f. f e) (fold_out-Domain (Domain → Bool) _ d)

pub ruleset same_steps = (same_domain-out, each_passes-drop, the_lemmas)
