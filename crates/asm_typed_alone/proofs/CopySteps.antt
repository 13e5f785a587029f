-- One level of a domain.
use Rattle.asm_value.specs.declared.domain.Domain.TheViews.{the_lemmas}

pub ruleset copy_steps = (the_lemmas)
