-- Equations of trees and of their levels.
use Rattle.asm_portable.specs.declared.port.Port.TheViews.{the_lemmas}

pub ruleset tree_steps = (the_lemmas)
