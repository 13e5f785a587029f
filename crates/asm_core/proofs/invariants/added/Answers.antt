use Rattle.asm_core.proofs.Sources.{short_condition}
use Rattle.asm_core.proofs.invariants.added.Goals as goal

pub too_much_work-requires : goal.too_much_work-requires
too_much_work-requires c = short_condition c.get.result.now c.as_str-text.result.now c.in_ok-term.term c.in_ok-term.ensures
