-- The updates of a consistent set are consistent as a list.
use Rattle.std.proofs.Common.{sym, subst}
use Rattle.asm_value.specs.State.{AreConsistent}
use Rattle.asm_value.proofs.StateLaws.{items-AreConsistent}
use Rattle.asm_fire.proofs.step.fire_in_place.Goals as goal

pub set_all-requires : goal.set_all-requires
set_all-requires c =
    subst AreConsistent (sym c.in_ok-updates.ensures)
    (items-AreConsistent c.args.set.now c.requires)
