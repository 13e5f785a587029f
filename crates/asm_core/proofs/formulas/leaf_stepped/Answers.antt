use Rattle.asm_board.specs.Slots.{only}
use Rattle.asm_core.proofs.Joining.{unfit_at}
use Rattle.asm_core.proofs.formulas.leaf_stepped.Goals as goal

pub returns-in-Err : goal.returns-in-Err
returns-in-Err c =
    let models = c.args.models.now in
    unfit_at (only models.board.now.slots models.names.now) models.inputs.now models.pick c.args.name.now c.args.offered.now c.in-Some.slot.now c.get-content.result.now
    c.as_str-2.result.now c.as_slice-offers.result.now c.in-Err.stop c.get-content.ensures c.as_str-2.ensures c.as_slice-offers.ensures (rw c.as_str.ensures at c.in-Some.ensures) c.in-Err.ensures
