use Rattle.std.proofs.Common.{◌≡◌, ◌<◌, length, rules}
use Rattle.std.specs.declared.cmp.Ordering.TheVariants.{Equal}
use Rattle.std.specs.Ordering.{nat_cmp}
use Rattle.std.specs.Cmp.Lexicographic.{slice_cmp}
use Rattle.asm_board.proofs.Slots.{put_there}
use Rattle.asm_board.proofs.board.position_of.Goals as goal

pub returns-in-Equal-clause-at : goal.returns-in-Equal-clause-at
returns-in-Equal-clause-at c = λ slot.
    let tie : slice_cmp nat_cmp c.args.name.now c.index-models-at.result.name ≡ Equal = cc in
    let there : c.loop-at.at < length c.args.models.now = search rules in
    put_there c.args.name.now slot c.args.models.now c.loop-at.at c.index-models-at.result there c.index-models-at.is tie (c.loop-at.invariant slot)
