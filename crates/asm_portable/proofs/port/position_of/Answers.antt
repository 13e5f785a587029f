use Rattle.std.proofs.Common.{◌≡◌, ◌<◌, List, ℕ, length, ap, rules}
use Rattle.std.specs.declared.cmp.Ordering.TheVariants.{Equal}
use Rattle.std.specs.Ordering.{nat_cmp}
use Rattle.std.specs.Cmp.Lexicographic.{slice_cmp}
use Rattle.asm_portable.proofs.Puts.{put_there}
use Rattle.asm_portable.proofs.port.position_of.Goals as goal

pub returns-in-Equal-clause-at : goal.returns-in-Equal-clause-at
returns-in-Equal-clause-at c = λ f k.
    let same = ap (λ (w : List ℕ). slice_cmp nat_cmp w c.index-fields-at.result.key) k in
    let tie : slice_cmp nat_cmp f.key c.index-fields-at.result.key ≡ Equal = cc in
    let there : c.loop-at.at < length c.args.fields.now = search rules in
    put_there f c.args.fields.now c.loop-at.at c.index-fields-at.result there c.index-fields-at.is tie (c.loop-at.invariant f k)
