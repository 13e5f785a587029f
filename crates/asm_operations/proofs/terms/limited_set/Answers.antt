-- More than 256 different items so far.
use Rattle.std.proofs.Common.{sym, arith}
use Rattle.asm_operations.specs.Sets.{set_items}
use Rattle.asm_operations.proofs.Intervals.{too_many}
use Rattle.asm_operations.proofs.SetLaws.{long_so_far}
use Rattle.asm_operations.proofs.terms.limited_set.Goals as goal

pub returns-then-len-gt256 : goal.returns-then-len-gt256
returns-then-len-gt256 c =
    let xs = c.args.items.now in
    sym (too_many (set_items xs)
    (long_so_far xs c.loop-item.set.items c.add_item.new.items.items c.item-item.result
    c.loop-item.item-index c.loop-item.invariant (omega arith) c.item-item.is
    c.in_ok-add_item.ensures (omega (arith, c.len.ensures))))
