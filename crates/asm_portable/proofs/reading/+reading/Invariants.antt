-- What was read so far, with what the rest reads, is what the whole reads.
use Rattle.std.proofs.Common.{◌≡◌, map, drop}
use Rattle.asm_portable.specs.Reading.{items_read, parts_read, value_of}
use Rattle.asm_portable.proofs.ReadingLaws.{after}
use Rattle.asm_portable.proofs.reading.+reading.Given as goal

abbrev pub invariant-items_of-loop-at : goal.invariant-items_of-loop-at
invariant-items_of-loop-at l =
    after l.items (items_read (value_of l.domains l.live l.domain) l.at (drop l.at l.trees))
    ≡ items_read (value_of l.domains l.live l.domain) 0 l.trees

abbrev pub invariant-parts_of-loop-at : goal.invariant-parts_of-loop-at
invariant-parts_of-loop-at l =
    after l.items
    (parts_read (map (value_of l.domains l.live) (drop l.at l.parts)) l.at (drop l.at l.trees))
    ≡ parts_read (map (value_of l.domains l.live) l.parts) 0 l.trees
