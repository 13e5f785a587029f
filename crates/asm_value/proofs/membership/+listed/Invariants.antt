-- The lists so far are those of the domains passed.
use Rattle.std.proofs.Common.{◌≡◌, map, take}
use Rattle.asm_value.specs.Members.{members}
use Rattle.asm_value.proofs.membership.+listed.Given as goal

abbrev pub invariant-listed_each-loop-part : goal.invariant-listed_each-loop-part
invariant-listed_each-loop-part l =
    l.all ≡ map (members l.domains l.live) (take l.part-index l.parts)
