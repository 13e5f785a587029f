-- The new members so far, with the rest, are all.
use Rattle.std.proofs.Common.{◌≡◌, drop, take, length}
use Rattle.asm_typed_rules.specs.Forms.{with_members}
use Rattle.asm_typed_rules.proofs.rules.add_members.Given as goal

abbrev pub invariant-loop-name : goal.invariant-loop-name
invariant-loop-name l =
    (with_members l.variables (drop l.name-index l.names) l.domain ≡ with_members l.initial.variables l.names l.domain)
    × (take (length l.initial.variables) l.variables ≡ l.initial.variables)
