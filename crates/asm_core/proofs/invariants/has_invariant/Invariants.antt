use Rattle.std.proofs.Common.{◌≡◌, drop}
use Rattle.std.specs.List.{list_any}
use Rattle.std.specs.Str.{bytes_eq}
use Rattle.asm_core.proofs.invariants.has_invariant.Given as goal

-- one of the others has the name where one of all has it
abbrev pub invariant-loop-inv : goal.invariant-loop-inv
invariant-loop-inv l = list_any (λ inv. bytes_eq l.name inv.name) (drop l.inv-index l.invs) ≡ list_any (λ inv. bytes_eq l.name inv.name) l.invs
