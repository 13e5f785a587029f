use Rattle.std.proofs.Common.{◌≡◌, ◌++◌, map, drop}
use Rattle.asm_portable.specs.Ports.{text}
use Rattle.asm_showing.proofs.shown.names_shown.Given as goal

-- the names shown, and those still to show
abbrev pub invariant-loop-inv : goal.invariant-loop-inv
invariant-loop-inv l = l.names ++ map (λ inv. text inv.name) (drop l.inv-index l.invs) ≡ map (λ inv. text inv.name) l.invs
