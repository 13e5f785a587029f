use Rattle.std.proofs.Common.{◌≡◌, ◌++◌, take, drop}
use Rattle.asm_portable.specs.declared.port.Field.{Field}
use Rattle.asm_portable.specs.Ports.{put_field}
use Rattle.asm_portable.proofs.port.position_of.Given as goal

-- the key is above those so far
abbrev pub invariant-loop-at : goal.invariant-loop-at
invariant-loop-at l = (f : Field) → f.key ≡ l.key → put_field f l.fields ≡ take l.at l.fields ++ put_field f (drop l.at l.fields)
