use Rattle.std.proofs.Common.{◌≡◌, map, take}
use Rattle.asm_portable.specs.Values.{port_of}
use Rattle.asm_portable.proofs.values.+values.Given as goal

abbrev pub invariant-ports_of-loop-value : goal.invariant-ports_of-loop-value
invariant-ports_of-loop-value l = l.trees ≡ map (port_of l.domains) (take l.value-index l.values)
