use Rattle.std.proofs.Common.{◌≡◌, map, take}
use Rattle.asm_program.specs.Members.{indexes_of}
use Rattle.asm_types.proofs.members.all_indexes.Given as goal

abbrev pub invariant-loop-info : goal.invariant-loop-info
invariant-loop-info l = l.all ≡ map (λ info. indexes_of info.kind) (take l.info-index l.domains)
