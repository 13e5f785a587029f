-- The counts that functions carry.
use Rattle.std.specs.Prelude.{◌^◌, min}
use Rattle.asm_program.specs.declared.program.FunctionInfo.{FunctionInfo}
use Rattle.asm_counts.specs.declared.counts.Counts.{Counts}

-- as they are told
abbrev pub kept_counts : FunctionInfo → Counts
kept_counts info = record { depth = min info.depth (2 ^ 32); work = info.work }
