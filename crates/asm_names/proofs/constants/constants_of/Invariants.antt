use Rattle.std.proofs.Common.{◌≡◌, ◌++◌, drop}
use Rattle.asm_names.specs.Passes.{constants_in}
use Rattle.asm_names.proofs.constants.constants_of.Given as goal

abbrev pub invariant-loop-constant : goal.invariant-loop-constant
invariant-loop-constant l = l.names ++ constants_in (drop l.constant-index l.constants) l.domain ≡ constants_in l.constants l.domain
