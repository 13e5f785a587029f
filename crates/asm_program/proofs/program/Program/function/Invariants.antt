use Rattle.std.proofs.Common.{◌≡◌, drop}
use Rattle.asm_program.specs.Functions.{function_named}
use Rattle.asm_program.proofs.program.Program.function.Given as goal

abbrev pub invariant-loop-info : goal.invariant-loop-info
invariant-loop-info l =
    (function_named l.at (drop l.info-index l.fn.self.functions) l.fn.name ≡ function_named 0 l.fn.self.functions l.fn.name)
    × (l.at ≡ l.info-index)
