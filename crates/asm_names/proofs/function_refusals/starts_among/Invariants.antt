use Rattle.std.proofs.Common.{◌≡◌, [], drop}
use Rattle.asm_program.specs.FunctionsPass.{starts_refused}
use Rattle.asm_names.proofs.function_refusals.starts_among.Given as goal

abbrev pub invariant-loop-start : goal.invariant-loop-start
invariant-loop-start l = starts_refused [] l.names l.functions l.done (drop l.start-index l.starts) ≡ starts_refused [] l.names l.functions [] l.starts
