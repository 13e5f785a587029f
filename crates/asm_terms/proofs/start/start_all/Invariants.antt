-- The initial terms so far were evaluated.
use Rattle.std.proofs.Common.{◌≡◌, drop}
use Rattle.asm_program.specs.Initial.{with_starts}
use Rattle.asm_terms.specs.Views.{program_of}
use Rattle.asm_terms.proofs.start.start_all.Given as goal

abbrev pub invariant-loop-init : goal.invariant-loop-init
invariant-loop-init l =
    with_starts (program_of l.view) (drop l.init-index l.inits) l.state
    ≡ with_starts (program_of l.view) l.inits l.fn.state
