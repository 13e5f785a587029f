-- One more initial term.
use Rattle.std.proofs.Common.{ap, sym, ◌∙◌}
use Rattle.asm_terms.specs.Starts.{started}
use Rattle.asm_terms.specs.Views.{program_of}
use Rattle.asm_terms.proofs.StartLaws.{with_starts-on, with_starts-end}
use Rattle.asm_terms.proofs.start.start_all.Goals as goal

pub returns-in-Some : goal.returns-in-Some
returns-in-Some c =
    with_starts-end (program_of c.args.view.now) c.args.inits.now c.loop-init.init-index
    c.init-item.result c.loop-init.state c.in-Some.fault c.loop-init-test.true c.init-item.is
    (ap (λ o. started o c.start_function.new.state) (sym c.in-Some.is) ∙ c.in_ok-fault.ensures)
    ∙ c.loop-init.invariant

pub loop-init-preserved : goal.loop-init-preserved
loop-init-preserved c =
    with_starts-on (program_of c.args.view.now) c.args.inits.now c.loop-init.init-index
    c.init-item.result c.loop-init.state c.start_function.new.state c.loop-init-test.true
    c.init-item.is
    (ap (λ o. started o c.start_function.new.state) (sym c.in-None.is) ∙ c.in_ok-fault.ensures)
    ∙ c.loop-init.invariant
