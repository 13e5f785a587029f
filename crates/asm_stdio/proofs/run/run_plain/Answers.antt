use Rattle.std.proofs.Common.{◌≡◌, sym, subst}
use Rattle.asm_stdio.specs.Headline.{Demonstrates}
use Rattle.asm_stdio.proofs.CommandLine.{one_size}
use Rattle.asm_stdio.proofs.run.run_plain.Goals as goal

pub returns-in-Demo-clause-demo : goal.returns-in-Demo-clause-demo
returns-in-Demo-clause-demo g c = λ size are.
    subst (λ n. Demonstrates n c.run_demo.result (g.K.Sink.held c.args.sink.now) (g.K.Sink.held c.run_demo.new.sink))
    (sym (one_size c.args.words.now size c.in-Demo.size are c.in-Demo.ensures))
    (record { done = c.run_demo.ensures.done; part = c.run_demo.ensures.part; statuses = c.run_demo.ensures.statuses })
