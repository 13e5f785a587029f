use Rattle.std.proofs.Common.{◌+◌, List, Err, sym, subst, ◌∙◌}
use Rattle.asm_value.specs.declared.location.Update.{Update}
use Rattle.asm_board.specs.Contents.{Contents}
use Rattle.asm_board.specs.Refusals.{Tried, of_run}
use Rattle.asm_board.specs.Changes.{stepped_from}
use Rattle.asm_board.specs.Coming.{Comes}
use Rattle.asm_core.specs.Language.{asmeta}
use Rattle.asm_core.proofs.Stepping.{goes_on, stops_at}
use Rattle.asm_core.proofs.steps.steps_from.Goals as goal

pub loop-made-preserved : goal.loop-made-preserved
loop-made-preserved c =
    sym (goes_on asmeta c.args.pick c.args.count c.loop-made.made c.loop-made.content c.loop-made-test.true c.in-Ok.next (rw c.new-none.ensures at c.in-Ok.ensures)) ∙ c.loop-made.invariant

pub returns-in-Err : goal.returns-in-Err
returns-in-Err c =
    let pick = c.args.pick in
    let content = c.loop-made.content in
    let stop = c.in-Err.stop in
    let stepped = subst (λ (us : List Update). Comes {A = Contents} (λ x. x) (stepped_from asmeta (of_run (c.loop-made.made + 1)) pick content us) (Err stop)) c.new-none.ensures c.in-Err.ensures in
    subst (λ (t : Tried Contents). Comes {A = Contents} (λ x. x) t (Err stop)) c.loop-made.invariant
    (stops_at asmeta pick c.args.count c.loop-made.made content c.loop-made-test.true stop stepped)
