-- A round that changes nothing is the last that does.
use Rattle.std.proofs.Common.{ap, refl, sym, ◌∙◌}
use Rattle.asm_limits.specs.Rounds.{function_round}
use Rattle.asm_limits.proofs.RoundSteps.{functions-early}
use Rattle.asm_limits.proofs.rounds.functions_settled.Goals as goal

pub returns-then-same : goal.returns-then-same
returns-then-same c =
    let domains = c.args.domains.now in
    let bodies = c.args.bodies.now in
    functions-early domains bodies c.args.first.items c.loop-round.round c.loop-round.counts.items
    c.in-Ok.next.items c.loop-round-test.true c.loop-round.invariant
    (c.in-Ok.ensures ∙ ap (function_round domains bodies) c.as_slice.ensures.value)
    (sym c.as_slice-in-Ok.ensures.value ∙ c.if-same.ensures refl
    ∙ c.as_slice-in-Ok-2.ensures.value)
