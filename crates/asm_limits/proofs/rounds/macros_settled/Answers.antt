-- A round that changes nothing is the last that does.
use Rattle.std.proofs.Common.{ap, refl, sym, ◌∙◌}
use Rattle.asm_limits.specs.Rounds.{macro_round}
use Rattle.asm_limits.proofs.RoundSteps.{macros-early}
use Rattle.asm_limits.proofs.rounds.macros_settled.Goals as goal

pub returns-then-same : goal.returns-then-same
returns-then-same c =
    let domains = c.args.domains.now in
    let functions = c.args.functions.now in
    let infos = c.args.infos.now in
    macros-early domains functions infos c.args.first.items c.loop-round.round
    c.loop-round.counts.items c.in-Ok.next.items c.loop-round-test.true c.loop-round.invariant
    (c.in-Ok.ensures ∙ ap (macro_round domains functions infos) c.as_slice.ensures.value)
    (sym c.as_slice-in-Ok.ensures.value ∙ c.if-same.ensures refl
    ∙ c.as_slice-in-Ok-2.ensures.value)
