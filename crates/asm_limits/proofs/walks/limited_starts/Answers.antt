-- An initial term that isn't too deep leaves the others, and adds its work.
use Rattle.std.proofs.Common.{ap, sym, ◌∙◌}
use Rattle.asm_limits.specs.Walks.{starts_rest, start_limited, start_after, starts_limited, starts_work}
use Rattle.asm_limits.proofs.WalkSteps.{starts-step}
use Rattle.asm_limits.proofs.walks.limited_starts.Goals as goal

pub loop-start-preserved : goal.loop-start-preserved
loop-start-preserved c =
    let domains = c.args.known.now.domains.now in
    let functions = c.args.known.now.functions.now in
    let macros = c.args.known.now.macros.now in
    let scope = c.args.scope.now in
    let left = starts_rest c.loop-start.rest in
    starts-step domains functions macros scope left c.args.starts.now c.loop-start.start-index
    c.start-item.result (starts_rest c.in_ok-rest.rest)
    (starts_limited domains functions macros scope (record { inits = c.args.inits.now; work = 0 })
    c.args.starts.now)
    (starts_work domains functions macros scope (record { inits = c.args.inits.now; work = 0 })
    c.args.starts.now)
    c.loop-start-test.true c.loop-start.invariant.0 c.loop-start.invariant.1
    (sym (ap (start_limited domains functions macros scope left) c.start-item.is)
    ∙ c.in_ok-rest.ensures.0)
    (c.in_ok-rest.ensures.1 ∙ ap (start_after domains functions macros scope left) c.start-item.is)
