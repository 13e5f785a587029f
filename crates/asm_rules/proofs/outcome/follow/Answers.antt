-- What follows a consistent set is fired after it.
use Rattle.std.proofs.Common.{ap, sym, subst, ◌∙◌}
use Rattle.std.proofs.lemmas.Bool.{true≢false}
use Rattle.asm_value.specs.State.{IsConsistent, fire}
use Rattle.asm_value.proofs.StateLaws.{overlaid-IsConsistent, fire-overlaid}
use Rattle.asm_program.specs.Yields.{clashes}
use Rattle.asm_program.specs.ClashLaws.{clashes-overlaid}
use Rattle.asm_rules.proofs.outcome.follow.Goals as goal

pub returns-then-is_some-clause-clashes : goal.returns-then-is_some-clause-clashes
returns-then-is_some-clause-clashes c = λ _.
    ap clashes c.in_ok-then-in-Set.ensures.ok
    ∙ clashes-overlaid c.args.all.now c.in-Set.updates
    (λ one. true≢false (sym c.if-is_some.true ∙ c.is_some.ensures ∙ c.clash.ensures.none.1 one))

pub returns-in_ok-fire-in-Set-clause-goes : goal.returns-in_ok-fire-in-Set-clause-goes
returns-in_ok-fire-in-Set-clause-goes c = λ _.
    subst IsConsistent (sym c.in_ok-then-in-Set.ensures.ok)
    (overlaid-IsConsistent c.args.all.now c.in-Set.updates c.requires
    (c.clash.ensures.none.0 (sym c.is_some.ensures ∙ c.if-is_some.false)))

pub returns-in_ok-fire-in-Set-clause-fired : goal.returns-in_ok-fire-in-Set-clause-fired
returns-in_ok-fire-in-Set-clause-fired c = λ _ state e.
    c.in_ok-fire-in-Set.ensures.map
    ∙ ap (λ s. fire s c.in-Set.updates) e
    ∙ fire-overlaid state c.args.all.now c.in-Set.updates c.requires
    (c.clash.ensures.none.0 (sym c.is_some.ensures ∙ c.if-is_some.false))
    ∙ ap (fire state) (sym c.in_ok-then-in-Set.ensures.ok)
