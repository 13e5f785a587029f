-- One more member.
use Rattle.std.proofs.Common.{sym, ◌∙◌}
use Rattle.asm_value.specs.State.{fire_one}
use Rattle.asm_terms.proofs.StartLaws.{with_members-more}
use Rattle.asm_terms.proofs.start.add_members.Goals as goal

pub loop-index-preserved : goal.loop-index-preserved
loop-index-preserved c =
    let d = c.args.domain in
    c.in_ok-apply.ensures.ok
    ∙ (λ i. fire_one (c.loop-index.invariant i) (c.in_ok-update.ensures i))
    ∙ sym (with_members-more d c.loop-index.index c.args.state.now)
