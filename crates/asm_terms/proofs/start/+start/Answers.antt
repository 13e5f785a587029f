-- One more member is gone through.
use Rattle.std.proofs.Common.{[], ◌∷◌, ◌++◌, ◌+◌, drop, ap, sym, ◌∙◌}
use Rattle.asm_value.specs.Ranges.{tuples, each_first}
use Rattle.asm_terms.specs.Starts.{started, starts_after}
use Rattle.asm_terms.proofs.StartLaws.{after-on, after-end, after-with}
use Rattle.asm_terms.proofs.start.+start.Goals as goal

pub start_members-returns-in-Some-clause-start : goal.start_members-returns-in-Some-clause-start
start_members-returns-in-Some-clause-start t c =
    let cs = tuples c.args.others.now in
    after-end c.args.view.now c.args.init.now c.loop-member.env c.args.members.now
    c.loop-member.member-index c.member-item.result cs c.loop-member.state c.in-Some.fault
    c.loop-member-test.true c.member-item.is
    (ap (λ o. started o c.start_with.new.state) (sym c.in-Some.is) ∙ c.in_ok-fault.ensures.start)
    ∙ c.loop-member.invariant.rest

pub start_members-loop-member-preserved : goal.start_members-loop-member-preserved
start_members-loop-member-preserved t c =
    let cs = tuples c.args.others.now in
    let later = drop (c.loop-member.member-index + 1) c.args.members.now in
    record {
      rest = ap (λ e. starts_after c.args.view.now c.args.init.now e (each_first later cs)
          c.start_with.new.state) c.in_ok-fault.ensures.same
          ∙ after-on c.args.view.now c.args.init.now c.loop-member.env c.args.members.now
          c.loop-member.member-index c.member-item.result cs c.loop-member.state
          c.start_with.new.state c.loop-member-test.true c.member-item.is
          (ap (λ o. started o c.start_with.new.state) (sym c.in-None.is)
          ∙ c.in_ok-fault.ensures.start)
          ∙ c.loop-member.invariant.rest;
      same = c.in_ok-fault.ensures.same ∙ c.loop-member.invariant.same;
    }

pub start_with-returns-clause-start : goal.start_with-returns-clause-start
start_with-returns-clause-start t c =
    let cs = tuples c.args.others.now in
    c.in_ok-fault.ensures.start
    ∙ ap (λ e. starts_after c.args.view.now c.args.init.now e cs c.args.state.now)
    (c.in_ok-push.ensures.ok ∙ ap (λ x. c.args.env.now ++ x ∷ []) c.in_ok-copy.ensures)
    ∙ after-with c.args.view.now c.args.init.now c.args.env.now c.args.member.now cs
    c.args.state.now
