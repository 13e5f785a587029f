-- A set that doesn't clash is fired.
use Rattle.std.proofs.Common.{refl, sym, ◌∙◌}
use Rattle.std.proofs.lemmas.Result.{IfOk-weaker}
use Rattle.asm_board.specs.Stepping.{admitted}
use Rattle.asm_step.proofs.Ends.{fires}
use Rattle.asm_step.proofs.step.fired.Goals as goal

pub returns-in_ok-invs-in-None : goal.returns-in_ok-invs-in-None
returns-in_ok-invs-in-None c =
    let none = c.the_first_clash_is_the_clash.ensures.none c.args.updates.now (c.in-None.ensures.none.0 refl) in
    IfOk-weaker c.admitted.result _ _ (λ out is.
    is
    ∙ (λ i. admitted (record {
      program = (c.in_ok-program-in-None.ensures ∙ c.program.ensures) i;
      invs = (c.in_ok-invs-in-None.ensures ∙ c.invs.ensures) i;
      state = (c.in_ok-next-in-None.ensures ∙ c.in_ok-fire-in-None.ensures) i;
    }))
    ∙ sym (fires c.args.content.now c.args.state.now c.args.updates.now none))
    c.admitted.ensures
