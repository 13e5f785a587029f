use Rattle.std.proofs.Common.{ℕ, List, [], ◌∷◌, ◌++◌, refl, sym, ap, ◌∙◌}
use Rattle.asm_board.specs.Contents.{Contents}
use Rattle.asm_core.proofs.Joining.{accepts, refuses}
use Rattle.asm_core.proofs.formulas.SteppingLeaf.step.Goals as goal

pub returns-in_ok-push-in-Ok-clause-makes : goal.returns-in_ok-push-in-Ok-clause-makes
returns-in_ok-push-in-Ok-clause-makes c before has =
    let models = c.args.self.now in
    accepts models.board.now models.names.now models.inputs.now models.pick c.args.name.now c.args.offered.now models.leaves c.push.new.self models.refusal before has
    c.in-Ok.content c.in-Ok.ensures
    (c.in_ok-push-in-Ok.ensures.ok ∙ ap (λ (leaf : List ℕ × Contents). models.leaves ++ leaf ∷ []) c.in_ok-leaf_made-in-Ok.ensures)

pub returns-in-Err-Refused-clause-makes : goal.returns-in-Err-Refused-clause-makes
returns-in-Err-Refused-clause-makes c before has =
    let models = c.args.self.now in
    refuses models.board.now models.names.now models.inputs.now models.pick c.args.name.now c.args.offered.now models.leaves models.leaves models.refusal before has
    c.in-Err-Refused.refusal _ (sym c.in-Err-Refused.refusal-is) (rw c.in-Err-Refused.field-0-is at c.in-Err-Refused.ensures) refl
