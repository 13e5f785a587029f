use Rattle.std.proofs.Common.{◌≡◌, ap, sym, ◌∙◌}
use Rattle.asm_program.specs.Initial.{initial}
use Rattle.asm_board.specs.declared.refusal.RefusalName.TheVariants as no
use Rattle.asm_board.specs.Contents.{Contents}
use Rattle.asm_board.specs.Stepping.{after_start}
use Rattle.asm_board.specs.Changes.{content_after}
use Rattle.asm_showing.specs.Showing.{whose_by}
use Rattle.asm_core.proofs.Stepping.{comes}
use Rattle.asm_core.proofs.steps.started.Goals as goal

pub returns : goal.returns
returns c =
    let whose = whose_by c.args.name.now c.args.step in
    let is : c.in_ok-stepped.stepped ≡ after_start c.args.program.now (initial c.args.program.now) =
    c.in_ok-stepped.ensures ∙ ap (λ p. after_start p (initial p)) c.in_ok-share.ensures in
    comes {A = Contents} {B = Contents} (λ x. x) _ _ c.content_after.result (ap (content_after no.InitFault whose c.args.program.now) (sym is)) (rw c.get.ensures at c.content_after.ensures)
