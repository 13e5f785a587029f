-- The members after an update are those of the state that it leads to.
use Rattle.std.proofs.Common.{◌≡◌, ap, subst, ◌∙◌}
use Rattle.std.specs.Prelude.{IfOk}
use Rattle.asm_terms.specs.Lives.{live_after}
use Rattle.asm_terms.specs.Views.{program_of, map_of}
use Rattle.asm_terms.proofs.LiveLaws.{live_after-live_of}
use Rattle.asm_terms.proofs.view.View.live_after.Goals as goal

pub returns : goal.returns
returns c =
    let view = c.args.self.now in
    let u = c.args.update.now in
    let domains = (program_of view).domains in
    subst (λ z. IfOk c.live_after.result (λ live. live ≡ z))
    (ap (live_after u domains) view.lives ∙ live_after-live_of (map_of view) u domains)
    c.live_after.ensures
