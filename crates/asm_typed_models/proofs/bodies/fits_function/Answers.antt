use Rattle.asm_typed.specs.Answers.{done}
use Rattle.asm_typed_models.proofs.Steps.{fits-found}
use Rattle.asm_typed_models.proofs.bodies.fits_function.Goals as goal

pub returns-in_ok-fits_codomain-in-Some : goal.returns-in_ok-fits_codomain-in-Some
returns-in_ok-fits_codomain-in-Some c =
    fits-found c.args.scope.now c.args.meant (done c.args.typed.now)
    c.in_ok-fits_codomain-in-Some.field-0 c.in-Some.header.now
    c.in_ok-fits_codomain-in-Some.ensures c.in-Some.ensures
