use Rattle.std.proofs.Common.{get_or}
use Rattle.std.proofs.lemmas.List.{get_or_default}
use Rattle.std.proofs.lemmas.List.Elements.{recursion_from_All}
use Rattle.asm_formula.specs.Formulas.{names}
use Rattle.asm_compose.specs.TextOrder.{AgreesAt}
use Rattle.asm_compose.proofs.RunLaws.{run-agree}
use Rattle.asm_compose.proofs.laws.a_run_depends_on_its_models_alone.Goals as goal

pub returns : goal.returns
returns g c = λ formula begins other same.
    let ns = names formula in
    run-agree begins other formula (recursion_from_All (AgreesAt begins other) ns
    (λ k d h. same (get_or ns k d) (k, h, get_or_default ns k (get_or ns k d) d h)))
