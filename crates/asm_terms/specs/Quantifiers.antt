-- Quantifiers, combination by combination.
use Rattle.std.specs.Prelude.{Bool, true, false, if◌then◌else◌, List, [], ◌∷◌}
use Rattle.asm_value.specs.declared.value.Value.{Value}
use Rattle.asm_value.specs.Living.{is_true}
use Rattle.asm_program.specs.declared.outcome.Outcome.{Outcome}
use Rattle.asm_program.specs.declared.outcome.Outcome.TheVariants.{Value as Gives, Fault as Faults}
use Rattle.asm_program.specs.Meaning.{truth, for_all, for_some, for_one}
use Rattle.asm_terms.specs.declared.quantifier.Quantifier.{Quantifier}
use Rattle.asm_terms.specs.declared.quantifier.Quantifier.TheVariants.{Forall, Exist, ExistUnique}
use Rattle.asm_terms.specs.declared.quantifier.Progress.{Progress}
use Rattle.asm_terms.specs.declared.quantifier.Progress.TheVariants.{GoesOn, Ends}

-- what the quantifier does where its body has this value
abbrev pub step_value : Quantifier → Bool → Value → Progress
step_value Forall found v = if is_true v then GoesOn found else Ends (truth false)
step_value Exist found v = if is_true v then Ends (truth true) else GoesOn found
step_value ExistUnique found v =
    if is_true v then (if found then Ends (truth false) else GoesOn true) else GoesOn found

abbrev pub step : Quantifier → Bool → Outcome → Progress
step q found (Gives v) = step_value q found v
step q found (Faults e) = Ends (Faults e)

abbrev pub on_progress : Progress → (Bool → Progress) → Progress
on_progress (GoesOn found) go = go found
on_progress (Ends o) go = Ends o

-- how far it comes by these combinations
abbrev pub walked : Quantifier → Bool → List (List Value) → (List Value → Outcome) → Progress
walked q found [] body = GoesOn found
walked q found (c ∷ cs) body =
    on_progress (step q found (body c)) (λ later. walked q later cs body)

abbrev pub at_end : Quantifier → Bool → Outcome
at_end Forall found = truth true
at_end Exist found = truth false
at_end ExistUnique found = truth found

abbrev pub finished : Quantifier → Progress → Outcome
finished q (GoesOn found) = at_end q found
finished q (Ends o) = o

-- what it gives of all combinations
abbrev pub quantified : Quantifier → List (List Value) → (List Value → Outcome) → Outcome
quantified Forall cs body = for_all cs body
quantified Exist cs body = for_some cs body
quantified ExistUnique cs body = for_one false cs body
