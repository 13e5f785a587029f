-- Without inputs and monitored functions nothing changes.
use Rattle.std.proofs.Common.{◌≡◌, Bool, true, false, not, IsTrue, length, true≢false, refl, sym, ap, ◌∙◌, arith}
use Rattle.std.proofs.lemmas.List.{nil_from_length}
use Rattle.asm_step.proofs.Monitored.{nothing_changes}
use Rattle.asm_step.proofs.inputs.stays.Goals as goal

not_true : (b : Bool) → IsTrue (not b) → b ≡ false
not_true true h = absurd (true≢false (sym h))
not_true false h = refl

pub returns-in-empty : goal.returns-in-empty
returns-in-empty c = λ none.
    nothing_changes c.args.program.now c.args.inputs.now
    (nil_from_length c.args.inputs.now (omega (arith, ap length c.as_slice.ensures)))
    (sym c.monitors.ensures ∙ not_true c.monitors.result none)
