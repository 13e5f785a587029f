-- Calls that are answered one after another.
use Rattle.std.proofs.Common.{◌≡◌, ℕ, zero, suc, ◌+◌, List, [], ◌∷◌, ◌++◌, refl, ap, ◌∙◌, add-one}
use Rattle.asm_board.specs.declared.call.Call.{Call}
use Rattle.asm_demo.specs.declared.run.Run.{Run}
use Rattle.asm_demo.specs.Calls.{step, steps}
use Rattle.asm_demo.specs.Runs.{asked, asked_all}

pub asked_all-append : (run : Run) (first more : List Call)
    → asked_all run (first ++ more) ≡ asked_all (asked_all run first) more
asked_all-append run [] more = refl
asked_all-append run (c ∷ cs) more = asked_all-append (asked run c) cs more

-- one step more, at the end
later_step : (run : Run) (count : ℕ)
    → asked_all run (steps (suc count)) ≡ asked (asked_all run (steps count)) step
unfolding steps
later_step run zero = refl
later_step run (suc count) = later_step (asked run step) count

pub one_step_more : (run : Run) (count : ℕ)
    → asked_all run (steps (count + 1)) ≡ asked (asked_all run (steps count)) step
one_step_more run count = ap (λ n. asked_all run (steps n)) (add-one count) ∙ later_step run count

pub no_steps : steps 0 ≡ []
unfolding steps
no_steps = refl

pub ruleset asking_steps = (asked_all-append, one_step_more, no_steps)
