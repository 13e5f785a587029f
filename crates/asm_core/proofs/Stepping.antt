-- Steps of a run, one after another.
use Rattle.std.proofs.Common.{◌≡◌, ℕ, suc, ◌+◌, ◌-◌, ◌<◌, [], Option, Result, Ok, Err, sym, ap, ◌∙◌, subst, arith}
use Rattle.asm_board.specs.declared.refusal.Refusal.{Refusal}
use Rattle.asm_board.specs.declared.stop.Stop.{Stop}
use Rattle.asm_board.specs.declared.stop.Stop.TheVariants as stop
use Rattle.asm_board.specs.Coming.{Comes}
use Rattle.asm_board.specs.Contents.{Contents}
use Rattle.asm_board.specs.Meanings.{Meanings}
use Rattle.asm_board.specs.Refusals.{Tried, after, of_run}
use Rattle.asm_board.specs.Changes.{stepped_from}
use Rattle.asm_board.specs.Reads.{steps_from}

-- what is the same comes to the same
pub comes : {A B : Type 0} (view : A → B) (t u : Tried B) (r : Result A Stop) → u ≡ t → Comes view t r → Comes view u r
comes view t u r same h = subst (λ (x : Tried _). Comes view x r) (sym same) h

module _ (m : Meanings) (pick : Option ℕ) (count made : ℕ) (content : Contents) (h : made < count) where
  -- the next step, and those behind it
  first_step : steps_from m pick (count - made) (made + 1) content
      ≡ after (stepped_from m (of_run (made + 1)) pick content []) (λ next. steps_from m pick (count - (made + 1)) (made + 1 + 1) next)
  first_step = let left : count - made ≡ suc (count - (made + 1)) = omega arith in ap (λ n. steps_from m pick n (made + 1) content) left

  pub goes_on : (next : Contents) → stepped_from m (of_run (made + 1)) pick content [] ≡ Ok next
      → steps_from m pick (count - made) (made + 1) content ≡ steps_from m pick (count - (made + 1)) (made + 1 + 1) next
  goes_on next is = first_step ∙ ap (λ (t : Tried Contents). after t (λ s. steps_from m pick (count - (made + 1)) (made + 1 + 1) s)) is

  pub stops : (why : Refusal) → stepped_from m (of_run (made + 1)) pick content [] ≡ Err why → steps_from m pick (count - made) (made + 1) content ≡ Err why
  stops why is = first_step ∙ ap (λ (t : Tried Contents). after t (λ s. steps_from m pick (count - (made + 1)) (made + 1 + 1) s)) is

  pub stops_at : (why : Stop) → Comes {A = Contents} (λ c. c) (stepped_from m (of_run (made + 1)) pick content []) (Err why)
      → Comes {A = Contents} (λ c. c) (steps_from m pick (count - made) (made + 1) content) (Err why)
  stops_at (stop.Refused why) is = stops why is
  stops_at stop.NoMemory is = tt
