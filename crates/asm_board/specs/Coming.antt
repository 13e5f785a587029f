-- What a computation comes to, by what was tried.
use Rattle.std.specs.Prelude.{◌≡◌, Result, Ok, Err, ⊤}
use Rattle.asm_board.specs.declared.refusal.Refusal.{Refusal}
use Rattle.asm_board.specs.declared.stop.Stop.{Stop}
use Rattle.asm_board.specs.declared.stop.Stop.TheVariants as stops
use Rattle.asm_board.specs.Refusals.{Tried}

-- what was tried is found, or refused for this reason, unless memory ran out
abbrev pub Comes : {A B : Type 0} → (A → B) → Tried B → Result A Stop → Type 0
Comes view tried (Ok x) = tried ≡ Ok (view x)
Comes view tried (Err (stops.Refused why)) = tried ≡ Err why
Comes view tried (Err stops.NoMemory) = ⊤

-- a stop with this refusal, unless memory ran out
abbrev pub IsRefused : Refusal → Stop → Type 0
IsRefused why (stops.Refused refusal) = refusal ≡ why
IsRefused why stops.NoMemory = ⊤
