-- How it is reported why a line asks for nothing.
use Rattle.std.specs.Prelude.{◌≡◌, ℕ, List, Option, Some, None, Result, Ok, Err, IfSome}
use Rattle.asm_board.specs.declared.refusal.Refusal.{Refusal}
use Rattle.asm_board.specs.Refusals.{Tried, bad_json, bad_request, unbuilt}
use Rattle.asm_wire.specs.Requests.{Asks}
use Rattle.asm_wire.specs.declared.refusal.WireRefusal.{WireRefusal}
use Rattle.asm_wire.specs.declared.refusal.WireRefusal.TheVariants as wire

-- want of memory says nothing of the line
abbrev pub refusal_in : WireRefusal → Option Refusal
refusal_in wire.BadJson = Some bad_json
refusal_in (wire.BadRequest key) = Some (bad_request key)
refusal_in wire.Unbuilt = Some unbuilt
refusal_in wire.NoMemory = None

-- it reports what was found, seen like this, or the refusal, or want of memory
abbrev pub ReportsAs : {A B : Type 0} → (A → B) → Tried B → Result A WireRefusal → Type 0
ReportsAs seen tried (Ok x) = tried ≡ Ok (seen x)
ReportsAs seen tried (Err why) =
    (refusal : Refusal) → refusal_in why ≡ Some refusal → tried ≡ Err refusal

abbrev pub Reports : {A : Type 0} → Tried A → Result A WireRefusal → Type 0
Reports tried reported = ReportsAs (λ x. x) tried reported

-- the line asks for nothing, for this reason if there is one
abbrev pub IsRefused : List ℕ → Option Refusal → Type 0
IsRefused line why = IfSome why (λ refusal. Asks line (Err refusal))
