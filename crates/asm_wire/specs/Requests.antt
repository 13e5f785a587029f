-- What a line asks for.
use Rattle.std.specs.Prelude.{◌≡◌, ℕ, ◌^◌, ◌-◌, Bool, true, false, not, ◌&&◌, ◌||◌, ◌⊎◌, nat_le, List, [], ◌∷◌, codes, if◌then◌else◌, Option, Some, None, option_and_then, unwrap_or, is_some, is_none, Ok, Err}
use Rattle.std.specs.Option.{option_map_or}
use Rattle.std.specs.List.{list_any}
use Rattle.std.specs.Str.{bytes_eq}
use Rattle.serde_json.specs.Data.{Data, null, boolean, number, string, array, object, Members, no_members, member}
use Rattle.serde_json.specs.Find.{get, as_object, as_str, as_number, as_u64}
use Rattle.serde_json.specs.Written.{has_float}
use Rattle.asm_portable.specs.declared.port.Port.{Port}
use Rattle.asm_portable.specs.Json.{tree_of}
pub use Rattle.asm_portable.specs.ReadPort.{IsJson}
use Rattle.asm_portable.specs.Ports.{fields}
use Rattle.asm_board.specs.declared.call.Call.{Call}
use Rattle.asm_board.specs.declared.call.Call.TheVariants as call
use Rattle.asm_board.specs.Refusals.{Tried, after, needs, is_there, bad_json, bad_request, unbuilt}
use Rattle.asm_board.specs.Changes.{is_identifier}

-- ---- fields

abbrev pub string_at : List ℕ → Data → Option (List ℕ)
string_at key request = option_and_then as_str (get key request)

abbrev pub natural_of : Data → Option ℕ
natural_of d = option_and_then as_u64 (as_number d)

abbrev pub within : ℕ → Option ℕ → Option ℕ
within most None = None
within most (Some n) = if nat_le n most then Some n else None

-- a string that has to be there
abbrev pub string_in : List ℕ → Data → Tried (List ℕ)
string_in key request = is_there (string_at key request) (bad_request key)

-- a whole number from 0 to this, which has to be there
abbrev pub number_in : ℕ → List ℕ → Data → Tried ℕ
number_in most key request =
    is_there (within most (option_and_then natural_of (get key request))) (bad_request key)

abbrev pub from_1 : Option ℕ → Option ℕ
from_1 None = None
from_1 (Some n) = if nat_le 1 n then Some n else None

-- a whole number from 1 to 2^64 - 1, which has to be there
abbrev pub positive_in : List ℕ → Data → Tried ℕ
positive_in key request =
    is_there (from_1 (option_and_then natural_of (get key request))) (bad_request key)

abbrev pub fits_if_there : (Data → Bool) → Option Data → Bool
fits_if_there fits None = true
fits_if_there fits (Some d) = fits d

-- a field that may be there, and fits then
abbrev pub optional : (Data → Bool) → List ℕ → Data → Tried (Unit {0})
optional fits key request = needs (fits_if_there fits (get key request)) (bad_request key)

-- a whole number from 0 to 2^64 - 1
abbrev pub is_natural : Data → Bool
is_natural d = is_some (natural_of d)

-- null, or such a number
abbrev pub is_pick : Data → Bool
is_pick null = true
is_pick (boolean b) = false
is_pick (number n) = is_natural (number n)
is_pick (string s) = false
is_pick (array ds) = false
is_pick (object ms) = false

-- the number of a pick, None where it is null or isn't there
abbrev pub pick_in : List ℕ → Data → Option ℕ
pick_in key request = option_and_then natural_of (get key request)

-- the number of the field `since`, 0 where it isn't there
abbrev pub since_in : Data → ℕ
since_in request = unwrap_or (option_and_then natural_of (get (codes "since") request)) 0

-- each member is an object in which each number is a whole number of 64 bits
abbrev pub are_objects : Members → Bool
are_objects no_members = true
are_objects (member key d ms) = (is_some (as_object d) && not (has_float d)) && are_objects ms

abbrev pub are_inputs : Option Members → Bool
are_inputs None = false
are_inputs (Some ms) = are_objects ms

-- an object of objects
abbrev pub is_inputs : Data → Bool
is_inputs d = are_inputs (as_object d)

-- the inputs of a step, none where the field isn't there
abbrev pub inputs_in : List ℕ → Data → Port
inputs_in key request = option_map_or tree_of (get key request) (fields [])

-- the first key that isn't among these; keys ascend
abbrev pub first_other : List (List ℕ) → Members → Option (List ℕ)
first_other keys no_members = None
first_other keys (member key d ms) =
    if list_any (bytes_eq key) keys then first_other keys ms else Some key

abbrev pub no_other : Option (List ℕ) → Tried (Unit {0})
no_other None = Ok tt
no_other (Some key) = Err (bad_request key)

abbrev pub others_in : List (List ℕ) → Option Members → Option (List ℕ)
others_in keys None = None
others_in keys (Some ms) = first_other keys ms

-- it has no field but these
abbrev pub only : List (List ℕ) → Data → Tried (Unit {0})
only keys request = no_other (others_in keys (as_object request))

-- ---- operations

-- the most steps of a run
abbrev pub most_steps : ℕ
most_steps = 64

abbrev pub run_in : Data → Tried Call
run_in request =
    after (string_in (codes "text") request) (λ text.
    after (number_in most_steps (codes "steps") request) (λ steps.
    after (optional is_pick (codes "pick") request) (λ _.
    after (optional is_natural (codes "since") request) (λ _.
    after (only (codes "op" ∷ codes "pick" ∷ codes "since" ∷ codes "steps" ∷ codes "text" ∷ [])
    request) (λ _.
    Ok (call.Run text steps (pick_in (codes "pick") request) (since_in request)))))))

abbrev pub load_in : Data → Tried Call
load_in request =
    after (string_in (codes "name") request) (λ name.
    after (string_in (codes "text") request) (λ text.
    after (only (codes "name" ∷ codes "op" ∷ codes "text" ∷ []) request) (λ _.
    Ok (call.Load name text))))

abbrev pub step_in : Data → Tried Call
step_in request =
    after (string_in (codes "formula") request) (λ formula.
    after (optional is_inputs (codes "inputs") request) (λ _.
    after (optional is_pick (codes "pick") request) (λ _.
    after (only (codes "formula" ∷ codes "inputs" ∷ codes "op" ∷ codes "pick" ∷ []) request) (λ _.
    Ok (call.Step formula (inputs_in (codes "inputs") request) (pick_in (codes "pick") request))))))

abbrev pub state_in : Data → Tried Call
state_in request =
    after (string_in (codes "name") request) (λ name.
    after (optional is_natural (codes "since") request) (λ _.
    after (only (codes "name" ∷ codes "op" ∷ codes "since" ∷ []) request) (λ _.
    Ok (call.State name (since_in request)))))

abbrev pub value_in : Data → Tried Call
value_in request =
    after (string_in (codes "name") request) (λ name.
    after (string_in (codes "term") request) (λ term.
    after (optional is_natural (codes "since") request) (λ _.
    after (only (codes "name" ∷ codes "op" ∷ codes "since" ∷ codes "term" ∷ []) request) (λ _.
    Ok (call.Value name term (since_in request))))))

abbrev pub text_in : Data → Tried Call
text_in request =
    after (string_in (codes "name") request) (λ name.
    after (optional is_natural (codes "since") request) (λ _.
    after (only (codes "name" ∷ codes "op" ∷ codes "since" ∷ []) request) (λ _.
    Ok (call.ShowText name (since_in request)))))

abbrev pub models_in : Data → Tried Call
models_in request =
    after (optional is_natural (codes "since") request) (λ _.
    after (only (codes "op" ∷ codes "since" ∷ []) request) (λ _.
    Ok (call.Models (since_in request))))

-- the most entries of a log
abbrev pub most_entries : ℕ
most_entries = 16

abbrev pub log_in : Data → Tried Call
log_in request =
    after (positive_in (codes "from") request) (λ from.
    after (number_in most_entries (codes "count") request) (λ count.
    after (optional is_natural (codes "since") request) (λ _.
    after (only (codes "count" ∷ codes "from" ∷ codes "op" ∷ codes "since" ∷ []) request) (λ _.
    Ok (call.Log from count (since_in request))))))

-- an identifier, which has to be there
abbrev pub identifier_in : List ℕ → Data → Tried (List ℕ)
identifier_in key request =
    after (string_in key request) (λ name.
    after (needs (is_identifier name) (bad_request key)) (λ _. Ok name))

abbrev pub add_invariant_in : Data → Tried Call
add_invariant_in request =
    after (string_in (codes "name") request) (λ name.
    after (identifier_in (codes "inv") request) (λ inv.
    after (string_in (codes "term") request) (λ term.
    after (only (codes "inv" ∷ codes "name" ∷ codes "op" ∷ codes "term" ∷ []) request) (λ _.
    Ok (call.AddInvariant name inv term)))))

abbrev pub drop_invariant_in : Data → Tried Call
drop_invariant_in request =
    after (string_in (codes "name") request) (λ name.
    after (identifier_in (codes "inv") request) (λ inv.
    after (only (codes "inv" ∷ codes "name" ∷ codes "op" ∷ []) request) (λ _.
    Ok (call.DropInvariant name inv))))

-- the greatest number of a request
abbrev pub most_number : ℕ
most_number = 2 ^ 64 - 1

abbrev pub rollback_in : Data → Tried Call
rollback_in request =
    after (string_in (codes "name") request) (λ name.
    after (number_in most_number (codes "to") request) (λ to.
    after (only (codes "name" ∷ codes "op" ∷ codes "to" ∷ []) request) (λ _.
    Ok (call.Rollback name to))))

-- the operations that aren't built
abbrev pub is_later : List ℕ → Bool
is_later op = bytes_eq op (codes "swap") || bytes_eq op (codes "unload")

abbrev pub other_in : List ℕ → Tried Call
other_in op = Err (if is_later op then unbuilt else bad_request (codes "op"))

abbrev pub call_by : List ℕ → Data → Tried Call
call_by op request =
    if bytes_eq op (codes "run") then run_in request
    else (if bytes_eq op (codes "load") then load_in request
    else (if bytes_eq op (codes "step") then step_in request
    else (if bytes_eq op (codes "state") then state_in request
    else (if bytes_eq op (codes "value") then value_in request
    else (if bytes_eq op (codes "text") then text_in request
    else (if bytes_eq op (codes "models") then models_in request
    else (if bytes_eq op (codes "log") then log_in request
    else (if bytes_eq op (codes "addinv") then add_invariant_in request
    else (if bytes_eq op (codes "dropinv") then drop_invariant_in request
    else (if bytes_eq op (codes "rollback") then rollback_in request
    else other_in op))))))))))

-- the call for which a JSON tree asks, or the first reason why it asks for none
unfoldable pub call_in : Data → Tried Call
call_in request =
    after (needs (is_some (as_object request)) (bad_request [])) (λ _.
    after (string_in (codes "op") request) (λ op.
    call_by op request))

-- ---- lines

-- the line is JSON, and asks for this
pub record AsksIn (line : List ℕ) (asked : Tried Call) : Type 0 where
  pub tree : Data
  pub is_json : IsJson line tree
  pub asks : asked ≡ call_in tree

-- the line is no JSON
pub record IsNoJson (line : List ℕ) (asked : Tried Call) : Type 0 where
  pub none : (tree : Data) → IsJson line tree → ⊥
  pub refused : asked ≡ Err bad_json

-- What a line asks for: a call, or nothing, for this reason.
abbrev pub Asks : List ℕ → Tried Call → Type 0
Asks line asked = AsksIn line asked ⊎ IsNoJson line asked
