-- What the environment gives with a step, and what other models offer: the values of monitored and
-- shared functions.
use Rattle.std.specs.Prelude.{ℕ, Bool, true, false, not, ◌&&◌, if◌then◌else◌, filter, Option, Some, None, List, [], ◌∷◌, ◌++◌, slice_get, option_map, option_and_then, Ok, Err}
use Rattle.std.specs.List.{list_any}
use Rattle.std.specs.Option.{option_map_or}
use Rattle.std.specs.Result.{result_ok}
use Rattle.std.specs.Str.{bytes_eq}
use Rattle.std.specs.Ordering.{eq_by_cmp}
use Rattle.asm_value.specs.declared.domain.Domain.{Domain}
use Rattle.asm_value.specs.declared.value.Value.{Value}
use Rattle.asm_value.specs.declared.value.Value.TheVariants.{Undef}
use Rattle.asm_value.specs.declared.location.Update.{Update}
use Rattle.asm_value.specs.Living.{live_of}
use Rattle.asm_value.specs.Location.{location_cmp}
use Rattle.asm_value.specs.Value.{compare}
use Rattle.asm_program.specs.declared.program.FunctionInfo.{FunctionInfo}
use Rattle.asm_program.specs.Functions.{function_named}
use Rattle.asm_program.specs.Meaning.{location_of}
use Rattle.asm_portable.specs.declared.port.Port.{Port}
use Rattle.asm_portable.specs.declared.port.Field.{Field}
use Rattle.asm_portable.specs.Ports.{fields_of, as_list, is_null}
use Rattle.asm_portable.specs.Reading.{value_of}
use Rattle.asm_compose.specs.declared.given.Given.{Given}
use Rattle.asm_compose.specs.Offers.{Offer}
use Rattle.asm_board.specs.Kinds.{is_input}
use Rattle.asm_board.specs.Contents.{Contents}
use Rattle.asm_board.specs.Refusals.{Tried, after, is_there, bad_input, wire_unfit}
use Rattle.asm_board.specs.Slots.{Models, slot_in}

-- both, one in front of the others
abbrev pub and_others : {A : Type 0} → Option A → Option (List A) → Option (List A)
and_others (Some x) (Some xs) = Some (x ∷ xs)
and_others _ _ = None

abbrev pub set_to : ℕ → List Value → Value → Update
set_to f args value = record { location = location_of f args; value = value }

-- one of the updates is of the location of another
abbrev pub is_set_by : Update → List Update → Bool
is_set_by u us = list_any (λ v. eq_by_cmp location_cmp u.location v.location) us

-- some location stands there twice
abbrev pub repeats : List Update → Bool
repeats [] = false
repeats (u ∷ us) =
    if is_set_by u us then true else repeats us

abbrev pub once_each : List Update → Option (List Update)
once_each us = if repeats us then None else Some us

module _ (content : Contents) where
  -- ---- one location

  -- a value of the domain, at the members of the present state
  abbrev pub value_in : Domain → Port → Option Value
  value_in domain tree = result_ok
      (value_of content.program.domains (live_of content.state content.program.domains) domain tree)

  -- or undef, where the tree is null
  abbrev pub value_or_undef : Domain → Port → Option Value
  value_or_undef domain tree = if is_null tree then Some Undef else value_in domain tree

  -- the arguments, each in its domain, as many as there are domains
  abbrev pub args_in : List Domain → List Port → Option (List Value)
  args_in [] [] = Some []
  args_in [] (t ∷ ts) = None
  args_in (d ∷ ds) [] = None
  args_in (d ∷ ds) (t ∷ ts) = and_others (value_in d t) (args_in ds ts)

  abbrev pub update_in : ℕ → FunctionInfo → List Port → Port → Option Update
  update_in f info args tree =
      option_and_then (λ vs. option_map (set_to f vs) (value_or_undef info.result tree))
      (args_in info.args args)

  -- ---- one function

  -- a list of two: the list of the arguments, and the value
  abbrev pub pair_in : ℕ → FunctionInfo → Option (List Port) → Option Update
  pair_in f info (Some (args ∷ tree ∷ [])) =
      option_and_then (λ trees. update_in f info trees tree) (as_list args)
  pair_in f info _ = None

  abbrev pub pair_of : ℕ → FunctionInfo → Port → Option Update
  pair_of f info tree = pair_in f info (as_list tree)

  abbrev pub pairs_in : ℕ → FunctionInfo → List Port → Option (List Update)
  pairs_in f info [] = Some []
  pairs_in f info (t ∷ ts) = and_others (pair_of f info t) (pairs_in f info ts)

  -- a list of pairs, no location twice
  abbrev pub listed_in : ℕ → FunctionInfo → Port → Option (List Update)
  listed_in f info tree =
      option_and_then once_each (option_and_then (pairs_in f info) (as_list tree))

  -- a value where the function has no arguments, else a list of pairs
  abbrev pub updates_in : ℕ → FunctionInfo → List Domain → Port → Option (List Update)
  updates_in f info [] tree = option_map (λ u. u ∷ []) (update_in f info [] tree)
  updates_in f info (d ∷ ds) tree = listed_in f info tree

  abbrev pub input_in : ℕ → Option FunctionInfo → Port → Option (List Update)
  input_in f None tree = None
  input_in f (Some info) tree =
      if is_input info.kind then updates_in f info info.args tree else None

  -- what is given for the function of a name, which has to be a monitored or a shared one
  abbrev pub function_in : List ℕ → Port → Option (List Update)
  function_in function tree =
      option_and_then (λ f. input_in f (slice_get content.program.functions f) tree)
      (function_named 0 content.program.functions function)

-- ---- one model

abbrev pub unless_misfit : List ℕ → List ℕ → Option (List Update) → Tried (List Update)
unless_misfit function name (Some us) = Ok us
unless_misfit function name None = Err (bad_input function name)

abbrev pub both_given : Tried (List Update) → Tried (List Update) → Tried (List Update)
both_given first others = after first (λ us. after others (λ vs. Ok (us ++ vs)))

-- what is given for the functions of a model
abbrev pub functions_given : List ℕ → Contents → List Field → Tried (List Update)
functions_given name content [] = Ok []
functions_given name content (f ∷ fs) =
    both_given (unless_misfit f.key name (function_in content f.key f.tree))
    (functions_given name content fs)

-- what the environment gives for a model
abbrev pub given_for : List Field → List ℕ → List Field
given_for [] name = []
given_for (f ∷ fs) name = if bytes_eq f.key name then fields_of f.tree else given_for fs name

-- what is given for a model of these fits it; nothing may be given for another
abbrev pub model_given : Models → Field → Tried (List Update)
model_given models f =
    after (is_there (slot_in models f.key) (bad_input [] f.key))
    (λ slot. functions_given f.key slot.content (fields_of f.tree))

-- what is given fits these models
abbrev pub all_given : Models → List Field → Tried (Unit {0})
all_given models [] = Ok tt
all_given models (f ∷ fs) = after (model_given models f) (λ _. all_given models fs)

-- ---- what other models offer

-- the update gives a location another value than one of these does
abbrev pub disagrees : List Update → Update → Bool
disagrees us u =
    list_any (λ v. eq_by_cmp location_cmp u.location v.location
    && not (eq_by_cmp compare u.value v.value)) us

-- something is given for the function
abbrev pub is_given : List Field → List ℕ → Bool
is_given fs function = list_any (λ f. bytes_eq f.key function) fs

module _ (content : Contents) where
  abbrev pub is_input_of : Option FunctionInfo → Bool
  is_input_of info = option_map_or (λ f. is_input f.kind) info false

  -- the function of this name is a monitored or a shared one
  abbrev pub hears : List ℕ → Bool
  hears function =
      option_map_or (λ f. is_input_of (slice_get content.program.functions f))
      (function_named 0 content.program.functions function) false

  -- what the model takes of what it is offered: the environment's own values win
  abbrev pub is_taken : List Field → Given → Bool
  is_taken fs g = hears g.function && not (is_given fs g.function)

  abbrev pub offered_in : ℕ → Option FunctionInfo → Given → Option Update
  offered_in f None g = None
  offered_in f (Some info) g = update_in content f info g.args g.value

  -- the location of the function of a name with its value, where they fit
  abbrev pub offered_update : Given → Option Update
  offered_update g =
      option_and_then (λ f. offered_in f (slice_get content.program.functions f) g)
      (function_named 0 content.program.functions g.function)

  -- one more update, unless it doesn't fit or gives a location a second value
  abbrev pub with_offered : List ℕ → List ℕ → List Update → Option Update → Tried (List Update)
  with_offered function name us None = Err (wire_unfit function name)
  with_offered function name us (Some u) =
      if disagrees us u then Err (wire_unfit function name) else Ok (us ++ u ∷ [])

  abbrev pub offered_from : List ℕ → List Update → List Given → Tried (List Update)
  offered_from name us [] = Ok us
  offered_from name us (g ∷ gs) =
      after (with_offered g.function name us (offered_update g)) (λ vs. offered_from name vs gs)

  -- the updates that a model takes of an offer, or the first function that doesn't fit
  abbrev pub offered : List ℕ → List Field → Offer → Tried (List Update)
  offered name fs offer = offered_from name [] (filter (is_taken fs) offer)

  -- the inputs of a model's step: what the environment gives for it, and what it takes of an offer
  abbrev pub inputs_of : List ℕ → List Field → Offer → Tried (List Update)
  inputs_of name fs offer =
      both_given (functions_given name content fs) (offered name fs offer)
