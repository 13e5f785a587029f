-- Calls: which are changes, of which models they speak, and what they weigh.
use Rattle.std.specs.Prelude.{ℕ, ◌+◌, ◌-◌, ◌^◌, ◌==◌, min, Bool, true, false, if◌then◌else◌, Option, Some, None, List, [], ◌∷◌, ◌++◌, sum_by, Result, Ok, Err}
use Rattle.asm_formula.specs.declared.formula.Formula.{Formula}
use Rattle.asm_formula.specs.declared.formula.FormulaRefusal.{FormulaRefusal}
use Rattle.asm_formula.specs.Formulas.{names}
use Rattle.asm_formula.specs.Reading.{formula_of}
use Rattle.asm_portable.specs.declared.port.Port.{Port}
use Rattle.asm_portable.specs.declared.port.Field.{Field}
use Rattle.asm_portable.specs.Ports.{text, number, fields_of}
use Rattle.asm_portable.specs.Weights.{whole_weight}
use Rattle.asm_board.specs.declared.call.Call.{Call}
use Rattle.asm_board.specs.declared.call.Call.TheVariants as call

-- the call may change the models
abbrev pub is_change : Call → Bool
is_change (call.Load name source) = true
is_change (call.Unload name) = true
is_change (call.Step formula inputs pick) = true
is_change (call.AddInvariant name inv term) = true
is_change (call.DropInvariant name inv) = true
is_change (call.Rollback name to) = true
is_change _ = false

-- the models of a formula, none where the text is none
abbrev pub names_in : Result Formula FormulaRefusal → List (List ℕ)
names_in (Ok formula) = names formula
names_in (Err why) = []

-- the call asks for entries of the journal
abbrev pub is_log : Call → Bool
is_log (call.Log from count since) = true
is_log _ = false

-- the number of entries after which a read is to be answered at least; a change has none
abbrev pub since_of : Call → ℕ
since_of (call.Run source steps pick since) = since
since_of (call.State name since) = since
since_of (call.Value name term since) = since
since_of (call.ShowText name since) = since
since_of (call.Models since) = since
since_of (call.Log from count since) = since
since_of _ = 0

-- The models of which a change speaks. A read has none.
abbrev pub footprint : Call → List (List ℕ)
footprint (call.Load name source) = name ∷ []
footprint (call.Unload name) = name ∷ []
footprint (call.Step formula inputs pick) = names_in (formula_of formula)
footprint (call.AddInvariant name inv term) = name ∷ []
footprint (call.DropInvariant name inv) = name ∷ []
footprint (call.Rollback name to) = name ∷ []
footprint _ = []

-- a pick is a field where there is one
abbrev pub pick_field : Option ℕ → List Port
pick_field None = []
pick_field (Some pick) = number pick ∷ []

-- a number of entries is a field where it isn't 0
abbrev pub since_field : ℕ → List Port
since_field since = if since == 0 then [] else number since ∷ []

abbrev pub inputs_among : Port → List Field → List Port
inputs_among inputs [] = []
inputs_among inputs (f ∷ fs) = inputs ∷ []

-- inputs are a field where there are some
abbrev pub inputs_field : Port → List Port
inputs_field inputs = inputs_among inputs (fields_of inputs)

-- what the fields of the request are, other than its operation
abbrev pub present_fields : Call → List Port
present_fields (call.Run source steps pick since) =
    text source ∷ number steps ∷ pick_field pick ++ since_field since
present_fields (call.Load name source) = text name ∷ text source ∷ []
present_fields (call.Unload name) = text name ∷ []
present_fields (call.Step formula inputs pick) =
    text formula ∷ inputs_field inputs ++ pick_field pick
present_fields (call.State name since) = text name ∷ since_field since
present_fields (call.Value name term since) = text name ∷ text term ∷ since_field since
present_fields (call.ShowText name since) = text name ∷ since_field since
present_fields (call.Models since) = since_field since
present_fields (call.Log from count since) =
    number from ∷ number count ∷ since_field since
present_fields (call.AddInvariant name inv term) = text name ∷ text inv ∷ text term ∷ []
present_fields (call.DropInvariant name inv) = text name ∷ text inv ∷ []
present_fields (call.Rollback name to) = text name ∷ number to ∷ []

-- a weight of 2^64 or more counts as 2^64 - 1
abbrev pub capped : ℕ → ℕ
capped n = min n (2 ^ 64 - 1)

-- a call weighs 1 and its fields
abbrev pub call_weight : Call → ℕ
call_weight c = 1 + sum_by whole_weight (present_fields c)

-- an entry weighs 4, its call and its Ok tree
abbrev pub entry_weight : Call → Port → ℕ
entry_weight c ok = capped (4 + call_weight c + whole_weight ok)
