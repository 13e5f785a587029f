-- A call as the request that asks for it.
use Rattle.std.specs.Prelude.{ℕ, ◌==◌, if◌then◌else◌, Option, Some, None, List, [], ◌∷◌, ◌++◌, codes}
use Rattle.asm_portable.specs.declared.port.Port.{Port}
use Rattle.asm_portable.specs.declared.port.Field.{Field}
use Rattle.asm_portable.specs.Ports.{text, number, field, fields, fields_of}
use Rattle.asm_board.specs.declared.call.Call.{Call}
use Rattle.asm_board.specs.declared.call.Call.TheVariants as call

abbrev pub texts : List ℕ → List ℕ → List Field
texts key source = field key (text source) ∷ []

abbrev pub numbers : List ℕ → ℕ → List Field
numbers key n = field key (number n) ∷ []

abbrev pub op : List ℕ → List Field
op word = texts (codes "op") word

-- a pick, where there is one
abbrev pub pick_named : Option ℕ → List Field
pick_named None = []
pick_named (Some pick) = numbers (codes "pick") pick

-- a number of entries, where it isn't 0
abbrev pub since_named : ℕ → List Field
since_named since = if since == 0 then [] else numbers (codes "since") since

abbrev pub inputs_if : Port → List Field → List Field
inputs_if inputs [] = []
inputs_if inputs (f ∷ fs) = field (codes "inputs") inputs ∷ []

-- inputs, where there are some
abbrev pub inputs_named : Port → List Field
inputs_named inputs = inputs_if inputs (fields_of inputs)

-- the model and the operation
abbrev pub named : List ℕ → List ℕ → List Field
named word name = texts (codes "name") name ++ op word

-- the fields of the request, ascending by key; those that hold their defaults are left out
abbrev pub request_fields : Call → List Field
request_fields (call.Run source steps pick since) =
    op (codes "run") ++ pick_named pick ++ since_named since
    ++ numbers (codes "steps") steps ++ texts (codes "text") source
request_fields (call.Load name source) =
    named (codes "load") name ++ texts (codes "text") source
request_fields (call.Unload name) = named (codes "unload") name
request_fields (call.Step formula inputs pick) =
    texts (codes "formula") formula ++ inputs_named inputs ++ op (codes "step") ++ pick_named pick
request_fields (call.State name since) = named (codes "state") name ++ since_named since
request_fields (call.Value name term since) =
    named (codes "value") name ++ since_named since ++ texts (codes "term") term
request_fields (call.ShowText name since) = named (codes "text") name ++ since_named since
request_fields (call.Models since) = op (codes "models") ++ since_named since
request_fields (call.Log from count since) =
    numbers (codes "count") count ++ numbers (codes "from") from ++ op (codes "log")
    ++ since_named since
request_fields (call.AddInvariant name inv term) =
    texts (codes "inv") inv ++ texts (codes "name") name ++ op (codes "addinv")
    ++ texts (codes "term") term
request_fields (call.DropInvariant name inv) =
    texts (codes "inv") inv ++ texts (codes "name") name ++ op (codes "dropinv")
request_fields (call.Rollback name to) =
    named (codes "rollback") name ++ numbers (codes "to") to

-- The request that asks for a call, as a tree.
abbrev pub call_port : Call → Port
call_port c = fields (request_fields c)
