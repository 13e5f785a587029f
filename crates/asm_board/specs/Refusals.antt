-- Refusals: what each says, and how the first of several is the outcome.
use Rattle.std.specs.Prelude.{ℕ, List, [], ◌∷◌, ◌++◌, Bool, Option, Some, None, Result, Ok, Err, codes, if◌then◌else◌}
use Rattle.asm_formula.specs.declared.formula.FormulaRefusal.{FormulaRefusal}
use Rattle.asm_formula.specs.declared.formula.FormulaRefusal.TheVariants as unread
use Rattle.asm_compose.specs.declared.given.Given.{Given}
use Rattle.asm_program.specs.declared.bad_text.BadText.{BadText}
use Rattle.asm_portable.specs.declared.port.Port.{Port}
use Rattle.asm_portable.specs.declared.port.Field.{Field}
use Rattle.asm_portable.specs.Ports.{text, number, list, field, fields}
use Rattle.asm_board.specs.declared.refusal.Refusal.{Refusal}
use Rattle.asm_board.specs.declared.refusal.RefusalName.{RefusalName}
use Rattle.asm_board.specs.declared.refusal.RefusalName.TheVariants as no

-- ---- names and reasons

abbrev pub name_text : RefusalName → List ℕ
name_text no.Unbuilt = codes "Unbuilt"
name_text no.LineTooLong = codes "LineTooLong"
name_text no.BadJson = codes "BadJson"
name_text no.BadRequest = codes "BadRequest"
name_text no.Ahead = codes "Ahead"
name_text no.BadName = codes "BadName"
name_text no.NameTaken = codes "NameTaken"
name_text no.ModelsFull = codes "ModelsFull"
name_text no.BadText = codes "BadText"
name_text no.UnknownModel = codes "UnknownModel"
name_text no.InitFault = codes "InitFault"
name_text no.StateFull = codes "StateFull"
name_text no.Broken = codes "Broken"
name_text no.BadFormula = codes "BadFormula"
name_text no.BadInput = codes "BadInput"
name_text no.WireUnfit = codes "WireUnfit"
name_text no.Fault = codes "Fault"
name_text no.Clash = codes "Clash"
name_text no.JoinClash = codes "JoinClash"
name_text no.InvTaken = codes "InvTaken"
name_text no.UnknownInv = codes "UnknownInv"
name_text no.InvsFull = codes "InvsFull"
name_text no.NotInTrail = codes "NotInTrail"
name_text no.JournalFull = codes "JournalFull"

abbrev pub name_of : Refusal → List ℕ
name_of refusal = name_text refusal.name

abbrev pub why_of : Refusal → Port
why_of refusal = refusal.why

-- a refusal of this name, with these fields
abbrev pub refusal : RefusalName → List Field → Refusal
refusal name why = record { name = name; why = fields why }

-- the line asks for something that isn't built
abbrev pub unbuilt : Refusal
unbuilt = refusal no.Unbuilt []

-- the line has more bytes than this
abbrev pub line_too_long : ℕ → Refusal
line_too_long limit = refusal no.LineTooLong (field (codes "limit") (number limit) ∷ [])

-- the line isn't JSON
abbrev pub bad_json : Refusal
bad_json = refusal no.BadJson []

-- the first field that is missing or unfit, or the least that no such request has
abbrev pub bad_request : List ℕ → Refusal
bad_request key = refusal no.BadRequest (field (codes "field") (text key) ∷ [])

-- a read is to be answered after more entries than there are
abbrev pub ahead : ℕ → Refusal
ahead have = refusal no.Ahead (field (codes "have") (number have) ∷ [])

-- the name is no identifier of 1 to 64 bytes
abbrev pub bad_name : Refusal
bad_name = refusal no.BadName []

abbrev pub model_is : List ℕ → Field
model_is name = field (codes "model") (text name)

-- the model exists, at this version
abbrev pub name_taken : List ℕ → ℕ → Refusal
name_taken name version =
    refusal no.NameTaken (model_is name ∷ field (codes "version") (number version) ∷ [])

-- as many models exist as may
abbrev pub models_full : ℕ → Refusal
models_full limit = refusal no.ModelsFull (field (codes "limit") (number limit) ∷ [])

-- the text has no program: its first refusal
abbrev pub bad_text : BadText → Refusal
bad_text bad = refusal no.BadText
    (field (codes "column") (number bad.column)
    ∷ field (codes "kind") (text bad.kind)
    ∷ field (codes "line") (number bad.line)
    ∷ field (codes "more") (text bad.more) ∷ [])

-- why a text is no formula, and the byte at which it is none, 0 where that is of the whole; want of
-- memory says nothing of a text
abbrev pub formula_kind : FormulaRefusal → List ℕ
formula_kind (unread.Syntax at) = codes "Syntax"
formula_kind unread.TooMany = codes "TooMany"
formula_kind (unread.Repeated name) = codes "Repeated"
formula_kind unread.NoMemory = []

abbrev pub formula_place : FormulaRefusal → ℕ
formula_place (unread.Syntax at) = at
formula_place unread.TooMany = 0
formula_place (unread.Repeated name) = 0
formula_place unread.NoMemory = 0

-- the text is no formula
abbrev pub bad_formula : FormulaRefusal → Refusal
bad_formula why = refusal no.BadFormula
    (field (codes "kind") (text (formula_kind why))
    ∷ field (codes "place") (number (formula_place why)) ∷ [])

-- no such model exists
abbrev pub unknown_model : List ℕ → Refusal
unknown_model name = refusal no.UnknownModel (model_is name ∷ [])

-- The model that a refusal names. In a run it has no name, and the number of the step is told.
pub record Whose : Type 0 where
  pub name : List ℕ
  pub step : List Field

abbrev pub of_model : List ℕ → Whose
of_model name = record { name = name; step = [] }

abbrev pub of_run : ℕ → Whose
of_run step = record { name = []; step = field (codes "step") (number step) ∷ [] }

-- the evaluation has a fault of this kind at this place of the model's text
abbrev pub fault_at : RefusalName → Whose → (column : ℕ) → (kind : List ℕ) → (line : ℕ) → Refusal
fault_at name whose column kind line = refusal name
    (field (codes "column") (number column)
    ∷ field (codes "kind") (text kind)
    ∷ field (codes "line") (number line)
    ∷ model_is whose.name ∷ whose.step)

-- the evaluation of a term that was asked for has a fault of this kind
abbrev pub value_fault : (kind name : List ℕ) → Refusal
value_fault kind name =
    refusal no.Fault (field (codes "kind") (text kind) ∷ model_is name ∷ [])

-- the state weighs this, which is too much
abbrev pub state_full : Whose → ℕ → Refusal
state_full whose weight = refusal no.StateFull
    (model_is whose.name ∷ whose.step ++ field (codes "weight") (number weight) ∷ [])

-- the state would break this invariant
abbrev pub broken : Whose → List ℕ → Refusal
broken whose inv =
    refusal no.Broken (field (codes "inv") (text inv) ∷ model_is whose.name ∷ whose.step)

-- what is given for a function of a model doesn't fit; the function has no name where there is no
-- such model
abbrev pub bad_input : List ℕ → List ℕ → Refusal
bad_input function name =
    refusal no.BadInput (field (codes "function") (text function) ∷ model_is name ∷ [])

-- what other models offer for a function of a model doesn't fit
abbrev pub wire_unfit : List ℕ → List ℕ → Refusal
wire_unfit function name =
    refusal no.WireUnfit (field (codes "function") (text function) ∷ model_is name ∷ [])

-- two models give one location these two values
abbrev pub join_clash : Given → Given → Refusal
join_clash first second = refusal no.JoinClash
    (field (codes "args") (list first.args)
    ∷ field (codes "function") (text first.function)
    ∷ field (codes "values") (list (first.value ∷ second.value ∷ [])) ∷ [])

abbrev pub invariant_of : RefusalName → List ℕ → List ℕ → Refusal
invariant_of name inv model =
    refusal name (field (codes "inv") (text inv) ∷ model_is model ∷ [])

-- the model has an invariant of this name
abbrev pub inv_taken : List ℕ → List ℕ → Refusal
inv_taken inv name = invariant_of no.InvTaken inv name

-- the model has no invariant of this name
abbrev pub unknown_inv : List ℕ → List ℕ → Refusal
unknown_inv inv name = invariant_of no.UnknownInv inv name

-- the model has as many invariants as may be
abbrev pub invs_full : ℕ → List ℕ → Refusal
invs_full limit name =
    refusal no.InvsFull (field (codes "limit") (number limit) ∷ model_is name ∷ [])

-- the version isn't among the earlier ones that are kept, of which these are the newest and the
-- oldest
abbrev pub not_in_trail : List ℕ → (newest oldest : ℕ) → Refusal
not_in_trail name newest oldest = refusal no.NotInTrail
    (model_is name
    ∷ field (codes "newest") (number newest)
    ∷ field (codes "oldest") (number oldest) ∷ [])

-- the step's set gives this location two values
abbrev pub clash_at : Whose → List Port → List ℕ → List Port → Refusal
clash_at whose args function values = refusal no.Clash
    (field (codes "args") (list args)
    ∷ field (codes "function") (text function)
    ∷ model_is whose.name
    ∷ whose.step ++ field (codes "values") (list values) ∷ [])

-- the journal's weight and what the entry adds exceed its room
abbrev pub journal_full : ℕ → ℕ → Refusal
journal_full adds weight = refusal no.JournalFull
    (field (codes "adds") (number adds) ∷ field (codes "weight") (number weight) ∷ [])

-- ---- the first of several

-- something, or the first refusal
abbrev pub Tried : Type 0 → Type 0
Tried A = Result A Refusal

-- goes on with what was found; a refusal is the outcome
abbrev pub after : {A B : Type 0} → Tried A → (A → Tried B) → Tried B
after (Ok x) go = go x
after (Err why) go = Err why

-- the test has to pass
abbrev pub needs : Bool → Refusal → Tried (Unit {0})
needs passes why = if passes then Ok tt else Err why

-- there has to be one
abbrev pub is_there : {A : Type 0} → Option A → Refusal → Tried A
is_there (Some x) why = Ok x
is_there None why = Err why
