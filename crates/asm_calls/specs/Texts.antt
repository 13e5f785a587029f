-- The calls of a text, as they are found: a name's number is looked up in an index.
use Rattle.std.specs.Prelude.{◌≡◌, ℕ, Bool, true, false, if◌then◌else◌, Option, Some, None, List, [], ◌∷◌, ◌++◌, map}
use Rattle.std.specs.List.{position_from}
use Rattle.std.specs.HashMap.{HashMap, get_by_text}
use Rattle.std.specs.declared.string.String.{String}
use Rattle.asm_syntax.specs.declared.token.Token.{Token}
use Rattle.asm_syntax.specs.declared.tree.TermTree.{TermTree}
use Rattle.asm_syntax.specs.declared.tree.RuleTree.{RuleTree}
use Rattle.asm_syntax.specs.declared.tree.DefTree.{DefTree}
use Rattle.asm_syntax.specs.Marks.{text_of}
use Rattle.asm_program.specs.Items.{Item, Items, NamesFunction, NamesMacro, term_items, rule_items}
use Rattle.asm_program.specs.Calls.{CallGraph, Defined, defined_in, is_called}
use Rattle.asm_calls.specs.declared.texts.Definition.{Definition}
use Rattle.asm_calls.specs.declared.texts.Index.{Index}

-- the definition that Rust's stands for
abbrev pub defined_as : Definition → Defined
defined_as d = record { name = d.name.now; is_rule = d.is_rule; items = d.items }

abbrev pub all_defined : List Definition → List Defined
all_defined ds = map defined_as ds

abbrev pub function_of : Token → TermTree → Defined
function_of name term = record { name = name; is_rule = false; items = term_items term }

abbrev pub rule_of : Token → RuleTree → Defined
rule_of name body = record { name = name; is_rule = true; items = rule_items body }

-- a definition at the end
abbrev pub with_defined : List Defined → DefTree → List Defined
with_defined ds tree = ds ++ defined_in (tree ∷ [])

-- those of trees after these
unfoldable pub defined_from : List Defined → List DefTree → List Defined
defined_from ds [] = ds
defined_from ds (tree ∷ rest) = defined_from (with_defined ds tree) rest

-- ---- the index

-- whether a definition is of the kind that is looked for
abbrev pub is_of : Bool → Bool → Bool
is_of true is_rule = is_rule
is_of false true = false
is_of false false = true

-- the number of the first definition of the kind with a name, of those from this number on
unfoldable pub Numbers : {Y S : Type 0} → Bool → ℕ → List Defined → HashMap (String Y) ℕ S → Type 0
Numbers rules at ds numbers =
    (q : List ℕ) → get_by_text numbers q ≡ position_from (is_called rules q) at ds

-- a definition at this number, before those that are there
unfoldable pub Adds : {Y S : Type 0} → Bool → ℕ → Defined → HashMap (String Y) ℕ S
    → HashMap (String Y) ℕ S → Type 0
Adds rules at d old new =
    (q : List ℕ) → get_by_text new q
    ≡ (if is_called rules q d then Some at else get_by_text old q)

-- ---- calls

abbrev pub callee_in : Index → Item → Option ℕ
callee_in index (NamesFunction t) = get_by_text index.functions (text_of t)
callee_in index (NamesMacro t) = get_by_text index.rules (text_of t)
callee_in index _ = None

abbrev pub with_call : List ℕ → Option ℕ → List ℕ
with_call calls None = calls
with_call calls (Some number) = calls ++ number ∷ []

unfoldable pub calls_from : Index → List ℕ → Items → List ℕ
calls_from index calls [] = calls
calls_from index calls (item ∷ rest) =
    calls_from index (with_call calls (callee_in index item)) rest

unfoldable pub calls_in : Index → Items → List ℕ
calls_in index items = calls_from index [] items

abbrev pub graph_in : Index → List Defined → CallGraph
graph_in index ds = map (λ d. calls_in index d.items) ds

-- the index has the numbers of all definitions
abbrev pub IsIndex : Index → List Defined → Type 0
IsIndex index ds = Numbers false 0 ds index.functions × Numbers true 0 ds index.rules
