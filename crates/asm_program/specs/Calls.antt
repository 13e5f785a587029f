-- The fourth pass over a text: no definition reaches itself by calls.
use Rattle.std.specs.Prelude.{ℕ, zero, suc, ◌+◌, ◌==◌, Bool, true, false, ◌||◌, ◌&&◌, if◌then◌else◌, Option, Some, None, List, [], ◌∷◌, ◌++◌, map, length, slice_get}
use Rattle.std.specs.Option.{option_map_or}
use Rattle.std.specs.List.{list_any, filter_map, position}
use Rattle.std.specs.Str.{bytes_eq}
use Rattle.asm_syntax.specs.declared.token.Token.{Token}
use Rattle.asm_syntax.specs.declared.tree.DefTree.{DefTree}
use Rattle.asm_syntax.specs.declared.tree.DefTree.TheVariants as defs
use Rattle.asm_syntax.specs.declared.tree.ModelTree.{ModelTree}
use Rattle.asm_syntax.specs.Marks.{text_of}
use Rattle.asm_program.specs.declared.type_refusal.TypeRefusal.{TypeRefusal}
use Rattle.asm_program.specs.declared.type_refusal.TypeRefusal.TheVariants.{Recursive}
use Rattle.asm_program.specs.Items.{Item, Items, NamesFunction, NamesMacro, term_items, rule_items}

-- ---- definitions that call one another

-- the numbers of the definitions that each one calls, by the definitions' numbers from 0
abbrev pub CallGraph : Type 0
CallGraph = List (List ℕ)

abbrev pub calls_of : CallGraph → ℕ → List ℕ
calls_of graph i = option_map_or (λ js. js) (slice_get graph i) []

-- one definition reaches another by at most n calls
abbrev pub reaches : CallGraph → ℕ → ℕ → ℕ → Bool
reaches graph zero i j = false
reaches graph (suc n) i j = list_any (λ k. (k == j) || reaches graph n k j) (calls_of graph i)

-- a definition that reaches itself does so by no more calls than there are definitions
abbrev pub is_recursive : CallGraph → ℕ → Bool
is_recursive graph i = reaches graph (length graph) i i

-- ---- those of a text

-- a definition of a function or a macro rule: its name and what it is made of
pub record Defined : Type 0 where
  pub name : Token
  pub is_rule : Bool
  pub items : Items

abbrev pub defined_in : List DefTree → List Defined
defined_in [] = []
defined_in (defs.Function name params term span ∷ rest) =
    record { name = name; is_rule = false; items = term_items term } ∷ defined_in rest
defined_in (defs.Rule name params body span ∷ rest) =
    record { name = name; is_rule = true; items = rule_items body } ∷ defined_in rest
defined_in (_ ∷ rest) = defined_in rest

-- the main rule is a macro rule too
abbrev pub definitions : ModelTree → List Defined
definitions tree =
    defined_in tree.defs
    ++ record { name = tree.rule_name; is_rule = true; items = rule_items tree.rule } ∷ []

abbrev pub is_called : Bool → List ℕ → Defined → Bool
is_called is_rule name d =
    (if is_rule then d.is_rule else (if d.is_rule then false else true))
    && bytes_eq (text_of d.name) name

-- a term's name calls a function, and one before `[` a macro rule
abbrev pub callee : List Defined → Item → Option ℕ
callee all (NamesFunction t) = position (is_called false (text_of t)) all
callee all (NamesMacro t) = position (is_called true (text_of t)) all
callee all _ = None

abbrev pub call_graph : List Defined → CallGraph
call_graph all = map (λ d. filter_map (callee all) d.items) all

abbrev pub recursive_from : CallGraph → ℕ → List Defined → List TypeRefusal
recursive_from graph i [] = []
recursive_from graph i (d ∷ ds) =
    (if is_recursive graph i then Recursive (text_of d.name) d.name.span ∷ [] else [])
    ++ recursive_from graph (i + 1) ds

-- all that this pass refuses, in text order
abbrev pub calls_refused : ModelTree → List TypeRefusal
calls_refused tree =
    recursive_from (call_graph (definitions tree)) 0 (definitions tree)
