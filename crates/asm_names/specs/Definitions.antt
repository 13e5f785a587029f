-- The functions that have definitions, and what declarations say of functions by them.
use Rattle.std.specs.Prelude.{◌≡◌, ℕ, Bool, not, ◌&&◌, Option, Some, None, List}
use Rattle.std.specs.List.{list_any}
use Rattle.std.specs.Str.{bytes_eq}
use Rattle.asm_syntax.specs.declared.tree.DeclTree.{DeclTree}
use Rattle.asm_syntax.specs.declared.tree.DeclTree.TheVariants as decls
use Rattle.asm_syntax.specs.declared.tree.DefTree.{DefTree}
use Rattle.asm_syntax.specs.declared.tree.DefTree.TheVariants as defs
use Rattle.asm_syntax.specs.Marks.{text_of}
use Rattle.asm_items.specs.Views.{seen_with}
use Rattle.asm_program.specs.Signatures.{Names, Header, header, defined_kind, dynamic_kind, has_definition, is_static, is_empty, is_abstract_domain, with_constant}

-- these are the functions with a definition
abbrev pub AreDefined : List (List ℕ) → List DefTree → Type 0
AreDefined names defs = (q : List ℕ) → list_any (bytes_eq q) names ≡ has_definition defs q

-- the names with that of one more definition, if it is of a function
abbrev pub defined_with : List (List ℕ) → DefTree → List (List ℕ)
defined_with names (defs.Interval name from to span) = names
defined_with names (defs.Integers name first others span) = names
defined_with names (defs.Function name params term span) = seen_with (text_of name) names
defined_with names (defs.Rule name params body span) = names
defined_with names (defs.Invariant name first others term span) = names

-- the header of a constant, where a function has no definition
abbrev pub with_constancy : Bool → Header → Header
with_constancy is_defined h =
    with_constant
    (is_static h.kind && is_empty h.args && is_abstract_domain h.result && not is_defined) h

-- what a declaration says of a function, where these have definitions
unfoldable pub header_among : List (List ℕ) → Names → DeclTree → Option Header
header_among defined names (decls.Defined kind name first next span) =
    Some (with_constancy (list_any (bytes_eq (text_of name)) defined)
    (header names (defined_kind kind) first next))
header_among defined names (decls.Dynamic kind name first next span) =
    Some (header names (dynamic_kind kind) first next)
header_among defined names (decls.Enum name first others span) = None
header_among defined names (decls.Abstract name span) = None
header_among defined names (decls.Subset name base span) = None
