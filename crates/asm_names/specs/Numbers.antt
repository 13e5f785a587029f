-- How many domains, functions and macro rules a text declares.
use Rattle.std.specs.Prelude.{ℕ, ◌+◌, ◌≤◌, Bool, true, false, if◌then◌else◌, List, [], ◌∷◌, ◌++◌, length}
use Rattle.asm_syntax.specs.declared.tree.DeclTree.{DeclTree}
use Rattle.asm_syntax.specs.declared.tree.DeclTree.TheVariants as decls
use Rattle.asm_syntax.specs.declared.tree.DefTree.{DefTree}
use Rattle.asm_syntax.specs.declared.tree.DefTree.TheVariants as defs
use Rattle.asm_syntax.specs.declared.token.Token.{Token}
use Rattle.asm_program.specs.declared.named.Named.TheVariants as named
use Rattle.asm_program.specs.Signatures.{Names, named_as, literals_from, decl_names, macro_names}

abbrev pub is_domain : DeclTree → Bool
is_domain (decls.Enum name first others span) = true
is_domain (decls.Abstract name span) = true
is_domain (decls.Subset name base span) = true
is_domain (decls.Defined kind name first next span) = false
is_domain (decls.Dynamic kind name first next span) = false

abbrev pub domain_after : ℕ → DeclTree → ℕ
domain_after d decl = if is_domain decl then d + 1 else d

abbrev pub function_after : ℕ → DeclTree → ℕ
function_after f decl = if is_domain decl then f else f + 1

abbrev pub domains_after : ℕ → List DeclTree → ℕ
domains_after d [] = d
domains_after d (decl ∷ rest) = domains_after (domain_after d decl) rest

abbrev pub functions_after : ℕ → List DeclTree → ℕ
functions_after f [] = f
functions_after f (decl ∷ rest) = functions_after (function_after f decl) rest

-- an enumeration has at most 256 literals
abbrev pub IsSmall : DeclTree → Type 0
IsSmall (decls.Enum name first others span) = length others ≤ 255
IsSmall (decls.Abstract name span) = Unit {0}
IsSmall (decls.Subset name base span) = Unit {0}
IsSmall (decls.Defined kind name first next span) = Unit {0}
IsSmall (decls.Dynamic kind name first next span) = Unit {0}

abbrev pub AreSmall : List DeclTree → Type 0
AreSmall [] = Unit {0}
AreSmall (decl ∷ rest) = IsSmall decl × AreSmall rest

-- declarations that are within their limits, after so many domains and functions
pub record AreFew (d f : ℕ) (ds : List DeclTree) : Type 0 where
  pub domains : domains_after d ds ≤ 256
  pub functions : functions_after f ds ≤ 256
  pub small : AreSmall ds

abbrev pub is_macro : DefTree → Bool
is_macro (defs.Interval name from to span) = false
is_macro (defs.Integers name first others span) = false
is_macro (defs.Function name params term span) = false
is_macro (defs.Rule name params body span) = true
is_macro (defs.Invariant name first others term span) = false

abbrev pub macro_after : ℕ → DefTree → ℕ
macro_after m def = if is_macro def then m + 1 else m

abbrev pub macros_after : ℕ → List DefTree → ℕ
macros_after m [] = m
macros_after m (def ∷ rest) = macros_after (macro_after m def) rest

-- the names of one declaration
unfoldable pub names_in : ℕ → ℕ → DeclTree → Names
names_in d f (decls.Enum name first others span) =
    named_as name (named.Enum d) ∷ literals_from d 0 (first ∷ others)
names_in d f (decls.Abstract name span) = named_as name (named.Abstract d) ∷ []
names_in d f (decls.Subset name base span) = named_as name (named.Subset d) ∷ []
names_in d f (decls.Defined kind name first next span) = named_as name (named.Function f) ∷ []
names_in d f (decls.Dynamic kind name first next span) = named_as name (named.Function f) ∷ []

-- lists of names, one after the other
unfoldable pub with_names : Names → Names → Names
with_names old new = old ++ new

unfoldable pub decls_named : ℕ → ℕ → List DeclTree → Names
decls_named d f ds = decl_names d f ds

unfoldable pub macros_named : ℕ → List DefTree → Names
macros_named m ds = macro_names m ds

-- the name of one macro rule
unfoldable pub macro_in : ℕ → DefTree → Names
macro_in m (defs.Interval name from to span) = []
macro_in m (defs.Integers name first others span) = []
macro_in m (defs.Function name params term span) = []
macro_in m (defs.Rule name params body span) = named_as name (named.Macro m) ∷ []
macro_in m (defs.Invariant name first others term span) = []

unfoldable pub literals_named : ℕ → ℕ → List Token → Names
literals_named d i ts = literals_from d i ts
