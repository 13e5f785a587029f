-- What the names of a text stand for.
use Rattle.std.specs.Prelude.{ℕ, ◌+◌, Bool, true, false, not, ◌&&◌, if◌then◌else◌, Option, Some, None, List, [], ◌∷◌, ◌++◌, map, codes}
use Rattle.std.specs.Option.{option_map_or}
use Rattle.std.specs.Str.{bytes_eq}
use Rattle.asm_value.specs.declared.domain.Domain.{Domain}
use Rattle.asm_value.specs.declared.domain.Domain.TheOpen.{Domain-F}
use Rattle.asm_value.specs.declared.domain.Domain.TheVariants as domains
use Rattle.asm_value.specs.declared.domain.Domain.TheViews.{out-Domain}
use Rattle.asm_syntax.specs.declared.token.Token.{Token}
use Rattle.asm_syntax.specs.declared.tree.DomainTree.{DomainTree}
use Rattle.asm_syntax.specs.declared.tree.DomainTree.TheOpen.{DomainTree-F}
use Rattle.asm_syntax.specs.declared.tree.DomainTree.TheFolds.{fold-DomainTree}
use Rattle.asm_syntax.specs.declared.tree.DomainTree.TheViews.{out-DomainTree}
use Rattle.asm_syntax.specs.declared.tree.RangeTree.{RangeTree}
use Rattle.asm_syntax.specs.declared.tree.ParamsTree.{ParamsTree}
use Rattle.asm_syntax.specs.declared.tree.DeclTree.{DeclTree}
use Rattle.asm_syntax.specs.declared.tree.DeclTree.TheVariants as decls
use Rattle.asm_syntax.specs.declared.tree.DefTree.{DefTree}
use Rattle.asm_syntax.specs.declared.tree.DefTree.TheVariants as defs
use Rattle.asm_syntax.specs.declared.tree.ModelTree.{ModelTree}
use Rattle.asm_syntax.specs.Marks.{text_of}
use Rattle.asm_program.specs.declared.named.Named.{Named}
use Rattle.asm_program.specs.declared.named.Named.TheVariants as named
use Rattle.asm_program.specs.declared.program.FunctionKind.{FunctionKind}
use Rattle.asm_program.specs.declared.program.FunctionKind.TheVariants as kinds
use Rattle.asm_program.specs.Items.{list_of_params}

-- names with what they stand for, in text order
abbrev pub Names : Type 0
Names = List (List ℕ × Named)

abbrev pub named_as : Token → Named → List ℕ × Named
named_as t n = (text_of t, n)

abbrev pub literals_from : ℕ → ℕ → List Token → Names
literals_from d i [] = []
literals_from d i (t ∷ ts) = named_as t (named.Literal d i) ∷ literals_from d (i + 1) ts

-- the declarations, of which domain d and function f come next
abbrev pub decl_names : ℕ → ℕ → List DeclTree → Names
decl_names d f [] = []
decl_names d f (decls.Enum name first others span ∷ rest) =
    named_as name (named.Enum d) ∷ literals_from d 0 (first ∷ others) ++ decl_names (d + 1) f rest
decl_names d f (decls.Abstract name span ∷ rest) =
    named_as name (named.Abstract d) ∷ decl_names (d + 1) f rest
decl_names d f (decls.Subset name base span ∷ rest) =
    named_as name (named.Subset d) ∷ decl_names (d + 1) f rest
decl_names d f (decls.Defined kind name first next span ∷ rest) =
    named_as name (named.Function f) ∷ decl_names d (f + 1) rest
decl_names d f (decls.Dynamic kind name first next span ∷ rest) =
    named_as name (named.Function f) ∷ decl_names d (f + 1) rest

-- the definitions, of which macro rule m comes next
abbrev pub macro_names : ℕ → List DefTree → Names
macro_names m [] = []
macro_names m (defs.Rule name params body span ∷ rest) =
    named_as name (named.Macro m) ∷ macro_names (m + 1) rest
macro_names m (_ ∷ rest) = macro_names m rest

abbrev pub names_of : ModelTree → Names
names_of tree =
    decl_names 0 0 tree.decls ++ macro_names 0 tree.defs
    ++ named_as tree.rule_name named.Main ∷ []

-- what a name stands for; none where it isn't declared
abbrev pub find : Names → List ℕ → Option Named
find [] name = None
find (n ∷ ns) name = if bytes_eq n.0 name then Some n.1 else find ns name

-- ---- domains

abbrev pub domain_named : Option Named → Option Domain
domain_named None = None
domain_named (Some (named.Enum d)) = Some (domains.Enum d)
domain_named (Some (named.Abstract d)) = Some (domains.Abstract d)
domain_named (Some (named.Subset d)) = Some (domains.Subset d)
domain_named (Some _) = None

-- where a name is no domain's, one that is refused, any domain will do
abbrev pub or_truth : Option Domain → Domain
or_truth None = domains.Truth
or_truth (Some d) = d

module _ (names : Names) where
  abbrev pub domain_level : DomainTree-F Domain → Domain
  domain_level (DomainTree-F.Truth span) = domains.Truth
  domain_level (DomainTree-F.Int span) = domains.Int
  domain_level (DomainTree-F.Nat span) = domains.Nat
  domain_level (DomainTree-F.Chars span) = domains.Chars
  domain_level (DomainTree-F.Named name span) = or_truth (domain_named (find names (text_of name)))
  domain_level (DomainTree-F.Prod first second others span) =
      domains.Prod (first ∷ second ∷ others)
  domain_level (DomainTree-F.Seq item span) = domains.Seq item
  domain_level (DomainTree-F.Powerset item span) = domains.Power item

  -- the domain that a tree spells
  unfoldable pub domain_of : DomainTree → Domain
  domain_of = fold-DomainTree Domain domain_level

  abbrev pub range_domain : RangeTree → Domain
  range_domain r = domain_of r.domain

  abbrev pub param_domains : Option ParamsTree → List Domain
  param_domains params = map range_domain (list_of_params params)

-- ---- functions

-- what a declaration says of a function
pub record Header : Type 0 where
  pub kind : FunctionKind
  pub args : List Domain
  pub result : Domain

-- a product before `->` gives several arguments
abbrev pub factors_in : DomainTree → DomainTree-F DomainTree → List DomainTree
factors_in d (DomainTree-F.Prod first second others span) = first ∷ second ∷ others
factors_in d _ = d ∷ []

abbrev pub factors : DomainTree → List DomainTree
factors d = factors_in d (out-DomainTree d)

abbrev pub header : Names → FunctionKind → DomainTree → Option DomainTree → Header
header names kind first None = record { kind = kind; args = []; result = domain_of names first }
header names kind first (Some next) =
    record {
      kind =
          kind;
      args = map (domain_of names) (factors first);
      result = domain_of names next;
    }

abbrev pub defined_kind : List ℕ → FunctionKind
defined_kind word = if bytes_eq word (codes "static") then kinds.Static else kinds.Derived

abbrev pub dynamic_kind : List ℕ → FunctionKind
dynamic_kind word =
    if bytes_eq word (codes "controlled") then kinds.Controlled
    else (if bytes_eq word (codes "monitored") then kinds.Monitored
    else (if bytes_eq word (codes "shared") then kinds.Shared else kinds.Out))

-- the definitions of a function in the definitions of a text
abbrev pub function_defined : DefTree → Option (List ℕ)
function_defined (defs.Function name params term span) = Some (text_of name)
function_defined _ = None

abbrev pub defines : List ℕ → DefTree → Bool
defines name def = option_map_or (bytes_eq name) (function_defined def) false

abbrev pub has_definition : List DefTree → List ℕ → Bool
has_definition [] name = false
has_definition (def ∷ defs) name = if defines name def then true else has_definition defs name

abbrev pub is_abstract_level : {A : Type 0} → Domain-F A → Bool
is_abstract_level (Domain-F.Abstract d) = true
is_abstract_level _ = false

abbrev pub is_abstract_domain : Domain → Bool
is_abstract_domain d = is_abstract_level (out-Domain d)

abbrev pub is_static : FunctionKind → Bool
is_static kinds.Static = true
is_static _ = false

abbrev pub is_empty : List Domain → Bool
is_empty [] = true
is_empty (d ∷ ds) = false

-- a static function without arguments and without a definition whose codomain is abstract
abbrev pub is_constant : List DefTree → Token → Header → Bool
is_constant defs name h =
    is_static h.kind && is_empty h.args && is_abstract_domain h.result
    && not (has_definition defs (text_of name))

abbrev pub with_constant : Bool → Header → Header
with_constant true h = record h { kind = kinds.Constant }
with_constant false h = h

abbrev pub declared_header : List DefTree → Names → DeclTree → Option Header
declared_header defs names (decls.Defined kind name first next span) =
    let h = header names (defined_kind kind) first next in
    Some (with_constant (is_constant defs name h) h)
declared_header defs names (decls.Dynamic kind name first next span) =
    Some (header names (dynamic_kind kind) first next)
declared_header defs names _ = None
