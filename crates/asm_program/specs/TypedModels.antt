-- Typing of models: what a text declares, and what is refused of its definitions, its main rule and
-- its initial state.
use Rattle.std.specs.Prelude.{ℕ, ◌+◌, ◌==◌, Bool, true, false, not, ◌&&◌, if◌then◌else◌, ℤ, pos, ◌+ℤ◌, int_lt, Option, Some, None, List, [], ◌∷◌, ◌++◌, map, slice_get}
use Rattle.std.specs.Option.{option_map_or}
use Rattle.std.specs.List.{list_any, filter_map, range_with_len}
use Rattle.std.specs.Str.{bytes_eq}
use Rattle.asm_value.specs.declared.domain.Domain.{Domain}
use Rattle.asm_value.specs.declared.domain.DomainInfo.{DomainInfo}
use Rattle.asm_value.specs.declared.domain.DomainKind.TheVariants as kind
use Rattle.asm_syntax.specs.declared.token.Span.{Span}
use Rattle.asm_syntax.specs.declared.token.Token.{Token}
use Rattle.asm_syntax.specs.declared.tree.IntTree.{IntTree}
use Rattle.asm_syntax.specs.declared.tree.ParamsTree.{ParamsTree}
use Rattle.asm_syntax.specs.declared.tree.TermTree.{TermTree}
use Rattle.asm_syntax.specs.declared.tree.RuleTree.{RuleTree}
use Rattle.asm_syntax.specs.declared.tree.DeclTree.{DeclTree}
use Rattle.asm_syntax.specs.declared.tree.DeclTree.TheVariants as decls
use Rattle.asm_syntax.specs.declared.tree.DefTree.{DefTree}
use Rattle.asm_syntax.specs.declared.tree.DefTree.TheVariants as def
use Rattle.asm_syntax.specs.declared.tree.StartTree.{StartTree}
use Rattle.asm_syntax.specs.declared.tree.ModelTree.{ModelTree}
use Rattle.asm_syntax.specs.Marks.{text_of}
use Rattle.asm_typing.specs.declared.types.Type.{«Type» as TermType}
use Rattle.asm_typing.specs.Domains.{type_of}
use Rattle.asm_typing.specs.Fits.{fits}
use Rattle.asm_program.specs.declared.named.Named.{Named}
use Rattle.asm_program.specs.declared.named.Named.TheVariants as named
use Rattle.asm_program.specs.declared.type_refusal.TypeRefusal.{TypeRefusal}
use Rattle.asm_program.specs.declared.type_refusal.TypeRefusal.TheVariants.{Mismatch}
use Rattle.asm_program.specs.Items.{list_of_params, starts_of}
use Rattle.asm_program.specs.Signatures.{Names, Header, names_of, find, param_domains, declared_header, defines}
use Rattle.asm_program.specs.DomainsPass.{int_of, interval_size}
use Rattle.asm_program.specs.FunctionsPass.{function_at, same_domains}
use Rattle.asm_program.specs.TypedTerms.{Scope, Variables, Checked, or_else, unless, unknown, with_ranges, ranges_refused, is_truth, is_constant_of, checked}
use Rattle.asm_program.specs.TypedRules.{CheckedRule, checked_rule}

-- ---- declared domains

-- integers ascending, each once
abbrev pub insert_int : ℤ → List ℤ → List ℤ
insert_int n [] = n ∷ []
insert_int n (m ∷ ms) =
    if int_lt n m then n ∷ m ∷ ms else (if int_lt m n then m ∷ insert_int n ms else m ∷ ms)

abbrev pub sorted_ints : List ℤ → List ℤ
sorted_ints [] = []
sorted_ints (n ∷ ns) = insert_int n (sorted_ints ns)

abbrev pub interval_ints : ℤ → ℤ → List ℤ
interval_ints from to = map (λ i. from +ℤ pos i) (range_with_len 0 (interval_size from to))

-- the integers of the first definition of a subset
abbrev pub ints_of : List ℕ → List DefTree → List ℤ
ints_of name [] = []
ints_of name (def.Interval t from to span ∷ rest) =
    if bytes_eq (text_of t) name then interval_ints (int_of from) (int_of to)
    else ints_of name rest
ints_of name (def.Integers t first others span ∷ rest) =
    if bytes_eq (text_of t) name then sorted_ints (map int_of (first ∷ others))
    else ints_of name rest
ints_of name (_ ∷ rest) = ints_of name rest

abbrev pub declared_name : DeclTree → List ℕ
declared_name (decls.Enum name first others span) = text_of name
declared_name (decls.Abstract name span) = text_of name
declared_name (decls.Subset name base span) = text_of name
declared_name (decls.Defined kind name first next span) = text_of name
declared_name (decls.Dynamic kind name first next span) = text_of name

module _ (defs : List DefTree) (names : Names) where
  abbrev pub headers : List DeclTree → List Header
  headers = filter_map (declared_header defs names)

  abbrev pub constant_name : ℕ → DeclTree → Option (List ℕ)
  constant_name d decl =
      option_map_or
      (λ h. if is_constant_of d h then Some (declared_name decl) else None)
      (declared_header defs names decl) None

  abbrev pub constant_names : List DeclTree → ℕ → List (List ℕ)
  constant_names all d = filter_map (constant_name d) all

  -- the declared domains from number d on
  abbrev pub infos_from : List DeclTree → ℕ → List DeclTree → List DomainInfo
  infos_from all d [] = []
  infos_from all d (decls.Enum name first others span ∷ rest) =
      record { name = text_of name; kind = kind.Enum (map text_of (first ∷ others)) }
      ∷ infos_from all (d + 1) rest
  infos_from all d (decls.Abstract name span ∷ rest) =
      record { name = text_of name; kind = kind.Abstract (constant_names all d) }
      ∷ infos_from all (d + 1) rest
  infos_from all d (decls.Subset name base span ∷ rest) =
      record { name = text_of name; kind = kind.Subset (ints_of (text_of name) defs) }
      ∷ infos_from all (d + 1) rest
  infos_from all d (_ ∷ rest) = infos_from all d rest

  abbrev pub macro_params : DefTree → Option (List Domain)
  macro_params (def.Rule name params body span) = Some (param_domains names params)
  macro_params _ = None

abbrev pub scope_of : ModelTree → Scope
scope_of tree =
    let names = names_of tree in
    record {
      names = names;
      domains = infos_from tree.defs names tree.decls 0 tree.decls;
      functions = headers tree.defs names tree.decls;
      macros = filter_map (macro_params tree.defs names) tree.defs;
    }

-- ---- definitions

module _ (scope : Scope) where
  abbrev pub with_params : Option ParamsTree → Variables
  with_params params = with_ranges scope [] (list_of_params params)

  abbrev pub body_checked : Option ParamsTree → TermTree → Checked
  body_checked params t = checked scope t (with_params params)

  abbrev pub macro_checked : Option ParamsTree → RuleTree → CheckedRule
  macro_checked params rule = checked_rule scope rule (with_params params)

  -- the term fits the function's codomain
  abbrev pub fits_codomain : Token → Checked → Bool
  fits_codomain name c =
      option_map_or (λ h. fits c.type (type_of h.result))
      (function_at scope.functions (find scope.names (text_of name))) true

  abbrev pub function_refused : Token → Checked → List TypeRefusal
  function_refused name c = or_else c.refused (unless (fits_codomain name c) (Mismatch c.span))

  -- what an invariant is about is a declared domain, function or macro rule
  abbrev pub subject_refused : Token → Option Named → List TypeRefusal
  subject_refused t None = unknown t ∷ []
  subject_refused t (Some (named.Literal d i)) = Mismatch t.span ∷ []
  subject_refused t (Some _) = []

  abbrev pub subjects_refused : List Token → List TypeRefusal
  subjects_refused [] = []
  subjects_refused (t ∷ ts) =
      subject_refused t (find scope.names (text_of t)) ++ subjects_refused ts

  abbrev pub invariant_refused : Checked → List TypeRefusal
  invariant_refused c = or_else c.refused (unless (is_truth c.type) (Mismatch c.span))

  abbrev pub def_refused : DefTree → List TypeRefusal
  def_refused (def.Interval name from to span) = []
  def_refused (def.Integers name first others span) = []
  def_refused (def.Function name params term span) =
      function_refused name (body_checked params term)
  def_refused (def.Rule name params body span) = (macro_checked params body).refused
  def_refused (def.Invariant name first others term span) =
      subjects_refused (first ∷ others) ++ invariant_refused (checked scope term [])

  abbrev pub defs_refused : List DefTree → List TypeRefusal
  defs_refused [] = []
  defs_refused (d ∷ ds) = def_refused d ++ defs_refused ds

  -- the parameters of an initial term are in the argument domains, which are enumerable
  abbrev pub has_args : Token → Option ParamsTree → Bool
  has_args name params =
      option_map_or (λ h. same_domains (param_domains scope.names params) h.args)
      (function_at scope.functions (find scope.names (text_of name))) true

  abbrev pub start_refused : StartTree → List TypeRefusal
  start_refused s =
      let c = body_checked s.params s.term in
      ranges_refused scope (list_of_params s.params)
      ++ or_else c.refused
      (unless (has_args s.function s.params && fits_codomain s.function c) (Mismatch c.span))

  abbrev pub starts_refused : List StartTree → List TypeRefusal
  starts_refused [] = []
  starts_refused (s ∷ ss) = start_refused s ++ starts_refused ss

-- all that this pass refuses, in text order
abbrev pub types_refused : ModelTree → List TypeRefusal
types_refused tree =
    let scope = scope_of tree in
    defs_refused scope tree.defs ++ (macro_checked scope None tree.rule).refused
    ++ starts_refused scope (starts_of tree.init)
