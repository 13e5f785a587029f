-- The passes over a text, by sets of names.
use Rattle.std.specs.Prelude.{ℕ, ◌==◌, true, not, ◌&&◌, if◌then◌else◌, Option, Some, None, List, [], ◌∷◌, ◌++◌, map}
use Rattle.std.specs.Option.{option_map, option_map_or}
use Rattle.std.specs.List.{list_any, filter_map}
use Rattle.std.specs.Str.{bytes_eq}
use Rattle.asm_value.specs.declared.domain.DomainInfo.{DomainInfo}
use Rattle.asm_value.specs.declared.domain.DomainKind.{DomainKind}
use Rattle.asm_value.specs.declared.domain.DomainKind.TheVariants as kind
use Rattle.asm_syntax.specs.declared.token.Token.{Token}
use Rattle.asm_syntax.specs.declared.tree.DeclTree.{DeclTree}
use Rattle.asm_syntax.specs.declared.tree.DeclTree.TheVariants as decls
use Rattle.asm_syntax.specs.declared.tree.DefTree.{DefTree}
use Rattle.asm_syntax.specs.declared.tree.DefTree.TheVariants as def
use Rattle.asm_syntax.specs.Marks.{text_of}
use Rattle.asm_program.specs.declared.type_refusal.TypeRefusal.{TypeRefusal}
use Rattle.asm_program.specs.declared.type_refusal.TypeRefusal.TheVariants.{Missing}
use Rattle.asm_program.specs.Items.{Item, Counts, Declares, DeclaresInvariant, Exceeds, Repeats, NamesDomain, NeedsIntegers, GivesInterval, GivesIntegers, NamesFunction, NamesMacro}
use Rattle.asm_items.specs.Views.{seen_with}
use Rattle.asm_program.specs.Signatures.{Names, Header, param_domains}
use Rattle.asm_program.specs.DomainsPass.{unknown_domain, missing, given_refused, interval_refused, integers_refused}
use Rattle.asm_program.specs.FunctionsPass.{is_defined, definition_refused, takes_params}
use Rattle.asm_program.specs.TypedTerms.{abstract_number, is_constant_kind}
use Rattle.asm_program.specs.TypedModels.{declared_name, ints_of}
use Rattle.asm_names.specs.Definitions.{header_among}
use Rattle.asm_names.specs.Numbers.{domain_after}

module _ (defined : List (List ℕ)) (names : Names) where
  abbrev pub missing_with : Option Header → DeclTree → List TypeRefusal
  missing_with (Some h) (decls.Defined kind name first next span) =
      if is_defined h.kind && not (list_any (bytes_eq (text_of name)) defined)
      then Missing (text_of name) span ∷ [] else []
  missing_with _ _ = []

  -- a static or derived function without a definition
  abbrev pub missing_in : DeclTree → List TypeRefusal
  missing_in d = missing_with (header_among defined names d) d

  abbrev pub missing_from : List DeclTree → List TypeRefusal
  missing_from [] = []
  missing_from (d ∷ ds) = missing_in d ++ missing_from ds

  abbrev pub headers_among : List DeclTree → List Header
  headers_among ds = filter_map (header_among defined names) ds

-- ---- constants

-- the abstract domain of which a function is a constant
abbrev pub constant_domain : Header → Option ℕ
constant_domain h = if is_constant_kind h.kind then abstract_number h.result else None

-- each constant and its domain
unfoldable pub constant_among : List (List ℕ) → Names → DeclTree → Option (List ℕ × ℕ)
constant_among defined names d =
    option_map_or
    (λ h. option_map (λ e. (declared_name d, e)) (constant_domain h))
    (header_among defined names d) None

abbrev pub constants_among : List (List ℕ) → Names → List DeclTree → List (List ℕ × ℕ)
constants_among defined names ds = filter_map (constant_among defined names) ds

abbrev pub constant_if : List ℕ × ℕ → ℕ → List (List ℕ)
constant_if c d = if c.1 == d then c.0 ∷ [] else []

abbrev pub constants_in : List (List ℕ × ℕ) → ℕ → List (List ℕ)
constants_in [] d = []
constants_in (c ∷ cs) d = constant_if c d ++ constants_in cs d

-- ---- the declared domains

unfoldable pub kind_among : List (List ℕ × ℕ) → List DefTree → ℕ → DeclTree → Option DomainKind
kind_among constants defs d (decls.Enum name first others span) =
    Some (kind.Enum (map text_of (first ∷ others)))
kind_among constants defs d (decls.Abstract name span) =
    Some (kind.Abstract (constants_in constants d))
kind_among constants defs d (decls.Subset name base span) =
    Some (kind.Subset (ints_of (text_of name) defs))
kind_among constants defs d (decls.Defined word name first next span) = None
kind_among constants defs d (decls.Dynamic word name first next span) = None

abbrev pub info_with : DeclTree → Option DomainKind → List DomainInfo → List DomainInfo
info_with decl None infos = infos
info_with decl (Some k) infos = record { name = declared_name decl; kind = k } ∷ infos

-- the declared domains from number d on
unfoldable pub infos_among : List (List ℕ × ℕ) → List DefTree → ℕ → List DeclTree → List DomainInfo
infos_among constants defs d [] = []
infos_among constants defs d (decl ∷ rest) =
    info_with decl (kind_among constants defs d decl)
    (infos_among constants defs (domain_after d decl) rest)

-- ---- the pass over domains, item by item

-- what is refused of one item, and the subsets that have their integers after it
abbrev pub domain_refused_at : List DeclTree → Names → List (List ℕ) → List (List ℕ) → Item
    → List TypeRefusal
domain_refused_at ds names all done (Counts kind span) = []
domain_refused_at ds names all done (Declares name span) = []
domain_refused_at ds names all done (DeclaresInvariant name span) = []
domain_refused_at ds names all done (Exceeds kind n span) = []
domain_refused_at ds names all done (Repeats t) = []
domain_refused_at ds names all done (NamesDomain t) = unknown_domain ds names all t
domain_refused_at ds names all done (NeedsIntegers t span) = missing ds names all t span
domain_refused_at ds names all done (GivesInterval t from to) =
    given_refused ds names all done t (λ natural. interval_refused natural from to)
domain_refused_at ds names all done (GivesIntegers t is) =
    given_refused ds names all done t (λ natural. integers_refused natural [] is)
domain_refused_at ds names all done (NamesFunction t) = []
domain_refused_at ds names all done (NamesMacro t) = []

abbrev pub done_after : List (List ℕ) → Item → List (List ℕ)
done_after done (Counts kind span) = done
done_after done (Declares name span) = done
done_after done (DeclaresInvariant name span) = done
done_after done (Exceeds kind n span) = done
done_after done (Repeats t) = done
done_after done (NamesDomain t) = done
done_after done (NeedsIntegers t span) = done
done_after done (GivesInterval t from to) = text_of t ∷ done
done_after done (GivesIntegers t is) = text_of t ∷ done
done_after done (NamesFunction t) = done
done_after done (NamesMacro t) = done

-- the subsets with that of one more item, if it gives integers
abbrev pub given_with : List (List ℕ) → Item → List (List ℕ)
given_with names (Counts kind span) = names
given_with names (Declares name span) = names
given_with names (DeclaresInvariant name span) = names
given_with names (Exceeds kind n span) = names
given_with names (Repeats t) = names
given_with names (NamesDomain t) = names
given_with names (NeedsIntegers t span) = names
given_with names (GivesInterval t from to) = seen_with (text_of t) names
given_with names (GivesIntegers t is) = seen_with (text_of t) names
given_with names (NamesFunction t) = names
given_with names (NamesMacro t) = names

-- integers of a subset are given once, and of a declared one
abbrev pub subset_refused : List DeclTree → Names → List (List ℕ) → Token → List TypeRefusal
subset_refused ds names done t = given_refused ds names [] done t (λ natural. [])

-- ---- the pass over functions

-- a function is defined once
abbrev pub once_refused : List DefTree → Names → List Header → List (List ℕ) → Token
    → List TypeRefusal
once_refused defs names functions done t =
    definition_refused defs names functions done (λ h. true) t

-- what is refused of one definition, and those that are defined after it
abbrev pub definition_refused_at : List DefTree → Names → List Header → List (List ℕ) → DefTree
    → List TypeRefusal
definition_refused_at defs names functions done (def.Interval name from to span) = []
definition_refused_at defs names functions done (def.Integers name first others span) = []
definition_refused_at defs names functions done (def.Function name params term span) =
    definition_refused defs names functions done
    (takes_params defs names functions (param_domains names params)) name
definition_refused_at defs names functions done (def.Rule name params body span) = []
definition_refused_at defs names functions done (def.Invariant name first others term span) = []

abbrev pub defined_after : List (List ℕ) → DefTree → List (List ℕ)
defined_after done (def.Interval name from to span) = done
defined_after done (def.Integers name first others span) = done
defined_after done (def.Function name params term span) = text_of name ∷ done
defined_after done (def.Rule name params body span) = done
defined_after done (def.Invariant name first others term span) = done
