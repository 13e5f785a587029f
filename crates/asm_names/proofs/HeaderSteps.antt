-- What declarations say of functions, where the functions that have definitions are known.
use Rattle.std.proofs.Common.{◌≡◌, ℕ, ◌+◌, ◌==◌, Bool, true, false, not, ◌&&◌, List, [], ◌∷◌, ◌++◌, map, Option, Some, None, refl, sym, ap, ◌∙◌, if◌then◌else◌, bytes_eq}
use Rattle.std.specs.List.{filter_map, cons_option}
use Rattle.std.specs.Option.{option_map_or, option_map}
use Rattle.std.proofs.lemmas.List.{append-nil}
use Rattle.asm_value.specs.declared.domain.DomainKind.TheVariants as kind
use Rattle.asm_syntax.specs.declared.tree.DeclTree.{DeclTree}
use Rattle.asm_syntax.specs.declared.tree.DeclTree.TheVariants as decls
use Rattle.asm_syntax.specs.declared.tree.DefTree.{DefTree}
use Rattle.asm_syntax.specs.Marks.{text_of}
use Rattle.asm_program.specs.declared.type_refusal.TypeRefusal.TheVariants.{Missing}
use Rattle.asm_program.specs.Signatures.{Names, Header, header, defined_kind, declared_header}
use Rattle.asm_program.specs.FunctionsPass.{is_defined, missing_of, missing_among}
use Rattle.asm_program.specs.TypedTerms.{is_constant_of, is_constant_kind, abstract_number}
use Rattle.asm_program.specs.TypedModels.{constant_names, declared_name, infos_from, headers, ints_of}
use Rattle.asm_names.specs.Definitions.{AreDefined, header_among, with_constancy}
use Rattle.asm_names.specs.Passes.{missing_in, missing_from, headers_among, constant_among, constants_among, constant_domain, constants_in, kind_among, infos_among}

module _ (defined : List (List ℕ)) (defs : List DefTree) (names : Names) (are : AreDefined defined defs) where
  pub header-is : (d : DeclTree) → header_among defined names d ≡ declared_header defs names d
  unfolding header_among
  header-is (decls.Enum name first others span) = refl
  header-is (decls.Abstract name span) = refl
  header-is (decls.Subset name base span) = refl
  header-is (decls.Defined word name first next span) =
      ap (λ b. Some (with_constancy b (header names (defined_kind word) first next))) (are (text_of name))
  header-is (decls.Dynamic word name first next span) = refl

  pub headers-are : (ds : List DeclTree) → headers_among defined names ds ≡ headers defs names ds
  headers-are ds = λ i. filter_map (λ d. header-is d i) ds

  missing-is : (functions : List Header) (d : DeclTree) → missing_in defined names d ≡ missing_of defs names functions d
  unfolding header_among
  missing-is functions (decls.Enum name first others span) = refl
  missing-is functions (decls.Abstract name span) = refl
  missing-is functions (decls.Subset name base span) = refl
  missing-is functions (decls.Defined word name first next span) =
      ap (λ b. if is_defined (with_constancy b (header names (defined_kind word) first next)).kind && not b then Missing (text_of name) span ∷ [] else []) (are (text_of name))
  missing-is functions (decls.Dynamic word name first next span) = refl

  pub missing-are : (functions : List Header) (ds : List DeclTree) → missing_from defined names ds ≡ missing_among defs names functions ds
  missing-are functions [] = refl
  missing-are functions (d ∷ ds) = λ i. missing-is functions d i ++ missing-are functions ds i

-- ---- constants and declared domains

one_constant : (name : List ℕ) (b : Bool) (n : Option ℕ) (d : ℕ) (rest : List (List ℕ × ℕ))
    → constants_in (cons_option (option_map (λ e. (name, e)) (if b then n else None)) rest) d
    ≡ cons_option (if b && option_map_or (λ e. e == d) n false then Some name else None) (constants_in rest d)
one_constant name false n d rest = refl
one_constant name true None d rest = refl
one_constant name true (Some e) d rest = by (e == d)
  where
    by : (b : Bool) → (if b then name ∷ [] else []) ++ constants_in rest d ≡ cons_option (if b then Some name else None) (constants_in rest d)
    by true = refl
    by false = refl

maybe_constant : (name : List ℕ) (h : Option Header) (d : ℕ) (rest : List (List ℕ × ℕ))
    → constants_in (cons_option (option_map_or (λ h. option_map (λ e. (name, e)) (constant_domain h)) h None) rest) d
    ≡ cons_option (option_map_or (λ h. if is_constant_of d h then Some name else None) h None) (constants_in rest d)
maybe_constant name None d rest = refl
maybe_constant name (Some h) d rest = one_constant name (is_constant_kind h.kind) (abstract_number h.result) d rest

module _ (defined : List (List ℕ)) (defs : List DefTree) (names : Names) (are : AreDefined defined defs) where
  constants-are : (d : ℕ) (ds : List DeclTree) → constants_in (constants_among defined names ds) d ≡ constant_names defs names ds d
  unfolding constant_among
  constants-are d [] = refl
  constants-are d (x ∷ xs) =
      maybe_constant (declared_name x) (header_among defined names x) d (constants_among defined names xs)
      ∙ (λ i. cons_option (option_map_or (λ h. if is_constant_of d h then Some (declared_name x) else None) (header-is defined defs names are x i) None) (constants-are d xs i))

  pub infos-are : (all : List DeclTree) (d : ℕ) (ds : List DeclTree) → infos_among (constants_among defined names all) defs d ds ≡ infos_from defs names all d ds
  unfolding infos_among kind_among
  infos-are all d [] = refl
  infos-are all d (decls.Enum name first others span ∷ rest) =
      ap (λ is. record { name = text_of name; kind = kind.Enum (map text_of (first ∷ others)) } ∷ is) (infos-are all (d + 1) rest)
  infos-are all d (decls.Abstract name span ∷ rest) =
      λ i. record { name = text_of name; kind = kind.Abstract (constants-are d all i) } ∷ infos-are all (d + 1) rest i
  infos-are all d (decls.Subset name base span ∷ rest) =
      ap (λ is. record { name = text_of name; kind = kind.Subset (ints_of (text_of name) defs) } ∷ is) (infos-are all (d + 1) rest)
  infos-are all d (decls.Defined word name first next span ∷ rest) = infos-are all d rest
  infos-are all d (decls.Dynamic word name first next span ∷ rest) = infos-are all d rest

pub ruleset declared_steps = (append-nil)
