-- The third pass over a text: each static or derived function has its definition, and no definition
-- is of anything else.
use Rattle.std.specs.Prelude.{ℕ, ◌==◌, Bool, true, false, not, ◌&&◌, if◌then◌else◌, Option, Some, None, List, [], ◌∷◌, ◌++◌, map, slice_get}
use Rattle.std.specs.Option.{option_map_or, option_and_then}
use Rattle.std.specs.List.{list_any, filter_map}
use Rattle.std.specs.Str.{bytes_eq}
use Rattle.asm_value.specs.declared.domain.Domain.{Domain}
use Rattle.asm_value.specs.declared.domain.Domain.TheOpen.{Domain-F}
use Rattle.asm_value.specs.declared.domain.Domain.TheFolds.{fold-Domain}
use Rattle.asm_value.specs.declared.domain.Domain.TheViews.{out-Domain}
use Rattle.asm_value.specs.Domain.{each_passes}
use Rattle.asm_syntax.specs.declared.token.Token.{Token}
use Rattle.asm_syntax.specs.declared.tree.DeclTree.{DeclTree}
use Rattle.asm_syntax.specs.declared.tree.DeclTree.TheVariants as decls
use Rattle.asm_syntax.specs.declared.tree.DefTree.{DefTree}
use Rattle.asm_syntax.specs.declared.tree.DefTree.TheVariants as def
use Rattle.asm_syntax.specs.declared.tree.StartTree.{StartTree}
use Rattle.asm_syntax.specs.Marks.{text_of}
use Rattle.asm_program.specs.declared.named.Named.{Named}
use Rattle.asm_program.specs.declared.named.Named.TheVariants as named
use Rattle.asm_program.specs.declared.program.FunctionKind.{FunctionKind}
use Rattle.asm_program.specs.declared.program.FunctionKind.TheVariants as kinds
use Rattle.asm_program.specs.declared.type_refusal.TypeRefusal.{TypeRefusal}
use Rattle.asm_program.specs.declared.type_refusal.TypeRefusal.TheVariants.{Duplicate, Unknown, Mismatch, Missing}
use Rattle.asm_program.specs.Signatures.{Names, Header, find, param_domains, declared_header, has_definition}

-- ---- equal domains

abbrev pub same_level : Domain-F (Domain → Bool) → Domain-F Domain → Bool
same_level Domain-F.Truth Domain-F.Truth = true
same_level Domain-F.Int Domain-F.Int = true
same_level Domain-F.Nat Domain-F.Nat = true
same_level Domain-F.Chars Domain-F.Chars = true
same_level (Domain-F.Enum d) (Domain-F.Enum e) = d == e
same_level (Domain-F.Abstract d) (Domain-F.Abstract e) = d == e
same_level (Domain-F.Subset d) (Domain-F.Subset e) = d == e
same_level (Domain-F.Prod tests) (Domain-F.Prod ds) = each_passes tests ds
same_level (Domain-F.Seq test) (Domain-F.Seq d) = test d
same_level (Domain-F.Power test) (Domain-F.Power d) = test d
same_level _ _ = false

-- as they are declared: Natural isn't Integer here
unfoldable pub same_domain : Domain → Domain → Bool
same_domain = fold-Domain (Domain → Bool) (λ a d. same_level a (out-Domain d))

abbrev pub same_domains : List Domain → List Domain → Bool
same_domains ds es = each_passes (map same_domain ds) es

-- ---- functions

abbrev pub function_at : List Header → Option Named → Option Header
function_at functions (Some (named.Function f)) = slice_get functions f
function_at functions _ = None

abbrev pub is_defined : FunctionKind → Bool
is_defined kinds.Static = true
is_defined kinds.Derived = true
is_defined _ = false

abbrev pub is_dynamic : FunctionKind → Bool
is_dynamic kinds.Controlled = true
is_dynamic kinds.Monitored = true
is_dynamic kinds.Shared = true
is_dynamic kinds.Out = true
is_dynamic _ = false

module _ (defs : List DefTree) (names : Names) (functions : List Header) where
  abbrev pub header_of : Token → Option Header
  header_of t = function_at functions (find names (text_of t))

  -- a static or derived function that is no constant needs its definition
  abbrev pub is_missing : DeclTree → Bool
  is_missing (decls.Defined kind name first next span) =
      option_map_or (λ h. is_defined h.kind)
      (declared_header defs names (decls.Defined kind name first next span)) false
      && not (has_definition defs (text_of name))
  is_missing _ = false

  abbrev pub missing_of : DeclTree → List TypeRefusal
  missing_of (decls.Defined kind name first next span) =
      if is_missing (decls.Defined kind name first next span)
      then Missing (text_of name) span ∷ [] else []
  missing_of _ = []

  abbrev pub missing_among : List DeclTree → List TypeRefusal
  missing_among [] = []
  missing_among (d ∷ ds) = missing_of d ++ missing_among ds

  -- a definition of a name among which these are defined already
  abbrev pub definition_refused : List (List ℕ) → (Header → Bool) → Token → List TypeRefusal
  definition_refused done fits t =
      if list_any (bytes_eq (text_of t)) done then Duplicate (text_of t) t.span ∷ []
      else option_map_or
      (λ h. if fits h then [] else Mismatch t.span ∷ [])
      (header_of t) (Unknown (text_of t) t.span ∷ [])

  -- static or derived, with parameters in its argument domains
  abbrev pub takes_params : List Domain → Header → Bool
  takes_params params h = is_defined h.kind && same_domains params h.args

  abbrev pub definitions_refused : List (List ℕ) → List DefTree → List TypeRefusal
  definitions_refused done [] = []
  definitions_refused done (def.Function name params term span ∷ rest) =
      definition_refused done (takes_params (param_domains names params)) name
      ++ definitions_refused (text_of name ∷ done) rest
  definitions_refused done (_ ∷ rest) = definitions_refused done rest

  abbrev pub starts_refused : List (List ℕ) → List StartTree → List TypeRefusal
  starts_refused done [] = []
  starts_refused done (s ∷ rest) =
      definition_refused done (λ h. is_dynamic h.kind) s.function
      ++ starts_refused (text_of s.function ∷ done) rest

  -- all that this pass refuses, in text order
  abbrev pub functions_refused : List DeclTree → List StartTree → List TypeRefusal
  functions_refused ds starts =
      missing_among ds ++ definitions_refused [] defs ++ starts_refused [] starts
