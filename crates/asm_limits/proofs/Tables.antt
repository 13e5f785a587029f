-- Depth and work are the same once they are stored: functions are counted by their terms alone.
use Rattle.std.proofs.Common.{◌≡◌, ℕ, zero, suc, ◌+◌, Option, Some, None, List, [], ◌∷◌, slice_get, refl, subst, ◌∙◌}
use Rattle.std.specs.Option.{option_map_or}
use Rattle.std.specs.List.{filter_map, cons_option}
use Rattle.asm_value.specs.declared.domain.Domain.{Domain}
use Rattle.asm_value.specs.declared.domain.DomainInfo.{DomainInfo}
use Rattle.asm_syntax.specs.declared.tree.DeclTree.{DeclTree}
use Rattle.asm_syntax.specs.declared.tree.DefTree.{DefTree}
use Rattle.asm_syntax.specs.declared.tree.ModelTree.{ModelTree}
use Rattle.asm_program.specs.declared.trees.Term.TheOpen.{Term-F}
use Rattle.asm_program.specs.declared.program.FunctionInfo.{FunctionInfo}
use Rattle.asm_program.specs.declared.program.MacroInfo.{MacroInfo}
use Rattle.asm_program.specs.Forms.{of_term, body_of, of_function}
use Rattle.asm_program.specs.Counts.{function_depth, function_work, depth_level, work_level, args_of, macro_depth, macro_work, rule_depth_level, rule_work_level}
use Rattle.asm_program.specs.Forms.{of_macro}
use Rattle.asm_program.specs.Signatures.{Header, Names, declared_header}
use Rattle.asm_program.specs.TypedTerms.{Scope}
use Rattle.asm_program.specs.TypedModels.{scope_of}
use Rattle.asm_program.specs.Typed.{function_info, counted_from, functions_of}
use Rattle.asm_counts.specs.declared.counts.Counts.{Counts}
use Rattle.asm_counts.specs.CountLaws.{AllTell}
use Rattle.asm_typed_calls.specs.CalledNames.{functions_in}

-- ---- stored counts

module _ (domains : List DomainInfo) (all : List FunctionInfo) where
  bodies-kept : (k : ℕ) (infos : List FunctionInfo) (f : ℕ)
      → body_of infos f ≡ body_of (counted_from domains all k infos) f
  bodies-kept k [] f = refl
  bodies-kept k (x ∷ xs) zero = refl
  bodies-kept k (x ∷ xs) (suc f) = bodies-kept (k + 1) xs f

  args-kept : (k : ℕ) (infos : List FunctionInfo) (f : ℕ)
      → args_of domains (slice_get (counted_from domains all k infos) f)
      ≡ args_of domains (slice_get infos f)
  args-kept k [] f = refl
  args-kept k (x ∷ xs) zero = refl
  args-kept k (x ∷ xs) (suc f) = args-kept (k + 1) xs f

module _ {X : Type 0} (level : (ℕ → X) → Term-F X (X × X) → X) (none : X)
    (these those : List FunctionInfo) (same : (f : ℕ) → body_of these f ≡ body_of those f) where
  pub functions-same : (n : ℕ) → of_function level none these n ≡ of_function level none those n
  unfolding of_function
  functions-same zero = λ i f. none
  functions-same (suc n) =
      λ i f. option_map_or (of_term level (functions-same n i)) (same f i) none

module _ (tree : ModelTree) where
  abbrev domains_of : List DomainInfo
  domains_of = (scope_of tree).domains

  abbrev stored : List FunctionInfo
  stored = functions_of (scope_of tree) tree

  same-bodies : (f : ℕ) → body_of (functions_in tree) f ≡ body_of stored f
  same-bodies f = bodies-kept domains_of (functions_in tree) 0 (functions_in tree) f

  pub depth-stored : function_depth (functions_in tree) ≡ function_depth stored
  depth-stored = functions-same depth_level 0 (functions_in tree) stored same-bodies 512

  pub work-stored : function_work domains_of (functions_in tree) ≡ function_work domains_of stored
  work-stored =
      functions-same (work_level domains_of) 0 (functions_in tree) stored same-bodies 512

  pub functions-tell : (calls : ℕ → Counts)
      → AllTell calls (function_depth (functions_in tree))
      (function_work domains_of (functions_in tree))
      → AllTell calls (function_depth stored) (function_work domains_of stored)
  functions-tell calls h =
      subst (λ works. AllTell calls (function_depth stored) works) work-stored
      (subst (λ depths. AllTell calls depths (function_work domains_of (functions_in tree)))
      depth-stored h)

  pub macros-tell : (calls : ℕ → Counts) (macros : List MacroInfo)
      → AllTell calls (macro_depth (functions_in tree) macros)
      (macro_work domains_of (functions_in tree) macros)
      → AllTell calls (macro_depth stored macros) (macro_work domains_of stored macros)
  macros-tell calls macros h =
      subst (λ works. AllTell calls (macro_depth stored macros)
      (of_macro (rule_work_level domains_of (of_term (work_level domains_of) works)) 0 macros 512))
      work-stored
      (subst (λ depths. AllTell calls
      (of_macro (rule_depth_level (of_term depth_level depths)) 0 macros 512)
      (macro_work domains_of (functions_in tree) macros)) depth-stored h)

-- ---- the domains of arguments

abbrev pub header_args : Option Header → List Domain
header_args None = []
header_args (Some h) = h.args

module _ (domains : List DomainInfo) (scope : Scope) (defs : List DefTree) (names : Names) where
  args-listed : (ds : List DeclTree) (f : ℕ)
      → args_of domains (slice_get (filter_map (λ decl. option_map_or
      (λ h. Some (function_info scope defs decl h)) (declared_header defs names decl) None) ds) f)
      ≡ header_args (slice_get (filter_map (declared_header defs names) ds) f)
  args-listed [] f = refl
  args-listed (decl ∷ ds) f = by (declared_header defs names decl) f (λ k. args-listed ds k)
    where
      rest : List FunctionInfo
      rest =
          filter_map (λ decl. option_map_or (λ h. Some (function_info scope defs decl h))
          (declared_header defs names decl) None) ds

      by : (o : Option Header) (f : ℕ)
          → ((k : ℕ) → args_of domains (slice_get rest k)
          ≡ header_args (slice_get (filter_map (declared_header defs names) ds) k))
          → args_of domains (slice_get (cons_option
          (option_map_or (λ h. Some (function_info scope defs decl h)) o None) rest) f)
          ≡ header_args (slice_get (cons_option o (filter_map (declared_header defs names) ds)) f)
      by None f later = later f
      by (Some h) zero later = refl
      by (Some h) (suc f) later = later f

pub args-stored : (tree : ModelTree) (f : ℕ)
    → args_of (scope_of tree).domains (slice_get (functions_of (scope_of tree) tree) f)
    ≡ header_args (slice_get (scope_of tree).functions f)
args-stored tree f =
    args-kept (scope_of tree).domains (functions_in tree) 0 (functions_in tree) f
    ∙ args-listed (scope_of tree).domains (scope_of tree) tree.defs (scope_of tree).names
    tree.decls f
