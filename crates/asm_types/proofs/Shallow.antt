-- What a function's term is followed by is the same with its counts and without them; and no function
-- is deeper than its definition may be.
use Rattle.std.proofs.Common.{◌≡◌, ℕ, zero, suc, ◌+◌, ◌<◌, ◌≤◌, ◌==◌, max, min, nat_lt, Bool, true, false, ◌&&◌, if◌then◌else◌, Option, Some, None, List, [], ◌∷◌, ◌++◌, length, slice_get, refl, sym, ap, ◌∙◌, subst, arith}
use Rattle.std.specs.Prelude.{IsTrue}
use Rattle.std.specs.List.{filter_map, list_all, range_with_len}
use Rattle.std.specs.Option.{option_map_or}
use Rattle.std.specs.Str.{bytes_eq}
use Rattle.std.proofs.lemmas.Bool.Decides.{nat_tests}
use Rattle.asm_value.specs.declared.domain.DomainInfo.{DomainInfo}
use Rattle.asm_syntax.specs.declared.token.Span.{Span}
use Rattle.asm_syntax.specs.declared.tree.DeclTree.{DeclTree}
use Rattle.asm_syntax.specs.declared.tree.DeclTree.TheVariants as decls
use Rattle.asm_syntax.specs.declared.tree.DefTree.{DefTree}
use Rattle.asm_syntax.specs.declared.tree.DefTree.TheVariants as def
use Rattle.asm_syntax.specs.declared.tree.ModelTree.{ModelTree}
use Rattle.asm_syntax.specs.Marks.{text_of}
use Rattle.asm_program.specs.declared.trees.Term.{Term}
use Rattle.asm_program.specs.declared.trees.Term.TheOpen.{Term-F}
use Rattle.asm_program.specs.declared.type_refusal.TypeRefusal.{TypeRefusal}
use Rattle.asm_program.specs.declared.type_refusal.TypeRefusal.TheVariants.{Limit}
use Rattle.asm_program.specs.declared.type_refusal.Limited.TheVariants.{Depth}
use Rattle.asm_program.specs.declared.program.FunctionInfo.{FunctionInfo}
use Rattle.asm_program.specs.declared.program.MacroInfo.{MacroInfo}
use Rattle.asm_program.specs.Forms.{of_term, body_in, body_of, of_function}
use Rattle.asm_program.specs.Nesting.{greatest, nesting_level, nesting, functions_are_ranked}
use Rattle.asm_program.specs.CallLaws.{LooksAtCalled, of_function-None, of_function-body}
use Rattle.asm_program.specs.Counts.{depth_level, function_depth, term_depth, most_count}
use Rattle.asm_program.specs.Signatures.{Header, declared_header}
use Rattle.asm_program.specs.FunctionsPass.{is_defined}
use Rattle.asm_program.specs.TypedTerms.{Scope}
use Rattle.asm_program.specs.TypedModels.{body_checked, scope_of}
use Rattle.asm_program.specs.Typed.{definition_of, body_if, function_info, function_in, uncounted, counted_from, functions_of, depth_refused, def_depth_refused, depths_refused}
use Rattle.asm_program.proofs.Counted.{of_bodies, counted_bodies}
use Rattle.asm_program.proofs.Refusals.{both_nil}
use Rattle.asm_types.proofs.Few.{length-counted}

-- ---- functions with the same terms

same-ranked : (fs gs : List FunctionInfo) → ((f : ℕ) → body_of fs f ≡ body_of gs f) → length fs ≡ length gs → functions_are_ranked fs ≡ functions_are_ranked gs
same-ranked fs gs same long =
    let is = of_bodies nesting_level 0 fs gs same in
    (λ i. list_all (λ f. is (length fs) f i == is (suc (length fs)) f i) (range_with_len 0 (length fs)))
    ∙ ap (λ n. list_all (λ f. nesting gs n f == nesting gs (suc n) f) (range_with_len 0 n)) long

-- ---- depth

pub depth_looks : LooksAtCalled depth_level
depth_looks c d (Term-F.Call f args) h = ap (λ n. max (1 + greatest args) n) (h f refl)
depth_looks c d a h = refl

not_above : (depth : ℕ) (span : Span) → depth_refused depth span ≡ [] → depth ≤ 512
not_above depth span h = by (nat_lt 512 depth) refl
  where
    by : (b : Bool) → nat_lt 512 depth ≡ b → depth ≤ 512
    by true e =
        let r : Limit Depth (min depth most_count) span ∷ [] ≡ [] = ap (λ b. if b then Limit Depth (min depth most_count) span ∷ [] else []) (sym e) ∙ h in
        absurd (cc r)
    by false e = grind (arith, nat_tests, e)

-- a term that is at most 512 deep, if there is one
abbrev Shallow : List FunctionInfo → Option Term → Type 0
Shallow functions None = Unit {0}
Shallow functions (Some t) = term_depth functions t ≤ 512

shallow-if : (functions : List FunctionInfo) (b : Bool) (body : Option Term) → Shallow functions body → Shallow functions (body_if b body)
shallow-if functions true body h = h
shallow-if functions false body h = tt

shallow-of : (functions : List FunctionInfo) (o : Option Term) → Shallow functions o → (t : Term) → o ≡ Some t → term_depth functions t ≤ 512
shallow-of functions None h t e = absurd (cc e)
shallow-of functions (Some s) h t e = subst (Shallow functions) e h

module _ (scope : Scope) (functions : List FunctionInfo) (macros : List MacroInfo) where
  shallow-definition : (name : List ℕ) (ds : List DefTree) → depths_refused scope functions macros ds ≡ [] → Shallow functions (definition_of scope name ds)
  shallow-definition name [] h = tt
  shallow-definition name (def.Interval t from to span ∷ ds) h = shallow-definition name ds h
  shallow-definition name (def.Integers t first others span ∷ ds) h = shallow-definition name ds h
  shallow-definition name (def.Function t params term span ∷ ds) h =
      let both = both_nil (def_depth_refused scope functions macros (def.Function t params term span)) (depths_refused scope functions macros ds) h in
      by (bytes_eq (text_of t) name) (not_above (term_depth functions (body_checked scope params term).term) t.span both.0) (shallow-definition name ds both.1)
    where
      by : (b : Bool) → term_depth functions (body_checked scope params term).term ≤ 512 → Shallow functions (definition_of scope name ds)
          → Shallow functions (if b then Some (body_checked scope params term).term else definition_of scope name ds)
      by true here later = here
      by false here later = later
  shallow-definition name (def.Rule t params body span ∷ ds) h =
      shallow-definition name ds (both_nil (def_depth_refused scope functions macros (def.Rule t params body span)) (depths_refused scope functions macros ds) h).1
  shallow-definition name (def.Invariant t first others term span ∷ ds) h =
      shallow-definition name ds (both_nil (def_depth_refused scope functions macros (def.Invariant t first others term span)) (depths_refused scope functions macros ds) h).1

  shallow-bodies : (ds : List DefTree) → depths_refused scope functions macros ds ≡ [] → (xs : List DeclTree) (f : ℕ) → Shallow functions (body_of (filter_map (function_in scope ds) xs) f)
  shallow-bodies ds h [] f = tt
  shallow-bodies ds h (decls.Enum name first others span ∷ xs) f = shallow-bodies ds h xs f
  shallow-bodies ds h (decls.Abstract name span ∷ xs) f = shallow-bodies ds h xs f
  shallow-bodies ds h (decls.Subset name base span ∷ xs) f = shallow-bodies ds h xs f
  shallow-bodies ds h (decls.Defined word name first next span ∷ xs) zero =
      shallow-if functions _ (definition_of scope (text_of name) ds) (shallow-definition (text_of name) ds h)
  shallow-bodies ds h (decls.Defined word name first next span ∷ xs) (suc f) = shallow-bodies ds h xs f
  shallow-bodies ds h (decls.Dynamic word name first next span ∷ xs) zero =
      shallow-if functions _ (definition_of scope (text_of name) ds) (shallow-definition (text_of name) ds h)
  shallow-bodies ds h (decls.Dynamic word name first next span ∷ xs) (suc f) = shallow-bodies ds h xs f

-- a function is as deep as its term
as_deep : (functions : List FunctionInfo) → IsTrue (functions_are_ranked functions) → length functions ≤ 256 → (f : ℕ) (o : Option Term) → body_of functions f ≡ o
    → ((t : Term) → o ≡ Some t → term_depth functions t ≤ 512) → function_depth functions f ≤ 512
as_deep functions ranked few f None e h = subst (λ n. n ≤ 512) (sym (of_function-None depth_level 0 functions 512 f e)) (omega arith)
as_deep functions ranked few f (Some t) e h =
    subst (λ n. n ≤ 512) (sym (of_function-body functions ranked depth_level depth_looks 0 few f t e)) (h t refl)

module _ (tree : ModelTree) where
  abbrev all : List FunctionInfo
  all = uncounted (scope_of tree) tree

  abbrev functions : List FunctionInfo
  functions = functions_of (scope_of tree) tree

  pub same-bodies : (f : ℕ) → body_of (functions_of (scope_of tree) tree) f ≡ body_of (uncounted (scope_of tree) tree) f
  same-bodies f = counted_bodies (scope_of tree).domains all 0 all f

  pub counted-ranked : functions_are_ranked (functions_of (scope_of tree) tree) ≡ functions_are_ranked (uncounted (scope_of tree) tree)
  counted-ranked = same-ranked functions all same-bodies (length-counted (scope_of tree).domains all 0 all)

  pub are-shallow : (macros : List MacroInfo) → IsTrue (functions_are_ranked (functions_of (scope_of tree) tree)) → length (functions_of (scope_of tree) tree) ≤ 256
      → depths_refused (scope_of tree) (functions_of (scope_of tree) tree) macros tree.defs ≡ []
      → (f : ℕ) → function_depth (uncounted (scope_of tree) tree) f ≤ 512
  are-shallow macros ranked few h f =
      subst (λ n. n ≤ 512) (of_bodies depth_level 0 functions all same-bodies 512 f)
      (as_deep functions ranked few f (body_of functions f) refl
      (shallow-of functions (body_of functions f)
      (subst (Shallow functions) (sym (same-bodies f)) (shallow-bodies (scope_of tree) functions macros tree.defs h tree.decls f))))
