-- A text that the first pass takes has few domains, functions and macro rules.
use Rattle.std.proofs.Common.{◌≡◌, ℕ, suc, ◌+◌, ◌≤◌, nat_le, Bool, true, false, ◌&&◌, Option, Some, None, List, [], ◌∷◌, length, refl, sym, ap, ◌∙◌, subst, arith}
use Rattle.std.specs.Prelude.{IsTrue}
use Rattle.std.specs.List.{filter_map, list_all, cons_option}
use Rattle.std.proofs.lemmas.Bool.{and_from, le-leb}
use Rattle.asm_value.specs.declared.domain.DomainInfo.{DomainInfo}
use Rattle.asm_syntax.specs.declared.tree.DeclTree.{DeclTree}
use Rattle.asm_syntax.specs.declared.tree.DeclTree.TheVariants as decls
use Rattle.asm_syntax.specs.declared.tree.DefTree.{DefTree}
use Rattle.asm_syntax.specs.declared.tree.DefTree.TheVariants as defs
use Rattle.asm_syntax.specs.declared.tree.ModelTree.{ModelTree}
use Rattle.asm_program.specs.declared.program.FunctionInfo.{FunctionInfo}
use Rattle.asm_program.specs.Items.{model_items}
use Rattle.asm_program.specs.NamesPass.{names_refused}
use Rattle.asm_program.specs.Members.{constants_of, domains_are_few}
use Rattle.asm_program.specs.Signatures.{Names, names_of}
use Rattle.asm_program.specs.TypedTerms.{Scope}
use Rattle.asm_program.specs.TypedModels.{constant_name, constant_names, infos_from, macro_checked, scope_of}
use Rattle.asm_program.specs.Typed.{function_in, uncounted, counted_from, functions_of, macros_from, macros_of}
use Rattle.asm_names.specs.Numbers.{AreFew, domains_after, functions_after, macros_after}
use Rattle.asm_names.proofs.Limits.{few-model, few-model_macros}

one_more : {X : Type 0} (o : Option X) (xs : List X) (f m : ℕ) → length xs + (f + 1) ≤ m → length (cons_option o xs) + f ≤ m
one_more None xs f m h = omega (arith, h)
one_more (Some x) xs f m h = omega (arith, h)

longer : (n f m : ℕ) → n + (f + 1) ≤ m → suc n + f ≤ m
longer n f m h = omega (arith, h)

at_most : (n m : ℕ) → n + 0 ≤ m → m ≤ 256 → n ≤ 256
at_most n m h k = omega (arith, h, k)

-- ---- domains

few_constants : (ds : List DefTree) (names : Names) (d f : ℕ) (xs : List DeclTree) → length (constant_names ds names xs d) + f ≤ functions_after f xs
few_constants ds names d f [] = omega arith
few_constants ds names d f (decls.Enum name first others span ∷ xs) = few_constants ds names d f xs
few_constants ds names d f (decls.Abstract name span ∷ xs) = few_constants ds names d f xs
few_constants ds names d f (decls.Subset name base span ∷ xs) = few_constants ds names d f xs
few_constants ds names d f (decls.Defined word name first next span ∷ xs) =
    one_more (constant_name ds names d (decls.Defined word name first next span)) (constant_names ds names xs d) f (functions_after (f + 1) xs)
    (few_constants ds names d (f + 1) xs)
few_constants ds names d f (decls.Dynamic word name first next span ∷ xs) =
    one_more (constant_name ds names d (decls.Dynamic word name first next span)) (constant_names ds names xs d) f (functions_after (f + 1) xs)
    (few_constants ds names d (f + 1) xs)

few_infos : (ds : List DefTree) (names : Names) (all : List DeclTree) (d : ℕ) (xs : List DeclTree) → length (infos_from ds names all d xs) + d ≤ domains_after d xs
few_infos ds names all d [] = omega arith
few_infos ds names all d (decls.Enum name first others span ∷ xs) = longer (length (infos_from ds names all (d + 1) xs)) d (domains_after (d + 1) xs) (few_infos ds names all (d + 1) xs)
few_infos ds names all d (decls.Abstract name span ∷ xs) = longer (length (infos_from ds names all (d + 1) xs)) d (domains_after (d + 1) xs) (few_infos ds names all (d + 1) xs)
few_infos ds names all d (decls.Subset name base span ∷ xs) = longer (length (infos_from ds names all (d + 1) xs)) d (domains_after (d + 1) xs) (few_infos ds names all (d + 1) xs)
few_infos ds names all d (decls.Defined word name first next span ∷ xs) = few_infos ds names all d xs
few_infos ds names all d (decls.Dynamic word name first next span ∷ xs) = few_infos ds names all d xs

abbrev has_few : DomainInfo → Bool
has_few info = nat_le (constants_of info.kind) 256

each_few : (ds : List DefTree) (names : Names) (all : List DeclTree) (low : (d : ℕ) → length (constant_names ds names all d) ≤ 256) (d : ℕ) (xs : List DeclTree)
    → list_all has_few (infos_from ds names all d xs) ≡ true
each_few ds names all low d [] = refl
each_few ds names all low d (decls.Enum name first others span ∷ xs) = each_few ds names all low (d + 1) xs
each_few ds names all low d (decls.Abstract name span ∷ xs) =
    and_from (nat_le (length (constant_names ds names all d)) 256) (list_all has_few (infos_from ds names all (d + 1) xs)) (le-leb (length (constant_names ds names all d)) 256 (low d))
    (each_few ds names all low (d + 1) xs)
each_few ds names all low d (decls.Subset name base span ∷ xs) = each_few ds names all low (d + 1) xs
each_few ds names all low d (decls.Defined word name first next span ∷ xs) = each_few ds names all low d xs
each_few ds names all low d (decls.Dynamic word name first next span ∷ xs) = each_few ds names all low d xs

-- ---- functions

few_functions : (scope : Scope) (ds : List DefTree) (f : ℕ) (xs : List DeclTree) → length (filter_map (function_in scope ds) xs) + f ≤ functions_after f xs
few_functions scope ds f [] = omega arith
few_functions scope ds f (decls.Enum name first others span ∷ xs) = few_functions scope ds f xs
few_functions scope ds f (decls.Abstract name span ∷ xs) = few_functions scope ds f xs
few_functions scope ds f (decls.Subset name base span ∷ xs) = few_functions scope ds f xs
few_functions scope ds f (decls.Defined word name first next span ∷ xs) =
    longer (length (filter_map (function_in scope ds) xs)) f (functions_after (f + 1) xs) (few_functions scope ds (f + 1) xs)
few_functions scope ds f (decls.Dynamic word name first next span ∷ xs) =
    longer (length (filter_map (function_in scope ds) xs)) f (functions_after (f + 1) xs) (few_functions scope ds (f + 1) xs)

pub length-counted : (domains : List DomainInfo) (all : List FunctionInfo) (f : ℕ) (infos : List FunctionInfo) → length (counted_from domains all f infos) ≡ length infos
length-counted domains all f [] = refl
length-counted domains all f (info ∷ infos) = ap (λ n. suc n) (length-counted domains all (f + 1) infos)

-- ---- macro rules

few_macros : (scope : Scope) (n m : ℕ) (ds : List DefTree) → length (macros_from scope n ds) + m ≤ macros_after m ds
few_macros scope n m [] = omega arith
few_macros scope n m (defs.Interval name from to span ∷ ds) = few_macros scope n m ds
few_macros scope n m (defs.Integers name first others span ∷ ds) = few_macros scope n m ds
few_macros scope n m (defs.Function name params term span ∷ ds) = few_macros scope n m ds
few_macros scope n m (defs.Rule name params body span ∷ ds) =
    let next = n + (macro_checked scope params body).chooses in
    longer (length (macros_from scope next ds)) m (macros_after (m + 1) ds) (few_macros scope next (m + 1) ds)
few_macros scope n m (defs.Invariant name first others term span ∷ ds) = few_macros scope n m ds

-- ---- texts

module _ (tree : ModelTree) (none : names_refused (model_items tree) ≡ []) where
  pub few-domains : IsTrue (domains_are_few (scope_of tree).domains)
  few-domains =
      let few : AreFew 0 0 tree.decls = few-model tree none in
      let low : length (scope_of tree).domains + 0 ≤ domains_after 0 tree.decls = few_infos tree.defs (names_of tree) tree.decls 0 tree.decls in
      let within : length (scope_of tree).domains ≤ 256 = at_most (length (scope_of tree).domains) (domains_after 0 tree.decls) low few.domains in
      and_from (nat_le (length (scope_of tree).domains) 256) (list_all has_few (scope_of tree).domains) (le-leb (length (scope_of tree).domains) 256 within)
      (each_few tree.defs (names_of tree) tree.decls
      (λ d. at_most (length (constant_names tree.defs (names_of tree) tree.decls d)) (functions_after 0 tree.decls) (few_constants tree.defs (names_of tree) d 0 tree.decls) few.functions)
      0 tree.decls)

  pub few-uncounted : length (uncounted (scope_of tree) tree) ≤ 256
  few-uncounted =
      let few : AreFew 0 0 tree.decls = few-model tree none in
      at_most (length (uncounted (scope_of tree) tree)) (functions_after 0 tree.decls) (few_functions (scope_of tree) tree.defs 0 tree.decls) few.functions

  pub few-functions : length (functions_of (scope_of tree) tree) ≤ 256
  few-functions =
      let all = uncounted (scope_of tree) tree in
      subst (λ n. n ≤ 256) (sym (length-counted (scope_of tree).domains all 0 all)) few-uncounted

  pub few-macros : length (macros_of (scope_of tree) tree) ≤ 256
  few-macros =
      at_most (length (macros_of (scope_of tree) tree)) (macros_after 0 tree.defs) (few_macros (scope_of tree) 0 0 tree.defs) (few-model_macros tree none)
