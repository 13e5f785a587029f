-- Each checked program is sorted.
use Rattle.std.proofs.Common.{◌≡◌, ℕ, zero, suc, ◌+◌, Bool, true, false, ◌&&◌, if◌then◌else◌}
use Rattle.std.proofs.Common.{Option, Some, None, List, [], ◌∷◌, ◌++◌, map, slice_get, refl}
use Rattle.std.proofs.Common.{ap, ◌∙◌}
use Rattle.std.specs.Option.{option_map_or}
use Rattle.std.specs.List.{list_all, list_any, filter_map, cons_option}
use Rattle.std.specs.Str.{bytes_eq}
use Rattle.asm_value.specs.declared.domain.DomainInfo.{DomainInfo}
use Rattle.asm_syntax.specs.declared.token.Token.{Token}
use Rattle.asm_syntax.specs.declared.tree.ParamsTree.{ParamsTree}
use Rattle.asm_syntax.specs.declared.tree.TermTree.{TermTree}
use Rattle.asm_syntax.specs.declared.tree.DeclTree.{DeclTree}
use Rattle.asm_syntax.specs.declared.tree.DefTree.{DefTree}
use Rattle.asm_syntax.specs.declared.tree.DefTree.TheVariants as def
use Rattle.asm_syntax.specs.declared.tree.StartTree.{StartTree}
use Rattle.asm_syntax.specs.declared.tree.ModelTree.{ModelTree}
use Rattle.asm_syntax.specs.Marks.{text_of}
use Rattle.asm_program.specs.declared.named.Named.{Named}
use Rattle.asm_program.specs.declared.named.Named.TheVariants as named
use Rattle.asm_program.specs.declared.type_refusal.TypeRefusal.{TypeRefusal}
use Rattle.asm_program.specs.declared.type_refusal.TypeRefusal.TheVariants.{Duplicate, Unknown}
use Rattle.asm_program.specs.declared.type_refusal.TypeRefusal.TheVariants.{Mismatch}
use Rattle.asm_program.specs.declared.trees.Term.{Term}
use Rattle.asm_program.specs.declared.program.FunctionInfo.{FunctionInfo}
use Rattle.asm_program.specs.declared.program.FunctionKind.{FunctionKind}
use Rattle.asm_program.specs.declared.program.FunctionKind.TheVariants as kinds
use Rattle.asm_program.specs.declared.program.InitInfo.{InitInfo}
use Rattle.asm_program.specs.declared.program.MacroInfo.{MacroInfo}
use Rattle.asm_program.specs.declared.program.Program.{Program}
use Rattle.asm_program.specs.Forms.{optional}
use Rattle.asm_program.specs.Items.{model_items, starts_of}
use Rattle.asm_program.specs.Signatures.{Header, names_of, find, declared_header}
use Rattle.asm_program.specs.NamesPass.{names_refused}
use Rattle.asm_program.specs.DomainsPass.{domains_refused}
use Rattle.asm_program.specs.FunctionsPass as pass
use Rattle.asm_program.specs.FunctionsPass.{function_at, is_defined, header_of, definition_refused}
use Rattle.asm_program.specs.FunctionsPass.{missing_among, definitions_refused, functions_refused}
use Rattle.asm_program.specs.Calls.{calls_refused}
use Rattle.asm_program.specs.TypedTerms.{Scope}
use Rattle.asm_program.specs.TypedRules.{is_updated}
use Rattle.asm_program.specs.TypedModels as model
use Rattle.asm_program.specs.TypedModels.{declared_name, headers, scope_of, with_params}
use Rattle.asm_program.specs.TypedModels.{body_checked, macro_checked, def_refused, defs_refused}
use Rattle.asm_program.specs.TypedModels.{types_refused}
use Rattle.asm_program.specs.Typed.{definition_of, body_if, function_info, function_in, uncounted}
use Rattle.asm_program.specs.Typed.{counted_from, functions_of, macros_from, macros_of, chooses_in}
use Rattle.asm_program.specs.Typed.{main_of, number_in, init_of, inits_of, numbered}
use Rattle.asm_program.specs.Typed.{counts_refused, refused, IsTyped}
use Rattle.asm_program.specs.TypingLaws.{IsWhole}
use Rattle.asm_program.proofs.Refusals.{not_nil, both_nil, true_both}
use Rattle.asm_program.proofs.WholeScopes.{scopes_of_texts_whole}
use Rattle.asm_soundness.specs.WellFormed.{is_dynamic}
use Rattle.asm_soundness.specs.Sorted.{is_sorted_term, is_sorted_rule, is_sorted_body}
use Rattle.asm_soundness.specs.Sorted.{is_set_at_start, IsSorted}
use Rattle.asm_soundness.proofs.CheckedNames.{NamesMembers, names_members, some_is, same_head}
use Rattle.asm_soundness.proofs.CheckedNames.{same_tail}
use Rattle.asm_soundness.proofs.CheckedTerms.{IsSortedTerm, AreSortedTerms, one_sorted, term_sorted}
use Rattle.asm_soundness.proofs.CheckedRules.{SetsAgree, rule_sorted}

-- ---- kinds of functions

abbrev info_kinds : List FunctionInfo → List FunctionKind
info_kinds infos = map (λ (info : FunctionInfo). info.kind) infos

abbrev header_kinds : List Header → List FunctionKind
header_kinds hs = map (λ (h : Header). h.kind) hs

-- where functions are of the kinds of these headers, each passes the tests of its header's kind
kind_at : (test : FunctionKind → Bool) (infos : List FunctionInfo) (hs : List Header) (f : ℕ)
    (h : Header) → info_kinds infos ≡ header_kinds hs → slice_get hs f ≡ Some h
    → test h.kind ≡ true
    → option_map_or (λ (info : FunctionInfo). test info.kind) (slice_get infos f) false ≡ true
kind_at test [] [] f h e g t = absurd (cc)
kind_at test [] (x ∷ hs) f h e g t = absurd (cc)
kind_at test (info ∷ infos) [] f h e g t = absurd (cc)
kind_at test (info ∷ infos) (x ∷ hs) zero h e g t =
    ap test (same_head info.kind x.kind (info_kinds infos) (header_kinds hs) e
    ∙ ap (λ (z : Header). z.kind) (some_is x h g)) ∙ t
kind_at test (info ∷ infos) (x ∷ hs) (suc f) h e g t =
    kind_at test infos hs f h
    (same_tail info.kind x.kind (info_kinds infos) (header_kinds hs) e) g t

counted_kinds : (domains : List DomainInfo) (all : List FunctionInfo) (f : ℕ)
    (infos : List FunctionInfo) → info_kinds (counted_from domains all f infos) ≡ info_kinds infos
counted_kinds domains all f [] = refl
counted_kinds domains all f (info ∷ infos) =
    ap (λ ks. info.kind ∷ ks) (counted_kinds domains all (f + 1) infos)

module _ (scope : Scope) (defs : List DefTree) where
  declared_kinds : (ds : List DeclTree)
      → info_kinds (filter_map (function_in scope defs) ds)
      ≡ header_kinds (headers defs scope.names ds)
  declared_kinds [] = refl
  declared_kinds (d ∷ ds) =
      by_header (declared_header defs scope.names d) (declared_kinds ds)
    where
      by_header : (o : Option Header)
          → info_kinds (filter_map (function_in scope defs) ds)
          ≡ header_kinds (headers defs scope.names ds)
          → info_kinds (cons_option
          (option_map_or (λ h. Some (function_info scope defs d h)) o None)
          (filter_map (function_in scope defs) ds))
          ≡ header_kinds (cons_option o (headers defs scope.names ds))
      by_header None e = e
      by_header (Some h) e = ap (λ ks. h.kind ∷ ks) e

module _ (tree : ModelTree) where
  text_kinds : info_kinds (functions_of (scope_of tree) tree)
      ≡ header_kinds (scope_of tree).functions
  text_kinds =
      let scope = scope_of tree in
      let all = uncounted scope tree in
      counted_kinds scope.domains all 0 all ∙ declared_kinds scope tree.defs tree.decls

  text_kind_at : (test : FunctionKind → Bool) (f : ℕ) (h : Header)
      → slice_get (scope_of tree).functions f ≡ Some h → test h.kind ≡ true
      → option_map_or (λ (info : FunctionInfo). test info.kind)
      (slice_get (functions_of (scope_of tree) tree) f) false ≡ true
  text_kind_at test f h g t =
      kind_at test (functions_of (scope_of tree) tree) (scope_of tree).functions f h text_kinds g t

  sets_agree : SetsAgree (scope_of tree) (functions_of (scope_of tree) tree)
  sets_agree f h g t = text_kind_at is_updated f h g t

-- ---- terms of functions

module _ (scope : Scope) (right : NamesMembers scope) where
  body_checked_sorted : (params : Option ParamsTree) (t : TermTree)
      → IsSortedTerm scope.domains (body_checked scope params t).term
  body_checked_sorted params t = term_sorted scope right t (with_params scope params)

  definition_sorted : (name : List ℕ) (ds : List DefTree)
      → AreSortedTerms scope.domains (optional (definition_of scope name ds))
  definition_sorted name [] = refl
  definition_sorted name (def.Function t params term span ∷ rest) =
      by_test (bytes_eq (text_of t) name) (definition_sorted name rest)
    where
      by_test : (b : Bool)
          → AreSortedTerms scope.domains (optional (definition_of scope name rest))
          → AreSortedTerms scope.domains (optional
          (if b then Some (body_checked scope params term).term
          else definition_of scope name rest))
      by_test true later =
          one_sorted scope.domains (body_checked scope params term).term
          (body_checked_sorted params term)
      by_test false later = later
  definition_sorted name (def.Interval t low high span ∷ rest) = definition_sorted name rest
  definition_sorted name (def.Integers t first others span ∷ rest) = definition_sorted name rest
  definition_sorted name (def.Rule t params body span ∷ rest) = definition_sorted name rest
  definition_sorted name (def.Invariant t first others term span ∷ rest) =
      definition_sorted name rest

  if_sorted : (b : Bool) (o : Option Term) → AreSortedTerms scope.domains (optional o)
      → AreSortedTerms scope.domains (optional (body_if b o))
  if_sorted true o h = h
  if_sorted false o h = refl

  module _ (defs : List DefTree) where
    declared_bodies : (ds : List DeclTree)
        → list_all (is_sorted_body scope.domains) (filter_map (function_in scope defs) ds) ≡ true
    declared_bodies [] = refl
    declared_bodies (d ∷ ds) =
        by_header (declared_header defs scope.names d) (declared_bodies ds)
      where
        by_header : (o : Option Header)
            → list_all (is_sorted_body scope.domains) (filter_map (function_in scope defs) ds)
            ≡ true
            → list_all (is_sorted_body scope.domains) (cons_option
            (option_map_or (λ h. Some (function_info scope defs d h)) o None)
            (filter_map (function_in scope defs) ds)) ≡ true
        by_header None e = e
        by_header (Some h) e =
            true_both (is_sorted_body scope.domains (function_info scope defs d h))
            (list_all (is_sorted_body scope.domains) (filter_map (function_in scope defs) ds))
            (if_sorted (is_defined h.kind) (definition_of scope (declared_name d) defs)
            (definition_sorted (declared_name d) defs)) e

counted_bodies : (domains : List DomainInfo) (all : List FunctionInfo) (f : ℕ)
    (infos : List FunctionInfo)
    → list_all (is_sorted_body domains) (counted_from domains all f infos)
    ≡ list_all (is_sorted_body domains) infos
counted_bodies domains all f [] = refl
counted_bodies domains all f (info ∷ infos) =
    ap (λ b. is_sorted_body domains info && b) (counted_bodies domains all (f + 1) infos)

text_bodies : (tree : ModelTree)
    → list_all (is_sorted_body (scope_of tree).domains) (functions_of (scope_of tree) tree) ≡ true
text_bodies tree =
    let scope = scope_of tree in
    let all = uncounted scope tree in
    counted_bodies scope.domains all 0 all
    ∙ declared_bodies scope (names_members tree) tree.defs tree.decls

-- ---- rules

module _ (scope : Scope) (right : NamesMembers scope) (whole : IsWhole scope)
    (functions : List FunctionInfo) (agree : SetsAgree scope functions) where
  abbrev is_sorted_macro : MacroInfo → Bool
  is_sorted_macro info = is_sorted_rule scope.domains functions info.body

  macros_sorted : (n : ℕ) (ds : List DefTree) → defs_refused scope ds ≡ []
      → list_all is_sorted_macro (macros_from scope n ds) ≡ true
  macros_sorted n [] h = refl
  macros_sorted n (def.Rule name params body span ∷ rest) h =
      let c = macro_checked scope params body in
      let both = both_nil c.refused (defs_refused scope rest) h in
      true_both (is_sorted_rule scope.domains functions (c.rule n))
      (list_all is_sorted_macro (macros_from scope (n + c.chooses) rest))
      (rule_sorted scope right whole functions agree body (with_params scope params) both.0 n)
      (macros_sorted (n + c.chooses) rest both.1)
  macros_sorted n (def.Interval name low high span ∷ rest) h = macros_sorted n rest h
  macros_sorted n (def.Integers name first others span ∷ rest) h = macros_sorted n rest h
  macros_sorted n (def.Function name params term span ∷ rest) h =
      macros_sorted n rest (both_nil (def_refused scope (def.Function name params term span))
      (defs_refused scope rest) h).1
  macros_sorted n (def.Invariant name first others term span ∷ rest) h =
      macros_sorted n rest
      (both_nil (def_refused scope (def.Invariant name first others term span))
      (defs_refused scope rest) h).1

-- ---- initial terms

dynamic_is : (k : FunctionKind) → pass.is_dynamic k ≡ true → is_dynamic k ≡ true
dynamic_is kinds.Controlled h = refl
dynamic_is kinds.Monitored h = refl
dynamic_is kinds.Shared h = refl
dynamic_is kinds.Out h = refl
dynamic_is kinds.Static h = h
dynamic_is kinds.Derived h = h
dynamic_is kinds.Constant h = h

module _ (tree : ModelTree) where
  abbrev sets : InitInfo → Bool
  sets init =
      is_set_at_start (functions_of (scope_of tree) tree) init.function
      && is_sorted_term (scope_of tree).domains init.body

  -- what a name of a dynamic function stands for
  named_set : (o : Option Named) (h : Header) → function_at (scope_of tree).functions o ≡ Some h
      → pass.is_dynamic h.kind ≡ true
      → is_set_at_start (functions_of (scope_of tree) tree) (number_in o) ≡ true
  named_set (Some (named.Function f)) h g t =
      text_kind_at tree is_dynamic f h g (dynamic_is h.kind t)
  named_set None h g t = absurd (cc)
  named_set (Some (named.Enum d)) h g t = absurd (cc)
  named_set (Some (named.Abstract d)) h g t = absurd (cc)
  named_set (Some (named.Subset d)) h g t = absurd (cc)
  named_set (Some (named.Literal d i)) h g t = absurd (cc)
  named_set (Some (named.Macro m)) h g t = absurd (cc)
  named_set (Some named.Main) h g t = absurd (cc)

  abbrev test_refused : Token → Option Header → List TypeRefusal
  test_refused t o =
      option_map_or
      (λ (h : Header). if pass.is_dynamic h.kind then [] else Mismatch t.span ∷ []) o
      (Unknown (text_of t) t.span ∷ [])

  start_set : (s : StartTree) (done : List (List ℕ))
      → definition_refused tree.defs (names_of tree) (scope_of tree).functions done
      (λ h. pass.is_dynamic h.kind) s.function ≡ []
      → is_set_at_start (functions_of (scope_of tree) tree)
      (number_in (find (names_of tree) (text_of s.function))) ≡ true
  start_set s done h =
      by_test (list_any (bytes_eq (text_of s.function)) done) h
    where
      by_kind : (head : Header) (b : Bool)
          → function_at (scope_of tree).functions (find (names_of tree) (text_of s.function))
          ≡ Some head
          → pass.is_dynamic head.kind ≡ b
          → (if b then [] else Mismatch s.function.span ∷ []) ≡ []
          → is_set_at_start (functions_of (scope_of tree) tree)
          (number_in (find (names_of tree) (text_of s.function))) ≡ true
      by_kind head true g e k =
          named_set (find (names_of tree) (text_of s.function)) head g e
      by_kind head false g e k = not_nil (Mismatch s.function.span) [] k

      by_header : (q : Option Header)
          → function_at (scope_of tree).functions (find (names_of tree) (text_of s.function)) ≡ q
          → test_refused s.function q ≡ []
          → is_set_at_start (functions_of (scope_of tree) tree)
          (number_in (find (names_of tree) (text_of s.function))) ≡ true
      by_header None g k = not_nil (Unknown (text_of s.function) s.function.span) [] k
      by_header (Some head) g k = by_kind head (pass.is_dynamic head.kind) g refl k

      by_test : (b : Bool)
          → (if b then Duplicate (text_of s.function) s.function.span ∷ []
          else test_refused s.function (function_at (scope_of tree).functions
          (find (names_of tree) (text_of s.function)))) ≡ []
          → is_set_at_start (functions_of (scope_of tree) tree)
          (number_in (find (names_of tree) (text_of s.function))) ≡ true
      by_test true k = not_nil (Duplicate (text_of s.function) s.function.span) [] k
      by_test false k =
          by_header (function_at (scope_of tree).functions
          (find (names_of tree) (text_of s.function))) refl k

  starts_set : (done : List (List ℕ)) (ss : List StartTree)
      → pass.starts_refused tree.defs (names_of tree) (scope_of tree).functions done ss ≡ []
      → list_all sets (map (init_of (scope_of tree)) ss) ≡ true
  starts_set done [] h = refl
  starts_set done (s ∷ ss) h =
      let scope = scope_of tree in
      let first = definition_refused tree.defs (names_of tree) scope.functions done
      (λ h. pass.is_dynamic h.kind) s.function in
      let later = pass.starts_refused tree.defs (names_of tree) scope.functions
      (text_of s.function ∷ done) ss in
      let both = both_nil first later h in
      let init = init_of scope s in
      true_both (sets init) (list_all sets (map (init_of scope) ss))
      (true_both (is_set_at_start (functions_of scope tree) init.function)
      (is_sorted_term scope.domains init.body) (start_set s done both.0)
      (body_checked_sorted scope (names_members tree) s.params s.term))
      (starts_set (text_of s.function ∷ done) ss both.1)

-- ---- texts

-- what the passes on functions and on types refuse
record AreUnrefused (tree : ModelTree) : Type 0 where
  pub starts : pass.starts_refused tree.defs (names_of tree) (scope_of tree).functions []
      (starts_of tree.init) ≡ []
  pub defs : defs_refused (scope_of tree) tree.defs ≡ []
  pub main : (macro_checked (scope_of tree) None tree.rule).refused ≡ []

unrefused : (text : List ℕ) (tree : ModelTree) → refused text tree ≡ [] → AreUnrefused tree
unrefused text tree h =
    let scope = scope_of tree in
    let names = names_of tree in
    let items = model_items tree in
    let named_ = names_refused items in
    let domained = domains_refused tree.decls names items in
    let missing = missing_among tree.defs names scope.functions tree.decls in
    let definitions = definitions_refused tree.defs names scope.functions [] tree.defs in
    let starting = pass.starts_refused tree.defs names scope.functions []
    (starts_of tree.init) in
    let functioned = functions_refused tree.defs names scope.functions tree.decls
    (starts_of tree.init) in
    let calling = calls_refused tree in
    let typing = types_refused tree in
    let counting = counts_refused (numbered text tree) tree in
    let four = named_ ++ domained ++ functioned ++ calling in
    let five = both_nil (four ++ typing) counting h in
    let types = both_nil four typing five.0 in
    let calls = both_nil (named_ ++ domained ++ functioned) calling types.0 in
    let functions = both_nil (named_ ++ domained) functioned calls.0 in
    let start = both_nil (missing ++ definitions) starting functions.1 in
    let defined = defs_refused scope tree.defs in
    let main_refused = (macro_checked scope None tree.rule).refused in
    let ends = model.starts_refused scope (starts_of tree.init) in
    let bodies = both_nil (defined ++ main_refused) ends types.1 in
    let both = both_nil defined main_refused bodies.0 in
    record { starts = start.1; defs = both.0; main = both.1 }

module _ (tree : ModelTree) (none : AreUnrefused tree) where
  abbrev scope : Scope
  scope = scope_of tree

  abbrev functions : List FunctionInfo
  functions = functions_of (scope_of tree) tree

  main_sorted : is_sorted_rule scope.domains functions (main_of scope tree) ≡ true
  main_sorted =
      rule_sorted scope (names_members tree) (scopes_of_texts_whole tree) functions
      (sets_agree tree) tree.rule (with_params scope None) none.main
      (chooses_in scope tree.defs)

  text_macros : list_all (λ (info : MacroInfo). is_sorted_rule scope.domains functions info.body)
      (macros_of scope tree) ≡ true
  text_macros =
      macros_sorted scope (names_members tree) (scopes_of_texts_whole tree) functions
      (sets_agree tree) 0 tree.defs none.defs

  text_inits : list_all (sets tree) (inits_of scope tree) ≡ true
  text_inits = starts_set tree [] (starts_of tree.init) none.starts

-- The program of a text is sorted.
pub checked_is_sorted : (text : List ℕ) (tree : ModelTree) (p : Program) → IsTyped text tree p
    → IsSorted p
checked_is_sorted text tree p typed =
    let none = unrefused text tree typed.unrefused in
    record {
      main = (λ i. is_sorted_rule (typed.domains i) (typed.functions i) (typed.main i))
          ∙ main_sorted tree none;
      macros = (λ i. list_all (λ (info : MacroInfo).
          is_sorted_rule (typed.domains i) (typed.functions i) info.body) (typed.macros i))
          ∙ text_macros tree none;
      bodies = (λ i. list_all (is_sorted_body (typed.domains i)) (typed.functions i))
          ∙ text_bodies tree;
      inits = (λ i. list_all (λ (init : InitInfo).
          is_set_at_start (typed.functions i) init.function
          && is_sorted_term (typed.domains i) init.body) (typed.inits i))
          ∙ text_inits tree none;
    }
