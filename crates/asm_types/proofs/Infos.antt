-- The functions of a program from their names, what is said of them, their terms and their counts.
use Rattle.std.proofs.Common.{◌≡◌, ℕ, suc, ◌+◌, ◌<◌, ◌≤◌, ◌^◌, min, Option, Some, None, List, [], ◌∷◌, ◌++◌, length, map, drop, get_or, set, refl, sym, ap, ◌∙◌, subst, arith}
use Rattle.std.specs.List.{filter_map, range_with_len}
use Rattle.std.proofs.lemmas.List.{append-nil, append_assoc, drop_all, drop_more, drop-set-lt, length-map, length-set, get_or_read}
use Rattle.asm_value.specs.declared.domain.DomainInfo.{DomainInfo}
use Rattle.asm_syntax.specs.declared.tree.DeclTree.{DeclTree}
use Rattle.asm_syntax.specs.declared.tree.DeclTree.TheVariants as decls
use Rattle.asm_syntax.specs.declared.tree.DefTree.{DefTree}
use Rattle.asm_syntax.specs.declared.tree.ModelTree.{ModelTree}
use Rattle.asm_program.specs.declared.trees.Term.{Term}
use Rattle.asm_program.specs.declared.program.FunctionInfo.{FunctionInfo}
use Rattle.asm_program.specs.Counts.{function_depth, function_work, most_count}
use Rattle.asm_program.specs.Signatures.{Header, header, defined_kind, dynamic_kind, is_constant, with_constant}
use Rattle.asm_program.specs.TypedTerms.{Scope}
use Rattle.asm_program.specs.TypedModels.{headers, scope_of}
use Rattle.asm_program.specs.Typed.{function_info, function_in, uncounted, counted_from, functions_of}
use Rattle.asm_counts.specs.declared.counts.Counts.{Counts}
use Rattle.asm_counts.specs.CountLevels.{known}
use Rattle.asm_counts.specs.CountLaws.{AllTell}
use Rattle.asm_typed_calls.specs.CalledNames.{functions_in}
use Rattle.asm_types.specs.Assembled.{function_name, function_names, info_of, infos_from, AreShallow}

-- ---- a term that is taken

pub taken-rest : {X : Type 0} (xs : List X) (i : ℕ) (x : X) → drop (i + 1) (set xs i x) ≡ drop (i + 1) xs
taken-rest xs i x = drop-set-lt (i + 1) xs i x (omega arith)

pub taken-length : {X : Type 0} (xs : List X) (i : ℕ) (x : X) → length (set xs i x) ≡ length xs
taken-length xs i x = length-set xs i x

pub ruleset taken_steps = (taken-rest, taken-length, get_or_read)

-- ---- one function after the other

pub infos-end : (w : List FunctionInfo) (counts : List Counts) (f i : ℕ) (ns : List (List ℕ)) (hs : List Header) (bs : List (Option Term)) → length ns ≤ i
    → w ++ infos_from counts f (drop i ns) hs bs ≡ w
unfolding infos_from
infos-end w counts f i ns hs bs h = ap (λ xs. w ++ infos_from counts f xs hs bs) (drop_all i ns h) ∙ append-nil w

pub infos-step : (w : List FunctionInfo) (counts : List Counts) (i : ℕ) (ns : List (List ℕ)) (hs : List Header) (bs : List (Option Term)) (n : List ℕ) (h : Header) (b : Option Term)
    → i < length ns → i < length hs → i < length bs
    → w ++ infos_from counts i (drop i ns) (drop i hs) (drop i bs)
    ≡ (w ++ info_of (get_or ns i n) (get_or hs i h) (get_or bs i b) (known counts i) ∷ []) ++ infos_from counts (i + 1) (drop (i + 1) ns) (drop (i + 1) hs) (drop (i + 1) bs)
unfolding infos_from
infos-step w counts i ns hs bs n h b k l m =
    (λ j. w ++ infos_from counts i (drop_more ns i n k j) (drop_more hs i h l j) (drop_more bs i b m j))
    ∙ sym (append_assoc w (info_of (get_or ns i n) (get_or hs i h) (get_or bs i b) (known counts i) ∷ [])
    (infos_from counts (i + 1) (drop (i + 1) ns) (drop (i + 1) hs) (drop (i + 1) bs)))

pub infos-preserved : (w new : List FunctionInfo) (counts : List Counts) (i : ℕ) (ns : List (List ℕ)) (hs : List Header) (bs cs : List (Option Term)) (n : List ℕ) (h : Header) (b : Option Term)
    (all : List FunctionInfo) → i < length ns → length ns ≡ length hs → length ns ≡ length bs
    → w ++ infos_from counts i (drop i ns) (drop i hs) (drop i bs) ≡ all → drop (i + 1) cs ≡ drop (i + 1) bs
    → new ≡ w ++ info_of (get_or ns i n) (get_or hs i h) (get_or bs i b) (known counts i) ∷ []
    → new ++ infos_from counts (i + 1) (drop (i + 1) ns) (drop (i + 1) hs) (drop (i + 1) cs) ≡ all
infos-preserved w new counts i ns hs bs cs n h b all low same_hs same_bs e rest next =
    (λ j. next j ++ infos_from counts (i + 1) (drop (i + 1) ns) (drop (i + 1) hs) (rest j))
    ∙ sym (infos-step w counts i ns hs bs n h b low (omega (arith, low, same_hs)) (omega (arith, low, same_bs)))
    ∙ e

-- ---- those of declarations

abbrev with_counts : FunctionInfo → ℕ → ℕ → FunctionInfo
with_counts info depth work = record info { depth = depth; work = work }

abbrev bodies : List FunctionInfo → List (Option Term)
bodies fs = map (λ info. info.body) fs

module _ (scope : Scope) (ds : List DefTree) (counts : List Counts) (fs : List FunctionInfo)
    (depths : (f : ℕ) → (known counts f).depth ≡ function_depth fs f)
    (works : (f : ℕ) → (known counts f).work ≡ min (function_work scope.domains fs f) most_count) where
  infos-are : (f : ℕ) (xs : List DeclTree)
      → infos_from counts f (function_names xs) (headers ds scope.names xs) (bodies (filter_map (function_in scope ds) xs))
      ≡ counted_from scope.domains fs f (filter_map (function_in scope ds) xs)
  unfolding infos_from
  infos-are f [] = refl
  infos-are f (decls.Enum name first others span ∷ xs) = infos-are f xs
  infos-are f (decls.Abstract name span ∷ xs) = infos-are f xs
  infos-are f (decls.Subset name base span ∷ xs) = infos-are f xs
  infos-are f (decls.Defined word name first next span ∷ xs) =
      let h = header scope.names (defined_kind word) first next in
      let made = function_info scope ds (decls.Defined word name first next span) (with_constant (is_constant ds name h) h) in
      λ i. with_counts made (depths f i) (works f i) ∷ infos-are (f + 1) xs i
  infos-are f (decls.Dynamic word name first next span ∷ xs) =
      let made = function_info scope ds (decls.Dynamic word name first next span) (header scope.names (dynamic_kind word) first next) in
      λ i. with_counts made (depths f i) (works f i) ∷ infos-are (f + 1) xs i

within_cap : (d : ℕ) → d ≤ 512 → min d (2 ^ 32) ≡ d
within_cap d h = omega (arith, h)

-- the functions of a text, where these are the counts of them
pub functions-are : (tree : ModelTree) (counts : List Counts) → AreShallow tree
    → AllTell (known counts) (function_depth (functions_in tree)) (function_work (scope_of tree).domains (functions_in tree))
    → infos_from counts 0 (function_names tree.decls) (scope_of tree).functions (bodies (functions_in tree)) ≡ functions_of (scope_of tree) tree
functions-are tree counts low tell =
    infos-are (scope_of tree) tree.defs counts (functions_in tree)
    (λ f. (tell f).0 ∙ within_cap (function_depth (functions_in tree) f) (low f)) (λ f. (tell f).1) 0 tree.decls

-- as many names and headers as functions
pub length-names : (scope : Scope) (ds : List DefTree) (xs : List DeclTree) → length (function_names xs) ≡ length (filter_map (function_in scope ds) xs)
length-names scope ds [] = refl
length-names scope ds (decls.Enum name first others span ∷ xs) = length-names scope ds xs
length-names scope ds (decls.Abstract name span ∷ xs) = length-names scope ds xs
length-names scope ds (decls.Subset name base span ∷ xs) = length-names scope ds xs
length-names scope ds (decls.Defined word name first next span ∷ xs) = ap (λ n. suc n) (length-names scope ds xs)
length-names scope ds (decls.Dynamic word name first next span ∷ xs) = ap (λ n. suc n) (length-names scope ds xs)

pub length-headers : (scope : Scope) (ds : List DefTree) (xs : List DeclTree) → length (headers ds scope.names xs) ≡ length (filter_map (function_in scope ds) xs)
length-headers scope ds [] = refl
length-headers scope ds (decls.Enum name first others span ∷ xs) = length-headers scope ds xs
length-headers scope ds (decls.Abstract name span ∷ xs) = length-headers scope ds xs
length-headers scope ds (decls.Subset name base span ∷ xs) = length-headers scope ds xs
length-headers scope ds (decls.Defined word name first next span ∷ xs) = ap (λ n. suc n) (length-headers scope ds xs)
length-headers scope ds (decls.Dynamic word name first next span ∷ xs) = ap (λ n. suc n) (length-headers scope ds xs)

-- ---- those of a text

module _ (tree : ModelTree) (scope : Scope) (names : List (List ℕ)) (is : scope ≡ scope_of tree) (named : names ≡ filter_map function_name tree.decls) where
  pub names-headers : length names ≡ length scope.functions
  names-headers =
      ap (λ (ns : List (List ℕ)). length ns) named ∙ length-names (scope_of tree) tree.defs tree.decls
      ∙ sym (length-headers (scope_of tree) tree.defs tree.decls) ∙ ap (λ (s : Scope). length s.functions) (sym is)

  pub names-bodies : (bs : List (Option Term)) → bs ≡ map (λ info. info.body) (functions_in tree) → length names ≡ length bs
  names-bodies bs e =
      ap (λ (ns : List (List ℕ)). length ns) named ∙ length-names (scope_of tree) tree.defs tree.decls
      ∙ sym (length-map (functions_in tree) (λ (info : FunctionInfo). info.body)) ∙ ap (λ (xs : List (Option Term)). length xs) (sym e)

  pub functions-made : (bs : List (Option Term)) → bs ≡ map (λ info. info.body) (functions_in tree) → (counts : List Counts) → AreShallow tree
      → AllTell (known counts) (function_depth (functions_in tree)) (function_work (scope_of tree).domains (functions_in tree))
      → (infos : List FunctionInfo) → infos ≡ infos_from counts 0 names scope.functions bs → infos ≡ functions_of (scope_of tree) tree
  functions-made bs e counts low tell infos made =
      made ∙ (λ i. infos_from counts 0 (named i) (is i).functions (e i)) ∙ functions-are tree counts low tell

pub ruleset infos_steps = (infos-end, infos-step, infos-preserved)

pub ruleset text_steps = (names-headers, names-bodies, functions-made)
