-- The passes one after the other.
use Rattle.std.proofs.Common.{◌≡◌, ℕ, ◌≤◌, List, [], ◌∷◌, ◌++◌, refl, sym, ap, ◌∙◌, if◌then◌else◌}
use Rattle.std.specs.List.{filter_map}
use Rattle.asm_value.specs.declared.domain.Domain.{Domain}
use Rattle.asm_value.specs.declared.domain.DomainInfo.{DomainInfo}
use Rattle.asm_syntax.specs.declared.tree.DeclTree.{DeclTree}
use Rattle.asm_syntax.specs.declared.tree.DefTree.{DefTree}
use Rattle.asm_syntax.specs.declared.tree.StartTree.{StartTree}
use Rattle.asm_syntax.specs.declared.tree.ModelTree.{ModelTree}
use Rattle.asm_syntax.specs.Marks.{text_of}
use Rattle.asm_program.specs.declared.type_refusal.TypeRefusal.{TypeRefusal}
use Rattle.asm_program.specs.declared.type_refusal.TypeRefusal.TheVariants.{Missing}
use Rattle.asm_program.specs.Checks.{IsFirst}
use Rattle.asm_program.specs.Items.{Items, Counts, Declares, DeclaresInvariant, Exceeds, Repeats, NamesDomain, NeedsIntegers, GivesInterval, GivesIntegers, NamesFunction, NamesMacro, model_items, starts_of}
use Rattle.asm_program.specs.Signatures.{Names, Header, names_of}
use Rattle.asm_program.specs.NamesPass.{names_refused}
use Rattle.asm_program.specs.DomainsPass.{given, unknown_domain, given_refused, interval_refused, integers_refused, domains_refused, domains_refused_from}
use Rattle.asm_program.specs.FunctionsPass.{missing_among, definitions_refused, starts_refused, functions_refused}
use Rattle.asm_program.specs.TypedTerms.{Scope}
use Rattle.asm_program.specs.TypedModels.{headers, macro_params, infos_from, scope_of}
use Rattle.asm_items.specs.Views.{with_items}
use Rattle.asm_names.specs.Alike.{Alike}
use Rattle.asm_names.specs.Definitions.{AreDefined}
use Rattle.asm_names.specs.Numbers.{AreFew, domains_after, macros_after}
use Rattle.asm_names.specs.Passes.{missing_from, headers_among, constants_among, infos_among}
use Rattle.asm_scope.proofs.Checking.{is_first-append, is_first-along, first_of_rest}
use Rattle.asm_names.proofs.HeaderSteps.{headers-are, missing-are, infos-are}
use Rattle.asm_names.proofs.Limits.{few-model, few-model_macros}

first_none : (xs ys : List TypeRefusal) → xs ++ ys ≡ [] → xs ≡ []
first_none [] ys h = refl
first_none (x ∷ xs) ys h = absurd (cc h)

both_none : (xs ys : List TypeRefusal) → xs ≡ [] → ys ≡ [] → xs ++ ys ≡ []
both_none xs ys e f = (λ i. e i ++ f i)

-- ---- domains by a set of the subsets that have integers

domains-alike : (ds : List DeclTree) (names : Names) (a b done : List (List ℕ)) (xs : Items) → Alike a b → domains_refused_from ds names a done xs ≡ domains_refused_from ds names b done xs
domains-alike ds names a b done [] h = refl
domains-alike ds names a b done (Counts kind span ∷ xs) h = domains-alike ds names a b done xs h
domains-alike ds names a b done (Declares name span ∷ xs) h = domains-alike ds names a b done xs h
domains-alike ds names a b done (DeclaresInvariant name span ∷ xs) h = domains-alike ds names a b done xs h
domains-alike ds names a b done (Exceeds kind n span ∷ xs) h = domains-alike ds names a b done xs h
domains-alike ds names a b done (Repeats t ∷ xs) h = domains-alike ds names a b done xs h
domains-alike ds names a b done (NamesDomain t ∷ xs) h = ap (λ rs. unknown_domain ds names a t ++ rs) (domains-alike ds names a b done xs h)
domains-alike ds names a b done (NeedsIntegers t span ∷ xs) h =
    λ i. (if h (text_of t) i then [] else Missing (text_of t) span ∷ []) ++ domains-alike ds names a b done xs h i
domains-alike ds names a b done (GivesInterval t from to ∷ xs) h =
    ap (λ rs. given_refused ds names a done t (λ natural. interval_refused natural from to) ++ rs) (domains-alike ds names a b (text_of t ∷ done) xs h)
domains-alike ds names a b done (GivesIntegers t is ∷ xs) h =
    ap (λ rs. given_refused ds names a done t (λ natural. integers_refused natural [] is) ++ rs) (domains-alike ds names a b (text_of t ∷ done) xs h)
domains-alike ds names a b done (NamesFunction t ∷ xs) h = domains-alike ds names a b done xs h
domains-alike ds names a b done (NamesMacro t ∷ xs) h = domains-alike ds names a b done xs h

module _ (ds : List DeclTree) (names : Names) (a : List (List ℕ)) (xs : Items) (h : Alike a (given xs)) where
  pub domains-first : (why : TypeRefusal) → IsFirst why (domains_refused_from ds names a [] xs) → IsFirst why (domains_refused ds names xs)
  domains-first why f = is_first-along why (domains_refused_from ds names a [] xs) (domains_refused ds names xs) (domains-alike ds names a (given xs) [] xs h) f

  pub domains-none : domains_refused_from ds names a [] xs ≡ [] → domains_refused ds names xs ≡ []
  domains-none e = sym (domains-alike ds names a (given xs) [] xs h) ∙ e

pub ruleset listed_steps = (domains-first, domains-none)

-- ---- names and domains

module _ (items all : Items) (is : items ≡ all) where
  pub names-first : (why : TypeRefusal) (rest : List TypeRefusal) → IsFirst why (names_refused items) → IsFirst why (names_refused all ++ rest)
  names-first why rest f = is_first-append why (names_refused all) rest (is_first-along why (names_refused items) (names_refused all) (ap names_refused is) f)

  pub names-second : (why : TypeRefusal) (ds : List DeclTree) (names wanted : Names) → names ≡ wanted → names_refused items ≡ [] → IsFirst why (domains_refused ds names items)
      → IsFirst why (names_refused all ++ domains_refused ds wanted all)
  names-second why ds names wanted n e f =
      first_of_rest why (names_refused all) (domains_refused ds wanted all) (names_refused all ++ domains_refused ds wanted all) refl
      (ap names_refused (sym is) ∙ e)
      (is_first-along why (domains_refused ds names items) (domains_refused ds wanted all) (λ i. domains_refused ds (n i) (is i)) f)

  pub names-none : (ds : List DeclTree) (names wanted : Names) → names ≡ wanted → names_refused items ≡ [] → domains_refused ds names items ≡ []
      → names_refused all ++ domains_refused ds wanted all ≡ []
  names-none ds names wanted n e f =
      both_none (names_refused all) (domains_refused ds wanted all) (ap names_refused (sym is) ∙ e) ((λ i. domains_refused ds (sym n i) (sym is i)) ∙ f)

pub few_of : (items : Items) (tree : ModelTree) → items ≡ model_items tree → names_refused items ≡ [] → AreFew 0 0 tree.decls
few_of items tree is e = few-model tree (ap names_refused (sym is) ∙ e)

pub few_macros_of : (items : Items) (tree : ModelTree) → items ≡ model_items tree → names_refused items ≡ [] → macros_after 0 tree.defs ≤ 256
few_macros_of items tree is e = few-model_macros tree (ap names_refused (sym is) ∙ e)

pub ruleset names_steps = (names-first, names-second, names-none, few_of, few_macros_of)

pub ruleset term_steps = (names-first, names-second, names-none)

-- ---- functions

module _ (defined : List (List ℕ)) (defs : List DefTree) (names : Names) (are : AreDefined defined defs) (decls : List DeclTree) (starts : List StartTree) where
  abbrev all_of : List TypeRefusal
  all_of = functions_refused defs names (headers defs names decls) decls starts

  abbrev missing_part : List TypeRefusal
  missing_part = missing_among defs names (headers defs names decls) decls

  pub functions-first : (why : TypeRefusal) → IsFirst why (missing_from defined names decls) → IsFirst why (functions_refused defs names (headers defs names decls) decls starts)
  functions-first why f =
      let fs = headers defs names decls in
      is_first-append why (missing_part ++ definitions_refused defs names fs [] defs) (starts_refused defs names fs [] starts)
      (is_first-append why missing_part (definitions_refused defs names fs [] defs)
      (is_first-along why (missing_from defined names decls) missing_part (missing-are defined defs names are fs decls) f))

  pub functions-second : (hs : List Header) → missing_from defined names decls ≡ [] → hs ≡ headers_among defined names decls
      → (why : TypeRefusal) → IsFirst why (definitions_refused [] names hs [] defs) → IsFirst why (functions_refused defs names (headers defs names decls) decls starts)
  functions-second hs m h why f =
      let fs = headers defs names decls in
      let same : hs ≡ fs = h ∙ headers-are defined defs names are decls in
      is_first-append why (missing_part ++ definitions_refused defs names fs [] defs) (starts_refused defs names fs [] starts)
      (first_of_rest why missing_part (definitions_refused defs names fs [] defs) (missing_part ++ definitions_refused defs names fs [] defs) refl
      (sym (missing-are defined defs names are fs decls) ∙ m)
      (is_first-along why (definitions_refused [] names hs [] defs) (definitions_refused defs names fs [] defs) (ap (λ gs. definitions_refused [] names gs [] defs) same) f))

  pub functions-third : (hs : List Header) → missing_from defined names decls ≡ [] → hs ≡ headers_among defined names decls
      → definitions_refused [] names hs [] defs ≡ [] → (why : TypeRefusal) → IsFirst why (starts_refused [] names hs [] starts) → IsFirst why (functions_refused defs names (headers defs names decls) decls starts)
  functions-third hs m h d why f =
      let fs = headers defs names decls in
      let same : hs ≡ fs = h ∙ headers-are defined defs names are decls in
      first_of_rest why (missing_part ++ definitions_refused defs names fs [] defs) (starts_refused defs names fs [] starts) (functions_refused defs names fs decls starts) refl
      (both_none missing_part (definitions_refused defs names fs [] defs) (sym (missing-are defined defs names are fs decls) ∙ m) (ap (λ gs. definitions_refused [] names gs [] defs) (sym same) ∙ d))
      (is_first-along why (starts_refused [] names hs [] starts) (starts_refused defs names fs [] starts) (ap (λ gs. starts_refused [] names gs [] starts) same) f)

  pub functions-none : (hs : List Header) → missing_from defined names decls ≡ [] → hs ≡ headers_among defined names decls
      → definitions_refused [] names hs [] defs ≡ [] → starts_refused [] names hs [] starts ≡ [] → functions_refused defs names (headers defs names decls) decls starts ≡ []
  functions-none hs m h d s =
      let fs = headers defs names decls in
      let same : hs ≡ fs = h ∙ headers-are defined defs names are decls in
      both_none (missing_part ++ definitions_refused defs names fs [] defs) (starts_refused defs names fs [] starts)
      (both_none missing_part (definitions_refused defs names fs [] defs) (sym (missing-are defined defs names are fs decls) ∙ m) (ap (λ gs. definitions_refused [] names gs [] defs) (sym same) ∙ d))
      (ap (λ gs. starts_refused [] names gs [] starts) (sym same) ∙ s)

  pub functions-are : (hs : List Header) → hs ≡ headers_among defined names decls → hs ≡ headers defs names decls
  functions-are hs h = h ∙ headers-are defined defs names are decls

pub ruleset function_steps = (functions-first, functions-second, functions-third, functions-none, functions-are)

-- ---- domains

pub domains-are : (defined : List (List ℕ)) (defs : List DefTree) (names : Names) (decls : List DeclTree) (cs : List (List ℕ × ℕ)) (ds : List DomainInfo) → AreDefined defined defs
    → cs ≡ constants_among defined names decls → ds ≡ infos_among cs defs 0 decls → ds ≡ infos_from defs names decls 0 decls
domains-are defined defs names decls cs ds are c e = e ∙ ap (λ bs. infos_among bs defs 0 decls) c ∙ infos-are defined defs names are decls 0 decls

pub ruleset domain_steps = (domains-are)

-- ---- scopes

module _ (tree : ModelTree) where
  abbrev before : List TypeRefusal
  before = names_refused (model_items tree) ++ domains_refused tree.decls (names_of tree) (model_items tree)

  abbrev last : Names → List TypeRefusal
  last names = functions_refused tree.defs names (headers tree.defs names tree.decls) tree.decls (starts_of tree.init)

  pub scope-first : (why : TypeRefusal) → IsFirst why before → IsFirst why (before ++ last (names_of tree))
  scope-first why f = is_first-append why before (last (names_of tree)) f

  pub scope-second : (names : Names) → before ≡ [] → names ≡ names_of tree → (why : TypeRefusal) → IsFirst why (last names) → IsFirst why (before ++ last (names_of tree))
  scope-second names e n why f =
      first_of_rest why before (last (names_of tree)) (before ++ last (names_of tree)) refl e (is_first-along why (last names) (last (names_of tree)) (ap last n) f)

  pub scope-few : before ≡ [] → domains_after 0 tree.decls ≤ 256
  scope-few e = (few-model tree (first_none (names_refused (model_items tree)) (domains_refused tree.decls (names_of tree) (model_items tree)) e)).domains

  pub scope-none : (names : Names) → before ≡ [] → names ≡ names_of tree → last names ≡ [] → before ++ last (names_of tree) ≡ []
  scope-none names e n f = both_none before (last (names_of tree)) e (ap last (sym n) ∙ f)

  pub scope-is : (scope : Scope) (names : Names) (domains : List DomainInfo) (functions : List Header) (macros : List (List Domain))
      → scope ≡ record { names = names; domains = domains; functions = functions; macros = macros }
      → names ≡ names_of tree → domains ≡ infos_from tree.defs names tree.decls 0 tree.decls → functions ≡ headers tree.defs names tree.decls
      → macros ≡ filter_map (macro_params [] names) tree.defs → scope ≡ scope_of tree
  scope-is scope names domains functions macros s n d f m =
      s
      ∙ (λ i. record { names = names; domains = d i; functions = f i; macros = m i })
      ∙ (λ i. record {
        names = n i;
        domains = infos_from tree.defs (n i) tree.decls 0 tree.decls;
        functions = headers tree.defs (n i) tree.decls;
        macros = filter_map (macro_params [] (n i)) tree.defs;
      })

pub ruleset scope_steps = (scope-first, scope-second, scope-few, scope-none, scope-is)

pub items-alone : (xs new : Items) → new ≡ with_items [] xs → new ≡ xs
unfolding with_items
items-alone xs new e = e

pub ruleset items_steps = (items-alone)
