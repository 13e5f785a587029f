-- The items of models, step by step.
use Rattle.std.proofs.Common.{◌≡◌, ℕ, ◌+◌, ◌==◌, ◌<◌, ◌≤◌, Option, Some, None, List, [], ◌∷◌, ◌++◌, length, map, drop, get_or, refl, ap, ◌∙◌, arith, if◌then◌else◌}
use Rattle.std.proofs.lemmas.List.{drop_all, drop_more}
use Rattle.asm_syntax.specs.declared.token.Token.{Token}
use Rattle.asm_syntax.specs.declared.token.Span.{Span}
use Rattle.asm_syntax.specs.declared.tree.DomainTree.{DomainTree}
use Rattle.asm_syntax.specs.declared.tree.IntTree.{IntTree}
use Rattle.asm_syntax.specs.declared.tree.ParamsTree.{ParamsTree}
use Rattle.asm_syntax.specs.declared.tree.TermTree.{TermTree}
use Rattle.asm_syntax.specs.declared.tree.RuleTree.{RuleTree}
use Rattle.asm_syntax.specs.declared.tree.DeclTree.{DeclTree}
use Rattle.asm_syntax.specs.declared.tree.DeclTree.TheVariants as decls
use Rattle.asm_syntax.specs.declared.tree.DefTree.{DefTree}
use Rattle.asm_syntax.specs.declared.tree.DefTree.TheVariants as defs
use Rattle.asm_syntax.specs.declared.tree.StartTree.{StartTree}
use Rattle.asm_syntax.specs.declared.tree.InitTree.{InitTree}
use Rattle.asm_syntax.specs.declared.tree.ModelTree.{ModelTree}
use Rattle.asm_syntax.specs.Marks.{text_of}
use Rattle.asm_program.specs.declared.type_refusal.Limited.{Limited}
use Rattle.asm_program.specs.declared.type_refusal.Limited.TheVariants as limited
use Rattle.asm_program.specs.Items as items
use Rattle.asm_program.specs.Items.{Items, Counts, Declares, DeclaresInvariant, Exceeds, NeedsIntegers, joined, domain_items, term_items, rule_items, declares, literal_items, invariant_name, invariant_items, starts_of, model_items}
use Rattle.asm_items.specs.Views.{with_items}
use Rattle.asm_items.specs.Parts.{maybe_domain, all_params, decl_part, counted, literal, more_literals, literals, enum_items, subset_items, function_items, decls_items, body_items, macro_items, def_items, number_after, defs_from, starts_items, init_items, model, invariant_part, named_invariant}
use Rattle.asm_items.proofs.Steps.{with_items-append, with_items-none, with_items-from_none}

module _ (w : Items) where
  -- ---- declarations

  pub adds_counted : (kind : Limited) (name : Token) (span : Span)
      → with_items w (counted kind name span) ≡ with_items (with_items w (Counts kind span ∷ [])) (declares name ∷ [])
  unfolding counted
  adds_counted kind name span = with_items-append w (Counts kind span ∷ []) (declares name ∷ [])

  pub adds_literal : (n : ℕ) (t : Token)
      → with_items w (literal n t) ≡ with_items (with_items w (declares t ∷ [])) (if n == 257 then Exceeds limited.Members 257 t.span ∷ [] else [])
  unfolding literal
  adds_literal n t = with_items-append w (declares t ∷ []) (if n == 257 then Exceeds limited.Members 257 t.span ∷ [] else [])

  literals-next : (n : ℕ) (t : Token) (ts : List Token)
      → with_items w (literal_items n (t ∷ ts)) ≡ with_items (with_items w (literal n t)) (literal_items (n + 1) ts)
  unfolding literal
  literals-next n t ts = with_items-append w (declares t ∷ (if n == 257 then Exceeds limited.Members 257 t.span ∷ [] else [])) (literal_items (n + 1) ts)

  pub literals-drop : (n : ℕ) (ts : List Token) (i : ℕ) (d : Token) → i < length ts
      → with_items w (more_literals (i + n) (drop i ts)) ≡ with_items (with_items w (literal (i + n) (get_or ts i d))) (more_literals (i + 1 + n) (drop (i + 1) ts))
  unfolding more_literals
  literals-drop n ts i d h =
      let next : i + n + 1 ≡ i + 1 + n = omega arith in
      ap (λ es. with_items w (literal_items (i + n) es)) (drop_more ts i d h)
      ∙ literals-next (i + n) (get_or ts i d) (drop (i + 1) ts)
      ∙ ap (λ m. with_items (with_items w (literal (i + n) (get_or ts i d))) (literal_items m (drop (i + 1) ts))) next

  pub literals-end : (n : ℕ) (ts : List Token) (i : ℕ) → length ts ≤ i → with_items w (more_literals (i + n) (drop i ts)) ≡ w
  unfolding more_literals
  literals-end n ts i h = ap (λ es. with_items w (literal_items (i + n) es)) (drop_all i ts h) ∙ with_items-none w

  pub adds_literals : (first : Token) (others : List Token)
      → with_items w (literals first others) ≡ with_items (with_items w (literal 1 first)) (more_literals 2 others)
  unfolding literals more_literals
  adds_literals first others = literals-next 1 first others

  pub adds_enum : (name first : Token) (others : List Token) (span : Span)
      → with_items w (enum_items name first others span) ≡ with_items (with_items w (counted limited.Domains name span)) (literals first others)
  unfolding enum_items
  adds_enum name first others span = with_items-append w (counted limited.Domains name span) (literals first others)

  pub adds_subset : (name : Token) (span : Span)
      → with_items w (subset_items name span)
      ≡ with_items (with_items (with_items w (Counts limited.Domains span ∷ [])) (NeedsIntegers name span ∷ [])) (declares name ∷ [])
  unfolding subset_items
  adds_subset name span =
      with_items-append w (Counts limited.Domains span ∷ NeedsIntegers name span ∷ []) (declares name ∷ [])
      ∙ ap (λ v. with_items v (declares name ∷ [])) (with_items-append w (Counts limited.Domains span ∷ []) (NeedsIntegers name span ∷ []))

  pub adds_no_domain : with_items w (maybe_domain None) ≡ w
  unfolding maybe_domain
  adds_no_domain = with_items-none w

  pub adds_domain : (d : DomainTree) → with_items w (maybe_domain (Some d)) ≡ with_items w (domain_items d)
  unfolding maybe_domain
  adds_domain d = refl

  pub adds_function : (name : Token) (first : DomainTree) (next : Option DomainTree) (span : Span)
      → with_items w (function_items name first next span)
      ≡ with_items (with_items (with_items w (counted limited.Functions name span)) (domain_items first)) (maybe_domain next)
  unfolding function_items
  adds_function name first next span = simp with_items-append

  pub decls-drop : (ds : List DeclTree) (i : ℕ) (d : DeclTree) → i < length ds
      → with_items w (decls_items (drop i ds)) ≡ with_items (with_items w (decl_part (get_or ds i d))) (decls_items (drop (i + 1) ds))
  unfolding decls_items decl_part
  decls-drop ds i d h =
      ap (λ es. with_items w (joined (map decl_part es))) (drop_more ds i d h)
      ∙ with_items-append w (decl_part (get_or ds i d)) (joined (map decl_part (drop (i + 1) ds)))

  pub decls-end : (ds : List DeclTree) (i : ℕ) → length ds ≤ i → with_items w (decls_items (drop i ds)) ≡ w
  unfolding decls_items decl_part
  decls-end ds i h = ap (λ es. with_items w (joined (map decl_part es))) (drop_all i ds h) ∙ with_items-none w

  pub decl-enum : (name first : Token) (others : List Token) (span : Span)
      → with_items w (decl_part (decls.Enum name first others span)) ≡ with_items w (enum_items name first others span)
  unfolding decl_part enum_items counted literals
  decl-enum name first others span = refl

  pub decl-abstract : (name : Token) (span : Span) → with_items w (decl_part (decls.Abstract name span)) ≡ with_items w (counted limited.Domains name span)
  unfolding decl_part counted
  decl-abstract name span = refl

  pub decl-subset : (name : Token) (base : List ℕ) (span : Span) → with_items w (decl_part (decls.Subset name base span)) ≡ with_items w (subset_items name span)
  unfolding decl_part subset_items
  decl-subset name base span = refl

  pub decl-defined : (word : List ℕ) (name : Token) (first : DomainTree) (next : Option DomainTree) (span : Span)
      → with_items w (decl_part (decls.Defined word name first next span)) ≡ with_items w (function_items name first next span)
  unfolding decl_part function_items counted maybe_domain
  decl-defined word name first next span = refl

  pub decl-dynamic : (word : List ℕ) (name : Token) (first : DomainTree) (next : Option DomainTree) (span : Span)
      → with_items w (decl_part (decls.Dynamic word name first next span)) ≡ with_items w (function_items name first next span)
  unfolding decl_part function_items counted maybe_domain
  decl-dynamic word name first next span = refl

  -- ---- definitions

  pub adds_unnamed : (k : ℕ) (span : Span)
      → with_items w (invariant_part k None span)
      ≡ with_items (with_items w (DeclaresInvariant (invariant_name k None) span ∷ [])) (Counts limited.Invariants span ∷ [])
  unfolding invariant_part
  adds_unnamed k span = with_items-append w (DeclaresInvariant (invariant_name k None) span ∷ []) (Counts limited.Invariants span ∷ [])

  pub adds_named : (k : ℕ) (name : Token) (span : Span) → with_items w (invariant_part k (Some name) span) ≡ with_items w (named_invariant name span)
  unfolding invariant_part named_invariant
  adds_named k name span = refl

  pub adds_name : (name : Token) (span : Span)
      → with_items w (named_invariant name span) ≡ with_items (with_items w (Counts limited.Invariants span ∷ [])) (DeclaresInvariant (text_of name) name.span ∷ [])
  unfolding named_invariant
  adds_name name span = with_items-append w (Counts limited.Invariants span ∷ []) (DeclaresInvariant (text_of name) name.span ∷ [])

  pub adds_body : (params : Option ParamsTree) (term : TermTree)
      → with_items w (body_items params term) ≡ with_items (with_items w (all_params params)) (term_items term)
  unfolding body_items
  adds_body params term = with_items-append w (all_params params) (term_items term)

  pub adds_macro : (name : Token) (params : Option ParamsTree) (body : RuleTree) (span : Span)
      → with_items w (macro_items name params body span)
      ≡ with_items (with_items (with_items w (counted limited.Macros name span)) (all_params params)) (rule_items body)
  unfolding macro_items
  adds_macro name params body span = simp with_items-append

  pub def-interval : (k : ℕ) (name : Token) (from to : IntTree) (span : Span)
      → with_items w (def_items k (defs.Interval name from to span)) ≡ with_items w (items.GivesInterval name from to ∷ [])
  unfolding def_items
  def-interval k name from to span = refl

  pub def-integers : (k : ℕ) (name : Token) (first : IntTree) (others : List IntTree) (span : Span)
      → with_items w (def_items k (defs.Integers name first others span)) ≡ with_items w (items.GivesIntegers name (first ∷ others) ∷ [])
  unfolding def_items
  def-integers k name first others span = refl

  pub def-function : (k : ℕ) (name : Token) (params : Option ParamsTree) (term : TermTree) (span : Span)
      → with_items w (def_items k (defs.Function name params term span)) ≡ with_items w (body_items params term)
  unfolding def_items
  def-function k name params term span = refl

  pub def-rule : (k : ℕ) (name : Token) (params : Option ParamsTree) (body : RuleTree) (span : Span)
      → with_items w (def_items k (defs.Rule name params body span)) ≡ with_items w (macro_items name params body span)
  unfolding def_items
  def-rule k name params body span = refl

  pub def-invariant : (k : ℕ) (name : Option Token) (first : Token) (others : List Token) (term : TermTree) (span : Span)
      → with_items w (def_items k (defs.Invariant name first others term span)) ≡ with_items (with_items w (invariant_part k name span)) (term_items term)
  unfolding def_items
  def-invariant k name first others term span = with_items-append w (invariant_part k name span) (term_items term)

  next-def : (k : ℕ) (d : DefTree) (ds : List DefTree) → with_items w (items.defs_items k (d ∷ ds)) ≡ with_items (with_items w (def_items k d)) (items.defs_items (number_after k d) ds)
  unfolding def_items body_items macro_items all_params counted invariant_part
  next-def k (defs.Interval name from to span) ds = with_items-append w (items.GivesInterval name from to ∷ []) (items.defs_items k ds)
  next-def k (defs.Integers name first others span) ds = with_items-append w (items.GivesIntegers name (first ∷ others) ∷ []) (items.defs_items k ds)
  next-def k (defs.Function name params term span) ds = with_items-append w (items.params_items params ++ term_items term) (items.defs_items k ds)
  next-def k (defs.Rule name params body span) ds =
      with_items-append w (Counts limited.Macros span ∷ declares name ∷ items.params_items params ++ rule_items body) (items.defs_items k ds)
  next-def k (defs.Invariant name first others term span) ds =
      with_items-append w (invariant_items k name span ++ term_items term) (items.defs_items (k + 1) ds)

  pub defs-drop : (k : ℕ) (ds : List DefTree) (i : ℕ) (d : DefTree) → i < length ds
      → with_items w (defs_from k (drop i ds)) ≡ with_items (with_items w (def_items k (get_or ds i d))) (defs_from (number_after k (get_or ds i d)) (drop (i + 1) ds))
  unfolding defs_from
  defs-drop k ds i d h = ap (λ es. with_items w (items.defs_items k es)) (drop_more ds i d h) ∙ next-def k (get_or ds i d) (drop (i + 1) ds)

  pub defs-end : (k : ℕ) (ds : List DefTree) (i : ℕ) → length ds ≤ i → with_items w (defs_from k (drop i ds)) ≡ w
  unfolding defs_from
  defs-end k ds i h = ap (λ es. with_items w (items.defs_items k es)) (drop_all i ds h) ∙ with_items-none w

  -- ---- models

  pub starts-drop : (ss : List StartTree) (i : ℕ) (d : StartTree) → i < length ss
      → with_items w (starts_items (drop i ss)) ≡ with_items (with_items w (body_items (get_or ss i d).params (get_or ss i d).term)) (starts_items (drop (i + 1) ss))
  unfolding starts_items body_items all_params
  starts-drop ss i d h =
      let s = get_or ss i d in
      ap (λ es. with_items w (items.start_items es)) (drop_more ss i d h)
      ∙ with_items-append w (items.params_items s.params ++ term_items s.term) (items.start_items (drop (i + 1) ss))

  pub starts-end : (ss : List StartTree) (i : ℕ) → length ss ≤ i → with_items w (starts_items (drop i ss)) ≡ w
  unfolding starts_items
  starts-end ss i h = ap (λ es. with_items w (items.start_items es)) (drop_all i ss h) ∙ with_items-none w

  pub adds_no_init : with_items w (init_items None) ≡ w
  unfolding init_items starts_items
  adds_no_init = with_items-none w

  pub adds_init : (init : InitTree) → with_items w (init_items (Some init)) ≡ with_items w (starts_items init.starts)
  unfolding init_items
  adds_init init = refl

  five : (a b r s : Items) (c d : items.Item)
      → with_items w (a ++ b ++ c ∷ d ∷ r ++ s) ≡ with_items (with_items (with_items (with_items (with_items w a) b) (c ∷ d ∷ [])) r) s
  five a b r s c d =
      with_items-append w (a ++ b ++ c ∷ d ∷ r) s
      ∙ ap (λ v. with_items v s)
      (with_items-append w (a ++ b) (c ∷ d ∷ r) ∙ ap (λ v. with_items v (c ∷ d ∷ r)) (with_items-append w a b) ∙ with_items-append (with_items (with_items w a) b) (c ∷ d ∷ []) r)

  pub adds_model : (tree : ModelTree)
      → with_items w (model tree)
      ≡ with_items (with_items (with_items (with_items (with_items w (decls_items tree.decls)) (defs_from 1 tree.defs)) (counted limited.Macros tree.rule_name tree.main)) (rule_items tree.rule))
      (init_items tree.init)
  unfolding model decls_items decl_part defs_from counted init_items starts_items
  adds_model tree =
      five (joined (map items.decl_items tree.decls)) (items.defs_items 1 tree.defs) (rule_items tree.rule) (items.start_items (starts_of tree.init)) (Counts limited.Macros tree.main) (declares tree.rule_name)

pub number_after-le : (k : ℕ) (d : DefTree) → number_after k d ≤ k + 1
number_after-le k (defs.Interval name from to span) = omega arith
number_after-le k (defs.Integers name first others span) = omega arith
number_after-le k (defs.Function name params term span) = omega arith
number_after-le k (defs.Rule name params body span) = omega arith
number_after-le k (defs.Invariant name first others term span) = omega arith

pub model-is : (tree : ModelTree) → with_items [] (model tree) ≡ model_items tree
unfolding model
model-is tree = with_items-from_none (model_items tree)

pub ruleset counted_steps = (adds_counted)

pub ruleset literal_steps = (adds_literal, with_items-none)

pub ruleset literals_steps = (adds_literals, literals-drop, literals-end)

pub ruleset enum_steps = (adds_enum)

pub ruleset subset_steps = (adds_subset)

pub ruleset maybe_domain_steps = (adds_no_domain, adds_domain)

pub ruleset function_steps = (adds_function)

pub ruleset decl_steps = (decl-enum, decl-abstract, decl-subset, decl-defined, decl-dynamic)

pub ruleset decls_steps = (decls-drop, decls-end)

pub ruleset invariant_steps = (adds_unnamed, adds_named)

pub ruleset named_steps = (adds_name)

pub ruleset body_steps = (adds_body)

pub ruleset macro_steps = (adds_macro)

pub ruleset def_steps = (def-interval, def-integers, def-function, def-rule, def-invariant)

pub ruleset defs_steps = (defs-drop, defs-end, number_after-le)

pub ruleset starts_steps = (starts-drop, starts-end)

pub ruleset init_steps = (adds_no_init, adds_init)

pub ruleset model_steps = (adds_model)

pub ruleset whole_steps = (model-is)
