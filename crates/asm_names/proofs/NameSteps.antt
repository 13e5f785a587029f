-- The names of a text, step by step.
use Rattle.std.proofs.Common.{◌≡◌, ℕ, ◌+◌, ◌<◌, ◌≤◌, List, [], ◌∷◌, ◌++◌, length, drop, get_or, Option, refl, sym, ap, subst, ◌∙◌, arith}
use Rattle.std.proofs.lemmas.List.{append-nil, append_assoc, drop_all, drop_more}
use Rattle.asm_syntax.specs.declared.token.Span.{Span}
use Rattle.asm_syntax.specs.declared.token.Token.{Token}
use Rattle.asm_syntax.specs.declared.tree.IntTree.{IntTree}
use Rattle.asm_syntax.specs.declared.tree.DomainTree.{DomainTree}
use Rattle.asm_syntax.specs.declared.tree.ParamsTree.{ParamsTree}
use Rattle.asm_syntax.specs.declared.tree.TermTree.{TermTree}
use Rattle.asm_syntax.specs.declared.tree.RuleTree.{RuleTree}
use Rattle.asm_syntax.specs.declared.tree.DeclTree.{DeclTree}
use Rattle.asm_syntax.specs.declared.tree.DeclTree.TheVariants as decls
use Rattle.asm_syntax.specs.declared.tree.DefTree.{DefTree}
use Rattle.asm_syntax.specs.declared.tree.DefTree.TheVariants as defs
use Rattle.asm_syntax.specs.declared.tree.ModelTree.{ModelTree}
use Rattle.asm_syntax.specs.Marks.{text_of}
use Rattle.asm_program.specs.declared.named.Named.{Named}
use Rattle.asm_program.specs.declared.named.Named.TheVariants as named
use Rattle.asm_program.specs.Signatures.{Names, named_as, literals_from, decl_names, macro_names, names_of}
use Rattle.asm_names.specs.Numbers.{AreFew, IsSmall, domain_after, function_after, domains_after, functions_after, macro_after, macros_after, names_in, macro_in, with_names, decls_named, macros_named, literals_named}

pub pushed : (w : Names) (t : Token) (n : Named) → w ++ named_as t n ∷ [] ≡ with_names w (named_as t n ∷ [])
unfolding with_names
pushed w t n = refl

with_names-append : (w xs ys : Names) → with_names w (xs ++ ys) ≡ with_names (with_names w xs) ys
unfolding with_names
with_names-append w xs ys = sym (append_assoc w xs ys)

pub with_names-none : (w : Names) → with_names w [] ≡ w
unfolding with_names
with_names-none w = append-nil w

pub with_names-from_none : (xs : Names) → with_names [] xs ≡ xs
unfolding with_names
with_names-from_none xs = refl

module _ (w : Names) where
  pub adds_literals : (d : ℕ) (first : Token) (others : List Token)
      → with_names w (literals_named d 0 (first ∷ others)) ≡ with_names (with_names w (named_as first (named.Literal d 0) ∷ [])) (literals_named d 1 others)
  unfolding literals_named
  adds_literals d first others = with_names-append w (named_as first (named.Literal d 0) ∷ []) (literals_from d 1 others)

  pub literals-drop : (d n : ℕ) (ts : List Token) (i : ℕ) (x : Token) → i < length ts
      → with_names w (literals_named d (i + n) (drop i ts))
      ≡ with_names (with_names w (named_as (get_or ts i x) (named.Literal d (i + n)) ∷ [])) (literals_named d (i + 1 + n) (drop (i + 1) ts))
  unfolding literals_named
  literals-drop d n ts i x h =
      let t = get_or ts i x in
      let next : i + n + 1 ≡ i + 1 + n = omega arith in
      ap (λ us. with_names w (literals_from d (i + n) us)) (drop_more ts i x h)
      ∙ with_names-append w (named_as t (named.Literal d (i + n)) ∷ []) (literals_from d (i + n + 1) (drop (i + 1) ts))
      ∙ ap (λ m. with_names (with_names w (named_as t (named.Literal d (i + n)) ∷ [])) (literals_from d m (drop (i + 1) ts))) next

  pub literals-end : (d n : ℕ) (ts : List Token) (i : ℕ) → length ts ≤ i → with_names w (literals_named d (i + n) (drop i ts)) ≡ w
  unfolding literals_named
  literals-end d n ts i h = ap (λ us. with_names w (literals_from d (i + n) us)) (drop_all i ts h) ∙ with_names-none w

  pub adds_enum : (d f : ℕ) (name first : Token) (others : List Token) (span : Span)
      → with_names w (names_in d f (decls.Enum name first others span)) ≡ with_names (with_names w (named_as name (named.Enum d) ∷ [])) (literals_named d 0 (first ∷ others))
  unfolding names_in literals_named
  adds_enum d f name first others span = with_names-append w (named_as name (named.Enum d) ∷ []) (literals_from d 0 (first ∷ others))

  pub adds_abstract : (d f : ℕ) (name : Token) (span : Span) → with_names w (names_in d f (decls.Abstract name span)) ≡ with_names w (named_as name (named.Abstract d) ∷ [])
  unfolding names_in
  adds_abstract d f name span = refl

  pub adds_subset : (d f : ℕ) (name : Token) (base : List ℕ) (span : Span) → with_names w (names_in d f (decls.Subset name base span)) ≡ with_names w (named_as name (named.Subset d) ∷ [])
  unfolding names_in
  adds_subset d f name base span = refl

  pub adds_defined : (d f : ℕ) (word : List ℕ) (name : Token) (first : DomainTree) (next : Option DomainTree) (span : Span)
      → with_names w (names_in d f (decls.Defined word name first next span)) ≡ with_names w (named_as name (named.Function f) ∷ [])
  unfolding names_in
  adds_defined d f word name first next span = refl

  pub adds_dynamic : (d f : ℕ) (word : List ℕ) (name : Token) (first : DomainTree) (next : Option DomainTree) (span : Span)
      → with_names w (names_in d f (decls.Dynamic word name first next span)) ≡ with_names w (named_as name (named.Function f) ∷ [])
  unfolding names_in
  adds_dynamic d f word name first next span = refl

  next-decl : (d f : ℕ) (x : DeclTree) (xs : List DeclTree)
      → with_names w (decl_names d f (x ∷ xs)) ≡ with_names (with_names w (names_in d f x)) (decl_names (domain_after d x) (function_after f x) xs)
  unfolding names_in
  next-decl d f (decls.Enum name first others span) xs = with_names-append w (named_as name (named.Enum d) ∷ literals_from d 0 (first ∷ others)) (decl_names (d + 1) f xs)
  next-decl d f (decls.Abstract name span) xs = with_names-append w (named_as name (named.Abstract d) ∷ []) (decl_names (d + 1) f xs)
  next-decl d f (decls.Subset name base span) xs = with_names-append w (named_as name (named.Subset d) ∷ []) (decl_names (d + 1) f xs)
  next-decl d f (decls.Defined word name first next span) xs = with_names-append w (named_as name (named.Function f) ∷ []) (decl_names d (f + 1) xs)
  next-decl d f (decls.Dynamic word name first next span) xs = with_names-append w (named_as name (named.Function f) ∷ []) (decl_names d (f + 1) xs)

  pub decls-drop : (d f : ℕ) (xs : List DeclTree) (i : ℕ) (e : DeclTree) → i < length xs
      → with_names w (decls_named d f (drop i xs))
      ≡ with_names (with_names w (names_in d f (get_or xs i e))) (decls_named (domain_after d (get_or xs i e)) (function_after f (get_or xs i e)) (drop (i + 1) xs))
  unfolding decls_named
  decls-drop d f xs i e h = ap (λ ys. with_names w (decl_names d f ys)) (drop_more xs i e h) ∙ next-decl d f (get_or xs i e) (drop (i + 1) xs)

  pub decls-end : (d f : ℕ) (xs : List DeclTree) (i : ℕ) → length xs ≤ i → with_names w (decls_named d f (drop i xs)) ≡ w
  unfolding decls_named
  decls-end d f xs i h = ap (λ ys. with_names w (decl_names d f ys)) (drop_all i xs h) ∙ with_names-none w

  pub adds_macro : (m : ℕ) (name : Token) (params : Option ParamsTree) (body : RuleTree) (span : Span)
      → with_names w (macro_in m (defs.Rule name params body span)) ≡ with_names w (named_as name (named.Macro m) ∷ [])
  unfolding macro_in
  adds_macro m name params body span = refl

  pub no_macro-interval : (m : ℕ) (name : Token) (from to : IntTree) (span : Span) → with_names w (macro_in m (defs.Interval name from to span)) ≡ w
  unfolding macro_in
  no_macro-interval m name from to span = with_names-none w

  pub no_macro-integers : (m : ℕ) (name : Token) (first : IntTree) (others : List IntTree) (span : Span) → with_names w (macro_in m (defs.Integers name first others span)) ≡ w
  unfolding macro_in
  no_macro-integers m name first others span = with_names-none w

  pub no_macro-function : (m : ℕ) (name : Token) (params : Option ParamsTree) (term : TermTree) (span : Span) → with_names w (macro_in m (defs.Function name params term span)) ≡ w
  unfolding macro_in
  no_macro-function m name params term span = with_names-none w

  pub no_macro-invariant : (m : ℕ) (name : Option Token) (first : Token) (others : List Token) (term : TermTree) (span : Span)
      → with_names w (macro_in m (defs.Invariant name first others term span)) ≡ w
  unfolding macro_in
  no_macro-invariant m name first others term span = with_names-none w

  next-macro : (m : ℕ) (x : DefTree) (xs : List DefTree) → with_names w (macro_names m (x ∷ xs)) ≡ with_names (with_names w (macro_in m x)) (macro_names (macro_after m x) xs)
  unfolding macro_in
  next-macro m (defs.Interval name from to span) xs = ap (λ v. with_names v (macro_names m xs)) (sym (with_names-none w))
  next-macro m (defs.Integers name first others span) xs = ap (λ v. with_names v (macro_names m xs)) (sym (with_names-none w))
  next-macro m (defs.Function name params term span) xs = ap (λ v. with_names v (macro_names m xs)) (sym (with_names-none w))
  next-macro m (defs.Rule name params body span) xs = with_names-append w (named_as name (named.Macro m) ∷ []) (macro_names (m + 1) xs)
  next-macro m (defs.Invariant name first others term span) xs = ap (λ v. with_names v (macro_names m xs)) (sym (with_names-none w))

  pub macros-drop : (m : ℕ) (xs : List DefTree) (i : ℕ) (e : DefTree) → i < length xs
      → with_names w (macros_named m (drop i xs)) ≡ with_names (with_names w (macro_in m (get_or xs i e))) (macros_named (macro_after m (get_or xs i e)) (drop (i + 1) xs))
  unfolding macros_named
  macros-drop m xs i e h = ap (λ ys. with_names w (macro_names m ys)) (drop_more xs i e h) ∙ next-macro m (get_or xs i e) (drop (i + 1) xs)

  pub macros-end : (m : ℕ) (xs : List DefTree) (i : ℕ) → length xs ≤ i → with_names w (macros_named m (drop i xs)) ≡ w
  unfolding macros_named
  macros-end m xs i h = ap (λ ys. with_names w (macro_names m ys)) (drop_all i xs h) ∙ with_names-none w

pub named-model : (tree : ModelTree)
    → with_names (with_names (with_names [] (decls_named 0 0 tree.decls)) (macros_named 0 tree.defs)) (named_as tree.rule_name named.Main ∷ []) ≡ names_of tree
unfolding with_names decls_named macros_named
named-model tree = refl

-- ---- numbers

pub few-next : (d f : ℕ) (xs : List DeclTree) (i : ℕ) (e : DeclTree) → i < length xs → AreFew d f (drop i xs)
    → AreFew (domain_after d (get_or xs i e)) (function_after f (get_or xs i e)) (drop (i + 1) xs)
few-next d f xs i e h k =
    let m = subst (AreFew d f) (drop_more xs i e h) k in
    record { domains = m.domains; functions = m.functions; small = m.small.1 }

pub few-small : (d f : ℕ) (xs : List DeclTree) (i : ℕ) (x : DeclTree) → i < length xs → x ≡ get_or xs i x → AreFew d f (drop i xs) → IsSmall x
few-small d f xs i x h e k = let m = subst (AreFew d f) (drop_more xs i x h) k in subst IsSmall (sym e) m.small.0

domain_after-le : (d : ℕ) (x : DeclTree) → d ≤ domain_after d x
domain_after-le d (decls.Enum name first others span) = omega arith
domain_after-le d (decls.Abstract name span) = omega arith
domain_after-le d (decls.Subset name base span) = omega arith
domain_after-le d (decls.Defined word name first next span) = omega arith
domain_after-le d (decls.Dynamic word name first next span) = omega arith

function_after-le : (f : ℕ) (x : DeclTree) → f ≤ function_after f x
function_after-le f (decls.Enum name first others span) = omega arith
function_after-le f (decls.Abstract name span) = omega arith
function_after-le f (decls.Subset name base span) = omega arith
function_after-le f (decls.Defined word name first next span) = omega arith
function_after-le f (decls.Dynamic word name first next span) = omega arith

macro_after-le : (m : ℕ) (x : DefTree) → m ≤ macro_after m x
macro_after-le m (defs.Interval name from to span) = omega arith
macro_after-le m (defs.Integers name first others span) = omega arith
macro_after-le m (defs.Function name params term span) = omega arith
macro_after-le m (defs.Rule name params body span) = omega arith
macro_after-le m (defs.Invariant name first others term span) = omega arith

pub domains_after-le : (d : ℕ) (xs : List DeclTree) → d ≤ domains_after d xs
domains_after-le d [] = omega arith
domains_after-le d (x ∷ xs) = omega (arith, domain_after-le d x, domains_after-le (domain_after d x) xs)

pub functions_after-le : (f : ℕ) (xs : List DeclTree) → f ≤ functions_after f xs
functions_after-le f [] = omega arith
functions_after-le f (x ∷ xs) = omega (arith, function_after-le f x, functions_after-le (function_after f x) xs)

pub macros_after-le : (m : ℕ) (xs : List DefTree) → m ≤ macros_after m xs
macros_after-le m [] = omega arith
macros_after-le m (x ∷ xs) = omega (arith, macro_after-le m x, macros_after-le (macro_after m x) xs)

pub domains-next : (d : ℕ) (xs : List DeclTree) (i : ℕ) (e : DeclTree) → i < length xs → domains_after d (drop i xs) ≡ domains_after (domain_after d (get_or xs i e)) (drop (i + 1) xs)
domains-next d xs i e h = ap (domains_after d) (drop_more xs i e h)

pub macros-next : (m : ℕ) (xs : List DefTree) (i : ℕ) (e : DefTree) → i < length xs → macros_after m (drop i xs) ≡ macros_after (macro_after m (get_or xs i e)) (drop (i + 1) xs)
macros-next m xs i e h = ap (macros_after m) (drop_more xs i e h)

pub pushed_as : (w new : Names) (t : Token) (n : Named) (x : List ℕ) → new ≡ w ++ (x, n) ∷ [] → x ≡ text_of t → new ≡ with_names w (named_as t n ∷ [])
unfolding with_names
pushed_as w new t n x e f = e ∙ ap (λ y. w ++ (y, n) ∷ []) f

pub few-domain : (d f : ℕ) (xs : List DeclTree) → AreFew d f xs → d ≤ 256
few-domain d f xs h = omega (arith, domains_after-le d xs, h.domains)

pub few-function : (d f : ℕ) (xs : List DeclTree) → AreFew d f xs → f ≤ 256
few-function d f xs h = omega (arith, functions_after-le f xs, h.functions)

pub few-macro : (m : ℕ) (xs : List DefTree) → macros_after m xs ≤ 256 → m ≤ 256
few-macro m xs h = omega (arith, macros_after-le m xs, h)

pub few-infos : (d : ℕ) (xs : List DeclTree) → domains_after d xs ≤ 256 → d ≤ 256
few-infos d xs h = omega (arith, domains_after-le d xs, h)

pub decls-preserved : (w v all : Names) (d f e g : ℕ) (xs : List DeclTree) (i : ℕ) (x : DeclTree) → i < length xs → x ≡ get_or xs i x
    → v ≡ with_names w (names_in d f x) → e ≡ domain_after d x → g ≡ function_after f x
    → (with_names w (decls_named d f (drop i xs)) ≡ all) × AreFew d f (drop i xs)
    → (with_names v (decls_named e g (drop (i + 1) xs)) ≡ all) × AreFew e g (drop (i + 1) xs)
decls-preserved w v all d f e g xs i x h is n de fe inv =
    let rest = drop (i + 1) xs in
    let ed : e ≡ domain_after d (get_or xs i x) = de ∙ ap (domain_after d) is in
    let ef : g ≡ function_after f (get_or xs i x) = fe ∙ ap (function_after f) is in
    let nv : v ≡ with_names w (names_in d f (get_or xs i x)) = n ∙ ap (λ y. with_names w (names_in d f y)) is in
    let few = few-next d f xs i x h inv.1 in (
      (λ j. with_names (nv j) (decls_named (ed j) (ef j) rest)) ∙ sym (decls-drop w d f xs i x h) ∙ inv.0,
      subst (λ (k : ℕ). AreFew k g rest) (sym ed) (subst (λ (k : ℕ). AreFew (domain_after d (get_or xs i x)) k rest) (sym ef) few),
    )

pub macros-preserved : (w v all : Names) (m n : ℕ) (xs : List DefTree) (i : ℕ) (x : DefTree) → i < length xs → x ≡ get_or xs i x
    → v ≡ with_names w (macro_in m x) → n ≡ macro_after m x
    → (with_names w (macros_named m (drop i xs)) ≡ all) × (macros_after m (drop i xs) ≤ 256)
    → (with_names v (macros_named n (drop (i + 1) xs)) ≡ all) × (macros_after n (drop (i + 1) xs) ≤ 256)
macros-preserved w v all m n xs i x h is nv e inv =
    let rest = drop (i + 1) xs in
    let en : n ≡ macro_after m (get_or xs i x) = e ∙ ap (macro_after m) is in
    let ev : v ≡ with_names w (macro_in m (get_or xs i x)) = nv ∙ ap (λ y. with_names w (macro_in m y)) is in (
      (λ j. with_names (ev j) (macros_named (en j) rest)) ∙ sym (macros-drop w m xs i x h) ∙ inv.0,
      subst (λ (k : ℕ). k ≤ 256) (macros-next m xs i x h ∙ ap (λ k. macros_after k rest) (sym en)) inv.1,
    )

pub ruleset literals_steps = (adds_literals, literals-drop, literals-end)

pub ruleset decl_steps = (adds_enum, adds_abstract, adds_subset, adds_defined, adds_dynamic)

pub ruleset decls_steps = (decls-end, decls-preserved, few-small, few-domain, few-function)

pub ruleset macro_steps = (adds_macro, no_macro-interval, no_macro-integers, no_macro-function, no_macro-invariant)

pub ruleset macros_steps = (macros-end, macros-preserved, few-macro)

pub ruleset names_steps = (named-model, with_names-from_none)
