-- A text that the first pass takes declares few domains, functions and macro rules.
use Rattle.std.proofs.Common.{◌≡◌, ℕ, ◌+◌, ◌==◌, ◌≤◌, Bool, true, false, List, [], ◌∷◌, ◌++◌, length, map, refl, sym, ap, ◌∙◌, arith, if◌then◌else◌}
use Rattle.std.proofs.lemmas.List.{append_assoc}
use Rattle.std.proofs.lemmas.Bool.{eqb-false}
use Rattle.asm_syntax.specs.declared.token.Span.{Span}
use Rattle.asm_syntax.specs.declared.token.Token.{Token}
use Rattle.asm_syntax.specs.declared.tree.DeclTree.{DeclTree}
use Rattle.asm_syntax.specs.declared.tree.DeclTree.TheVariants as decls
use Rattle.asm_syntax.specs.declared.tree.DefTree.{DefTree}
use Rattle.asm_syntax.specs.declared.tree.DefTree.TheVariants as defs
use Rattle.asm_syntax.specs.declared.tree.ModelTree.{ModelTree}
use Rattle.asm_program.specs.declared.type_refusal.Limited.{Limited}
use Rattle.asm_program.specs.declared.type_refusal.Limited.TheVariants as limited
use Rattle.asm_program.specs.declared.type_refusal.TypeRefusal.{TypeRefusal}
use Rattle.asm_program.specs.declared.type_refusal.TypeRefusal.TheVariants.{Limit}
use Rattle.asm_program.specs.Items.{Item, Items, Counts, Declares, DeclaresInvariant, Exceeds, Repeats, NamesDomain, NeedsIntegers, GivesInterval, GivesIntegers, NamesFunction, NamesMacro, declares, literal_items, decl_items, defs_items, next_items, domain_items, params_items, rule_items, term_items, invariant_items, start_items, starts_of, joined, model_items}
use Rattle.asm_program.specs.NamesPass.{Seen, nothing_seen, with_one, counted, number_of, refused_at, seen_after, names_refused_from, names_refused}
use Rattle.asm_names.specs.Numbers.{AreFew, IsSmall, domain_after, function_after, macros_after}

abbrev seen_all : Seen → Items → Seen
seen_all s [] = s
seen_all s (x ∷ xs) = seen_all (seen_after s x) xs

first_none : (xs ys : List TypeRefusal) → xs ++ ys ≡ [] → xs ≡ []
first_none [] ys h = refl
first_none (x ∷ xs) ys h = absurd (cc h)

last_none : (xs ys : List TypeRefusal) → xs ++ ys ≡ [] → ys ≡ []
last_none [] ys h = h
last_none (x ∷ xs) ys h = absurd (cc h)

refused-append : (s : Seen) (xs ys : Items) → names_refused_from s (xs ++ ys) ≡ names_refused_from s xs ++ names_refused_from (seen_all s xs) ys
refused-append s [] ys = refl
refused-append s (x ∷ xs) ys =
    ap (λ zs. refused_at s x ++ zs) (refused-append (seen_after s x) xs ys)
    ∙ sym (append_assoc (refused_at s x) (names_refused_from (seen_after s x) xs) (names_refused_from (seen_all (seen_after s x) xs) ys))

first_taken : (s : Seen) (xs ys : Items) → names_refused_from s (xs ++ ys) ≡ [] → names_refused_from s xs ≡ []
first_taken s xs ys h = first_none (names_refused_from s xs) (names_refused_from (seen_all s xs) ys) (sym (refused-append s xs ys) ∙ h)

last_taken : (s : Seen) (xs ys : Items) → names_refused_from s (xs ++ ys) ≡ [] → names_refused_from (seen_all s xs) ys ≡ []
last_taken s xs ys h = last_none (names_refused_from s xs) (names_refused_from (seen_all s xs) ys) (sym (refused-append s xs ys) ∙ h)

-- ---- counts grow, and stay within their limits

record Grows (s t : Seen) : Type 0 where
  domains : s.domains ≤ t.domains
  functions : s.functions ≤ t.functions
  macros : s.macros ≤ t.macros

record Within (s : Seen) : Type 0 where
  domains : s.domains ≤ 256
  functions : s.functions ≤ 256
  macros : s.macros ≤ 256

same_counts : (s : Seen) → Grows s s
same_counts s = record { domains = omega arith; functions = omega arith; macros = omega arith }

then_grows : (s t u : Seen) → Grows s t → Grows t u → Grows s u
then_grows s t u a b = record {
  domains = omega (arith, a.domains, b.domains);
  functions = omega (arith, a.functions, b.functions);
  macros = omega (arith, a.macros, b.macros);
}

one-grows : (kind : Limited) (s : Seen) → Grows s (with_one kind s)
one-grows limited.Domains s = record { domains = omega arith; functions = omega arith; macros = omega arith }
one-grows limited.Functions s = record { domains = omega arith; functions = omega arith; macros = omega arith }
one-grows limited.Macros s = record { domains = omega arith; functions = omega arith; macros = omega arith }
one-grows limited.Invariants s = record { domains = omega arith; functions = omega arith; macros = omega arith }
one-grows limited.Parts s = same_counts s
one-grows limited.Members s = same_counts s
one-grows limited.Chars s = same_counts s
one-grows limited.Product s = same_counts s
one-grows limited.Powerset s = same_counts s
one-grows limited.Depth s = same_counts s

after-grows : (s : Seen) (x : Item) → Grows s (seen_after s x)
after-grows s (Counts kind span) = one-grows kind s
after-grows s (Declares name span) = record { domains = omega arith; functions = omega arith; macros = omega arith }
after-grows s (DeclaresInvariant name span) = record { domains = omega arith; functions = omega arith; macros = omega arith }
after-grows s (Exceeds kind n span) = same_counts s
after-grows s (Repeats t) = same_counts s
after-grows s (NamesDomain t) = same_counts s
after-grows s (NeedsIntegers t span) = same_counts s
after-grows s (GivesInterval t from to) = same_counts s
after-grows s (GivesIntegers t is) = same_counts s
after-grows s (NamesFunction t) = same_counts s
after-grows s (NamesMacro t) = same_counts s

all-grows : (s : Seen) (xs : Items) → Grows s (seen_all s xs)
all-grows s [] = same_counts s
all-grows s (x ∷ xs) = then_grows s (seen_after s x) (seen_all (seen_after s x) xs) (after-grows s x) (all-grows (seen_after s x) xs)

not_past : (n : ℕ) (kind : Limited) (span : Span) → n ≤ 256 → (if n + 1 == 257 then Limit kind (n + 1) span ∷ [] else []) ≡ [] → n + 1 ≤ 256
not_past n kind span h e = by (n + 1 == 257) refl
  where
    by : (b : Bool) → (n + 1 == 257) ≡ b → n + 1 ≤ 256
    by true t = let r : Limit kind (n + 1) span ∷ [] ≡ [] = ap (λ c. if c then Limit kind (n + 1) span ∷ [] else []) (sym t) ∙ e in absurd (cc r)
    by false t = omega (arith, eqb-false (n + 1) 257 t)

one-within : (kind : Limited) (span : Span) (s : Seen) → Within s → counted kind (number_of kind s) span ≡ [] → Within (with_one kind s)
one-within limited.Domains span s w e = record { domains = not_past s.domains limited.Domains span w.domains e; functions = w.functions; macros = w.macros }
one-within limited.Functions span s w e = record { domains = w.domains; functions = not_past s.functions limited.Functions span w.functions e; macros = w.macros }
one-within limited.Macros span s w e = record { domains = w.domains; functions = w.functions; macros = not_past s.macros limited.Macros span w.macros e }
one-within limited.Invariants span s w e = record { domains = w.domains; functions = w.functions; macros = w.macros }
one-within limited.Parts span s w e = w
one-within limited.Members span s w e = w
one-within limited.Chars span s w e = w
one-within limited.Product span s w e = w
one-within limited.Powerset span s w e = w
one-within limited.Depth span s w e = w

after-within : (s : Seen) (x : Item) → Within s → refused_at s x ≡ [] → Within (seen_after s x)
after-within s (Counts kind span) w e = one-within kind span s w e
after-within s (Declares name span) w e = record { domains = w.domains; functions = w.functions; macros = w.macros }
after-within s (DeclaresInvariant name span) w e = record { domains = w.domains; functions = w.functions; macros = w.macros }
after-within s (Exceeds kind n span) w e = w
after-within s (Repeats t) w e = w
after-within s (NamesDomain t) w e = w
after-within s (NeedsIntegers t span) w e = w
after-within s (GivesInterval t from to) w e = w
after-within s (GivesIntegers t is) w e = w
after-within s (NamesFunction t) w e = w
after-within s (NamesMacro t) w e = w

all-within : (s : Seen) (xs : Items) → Within s → names_refused_from s xs ≡ [] → Within (seen_all s xs)
all-within s [] w e = w
all-within s (x ∷ xs) w e =
    all-within (seen_after s x) xs
    (after-within s x w (first_none (refused_at s x) (names_refused_from (seen_after s x) xs) e))
    (last_none (refused_at s x) (names_refused_from (seen_after s x) xs) e)

-- ---- literals

literals-next : (s : Seen) (n : ℕ) (t : Token) (ts : List Token) (b : Bool) → (n == 257) ≡ b
    → names_refused_from s ((if n == 257 then Exceeds limited.Members 257 t.span ∷ [] else []) ++ literal_items (n + 1) ts) ≡ [] → n ≤ 257
    → (names_refused_from s (literal_items (n + 1) ts) ≡ [] → n + 1 ≤ 257 → n + 1 + length ts ≤ 257) → n + length (t ∷ ts) ≤ 257
literals-next s n t ts true q e h ih =
    let r : names_refused_from s ((if true then Exceeds limited.Members 257 t.span ∷ [] else []) ++ literal_items (n + 1) ts) ≡ []
    = ap (λ (c : Bool). names_refused_from s ((if c then Exceeds limited.Members 257 t.span ∷ [] else []) ++ literal_items (n + 1) ts)) (sym q) ∙ e in
    absurd (cc r)
literals-next s n t ts false q e h ih =
    let r : names_refused_from s (literal_items (n + 1) ts) ≡ []
    = ap (λ (c : Bool). names_refused_from s ((if c then Exceeds limited.Members 257 t.span ∷ [] else []) ++ literal_items (n + 1) ts)) (sym q) ∙ e in
    let k : n + 1 ≤ 257 = omega (arith, eqb-false n 257 q) in
    let l : n + 1 + length ts ≤ 257 = ih r k in
    omega (arith, l)

few-literals : (s : Seen) (n : ℕ) (ts : List Token) → names_refused_from s (literal_items n ts) ≡ [] → n ≤ 257 → n + length ts ≤ 257
few-literals s n [] e h = omega arith
few-literals s n (t ∷ ts) e h =
    let more = (if n == 257 then Exceeds limited.Members 257 t.span ∷ [] else []) ++ literal_items (n + 1) ts in
    literals-next (seen_after s (declares t)) n t ts (n == 257) refl (last_none (refused_at s (declares t)) (names_refused_from (seen_after s (declares t)) more) e) h
    (λ r k. few-literals (seen_after s (declares t)) (n + 1) ts r k)

-- ---- declarations

decl-grows : (s : Seen) (d f : ℕ) (x : DeclTree) → d ≤ s.domains → f ≤ s.functions
    → (domain_after d x ≤ (seen_all s (decl_items x)).domains) × (function_after f x ≤ (seen_all s (decl_items x)).functions)
decl-grows s d f (decls.Enum name first others span) h k =
    let g = all-grows (with_one limited.Domains s) (declares name ∷ literal_items 1 (first ∷ others)) in
    (omega (arith, g.domains, h), omega (arith, g.functions, k))
decl-grows s d f (decls.Abstract name span) h k =
    let g = all-grows (with_one limited.Domains s) (declares name ∷ []) in (omega (arith, g.domains, h), omega (arith, g.functions, k))
decl-grows s d f (decls.Subset name base span) h k =
    let g = all-grows (with_one limited.Domains s) (NeedsIntegers name span ∷ declares name ∷ []) in
    (omega (arith, g.domains, h), omega (arith, g.functions, k))
decl-grows s d f (decls.Defined word name first next span) h k =
    let g = all-grows (with_one limited.Functions s) (declares name ∷ (domain_items first ++ next_items next)) in
    (omega (arith, g.domains, h), omega (arith, g.functions, k))
decl-grows s d f (decls.Dynamic word name first next span) h k =
    let g = all-grows (with_one limited.Functions s) (declares name ∷ (domain_items first ++ next_items next)) in
    (omega (arith, g.domains, h), omega (arith, g.functions, k))

small_from : (n : ℕ) → 1 + (1 + n) ≤ 257 → n ≤ 255
small_from n h = omega (arith, h)

decl-small : (s : Seen) (x : DeclTree) → names_refused_from s (decl_items x) ≡ [] → IsSmall x
decl-small s (decls.Enum name first others span) e =
    let t = with_one limited.Domains s in
    let u = seen_after t (declares name) in
    let lits = literal_items 1 (first ∷ others) in
    let more = last_none (refused_at s (Counts limited.Domains span)) (names_refused_from t (declares name ∷ lits)) e in
    let rest = last_none (refused_at t (declares name)) (names_refused_from u lits) more in
    let l : 1 + length (first ∷ others) ≤ 257 = few-literals u 1 (first ∷ others) rest (omega arith) in
    omega (arith, l)
decl-small s (decls.Abstract name span) e = tt
decl-small s (decls.Subset name base span) e = tt
decl-small s (decls.Defined word name first next span) e = tt
decl-small s (decls.Dynamic word name first next span) e = tt

few-decls : (s : Seen) (d f : ℕ) (ds : List DeclTree) → d ≤ s.domains → f ≤ s.functions → Within s → names_refused_from s (joined (map decl_items ds)) ≡ [] → AreFew d f ds
few-decls s d f [] h k w e = record { domains = omega (arith, h, w.domains); functions = omega (arith, k, w.functions); small = tt }
few-decls s d f (x ∷ xs) h k w e =
    let rest = joined (map decl_items xs) in
    let here = first_taken s (decl_items x) rest e in
    let next = last_taken s (decl_items x) rest e in
    let g = decl-grows s d f x h k in
    let more = few-decls (seen_all s (decl_items x)) (domain_after d x) (function_after f x) xs g.0 g.1 (all-within s (decl_items x) w here) next in
    record { domains = more.domains; functions = more.functions; small = (decl-small s x here, more.small) }

-- ---- definitions

few-defs : (s : Seen) (m k : ℕ) (ds : List DefTree) → m ≤ s.macros → Within s → names_refused_from s (defs_items k ds) ≡ [] → macros_after m ds ≤ 256
few-defs s m k [] h w e = omega (arith, h, w.macros)
few-defs s m k (defs.Interval name from to span ∷ ds) h w e =
    few-defs s m k ds h w e
few-defs s m k (defs.Integers name first others span ∷ ds) h w e =
    few-defs s m k ds h w e
few-defs s m k (defs.Function name params term span ∷ ds) h w e =
    let part = params_items params ++ term_items term in
    let g = all-grows s part in
    few-defs (seen_all s part) m k ds (omega (arith, h, g.macros)) (all-within s part w (first_taken s part (defs_items k ds) e)) (last_taken s part (defs_items k ds) e)
few-defs s m k (defs.Rule name params body span ∷ ds) h w e =
    let inner = declares name ∷ (params_items params ++ rule_items body) in
    let part = Counts limited.Macros span ∷ inner in
    let g = all-grows (with_one limited.Macros s) inner in
    few-defs (seen_all s part) (m + 1) k ds (omega (arith, h, g.macros)) (all-within s part w (first_taken s part (defs_items k ds) e)) (last_taken s part (defs_items k ds) e)
few-defs s m k (defs.Invariant name first others term span ∷ ds) h w e =
    let part = invariant_items k name span ++ term_items term in
    let g = all-grows s part in
    few-defs (seen_all s part) m (k + 1) ds (omega (arith, h, g.macros)) (all-within s part w (first_taken s part (defs_items (k + 1) ds) e))
    (last_taken s part (defs_items (k + 1) ds) e)

-- ---- models

nothing-within : Within nothing_seen
nothing-within = record { domains = omega arith; functions = omega arith; macros = omega arith }

module _ (tree : ModelTree) (e : names_refused (model_items tree) ≡ []) where
  abbrev ds : Items
  ds = joined (map decl_items tree.decls)

  abbrev es : Items
  es = defs_items 1 tree.defs

  abbrev main : Items
  main = Counts limited.Macros tree.main ∷ declares tree.rule_name ∷ rule_items tree.rule

  both : names_refused_from nothing_seen (joined (map decl_items tree.decls) ++ defs_items 1 tree.defs) ≡ []
  both =
      first_taken nothing_seen (ds ++ es) main
      (first_taken nothing_seen (ds ++ es ++ main) (start_items (starts_of tree.init)) e)

  pub few-model : AreFew 0 0 tree.decls
  few-model =
      few-decls nothing_seen 0 0 tree.decls (omega arith) (omega arith) nothing-within
      (first_taken nothing_seen (joined (map decl_items tree.decls)) (defs_items 1 tree.defs) both)

  pub few-model_macros : macros_after 0 tree.defs ≤ 256
  few-model_macros =
      few-defs (seen_all nothing_seen (joined (map decl_items tree.decls))) 0 1 tree.defs (omega arith)
      (all-within nothing_seen (joined (map decl_items tree.decls)) nothing-within
      (first_taken nothing_seen (joined (map decl_items tree.decls)) (defs_items 1 tree.defs) both))
      (last_taken nothing_seen (joined (map decl_items tree.decls)) (defs_items 1 tree.defs) both)

pub ruleset few_steps = (few-model, few-model_macros)
