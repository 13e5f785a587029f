-- The passes over a text, item by item.
use Rattle.std.proofs.Common.{◌≡◌, ℕ, ◌+◌, ◌<◌, ◌≤◌, ℤ, Bool, List, [], ◌∷◌, ◌++◌, length, map, drop, get_or, Ok, Err, Result, refl, subst}
use Rattle.asm_syntax.specs.declared.tree.IntTree.{IntTree}
use Rattle.asm_syntax.specs.declared.tree.DeclTree.{DeclTree}
use Rattle.asm_syntax.specs.declared.tree.DefTree.{DefTree}
use Rattle.asm_syntax.specs.declared.tree.DefTree.TheVariants as defs
use Rattle.asm_syntax.specs.declared.tree.StartTree.{StartTree}
use Rattle.asm_syntax.specs.Marks.{text_of}
use Rattle.asm_program.specs.Items.{Item as SomeItem, Counts, Declares, DeclaresInvariant, Exceeds, Repeats, NamesDomain, NeedsIntegers, GivesInterval, GivesIntegers, NamesFunction, NamesMacro}
use Rattle.asm_program.specs.Signatures.{Names, Header}
use Rattle.asm_program.specs.NamesPass.{Seen, refused_at, seen_after, names_refused_from}
use Rattle.asm_program.specs.DomainsPass.{one_more, mismatched, with_int, int_of, integers_refused, domains_refused_from}
use Rattle.asm_program.specs.FunctionsPass.{definition_refused, definitions_refused, starts_refused, is_dynamic}
use Rattle.asm_program.specs.declared.type_refusal.TypeRefusal.{TypeRefusal}
use Rattle.asm_program.specs.Checks.{IsFirst, Checks}
use Rattle.asm_items.specs.declared.item.Item.{Item}
use Rattle.asm_items.specs.Views.{item_of}
use Rattle.asm_names.specs.Passes.{domain_refused_at, done_after, definition_refused_at, defined_after, missing_in, missing_from}
use Rattle.asm_scope.proofs.Checking.{loop-err, loop-ok, loop-end}

-- what a call answered
module _ {A : Type 0} (P : A → Type 0) (r : Result A TypeRefusal) (xs : List TypeRefusal) where
  pub err-of : (why : TypeRefusal) → r ≡ Err why → Checks r xs P → IsFirst why xs
  err-of why e c = subst (λ (x : Result A TypeRefusal). Checks x xs P) e c

  pub ok-of : (v : A) → r ≡ Ok v → Checks r xs P → (xs ≡ []) × P v
  ok-of v e c = subst (λ (x : Result A TypeRefusal). Checks x xs P) e c

-- ---- names

module _ (s : Seen) (xs : List Item) (i : ℕ) (all : List TypeRefusal) where
  pub names-err : (d : Item) (why : TypeRefusal) → i < length xs → names_refused_from s (map item_of (drop i xs)) ≡ all
      → IsFirst why (refused_at s (item_of (get_or xs i d))) → IsFirst why all
  names-err d why h e f =
      loop-err (λ s x. refused_at s (item_of x)) (λ s x. seen_after s (item_of x)) (λ s xs. names_refused_from s (map item_of xs)) (λ s. refl) (λ s x xs. refl) why s xs i d all h e f

  pub names-ok : (d : Item) (t : Seen) → i < length xs → names_refused_from s (map item_of (drop i xs)) ≡ all
      → refused_at s (item_of (get_or xs i d)) ≡ [] → t ≡ seen_after s (item_of (get_or xs i d)) → names_refused_from t (map item_of (drop (i + 1) xs)) ≡ all
  names-ok d t h e f g =
      loop-ok (λ s x. refused_at s (item_of x)) (λ s x. seen_after s (item_of x)) (λ s xs. names_refused_from s (map item_of xs)) (λ s. refl) (λ s x xs. refl) s t xs i d all h e f g

  pub names-end : length xs ≤ i → names_refused_from s (map item_of (drop i xs)) ≡ all → all ≡ []
  names-end h e =
      loop-end (λ s x. refused_at s (item_of x)) (λ s x. seen_after s (item_of x)) (λ s xs. names_refused_from s (map item_of xs)) (λ s. refl) (λ s x xs. refl) s xs i all h e

-- ---- integers

module _ (natural : Bool) (s : List ℤ) (xs : List IntTree) (i : ℕ) (all : List TypeRefusal) where
  pub integers-err : (d : IntTree) (why : TypeRefusal) → i < length xs → integers_refused natural s (drop i xs) ≡ all
      → IsFirst why (one_more s (get_or xs i d) ++ mismatched natural (get_or xs i d)) → IsFirst why all
  integers-err d why h e f =
      loop-err (λ s x. one_more s x ++ mismatched natural x) (λ s x. with_int s (int_of x)) (integers_refused natural) (λ s. refl) (λ s x xs. refl) why s xs i d all h e f

  pub integers-ok : (d : IntTree) (t : List ℤ) → i < length xs → integers_refused natural s (drop i xs) ≡ all
      → one_more s (get_or xs i d) ++ mismatched natural (get_or xs i d) ≡ [] → t ≡ with_int s (int_of (get_or xs i d)) → integers_refused natural t (drop (i + 1) xs) ≡ all
  integers-ok d t h e f g =
      loop-ok (λ s x. one_more s x ++ mismatched natural x) (λ s x. with_int s (int_of x)) (integers_refused natural) (λ s. refl) (λ s x xs. refl) s t xs i d all h e f g

  pub integers-end : length xs ≤ i → integers_refused natural s (drop i xs) ≡ all → all ≡ []
  integers-end h e =
      loop-end (λ s x. one_more s x ++ mismatched natural x) (λ s x. with_int s (int_of x)) (integers_refused natural) (λ s. refl) (λ s x xs. refl) s xs i all h e

-- ---- domains

module _ (ds : List DeclTree) (names : Names) (given : List (List ℕ)) where
  domains-cons : (s : List (List ℕ)) (x : SomeItem) (xs : List SomeItem)
      → domains_refused_from ds names given s (x ∷ xs) ≡ domain_refused_at ds names given s x ++ domains_refused_from ds names given (done_after s x) xs
  domains-cons s (Counts kind span) xs = refl
  domains-cons s (Declares name span) xs = refl
  domains-cons s (DeclaresInvariant name span) xs = refl
  domains-cons s (Exceeds kind n span) xs = refl
  domains-cons s (Repeats t) xs = refl
  domains-cons s (NamesDomain t) xs = refl
  domains-cons s (NeedsIntegers t span) xs = refl
  domains-cons s (GivesInterval t from to) xs = refl
  domains-cons s (GivesIntegers t is) xs = refl
  domains-cons s (NamesFunction t) xs = refl
  domains-cons s (NamesMacro t) xs = refl

  module _ (s : List (List ℕ)) (xs : List Item) (i : ℕ) (all : List TypeRefusal) where
    pub domains-err : (d : Item) (why : TypeRefusal) → i < length xs → domains_refused_from ds names given s (map item_of (drop i xs)) ≡ all
        → IsFirst why (domain_refused_at ds names given s (item_of (get_or xs i d))) → IsFirst why all
    domains-err d why h e f =
        loop-err (λ s x. domain_refused_at ds names given s (item_of x)) (λ s x. done_after s (item_of x)) (λ s xs. domains_refused_from ds names given s (map item_of xs)) (λ s. refl)
        (λ s x xs. domains-cons s (item_of x) (map item_of xs)) why s xs i d all h e f

    pub domains-ok : (d : Item) (t : List (List ℕ)) → i < length xs → domains_refused_from ds names given s (map item_of (drop i xs)) ≡ all
        → domain_refused_at ds names given s (item_of (get_or xs i d)) ≡ [] → t ≡ done_after s (item_of (get_or xs i d))
        → domains_refused_from ds names given t (map item_of (drop (i + 1) xs)) ≡ all
    domains-ok d t h e f g =
        loop-ok (λ s x. domain_refused_at ds names given s (item_of x)) (λ s x. done_after s (item_of x)) (λ s xs. domains_refused_from ds names given s (map item_of xs)) (λ s. refl)
        (λ s x xs. domains-cons s (item_of x) (map item_of xs)) s t xs i d all h e f g

    pub domains-end : length xs ≤ i → domains_refused_from ds names given s (map item_of (drop i xs)) ≡ all → all ≡ []
    domains-end h e =
        loop-end (λ s x. domain_refused_at ds names given s (item_of x)) (λ s x. done_after s (item_of x)) (λ s xs. domains_refused_from ds names given s (map item_of xs)) (λ s. refl)
        (λ s x xs. domains-cons s (item_of x) (map item_of xs)) s xs i all h e

-- ---- functions

module _ (names : Names) (functions : List Header) where
  definitions-cons : (s : List (List ℕ)) (x : DefTree) (xs : List DefTree)
      → definitions_refused [] names functions s (x ∷ xs) ≡ definition_refused_at [] names functions s x ++ definitions_refused [] names functions (defined_after s x) xs
  definitions-cons s (defs.Interval name from to span) xs = refl
  definitions-cons s (defs.Integers name first others span) xs = refl
  definitions-cons s (defs.Function name params term span) xs = refl
  definitions-cons s (defs.Rule name params body span) xs = refl
  definitions-cons s (defs.Invariant name first others term span) xs = refl

  module _ (s : List (List ℕ)) (xs : List DefTree) (i : ℕ) (all : List TypeRefusal) where
    pub definitions-err : (d : DefTree) (why : TypeRefusal) → i < length xs → definitions_refused [] names functions s (drop i xs) ≡ all
        → IsFirst why (definition_refused_at [] names functions s (get_or xs i d)) → IsFirst why all
    definitions-err d why h e f = loop-err (definition_refused_at [] names functions) defined_after (definitions_refused [] names functions) (λ s. refl) definitions-cons why s xs i d all h e f

    pub definitions-ok : (d : DefTree) (t : List (List ℕ)) → i < length xs → definitions_refused [] names functions s (drop i xs) ≡ all
        → definition_refused_at [] names functions s (get_or xs i d) ≡ [] → t ≡ defined_after s (get_or xs i d) → definitions_refused [] names functions t (drop (i + 1) xs) ≡ all
    definitions-ok d t h e f g = loop-ok (definition_refused_at [] names functions) defined_after (definitions_refused [] names functions) (λ s. refl) definitions-cons s t xs i d all h e f g

    pub definitions-end : length xs ≤ i → definitions_refused [] names functions s (drop i xs) ≡ all → all ≡ []
    definitions-end h e = loop-end (definition_refused_at [] names functions) defined_after (definitions_refused [] names functions) (λ s. refl) definitions-cons s xs i all h e

  abbrev start_refused_at : List (List ℕ) → StartTree → List TypeRefusal
  start_refused_at s x = definition_refused [] names functions s (λ h. is_dynamic h.kind) x.function

  module _ (s : List (List ℕ)) (xs : List StartTree) (i : ℕ) (all : List TypeRefusal) where
    pub starts-err : (d : StartTree) (why : TypeRefusal) → i < length xs → starts_refused [] names functions s (drop i xs) ≡ all
        → IsFirst why (start_refused_at s (get_or xs i d)) → IsFirst why all
    starts-err d why h e f = loop-err start_refused_at (λ s x. text_of x.function ∷ s) (starts_refused [] names functions) (λ s. refl) (λ s x xs. refl) why s xs i d all h e f

    pub starts-ok : (d : StartTree) (t : List (List ℕ)) → i < length xs → starts_refused [] names functions s (drop i xs) ≡ all
        → start_refused_at s (get_or xs i d) ≡ [] → t ≡ text_of (get_or xs i d).function ∷ s → starts_refused [] names functions t (drop (i + 1) xs) ≡ all
    starts-ok d t h e f g = loop-ok start_refused_at (λ s x. text_of x.function ∷ s) (starts_refused [] names functions) (λ s. refl) (λ s x xs. refl) s t xs i d all h e f g

    pub starts-end : length xs ≤ i → starts_refused [] names functions s (drop i xs) ≡ all → all ≡ []
    starts-end h e = loop-end start_refused_at (λ s x. text_of x.function ∷ s) (starts_refused [] names functions) (λ s. refl) (λ s x xs. refl) s xs i all h e

module _ (defined : List (List ℕ)) (names : Names) (xs : List DeclTree) (i : ℕ) (all : List TypeRefusal) where
  pub missing-err : (d : DeclTree) (why : TypeRefusal) → i < length xs → missing_from defined names (drop i xs) ≡ all
      → IsFirst why (missing_in defined names (get_or xs i d)) → IsFirst why all
  missing-err d why h e f =
      loop-err {S = Unit {0}} (λ s x. missing_in defined names x) (λ s x. s) (λ s xs. missing_from defined names xs) (λ s. refl) (λ s x xs. refl) why tt xs i d all h e f

  pub missing-ok : (d : DeclTree) → i < length xs → missing_from defined names (drop i xs) ≡ all
      → missing_in defined names (get_or xs i d) ≡ [] → missing_from defined names (drop (i + 1) xs) ≡ all
  missing-ok d h e f =
      loop-ok {S = Unit {0}} (λ s x. missing_in defined names x) (λ s x. s) (λ s xs. missing_from defined names xs) (λ s. refl) (λ s x xs. refl) tt tt xs i d all h e f refl

  pub missing-end : length xs ≤ i → missing_from defined names (drop i xs) ≡ all → all ≡ []
  missing-end h e = loop-end {S = Unit {0}} (λ s x. missing_in defined names x) (λ s x. s) (λ s xs. missing_from defined names xs) (λ s. refl) (λ s x xs. refl) tt xs i all h e

pub ruleset domains_steps = (domains-ok, domains-end)

pub ruleset definitions_steps = (definitions-ok, definitions-end)

pub ruleset starts_steps = (starts-ok, starts-end)

pub ruleset names_steps = (names-ok, names-end)

pub ruleset integers_steps = (integers-ok, integers-end)
