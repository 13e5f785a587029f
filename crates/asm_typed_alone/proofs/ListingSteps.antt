-- The names of a program, step by step.
use Rattle.std.proofs.Common.{◌≡◌, ℕ, ◌+◌, ◌<◌, ◌≤◌, List, [], ◌∷◌, ◌++◌, length, drop, get_or}
use Rattle.std.proofs.Common.{ℤ, refl, sym, ap, ◌∙◌}
use Rattle.std.proofs.lemmas.List.{append-nil, append_assoc, drop_all, drop_more}
use Rattle.asm_value.specs.declared.domain.DomainInfo.{DomainInfo}
use Rattle.asm_value.specs.declared.domain.DomainKind.TheVariants as kinds
use Rattle.asm_program.specs.declared.named.Named.{Named}
use Rattle.asm_program.specs.declared.named.Named.TheVariants as named
use Rattle.asm_program.specs.declared.program.FunctionInfo.{FunctionInfo}
use Rattle.asm_program.specs.Signatures.{Names}
use Rattle.asm_program.specs.TypedAlone.{literals_from, info_names, domain_names, function_names}
use Rattle.asm_typed_alone.specs.Listed.{with_names, literals_named, info_named, infos_named}
use Rattle.asm_typed_alone.specs.Listed.{functions_named}

pub pushed : (w new : Names) (name : List ℕ) (n : Named) (x : List ℕ) → new ≡ w ++ (x, n) ∷ []
    → x ≡ name → new ≡ with_names w ((name, n) ∷ [])
unfolding with_names
pushed w new name n x e f = e ∙ ap (λ y. w ++ (y, n) ∷ []) f

append : (w xs ys : Names) → with_names w (xs ++ ys) ≡ with_names (with_names w xs) ys
unfolding with_names
append w xs ys = sym (append_assoc w xs ys)

none : (w : Names) → with_names w [] ≡ w
unfolding with_names
none w = append-nil w

pub from_none : (xs : Names) → with_names [] xs ≡ xs
unfolding with_names
from_none xs = refl

-- ---- literals

module _ (w v all : Names) (d : ℕ) (ts : List (List ℕ)) (i : ℕ) where
  pub literals-next : (n : ℕ) (x : List ℕ) → i < length ts → x ≡ get_or ts i x → n ≡ i
      → v ≡ with_names w ((x, named.Literal d n) ∷ [])
      → with_names w (literals_named d i (drop i ts)) ≡ all
      → with_names v (literals_named d (i + 1) (drop (i + 1) ts)) ≡ all
  unfolding literals_named
  literals-next n x h is e new inv =
      let rest = literals_from d (i + 1) (drop (i + 1) ts) in
      ap (λ u. with_names u rest) new
      ∙ (λ j. with_names (with_names w ((is j, named.Literal d (e j)) ∷ [])) rest)
      ∙ sym (append w ((get_or ts i x, named.Literal d i) ∷ []) rest)
      ∙ ap (λ us. with_names w (literals_from d i us)) (sym (drop_more ts i x h))
      ∙ inv

  pub literals-end : length ts ≤ i → with_names w (literals_named d i (drop i ts)) ≡ all → w ≡ all
  unfolding literals_named
  literals-end h inv =
      sym (none w)
      ∙ ap (λ us. with_names w (literals_from d i us)) (sym (drop_all i ts h))
      ∙ inv

-- ---- one domain

module _ (w : Names) (d : ℕ) (name : List ℕ) where
  pub adds_enum : (literals : List (List ℕ))
      → with_names w (info_named d name (kinds.Enum literals))
      ≡ with_names (with_names w ((name, named.Enum d) ∷ [])) (literals_named d 0 literals)
  unfolding info_named literals_named
  adds_enum literals = append w ((name, named.Enum d) ∷ []) (literals_from d 0 literals)

  pub adds_abstract : (names : List (List ℕ))
      → with_names w (info_named d name (kinds.Abstract names))
      ≡ with_names w ((name, named.Abstract d) ∷ [])
  unfolding info_named
  adds_abstract names = refl

  pub adds_subset : (numbers : List ℤ)
      → with_names w (info_named d name (kinds.Subset numbers))
      ≡ with_names w ((name, named.Subset d) ∷ [])
  unfolding info_named
  adds_subset numbers = refl

pub ruleset info_steps = (adds_enum, adds_abstract, adds_subset)

-- ---- domains

abbrev names_in : ℕ → DomainInfo → Names
names_in d info = info_named d info.name info.kind

domains-cons : (w : Names) (d : ℕ) (x : DomainInfo) (xs : List DomainInfo)
    → with_names w (domain_names d (x ∷ xs))
    ≡ with_names (with_names w (names_in d x)) (domain_names (d + 1) xs)
unfolding info_named
domains-cons w d x xs = append w (info_names d x.name x.kind) (domain_names (d + 1) xs)

module _ (w v all : Names) (xs : List DomainInfo) (i : ℕ) where
  pub infos-next : (n : ℕ) (x : DomainInfo) → i < length xs → x ≡ get_or xs i x → n ≡ i
      → v ≡ with_names w (info_named n x.name x.kind)
      → with_names w (infos_named i (drop i xs)) ≡ all
      → with_names v (infos_named (i + 1) (drop (i + 1) xs)) ≡ all
  unfolding infos_named
  infos-next n x h is e new inv =
      let rest = domain_names (i + 1) (drop (i + 1) xs) in
      ap (λ u. with_names u rest) new
      ∙ (λ j. with_names (with_names w (names_in (e j) (is j))) rest)
      ∙ sym (domains-cons w i (get_or xs i x) (drop (i + 1) xs))
      ∙ ap (λ us. with_names w (domain_names i us)) (sym (drop_more xs i x h))
      ∙ inv

  pub infos-end : length xs ≤ i → with_names w (infos_named i (drop i xs)) ≡ all → w ≡ all
  unfolding infos_named
  infos-end h inv =
      sym (none w)
      ∙ ap (λ us. with_names w (domain_names i us)) (sym (drop_all i xs h))
      ∙ inv

-- ---- functions

module _ (w v all : Names) (xs : List FunctionInfo) (i : ℕ) where
  pub functions-next : (n : ℕ) (x : FunctionInfo) → i < length xs → x ≡ get_or xs i x → n ≡ i
      → v ≡ with_names w ((x.name, named.Function n) ∷ [])
      → with_names w (functions_named i (drop i xs)) ≡ all
      → with_names v (functions_named (i + 1) (drop (i + 1) xs)) ≡ all
  unfolding functions_named
  functions-next n x h is e new inv =
      let rest = function_names (i + 1) (drop (i + 1) xs) in
      ap (λ u. with_names u rest) new
      ∙ (λ j. with_names (with_names w (((is j).name, named.Function (e j)) ∷ [])) rest)
      ∙ sym (append w (((get_or xs i x).name, named.Function i) ∷ []) rest)
      ∙ ap (λ us. with_names w (function_names i us)) (sym (drop_more xs i x h))
      ∙ inv

  pub functions-end : length xs ≤ i → with_names w (functions_named i (drop i xs)) ≡ all → w ≡ all
  unfolding functions_named
  functions-end h inv =
      sym (none w)
      ∙ ap (λ us. with_names w (function_names i us)) (sym (drop_all i xs h))
      ∙ inv

-- ---- all

pub names_listed : (names : Names) (domains : List DomainInfo) (functions : List FunctionInfo)
    → names ≡ with_names (infos_named 0 domains) (functions_named 0 functions)
    → names ≡ domain_names 0 domains ++ function_names 0 functions
unfolding with_names infos_named functions_named
names_listed names domains functions e = e

pub ruleset names_steps = (from_none)

pub ruleset listed_steps = (names_listed)
