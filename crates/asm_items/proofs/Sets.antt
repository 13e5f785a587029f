-- Names in sets.
use Rattle.std.proofs.Common.{◌≡◌, ℕ, Bool, true, false, ◌||◌, List, [], ◌∷◌, ◌++◌, map, reverse, refl, sym, ap, ◌∙◌, if◌then◌else◌, bytes_eq}
use Rattle.std.specs.List.{list_any}
use Rattle.std.proofs.lemmas.List.{map-append, reverse-append}
use Rattle.std.proofs.lemmas.List.Folds.{list_any-append}
use Rattle.std.proofs.lemmas.Map.Steps.{list_any_congr}
use Rattle.std.specs.Cmp.Lexicographic.{nat_list_eq_equiv}
use Rattle.asm_items.specs.Views.{seen_with}

-- the same names are among them
abbrev pub Alike : List (List ℕ) → List (List ℕ) → Type 0
Alike a b = (q : List ℕ) → list_any (bytes_eq q) a ≡ list_any (bytes_eq q) b

pub alike-cons : (n : List ℕ) (a b : List (List ℕ)) → Alike a b → Alike (n ∷ a) (n ∷ b)
alike-cons n a b h = λ q. ap (λ c. bytes_eq q n || c) (h q)

or_known : (x y : Bool) → (x ≡ true → y ≡ true) → (x || y) ≡ y
or_known true y h = sym (h refl)
or_known false y h = refl

-- a name that is among them changes nothing
pub alike-seen : (n : List ℕ) (seen : List (List ℕ)) → Alike (n ∷ seen) (seen_with n seen)
unfolding seen_with
alike-seen n seen = by (list_any (bytes_eq n) seen) refl
  where
    by : (b : Bool) → list_any (bytes_eq n) seen ≡ b → Alike (n ∷ seen) (if list_any (bytes_eq n) seen then seen else n ∷ seen)
    by true e q =
        or_known (bytes_eq q n) (list_any (bytes_eq q) seen) (λ s. list_any_congr nat_list_eq_equiv q n seen s ∙ e)
        ∙ ap (λ b. list_any (bytes_eq q) (if b then seen else n ∷ seen)) (sym e)
    by false e q = ap (λ b. list_any (bytes_eq q) (if b then seen else n ∷ seen)) (sym e)

or_swap : (x y : Bool) → (x || (y || false)) ≡ (y || x)
or_swap true true = refl
or_swap true false = refl
or_swap false true = refl
or_swap false false = refl

pub list_any-reverse : {A : Type 0} (p : A → Bool) (xs : List A) → list_any p (reverse xs) ≡ list_any p xs
list_any-reverse p [] = refl
list_any-reverse p (x ∷ xs) =
    ap (list_any p) (reverse-append (x ∷ []) xs)
    ∙ list_any-append p (reverse xs) (x ∷ [])
    ∙ or_swap (list_any p (reverse xs)) (p x)
    ∙ ap (λ b. p x || b) (list_any-reverse p xs)

pub list_any-map : {A B : Type 0} (p : B → Bool) (f : A → B) (xs : List A) → list_any p (map f xs) ≡ list_any (λ x. p (f x)) xs
list_any-map p f [] = refl
list_any-map p f (x ∷ xs) = ap (λ b. p (f x) || b) (list_any-map p f xs)

pub list_any-viewed : {A : Type 0} (f : A → List ℕ) (q : List ℕ) (xs : List A)
    → list_any (bytes_eq q) (reverse (map f xs)) ≡ list_any (λ x. bytes_eq q (f x)) xs
list_any-viewed f q xs = list_any-reverse (bytes_eq q) (map f xs) ∙ list_any-map (bytes_eq q) f xs

pub viewed-insert : {A : Type 0} (f : A → List ℕ) (k : A) (xs : List A)
    → reverse (map f (if list_any (λ x. bytes_eq (f k) (f x)) xs then xs else xs ++ k ∷ [])) ≡ seen_with (f k) (reverse (map f xs))
unfolding seen_with
viewed-insert f k xs =
    by (list_any (λ x. bytes_eq (f k) (f x)) xs)
    ∙ ap (λ b. if b then reverse (map f xs) else f k ∷ reverse (map f xs)) (sym (list_any-viewed f (f k) xs))
  where
    by : (b : Bool) → reverse (map f (if b then xs else xs ++ k ∷ [])) ≡ (if b then reverse (map f xs) else f k ∷ reverse (map f xs))
    by true = refl
    by false = ap reverse (map-append f xs (k ∷ [])) ∙ reverse-append (map f xs) (f k ∷ [])

pub ruleset set_steps = (list_any-viewed, viewed-insert)
