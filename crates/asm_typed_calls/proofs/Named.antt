-- Items that name what is called, and what a list of names has for each number.
use Rattle.std.proofs.Common.{◌≡◌, ℕ, zero, suc, ◌==◌, ◌||◌, Bool, true, false, Some, List}
use Rattle.std.proofs.Common.{[], ◌∷◌, ◌++◌, if◌then◌else◌, slice_get, inl, inr, refl, sym, ap, subst}
use Rattle.std.proofs.Common.{◌∙◌}
use Rattle.std.specs.List.{AllByRecursion}
use Rattle.std.specs.Str.{bytes_eq}
use Rattle.std.proofs.lemmas.Bool.{true≢false, eqb-true, or_cases}
use Rattle.std.proofs.lemmas.List.Folds.{list_any-append}
use Rattle.std.proofs.lemmas.Slice.Eq.{bytes_eq-Decides}
use Rattle.asm_syntax.specs.declared.token.Token.{Token}
use Rattle.asm_syntax.specs.Marks.{text_of}
use Rattle.asm_program.specs.declared.named.Named.{Named}
use Rattle.asm_program.specs.Items.{Item, Items}
use Rattle.asm_program.specs.Signatures.{Names, find}
use Rattle.asm_calls.specs.Nested.{has_number}

get_left : (xs ys : Items) (k : ℕ) (x : Item) → slice_get xs k ≡ Some x
    → slice_get (xs ++ ys) k ≡ Some x
get_left [] ys k x e = absurd (cc)
get_left (y ∷ xs) ys zero x e = e
get_left (y ∷ xs) ys (suc k) x e = get_left xs ys k x e

module _ (names : Names) (item : Token → Item) (meaning : ℕ → Named) where
  -- one of the items names what stands for this number
  pub record IsNamed (items : Items) (g : ℕ) : Type 0 where
    pub place : ℕ
    pub token : Token
    pub at : slice_get items place ≡ Some (item token)
    pub is : find names (text_of token) ≡ Some (meaning g)

  -- the items name each of these numbers
  abbrev pub AreNamed : List ℕ → Items → Type 0
  AreNamed ns items = (g : ℕ) → has_number ns g ≡ true → IsNamed items g

  named_left : (xs ys : Items) (g : ℕ) → IsNamed xs g → IsNamed (xs ++ ys) g
  named_left xs ys g h = record {
    place = h.place;
    token = h.token;
    at = get_left xs ys h.place (item h.token) h.at;
    is = h.is;
  }

  named_right : (xs ys : Items) (g : ℕ) → IsNamed ys g → IsNamed (xs ++ ys) g
  named_right [] ys g h = h
  named_right (x ∷ xs) ys g h =
      let later = named_right xs ys g h in
      record { place = suc later.place; token = later.token; at = later.at; is = later.is }

  pub left : (ns : List ℕ) (xs ys : Items) → AreNamed ns xs → AreNamed ns (xs ++ ys)
  left ns xs ys h g e = named_left xs ys g (h g e)

  pub right : (ns : List ℕ) (xs ys : Items) → AreNamed ns ys → AreNamed ns (xs ++ ys)
  right ns xs ys h g e = named_right xs ys g (h g e)

  pub none_named : (items : Items) → AreNamed [] items
  none_named items g h = absurd (true≢false (sym h))

  either_number : (ns ms : List ℕ) (g : ℕ) → has_number (ns ++ ms) g ≡ true
      → (has_number ns g || has_number ms g) ≡ true
  either_number ns ms g e = sym (list_any-append (λ (n : ℕ). n == g) ns ms) ∙ e

  pub together : (ns ms : List ℕ) (items : Items) → AreNamed ns items → AreNamed ms items
      → AreNamed (ns ++ ms) items
  together ns ms items h k g e =
      elim (or_cases (has_number ns g) (has_number ms g) (either_number ns ms g e)) [
        | inl a ↦ h g a
        | inr b ↦ k g b
      ]

  pub both_named : (ns ms : List ℕ) (xs ys : Items) → AreNamed ns xs → AreNamed ms ys
      → AreNamed (ns ++ ms) (xs ++ ys)
  both_named ns ms xs ys h k =
      together ns ms (xs ++ ys) (left ns xs ys h) (right ms xs ys k)

  pub moved : (ns ms : List ℕ) (items : Items) → ns ≡ ms → AreNamed ms items
      → AreNamed ns items
  moved ns ms items same h g e = h g (ap (λ xs. has_number xs g) (sym same) ∙ e)

  -- the number of an item's own name
  pub itself_named : (t : Token) (f : ℕ) (rest : Items)
      → find names (text_of t) ≡ Some (meaning f) → AreNamed (f ∷ []) (item t ∷ rest)
  itself_named t f rest names_it g e =
      elim (or_cases (f == g) false e) [
        | inl same ↦ record {
          place = 0;
          token = t;
          at = refl;
          is = names_it ∙ ap (λ n. Some (meaning n)) (eqb-true f g same);
        }
        | inr later ↦ absurd (true≢false (sym later))
      ]

-- ---- what is found

some_same : {A : Type 0} (a b : A) → Some a ≡ Some b → a ≡ b
some_same a b e = cc

-- what is so of each name with its meaning is so of what is found
pub found_is : (Q : List ℕ → Named → Type 0) (ns : Names)
    → AllByRecursion (λ (x : List ℕ × Named). Q x.0 x.1) ns → (name : List ℕ) (n : Named)
    → find ns name ≡ Some n → Q name n
found_is Q [] all name n e = absurd (cc)
found_is Q (x ∷ ns) all name n e =
    by_test (bytes_eq x.0 name) refl e (λ h. found_is Q ns all.1 name n h)
  where
    by_test : (b : Bool) → bytes_eq x.0 name ≡ b
        → (if b then Some x.1 else find ns name) ≡ Some n
        → (find ns name ≡ Some n → Q name n) → Q name n
    by_test true same h go =
        subst (λ q. Q q n) ((bytes_eq-Decides x.0 name).0 same)
        (subst (λ m. Q x.0 m) (some_same x.1 n h) all.0)
    by_test false same h go = go h
