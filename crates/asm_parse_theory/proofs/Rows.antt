-- Any number of one form, from the first on.
use Rattle.std.proofs.Common.{◌≡◌, ℕ, zero, suc, List, [], ◌∷◌, ◌++◌, length, inl, inr, sym, refl, ap, ◌∙◌, subst, append_assoc, append-nil}
use Rattle.std.specs.Prelude.{Some, None}
use Rattle.asm_grammar.specs.Language.{Language, Follows, FollowsPartly}
use Rattle.asm_grammar.proofs.Pairs.{split_on}
use Rattle.asm_syntax.specs.declared.token.Token.{Token}
use Rattle.asm_syntax.specs.Forms.{any, one, one_more, several, many}

module _ {V : Type 0} (L : Language Token V) where
  -- the list is what spells these values, one after the other
  abbrev pub Row : List V → List Token → Type 0
  Row [] a = a ≡ []
  Row (v ∷ vs) a = (x : List Token) × (y : List Token) × (a ≡ x ++ y) × L.Spells v x × Row vs y

  -- ---- what is spelled

  follows_row : (n : ℕ) (left vs : List V) (a : List Token) → Follows any one_more L n left vs a → (more : List V) × (vs ≡ left ++ more) × Row more a
  follows_row zero left vs a h = ([], h.0 ∙ sym (append-nil left), h.1)
  follows_row (suc n) left vs a h =
      let rest = follows_row n (one_more left h.0) vs h.2 h.6 in
      (h.0 ∷ rest.0, rest.1 ∙ append_assoc left (h.0 ∷ []) rest.0, (h.1, h.2, h.3, h.5, rest.2))

  several_row : (vs : List V) (a : List Token) → (several L).Spells vs a → Row vs a
  several_row vs a s =
      let rest = follows_row s.1 s.0 vs s.3 s.6 in
      let first : s.0 ≡ s.5.0 ∷ [] = s.5.1 in
      let all : vs ≡ s.5.0 ∷ rest.0 = rest.1 ∙ ap (λ z. z ++ rest.0) first in
      subst (λ z. Row z a) (sym all) (s.2, s.3, s.4, s.5.2, rest.2)

  pub many_row : (vs : List V) (a : List Token) → (many L).Spells vs a → Row vs a
  many_row vs a (None, e, inl s) = let x = s.1 in absurd (cc x)
  many_row vs a (None, e, inr s) = subst (λ z. Row z a) (sym e) s.1
  many_row vs a (Some ws, e, inl s) =
      let same : ws ≡ s.0 = cc s.1 in subst (λ z. Row z a) (sym (e ∙ same)) (several_row s.0 a s.2)
  many_row vs a (Some ws, e, inr s) = let x = s.0 in absurd (cc x)

  -- ---- what is begun

  -- whole ones, and then a part of one more
  abbrev pub RowPartly : List Token → Type 0
  RowPartly a = (vs : List V) × (x : List Token) × (y : List Token) × (a ≡ x ++ y) × Row vs x × L.Begins y

  row_one_more : (v : V) (x a b : List Token) → a ≡ x ++ b → L.Spells v x → RowPartly b → RowPartly a
  row_one_more v x a b e sp r = (v ∷ r.0, x ++ r.1, r.2, e ∙ ap (λ z. x ++ z) r.3 ∙ sym (append_assoc x r.1 r.2), (x, r.1, refl, sp, r.4), r.5)

  partly_row : (empty : L.Begins []) (n : ℕ) (left : List V) (a : List Token) → FollowsPartly any one_more L n left a → RowPartly a
  partly_row empty zero left a (inl e) = ([], [], a, refl, refl, subst (λ z. L.Begins z) (sym e) empty)
  partly_row empty zero left a (inr h) = ([], [], a, refl, refl, h.1)
  partly_row empty (suc n) left a h = row_one_more h.0 h.1 a h.2 h.3 h.5 (partly_row empty n (one_more left h.0) h.2 h.6)

  pub many_partly : L.Begins [] → (a : List Token) → (many L).Begins a → RowPartly a
  many_partly empty a (inr e) = ([], [], a, refl, refl, subst (λ z. L.Begins z) (sym e) empty)
  many_partly empty a (inl (inl bg)) = ([], [], a, refl, refl, bg)
  many_partly empty a (inl (inr s)) = row_one_more s.5.0 s.2 a s.3 s.4 s.5.2 (partly_row empty s.1 s.0 s.3 s.6)

  row_partly : (vs left : List V) (a c : List Token) → Row vs a → L.Begins c → FollowsPartly any one_more L (length vs) left (a ++ c)
  row_partly [] left a c e bg = inr (refl, subst (λ z. L.Begins (z ++ c)) (sym e) bg)
  row_partly (v ∷ vs) left a c r bg =
      (v, r.0, r.1 ++ c, split_on a r.0 r.1 c r.2, refl, r.3, row_partly vs (one_more left v) r.1 c r.4 bg)

  -- one more goes on after whole ones
  pub row_begins : (vs : List V) (a c : List Token) → Row vs a → L.Begins c → (many L).Begins (a ++ c)
  row_begins [] a c e bg = inl (inl (subst (λ z. L.Begins (z ++ c)) (sym e) bg))
  row_begins (v ∷ vs) a c r bg =
      inl (inr (one v, length vs, r.0, r.1 ++ c, split_on a r.0 r.1 c r.2, (v, refl, r.3), row_partly vs (one v) r.1 c r.4 bg))
