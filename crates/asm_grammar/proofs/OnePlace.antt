-- A list is refused at one place at most, for one cause, and never where it spells a value.
use Rattle.std.proofs.Common.{◌≡◌, List, [], ◌∷◌, ◌++◌, ◌⊎◌, inl, inr, sym, refl, ap, ◌∙◌, subst, append_assoc, append-nil}
use Rattle.std.proofs.lemmas.List.{append_cancel_left, append_cancel_right}
use Rattle.asm_grammar.specs.Language.{Language}
use Rattle.asm_grammar.specs.Refusals.{GoesNoFurther, IsSyntax, IsTooDeep}
use Rattle.asm_grammar.proofs.Fronts.{Fronts, two_fronts}

-- What is before `rest` is a partial spelling, and with the next token it isn't.
record Stops {T V : Type 0} (L : Language T V) (ts rest : List T) : Type 0 where
  front : List T
  split : ts ≡ front ++ rest
  before : L.Begins front
  there : (t : T) (behind : List T) → rest ≡ t ∷ behind → L.Begins (front ++ t ∷ []) → ⊥

-- `within` has a limit, and `free` has all that `within` has.
module _ {T V : Type 0} {within free : Language T V} (f : Fronts within)
    (wider : (a : List T) → within.Begins a → free.Begins a) (spells : (v : V) (a : List T) → within.Spells v a → free.Spells v a) where
  syntax_stops : (ts rest : List T) → IsSyntax within free ts rest → Stops within ts rest
  syntax_stops ts rest s = record {
    front = s.front;
    split = s.split;
    before = s.before;
    there = λ t behind e bg. subst (λ z. GoesNoFurther free s.front z) e s.there (wider (s.front ++ t ∷ []) bg);
  }

  deep_stops : (ts rest : List T) → IsTooDeep within free ts rest → Stops within ts rest
  deep_stops ts rest s = record {
    front = s.front;
    split = s.split;
    before = s.before;
    there = λ t behind e bg.
        let same : t ≡ s.next = cc (e, s.is_next) in
        s.passes (subst (λ z. within.Begins (s.front ++ z ∷ [])) same bg);
  }

  -- ---- one place

  -- a partial spelling goes no further than a place at which the list stops
  not_behind : (a c rest more : List T) → ((t : T) (behind : List T) → rest ≡ t ∷ behind → within.Begins (a ++ t ∷ []) → ⊥)
      → within.Begins (a ++ c) → rest ≡ c ++ more → c ≡ []
  not_behind a [] rest more there bg e = refl
  not_behind a (t ∷ c) rest more there bg e =
      absurd (there t (c ++ more) e (f.front (a ++ t ∷ []) c (subst (λ z. within.Begins z) (sym (append_assoc a (t ∷ []) c)) bg)))

  one_stop : (ts rest rest' : List T) → Stops within ts rest → Stops within ts rest' → rest ≡ rest'
  one_stop ts rest rest' s s' = go (two_fronts s.front rest s'.front rest' both)
    where
      both : s.front ++ rest ≡ s'.front ++ rest'
      both = sym s.split ∙ s'.split

      go : ((c : List T) × (s'.front ≡ s.front ++ c)) ⊎ ((c : List T) × (s.front ≡ s'.front ++ c) × (rest' ≡ c ++ rest)) → rest ≡ rest'
      go (inl (c, e)) =
          let parts : rest ≡ c ++ rest' =
          append_cancel_left s.front rest (c ++ rest') (both ∙ ap (λ z. z ++ rest') e ∙ append_assoc s.front c rest') in
          let none : c ≡ [] = not_behind s.front c rest rest' s.there (subst (λ z. within.Begins z) e s'.before) parts in
          parts ∙ ap (λ z. z ++ rest') none
      go (inr (c, e, parts)) =
          let none : c ≡ [] = not_behind s'.front c rest' rest s'.there (subst (λ z. within.Begins z) e s.before) parts in
          sym (parts ∙ ap (λ z. z ++ rest) none)

  pub one_syntax : (ts rest rest' : List T) → IsSyntax within free ts rest → IsSyntax within free ts rest' → rest ≡ rest'
  one_syntax ts rest rest' s s' = one_stop ts rest rest' (syntax_stops ts rest s) (syntax_stops ts rest' s')

  pub one_deep : (ts rest rest' : List T) → IsTooDeep within free ts rest → IsTooDeep within free ts rest' → rest ≡ rest'
  one_deep ts rest rest' s s' = one_stop ts rest rest' (deep_stops ts rest s) (deep_stops ts rest' s')

  -- ---- one cause

  pub one_cause : (ts rest rest' : List T) → IsSyntax within free ts rest → IsTooDeep within free ts rest' → ⊥
  one_cause ts rest rest' s s' =
      let place : rest ≡ rest' = one_stop ts rest rest' (syntax_stops ts rest s) (deep_stops ts rest' s') in
      let both : s.front ++ rest ≡ s'.front ++ rest = sym s.split ∙ s'.split ∙ ap (λ z. s'.front ++ z) (sym place) in
      let same : s.front ≡ s'.front = append_cancel_right s.front s'.front rest both in
      subst (λ z. GoesNoFurther free s.front z) (place ∙ s'.is_next) s.there
      (subst (λ z. free.Begins (z ++ s'.next ∷ [])) (sym same) s'.goes_on)

  -- ---- a value, or a refusal

  -- a partial spelling stops only at its end
  stops_at_end : (ts rest : List T) → within.Begins ts → Stops within ts rest → rest ≡ []
  stops_at_end ts rest bg s =
      not_behind s.front rest rest [] s.there (subst (λ z. within.Begins z) s.split bg) (sym (append-nil rest))

  pub spelled_no_syntax : (ts rest : List T) (v : V) → within.Spells v ts → IsSyntax within free ts rest → ⊥
  spelled_no_syntax ts rest v sp s =
      let none : rest ≡ [] = stops_at_end ts rest (f.begins v ts sp) (syntax_stops ts rest s) in
      let all : ts ≡ s.front = s.split ∙ ap (λ z. s.front ++ z) none ∙ append-nil s.front in
      subst (λ z. GoesNoFurther free s.front z) none s.there v (subst (λ z. free.Spells v z) all (spells v ts sp))

  pub spelled_no_deep : (ts rest : List T) (v : V) → within.Spells v ts → IsTooDeep within free ts rest → ⊥
  spelled_no_deep ts rest v sp s =
      let none : rest ≡ [] = stops_at_end ts rest (f.begins v ts sp) (deep_stops ts rest s) in
      let some : rest ≡ s.next ∷ s.behind = s.is_next in
      absurd (cc (none, some))
