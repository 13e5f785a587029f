-- A list is refused at one place at most, for one cause, and never where it spells a value.
use Rattle.std.proofs.Common.{◌≡◌, ◌≤◌, ◌+◌, List, [], ◌∷◌, ◌++◌, length, ◌⊎◌, inl, inr, sym, refl, ap, ◌∙◌, subst, length-append, append_assoc, append-nil, arith}
use Rattle.std.proofs.lemmas.List.{append_cancel_left}
use Rattle.asm_grammar.specs.Language.{Language}
use Rattle.asm_grammar.specs.Refusals.{GoesNoFurther}
use Rattle.asm_grammar.proofs.Fronts.{Fronts, two_fronts}
use Rattle.asm_grammar.proofs.Wider.{Wider}
use Rattle.asm_grammar.proofs.OnePlace.{one_syntax, one_deep, one_cause, spelled_no_syntax, spelled_no_deep}
use Rattle.asm_syntax.specs.declared.token.Token.{Token}
use Rattle.asm_syntax.specs.Refusals.{Refusal, syntax_refusal, IsRefusedAt, syntax, too_deep}

module _ {V : Type 0} {within free : Language Token V} (f : Fronts within) (w : Wider within free) where
  pub one_refusal : (ts : List Token) (why why' : Refusal) (rest rest' : List Token) → IsRefusedAt within free ts why rest
      → IsRefusedAt within free ts why' rest' → (why ≡ why') × (rest ≡ rest')
  one_refusal ts why why' rest rest' (syntax s) (syntax s') =
      let same = one_syntax f w.begins w.spells ts rest rest' s s' in (ap syntax_refusal same, same)
  one_refusal ts why why' rest rest' (syntax s) (too_deep d) = absurd (one_cause f w.begins w.spells ts rest rest' s d)
  one_refusal ts why why' rest rest' (too_deep d) (syntax s) = absurd (one_cause f w.begins w.spells ts rest' rest s d)
  one_refusal ts why why' rest rest' (too_deep d) (too_deep d') = (refl, one_deep f w.begins w.spells ts rest rest' d d')

  pub not_both : (ts : List Token) (v : V) (why : Refusal) (rest : List Token) → within.Spells v ts → IsRefusedAt within free ts why rest → ⊥
  not_both ts v why rest sp (syntax s) = spelled_no_syntax f w.begins w.spells ts rest v sp s
  not_both ts v why rest sp (too_deep d) = spelled_no_deep f w.begins w.spells ts rest v sp d

  -- ---- no refusal stands inside a partial spelling

  -- the next token doesn't go on
  abbrev Ended : List Token → List Token → Type 0
  Ended front rest = (t : Token) (behind : List Token) → rest ≡ t ∷ behind → within.Begins (front ++ t ∷ []) → ⊥

  behind_front : (front a b rest : List Token) → Ended front rest → within.Begins a → front ++ rest ≡ a ++ b
      → ((c : List Token) × (a ≡ front ++ c)) ⊎ ((c : List Token) × (front ≡ a ++ c) × (b ≡ c ++ rest)) → length rest ≤ length b
  behind_front front a b rest end bg both (inr (c, e, e')) =
      let sum : length b ≡ length c + length rest = ap length e' ∙ length-append c rest in omega arith
  behind_front front a b rest end bg both (inl ([], e)) =
      let same : rest ≡ b = append_cancel_left front rest b (both ∙ ap (λ z. z ++ b) (e ∙ append-nil front)) in
      let long : length rest ≡ length b = ap length same in
      omega arith
  behind_front front a b rest end bg both (inl (t ∷ c, e)) =
      let parts : rest ≡ t ∷ c ++ b =
      append_cancel_left front rest (t ∷ c ++ b) (both ∙ ap (λ z. z ++ b) e ∙ append_assoc front (t ∷ c) b) in
      let more : within.Begins ((front ++ t ∷ []) ++ c) =
      subst (λ z. within.Begins z) (e ∙ sym (append_assoc front (t ∷ []) c)) bg in
      absurd (end t (c ++ b) parts (f.front (front ++ t ∷ []) c more))

  ended_syntax : (front rest : List Token) → GoesNoFurther free front rest → Ended front rest
  ended_syntax front rest none t behind e bg =
      subst (λ z. GoesNoFurther free front z) e none (w.begins (front ++ t ∷ []) bg)

  -- where a front is a partial spelling, the list is refused behind it
  pub refused_behind : (ts a b : List Token) (why : Refusal) (rest : List Token) → ts ≡ a ++ b → within.Begins a
      → IsRefusedAt within free ts why rest → length rest ≤ length b
  refused_behind ts a b why rest e bg (syntax s) =
      let both : s.front ++ rest ≡ a ++ b = sym s.split ∙ e in
      behind_front s.front a b rest (ended_syntax s.front rest s.there) bg both (two_fronts s.front rest a b both)
  refused_behind ts a b why rest e bg (too_deep d) =
      let both : d.front ++ rest ≡ a ++ b = sym d.split ∙ e in
      behind_front d.front a b rest ended bg both (two_fronts d.front rest a b both)
    where
      ended : Ended d.front rest
      ended t behind e' bg' =
          let same : t ≡ d.next = cc (e', d.is_next) in d.passes (subst (λ z. within.Begins (d.front ++ z ∷ [])) same bg')
