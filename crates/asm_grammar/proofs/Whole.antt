-- What an exact parser answers on a whole list.
use Rattle.std.proofs.Common.{◌≡◌, ◌+◌, ℕ, List, [], ◌∷◌, ◌++◌, length, Bool, true, false, ◌⊎◌, inl, inr, sym, refl, ap, ◌∙◌, subst, append_assoc, append-nil, length-append, arith}
use Rattle.asm_grammar.specs.Language.{Language}
use Rattle.asm_grammar.specs.Refusals.{unlimited, IsSyntax, IsTooDeep}
use Rattle.asm_grammar.specs.Parser.{Reply, Took, Refused, Parser}
use Rattle.asm_grammar.proofs.Exact.{SoundAt, Sound, Gives, IsRestOf, Reaches, Complete}

-- the one value that the list spells, or the first token at which it is refused
abbrev pub AnswerIs : {T V : Type 0} → (within free : Language T V) → List T → Reply T V → Type 0
AnswerIs {T} {V} within free ts (Took v []) = within.Spells v ts × ((w : V) → within.Spells w ts → w ≡ v)
AnswerIs within free ts (Took v (t ∷ rest)) = IsSyntax within free ts (t ∷ rest)
AnswerIs within free ts (Refused false rest) = IsSyntax within free ts rest
AnswerIs within free ts (Refused true rest) = IsTooDeep within free ts rest

not_longer : {T : Type 0} (t : T) (rest : List T) → IsRestOf rest (t ∷ rest) → ⊥
not_longer t rest r =
    let longer : length rest ≡ length r.0 + length (t ∷ rest) = ap length r.1 ∙ length-append r.0 (t ∷ rest) in
    absurd (omega arith)

-- a parser that reached the tokens after the next one didn't stop at it
reached : {T : Type 0} (next : T) (behind rest : List T) → rest ≡ next ∷ behind → (false ≡ true) ⊎ IsRestOf behind rest → ⊥
reached next behind rest e (inl x) = absurd (cc x)
reached next behind rest e (inr r) = not_longer next behind (subst (λ z. IsRestOf behind z) e r)

-- L has one language for each limit, in which p may stop as too deep; `within` has p's own limit.
module _ {T V : Type 0} {p : Parser T V} {within : Language T V} {L : ℕ → Language T V} (m : ℕ) {F : T → Bool} {C : V → T → Bool}
    (s : Sound p within (L m)) (c : Complete false p within F C false) (d : (n : ℕ) → Complete true p (L n) F C false) where
  -- no list goes on with a token at which the parser stops
  stops_there : (ts a : List T) (t : T) (rest : List T) → ts ≡ a ++ t ∷ rest → (Reaches true rest (p ts) → ⊥)
      → (unlimited L).Begins (a ++ t ∷ []) → ⊥
  stops_there ts a t rest e none (n, bg) =
      none (subst (λ z. Reaches true rest (p z)) (append_assoc a (t ∷ []) rest ∙ sym e) ((d n).partly (a ++ t ∷ []) rest bg))

  unique : (ts : List T) (v w : V) (r : Reply T V) → Gives false w [] r → r ≡ Took v [] → w ≡ v
  unique ts v w (Took u rest) g e = let same : u ≡ v = cc e in sym g.0 ∙ same
  unique ts v w (Refused false rest) g e = absurd g
  unique ts v w (Refused true rest) g e = absurd (cc g)

  -- what is spelled within the limit is taken to the end
  gives_spelled : (ts : List T) (v : V) → within.Spells v ts → Gives false v [] (p ts)
  gives_spelled ts v sp = subst (λ z. Gives false v [] (p z)) (append-nil ts) (c.whole v ts [] sp tt)

  end_there : (ts a : List T) → ts ≡ a ++ [] → (v : V) → p ts ≡ Refused false [] → (unlimited L).Spells v a → ⊥
  end_there ts a e v i (n, sp) =
      subst (λ z. Gives true v [] z) i (subst (λ z. Gives true v [] (p z)) (sym e) ((d n).whole v a [] sp tt))

  answer : (ts : List T) (r : Reply T V) → p ts ≡ r → SoundAt within (L m) ts r → AnswerIs within (unlimited L) ts r
  answer ts (Took v []) e h =
      (subst (λ z. within.Spells v z) (sym (h.1 ∙ append-nil h.0)) h.2, λ w sp. unique ts v w (p ts) (gives_spelled ts w sp) e)
  answer ts (Took v (t ∷ rest)) e h = record {
    front = h.0;
    split = h.1;
    before = c.begins v h.0 h.2;
    there = stops_there ts h.0 t rest h.1 (λ r. not_longer t rest (subst (λ z. Reaches true rest z) e r));
  }
  answer ts (Refused false []) e h = record {
    front = h.0;
    split = h.1;
    before = h.2;
    there = λ v sp. end_there ts h.0 h.1 v e sp;
  }
  answer ts (Refused false (t ∷ rest)) e h = record {
    front = h.0;
    split = h.1;
    before = h.2;
    there = stops_there ts h.0 t rest h.1 (λ r. not_longer t rest (subst (λ z. Reaches true rest z) e r));
  }
  answer ts (Refused true rest) e h =
      let parts : (h.0 ++ h.1 ∷ []) ++ h.2 ≡ ts = append_assoc h.0 (h.1 ∷ []) h.2 ∙ sym (h.4 ∙ ap (λ z. h.0 ++ z) h.3) in
      record {
        front = h.0;
        next = h.1;
        behind = h.2;
        split = h.4;
        is_next = h.3;
        before = h.5;
        goes_on = (m, h.6);
        passes = λ bg. reached h.1 h.2 rest h.3
            (subst (λ z. Reaches false h.2 z) e (subst (λ z. Reaches false h.2 (p z)) parts (c.partly (h.0 ++ h.1 ∷ []) h.2 bg)));
      }

  pub whole_answer : (ts : List T) → AnswerIs within (unlimited L) ts (p ts)
  whole_answer ts = answer ts (p ts) refl (s.at ts)

  -- a spelled list is read
  pub reads_spelled : (ts : List T) (v : V) → within.Spells v ts → p ts ≡ Took v []
  reads_spelled ts v sp = go (p ts) refl (gives_spelled ts v sp)
    where
      go : (r : Reply T V) → p ts ≡ r → Gives false v [] r → p ts ≡ Took v []
      go (Took u rest) e g = e ∙ ap (λ z. Took z rest) g.0 ∙ ap (λ z. Took v z) g.1
      go (Refused false rest) e g = absurd g
      go (Refused true rest) e g = absurd (cc g)
