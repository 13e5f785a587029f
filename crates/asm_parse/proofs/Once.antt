-- A text has one tree or one refusal, since it is read as tokens in one way.
use Rattle.std.proofs.Common.{◌≡◌, ◌≤◌, ◌<◌, ◌∙◌, ◌⊎◌, inl, inr, ℕ, List, length, sym, refl, ap, subst, arith}
use Rattle.asm_syntax.specs.declared.token_refusal.TokenRefusal.{TokenRefusal}
use Rattle.asm_syntax.specs.declared.token_refusal.TokenRefusal.TheVariants as faults
use Rattle.asm_syntax.specs.declared.token.Token.{Token}
use Rattle.asm_syntax.specs.declared.tree.TermTree.{TermTree}
use Rattle.asm_syntax.specs.declared.tree.ModelTree.{ModelTree}
use Rattle.asm_syntax.specs.Grammar.{term, SpellsModel}
use Rattle.asm_syntax.specs.Lexes.{Stop, End, At, Lexes}
use Rattle.asm_syntax.specs.Refusals as refusals
use Rattle.asm_syntax.specs.Refusals.{Refusal, IsTermRefusal, IsModelRefusal, offset_of}
use Rattle.asm_syntax.specs.Texts.{most_bytes, IsModel, IsTerm, IsRefusedModel, IsRefusedTerm}
use Rattle.asm_parse_theory.proofs.ModelRefusals as models
use Rattle.asm_parse_theory.proofs.TermRefusals as terms
use Rattle.asm_lex.specs.declared.LexRefusal.{LexRefusal}
use Rattle.asm_lex.specs.declared.LexRefusal.TheVariants as lexer
use Rattle.asm_lex.specs.Answers.{IsFirst, StopsAt}
use Rattle.asm_parse.specs.declared.refusal.ParseRefusal.{ParseRefusal}
use Rattle.asm_parse.specs.declared.refusal.ParseRefusal.TheVariants.{Lex, Syntax, Unsupported, TooDeep, NoMemory}
use Rattle.asm_parse.specs.Answers.{IsModelCause, IsTermCause}
use Rattle.asm_parse.specs.Refusals.{told}

-- the lexer's refusal of a fault
lexed : TokenRefusal → ℕ → LexRefusal
lexed faults.OpenComment at = lexer.OpenComment at
lexed faults.OpenString at = lexer.OpenString at
lexed faults.NumberTooLarge at = lexer.NumberTooLarge at
lexed faults.BadByte at = lexer.BadByte at

fault_of : Stop → TokenRefusal
fault_of End = faults.BadByte
fault_of (At fault at) = fault

stop_place : Stop → ℕ
stop_place End = 0
stop_place (At fault at) = at

module _ (text : List ℕ) (one : (ts us : List Token) (s t : Stop) → Lexes 0 text ts s → Lexes 0 text us t → (ts ≡ us) × (s ≡ t)) where
  -- ---- refusals of the lexer

  IsLong : LexRefusal → Type 0
  IsLong e = (most_bytes < length text) × (e ≡ lexer.TextTooLong (length text))

  Stops : List Token → LexRefusal → Type 0
  Stops ts e = (fault : TokenRefusal) × (at : ℕ) × StopsAt text ts fault at × (e ≡ lexed fault at)

  first_is : (ts : List Token) (e : LexRefusal) → IsFirst text ts e → IsLong e ⊎ Stops ts e
  unfolding IsLong Stops lexed
  first_is ts lexer.NoMemory h = absurd h
  first_is ts (lexer.TextTooLong bytes) h = inl (h.0, ap lexer.TextTooLong h.1)
  first_is ts (lexer.BadByte at) h = inr (faults.BadByte, at, h, refl)
  first_is ts (lexer.OpenComment at) h = inr (faults.OpenComment, at, h, refl)
  first_is ts (lexer.OpenString at) h = inr (faults.OpenString, at, h, refl)
  first_is ts (lexer.NumberTooLarge at) h = inr (faults.NumberTooLarge, at, h, refl)

  same_stop : (ts us : List Token) (e f : LexRefusal) → Stops ts e → Stops us f → e ≡ f
  unfolding Stops fault_of stop_place
  same_stop ts us e f (fault, at, s, is) (fault', at', s', is') =
      let stops = (one ts us (At fault at) (At fault' at') s.1 s'.1).1 in
      is ∙ ap (λ z. lexed (fault_of z) (stop_place z)) stops ∙ sym is'

  same_first : (ts us : List Token) (e f : LexRefusal) → IsLong e ⊎ Stops ts e → IsLong f ⊎ Stops us f → e ≡ f
  unfolding IsLong Stops
  same_first ts us e f (inl a) (inl b) = a.1 ∙ sym b.1
  same_first ts us e f (inl a) (inr b) = absurd (let long = a.0 in let short = b.2.0 in omega arith)
  same_first ts us e f (inr a) (inl b) = absurd (let long = b.0 in let short = a.2.0 in omega arith)
  same_first ts us e f (inr a) (inr b) = same_stop ts us e f a b

  -- a text that is refused by the lexer isn't read to its end
  not_to_end : (ts us : List Token) (e : LexRefusal) → length text ≤ most_bytes → Lexes 0 text us End → IsLong e ⊎ Stops ts e → ⊥
  unfolding IsLong Stops
  not_to_end ts us e short whole (inl a) = let long = a.0 in omega arith
  not_to_end ts us e short whole (inr (fault, at, s, is)) = let stops = (one ts us (At fault at) End s.1 whole).1 in cc

  -- ---- refusals of either

  module _ (IsRefused : Refusal → ℕ → Type 0) where
    OfLexer : ParseRefusal → Type 0
    OfLexer e = (why : LexRefusal) × (ts : List Token) × IsFirst text ts why × (e ≡ Lex why)

    OfTokens : ParseRefusal → Type 0
    OfTokens e = (why : Refusal) × (at : ℕ) × IsRefused why at × (e ≡ told why at)

    pub Cause : ParseRefusal → Type 0
    Cause e = OfLexer e ⊎ OfTokens e

    pub lexer_cause : (why : LexRefusal) (ts : List Token) → IsFirst text ts why → Cause (Lex why)
    unfolding Cause OfLexer
    lexer_cause why ts h = inl (why, ts, h, refl)

    pub tokens_cause : (why : Refusal) (at : ℕ) → IsRefused why at → Cause (told why at)
    unfolding Cause OfTokens
    tokens_cause why at h = inr (why, at, h, refl)

    module _ (tokens_of : (why : Refusal) (at : ℕ) → IsRefused why at → (us : List Token) × (length text ≤ most_bytes) × Lexes 0 text us End)
        (same_told : (why other : Refusal) (at at' : ℕ) → IsRefused why at → IsRefused other at' → told why at ≡ told other at') where
      apart : (ts : List Token) (why : LexRefusal) (other : Refusal) (at : ℕ) → IsFirst text ts why → IsRefused other at → ⊥
      apart ts why other at h r = let us = tokens_of other at r in not_to_end ts us.0 why us.1 us.2 (first_is ts why h)

      pub one_cause : (e f : ParseRefusal) → Cause e → Cause f → e ≡ f
      unfolding Cause OfLexer OfTokens
      one_cause e f (inl (why, ts, h, told_e)) (inl (why', ts', h', told_f)) =
          told_e ∙ ap Lex (same_first ts ts' why why' (first_is ts why h) (first_is ts' why' h')) ∙ sym told_f
      one_cause e f (inl (why, ts, h, told_e)) (inr (other, at, r, told_f)) = absurd (apart ts why other at h r)
      one_cause e f (inr (other, at, r, told_e)) (inl (why, ts, h, told_f)) = absurd (apart ts why other at h r)
      one_cause e f (inr (why, at, r, told_e)) (inr (other, at', r', told_f)) = told_e ∙ same_told why other at at' r r' ∙ sym told_f

      pub no_cause : (us : List Token) → length text ≤ most_bytes → Lexes 0 text us End → ((why : Refusal) (at : ℕ) → IsRefused why at → ⊥) → (e : ParseRefusal) → Cause e → ⊥
      unfolding Cause OfLexer OfTokens
      no_cause us short whole never e (inl (why, ts, h, told_e)) = not_to_end ts us why short whole (first_is ts why h)
      no_cause us short whole never e (inr (why, at, r, told_e)) = never why at r

  -- ---- models

  pub one_model_of : (t u : ModelTree) → IsModel text t → IsModel text u → t ≡ u
  one_model_of t u m n =
      let same : n.tokens ≡ m.tokens = (one n.tokens m.tokens End End n.lexes m.lexes).0 in
      models.one_tree m.tokens t u m.spells (subst (λ ts. SpellsModel u ts) same n.spells)

  model_cause_is : (e : ParseRefusal) → IsModelCause text e → Cause (λ why at. IsRefusedModel text why at) e
  model_cause_is NoMemory c = absurd c
  model_cause_is (Lex why) c = lexer_cause (λ why at. IsRefusedModel text why at) why c.0 c.1
  model_cause_is (Syntax at) c = tokens_cause (λ why at. IsRefusedModel text why at) refusals.Syntax at c
  model_cause_is (Unsupported word at) c = tokens_cause (λ why at. IsRefusedModel text why at) (refusals.Unsupported word) at c
  model_cause_is (TooDeep at) c = tokens_cause (λ why at. IsRefusedModel text why at) refusals.TooDeep at c

  model_tokens_of : (why : Refusal) (at : ℕ) → IsRefusedModel text why at → (us : List Token) × (length text ≤ most_bytes) × Lexes 0 text us End
  model_tokens_of why at r = (r.tokens, r.short, r.lexes)

  model_same_told : (why other : Refusal) (at at' : ℕ) → IsRefusedModel text why at → IsRefusedModel text other at' → told why at ≡ told other at'
  model_same_told why other at at' r q =
      let same : r.tokens ≡ q.tokens = (one r.tokens q.tokens End End r.lexes q.lexes).0 in
      let both = models.one_model_refusal q.tokens why other r.rest q.rest (subst (λ ts. IsModelRefusal ts why r.rest) same r.refused) q.refused in
      let places : at ≡ at' = r.there ∙ ap (offset_of (length text)) both.1 ∙ sym q.there in
      ap (λ w. told w at) both.0 ∙ ap (told other) places

  pub one_model_refusal_of : (why other : ParseRefusal) → IsModelCause text why → IsModelCause text other → why ≡ other
  one_model_refusal_of why other c d =
      one_cause (λ why at. IsRefusedModel text why at) model_tokens_of model_same_told why other (model_cause_is why c) (model_cause_is other d)

  pub no_model_refusal : (tree : ModelTree) (why : ParseRefusal) → IsModel text tree → IsModelCause text why → ⊥
  no_model_refusal tree why m c = no_cause (λ why at. IsRefusedModel text why at) model_tokens_of model_same_told m.tokens m.short m.lexes never why (model_cause_is why c)
    where
      never : (why : Refusal) (at : ℕ) → IsRefusedModel text why at → ⊥
      never why at r =
          let same : r.tokens ≡ m.tokens = (one r.tokens m.tokens End End r.lexes m.lexes).0 in
          models.spelled_not_refused m.tokens tree why r.rest m.spells (subst (λ ts. IsModelRefusal ts why r.rest) same r.refused)

  -- ---- terms

  pub one_term_of : (t u : TermTree) → IsTerm text t → IsTerm text u → t ≡ u
  one_term_of t u m n =
      let same : n.tokens ≡ m.tokens = (one n.tokens m.tokens End End n.lexes m.lexes).0 in
      terms.term_unique m.tokens t u m.spells (subst (λ ts. term.Spells u ts) same n.spells)

  term_cause_is : (e : ParseRefusal) → IsTermCause text e → Cause (λ why at. IsRefusedTerm text why at) e
  term_cause_is NoMemory c = absurd c
  term_cause_is (Lex why) c = lexer_cause (λ why at. IsRefusedTerm text why at) why c.0 c.1
  term_cause_is (Syntax at) c = tokens_cause (λ why at. IsRefusedTerm text why at) refusals.Syntax at c
  term_cause_is (Unsupported word at) c = tokens_cause (λ why at. IsRefusedTerm text why at) (refusals.Unsupported word) at c
  term_cause_is (TooDeep at) c = tokens_cause (λ why at. IsRefusedTerm text why at) refusals.TooDeep at c

  term_tokens_of : (why : Refusal) (at : ℕ) → IsRefusedTerm text why at → (us : List Token) × (length text ≤ most_bytes) × Lexes 0 text us End
  term_tokens_of why at r = (r.tokens, r.short, r.lexes)

  term_same_told : (why other : Refusal) (at at' : ℕ) → IsRefusedTerm text why at → IsRefusedTerm text other at' → told why at ≡ told other at'
  term_same_told why other at at' r q =
      let same : r.tokens ≡ q.tokens = (one r.tokens q.tokens End End r.lexes q.lexes).0 in
      let both = terms.one_term_refusal q.tokens why other r.rest q.rest (subst (λ ts. IsTermRefusal ts why r.rest) same r.refused) q.refused in
      let places : at ≡ at' = r.there ∙ ap (offset_of (length text)) both.1 ∙ sym q.there in
      ap (λ w. told w at) both.0 ∙ ap (told other) places

  pub one_term_refusal_of : (why other : ParseRefusal) → IsTermCause text why → IsTermCause text other → why ≡ other
  one_term_refusal_of why other c d =
      one_cause (λ why at. IsRefusedTerm text why at) term_tokens_of term_same_told why other (term_cause_is why c) (term_cause_is other d)

  pub no_term_refusal : (tree : TermTree) (why : ParseRefusal) → IsTerm text tree → IsTermCause text why → ⊥
  no_term_refusal tree why m c = no_cause (λ why at. IsRefusedTerm text why at) term_tokens_of term_same_told m.tokens m.short m.lexes never why (term_cause_is why c)
    where
      never : (why : Refusal) (at : ℕ) → IsRefusedTerm text why at → ⊥
      never why at r =
          let same : r.tokens ≡ m.tokens = (one r.tokens m.tokens End End r.lexes m.lexes).0 in
          terms.spelled_not_refused m.tokens tree why r.rest m.spells (subst (λ ts. IsTermRefusal ts why r.rest) same r.refused)
