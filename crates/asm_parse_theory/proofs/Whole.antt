-- What a whole list answers, by the facts of its line: the one value that the grammar spells by it, or its first refusal.
use Rattle.std.proofs.Common.{◌≡◌, ℕ, List, [], ◌∷◌, Bool, true, false, inl, inr, sym, refl, ◌∙◌, subst, arith}
use Rattle.asm_grammar.specs.Language.{Language}
use Rattle.asm_grammar.specs.Parser.{Took, Refused, Parser}
use Rattle.asm_grammar.specs.Refusals.{unlimited}
use Rattle.asm_grammar.proofs.Whole.{AnswerIs, whole_answer, reads_spelled}
use Rattle.asm_grammar.proofs.Fronts.{Fronts}
use Rattle.asm_grammar.proofs.Wider.{Wider, wider-unlimited}
use Rattle.asm_syntax.specs.declared.token.Token.{Token}
use Rattle.asm_syntax.specs.Forms.{any}
use Rattle.asm_syntax.specs.Heights.{fits}
use Rattle.asm_syntax.specs.Refusals.{TooDeep, syntax_refusal, IsRefusedAt, syntax, too_deep}
use Rattle.asm_parse_theory.proofs.Facts.{Limited, Loose, Line}

-- the language and the parser have the same test
same_test : (X : Bool) → Loose X fits
same_test X t h k = let both : true ≡ false = sym h ∙ k in absurd (cc both)

-- in these languages everything may stand left of an operator
any_test : Loose true any
any_test t h k = refl

module _ {V : Type 0} {p : ℕ → Parser Token V} {L : Limited V} {F : Token → Bool} {C : V → Token → Bool} (line : Line p L F C) where
  -- at most 64 constructs open at once
  abbrev pub within : Language Token V
  within = L fits 64

  abbrev pub free : Language Token V
  free = unlimited (λ n. L any n)

  pub fronts_within : Fronts within
  fronts_within = line.fronts fits 64

  pub wider_free : Wider within free
  wider_free = wider-unlimited 64 (line.wider 64)

  -- ---- the parser's answer

  pub line_answer : (ts : List Token) → AnswerIs within free ts (p 64 ts)
  line_answer =
      whole_answer 65 (line.sound 64) (line.complete false fits (same_test false) 64 64 (inr (omega arith)))
      (λ n. line.complete true any any_test 64 n (inl refl))

  -- what is spelled is taken to the end
  pub line_complete : (ts : List Token) (v : V) → within.Spells v ts → p 64 ts ≡ Took v []
  line_complete =
      reads_spelled 65 (line.sound 64) (line.complete false fits (same_test false) 64 64 (inr (omega arith)))
      (λ n. line.complete true any any_test 64 n (inl refl))

  -- what is taken to the end is spelled
  pub line_sound : (ts : List Token) (v : V) → p 64 ts ≡ Took v [] → within.Spells v ts
  line_sound ts v e = (subst (λ r. AnswerIs within free ts r) e (line_answer ts)).0

  -- at most one value is spelled
  pub line_unique : (ts : List Token) (v w : V) → within.Spells v ts → within.Spells w ts → v ≡ w
  line_unique ts v w h k = let same : Took v [] ≡ Took w [] = sym (line_complete ts v h) ∙ line_complete ts w k in cc same

  -- ---- refusals

  -- a value that leaves tokens
  pub line_left : (ts : List Token) (v : V) (t : Token) (rest : List Token) → p 64 ts ≡ Took v (t ∷ rest)
      → IsRefusedAt within free ts (syntax_refusal (t ∷ rest)) (t ∷ rest)
  line_left ts v t rest e = syntax (subst (λ r. AnswerIs within free ts r) e (line_answer ts))

  pub line_syntax : (ts rest : List Token) → p 64 ts ≡ Refused false rest → IsRefusedAt within free ts (syntax_refusal rest) rest
  line_syntax ts rest e = syntax (subst (λ r. AnswerIs within free ts r) e (line_answer ts))

  pub line_too_deep : (ts rest : List Token) → p 64 ts ≡ Refused true rest → IsRefusedAt within free ts TooDeep rest
  line_too_deep ts rest e = too_deep (subst (λ r. AnswerIs within free ts r) e (line_answer ts))
