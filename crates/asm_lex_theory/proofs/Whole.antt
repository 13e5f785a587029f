-- A text is read in one way.
use Rattle.std.proofs.Common.{◌≡◌, ℕ, zero, suc, ◌+◌, ◌<◌, ◌≤◌, List, [], ◌∷◌, ◌++◌, length, sym, refl, ap, ◌∙◌, subst, arith, length-append}
use Rattle.asm_syntax.specs.Lexes.{IsGap, blank, line, block, IsToken, word, variable, number, marked, chars, symbol, Refuses, too_large, Stop, At, token_at, Lexes, end, gap, token, refusal}
use Rattle.asm_syntax.specs.declared.token.Token.{Token}
use Rattle.asm_syntax.specs.declared.token.TokenKind.{TokenKind}
use Rattle.asm_syntax.specs.declared.token_refusal.TokenRefusal.{TokenRefusal}
use Rattle.asm_lex_theory.specs.declared.Front.{Front}
use Rattle.asm_lex_theory.specs.declared.Front.TheVariants.{Gap, Taken, Refusal}
use Rattle.asm_lex_theory.specs.Scan.{front_of, front_on, Lexed, with_token, after_front, lexed_from}
use Rattle.asm_lex_theory.proofs.Forms.{form_of, longest_form}
use Rattle.asm_lex_theory.proofs.Fronts.{IsFront, is_front, gap_front, taken_front, refuse_front}

pub gap_some : (a c : List ℕ) → IsGap a c → 0 < length a
gap_some a c (blank h) = omega arith
gap_some x c (line a h s) = omega arith
gap_some x c (block a h) = omega arith

pub token_some : (a c : List ℕ) (k : TokenKind) → IsToken a c k → 0 < length a
token_some t c k (word {a = []} h) = absurd h
token_some t c k (word {a = x ∷ a} h) = omega arith
token_some t c k (variable {a = a} h) = omega arith
token_some t c k (number {a = []} h) = absurd h
token_some t c k (number {a = x ∷ a} h) = omega arith
token_some t c k (marked [] h s) = absurd h
token_some t c k (marked (x ∷ a) h s) = omega arith
token_some t c k (chars a h) = omega arith
token_some t c k (symbol {a = []} h) = absurd (cc)
token_some t c k (symbol {a = x ∷ a} h) = omega arith

pub skipped : (a c : List ℕ) (at : ℕ) → lexed_from (a ++ c) (length a) at ≡ lexed_from c zero (at + length a)
unfolding lexed_from
skipped [] c at = ap (lexed_from c zero) (omega arith)
skipped (x ∷ a) c at = skipped a c (at + 1) ∙ ap (lexed_from c zero) (omega arith)

pub gap_step : (bs a c : List ℕ) (at : ℕ) → bs ≡ a ++ c → 0 < length a → front_on bs ≡ Gap (length a) → lexed_from bs zero at ≡ lexed_from c zero (at + length a)
unfolding lexed_from
gap_step bs [] c at e n f = absurd (omega arith)
gap_step bs (x ∷ a) c at e n f =
    ap (λ (v : List ℕ). lexed_from v zero at) e
    ∙ ap (after_front at (λ skip. lexed_from (a ++ c) skip (at + 1))) (ap front_on (sym e) ∙ f)
    ∙ ap (λ (m : ℕ). lexed_from (a ++ c) m (at + 1)) (omega arith)
    ∙ skipped a c (at + 1) ∙ ap (lexed_from c zero) (omega arith)

pub token_step : (bs a c : List ℕ) (k : TokenKind) (at : ℕ) → bs ≡ a ++ c → 0 < length a → front_on bs ≡ Taken k (length a)
    → lexed_from bs zero at ≡ with_token (token_at k at (at + length a)) (lexed_from c zero (at + length a))
unfolding lexed_from
token_step bs [] c k at e n f = absurd (omega arith)
token_step bs (x ∷ a) c k at e n f =
    ap (λ (v : List ℕ). lexed_from v zero at) e
    ∙ ap (after_front at (λ skip. lexed_from (a ++ c) skip (at + 1))) (ap front_on (sym e) ∙ f)
    ∙ ap (λ (m : ℕ). with_token (token_at k at (at + length (x ∷ a))) (lexed_from (a ++ c) m (at + 1))) (omega arith)
    ∙ ap (with_token (token_at k at (at + length (x ∷ a)))) (skipped a c (at + 1) ∙ ap (lexed_from c zero) (omega arith))

pub refuse_step_at : (bs : List ℕ) (at : ℕ) (f : TokenRefusal) → Refuses bs f → front_on bs ≡ Refusal f → lexed_from bs zero at ≡ ([], At f at)
unfolding lexed_from
refuse_step_at [] at f (too_large {a = a} {b = c} {n = n} e g l le) i =
    let some = token_some a c _ l.token in let sum : 0 ≡ length a + length c = ap length e ∙ length-append a c in absurd (omega arith)
refuse_step_at (b ∷ rest) at f r e = ap (after_front at (λ skip. lexed_from rest skip (at + 1))) e

-- ---- what is read so, the function gives

pub lexes_is : (at : ℕ) (bs : List ℕ) (ts : List Token) (s : Stop) → Lexes at bs ts s → lexed_from bs zero at ≡ (ts, s)
unfolding lexed_from
lexes_is at bs ts s end = refl
lexes_is at bs ts s (gap {a = a} {b = c} e g l) =
    gap_step bs a c at e (gap_some a c g) (ap front_on e ∙ gap_front a c g) ∙ lexes_is (at + length a) c ts s l
lexes_is at bs ts s (token {a = a} {b = c} {k = k} {ts = us} e g t f l) =
    token_step bs a c k at e (token_some a c k t.token) (taken_front bs k (length a) g (ap form_of e ∙ longest_form a c k t) f)
    ∙ ap (with_token (token_at k at (at + length a))) (lexes_is (at + length a) c us s l)
lexes_is at bs ts s (refusal {f = f} r) = refuse_step_at bs at f r (refuse_front bs f r)

-- ---- what the function gives is read so

abbrev pub Reads : ℕ → List ℕ → Lexed → Type 0
Reads at bs l = Lexes at bs l.0 l.1

reads_within : (n : ℕ) (bs : List ℕ) (at : ℕ) → length bs ≤ n → Reads at bs (lexed_from bs zero at)
unfolding lexed_from
reads_within n [] at h = end
reads_within zero (b ∷ rest) at h = absurd (omega arith)
reads_within (suc n) (b ∷ rest) at h = go (front_of b rest) refl (is_front b rest) (reads_within n)
  where
    go : (f : Front) → front_of b rest ≡ f → IsFront (b ∷ rest) f → ((bs : List ℕ) (at : ℕ) → length bs ≤ n → Reads at bs (lexed_from bs zero at)) → Reads at (b ∷ rest) (lexed_from (b ∷ rest) zero at)
    go (Gap m) e s ih =
        let some = gap_some s.0 s.1 s.4 in
        let sum : length (b ∷ rest) ≡ length s.0 + length s.1 = ap length s.2 ∙ length-append s.0 s.1 in
        subst (Reads at (b ∷ rest)) (sym (gap_step (b ∷ rest) s.0 s.1 at s.2 some (e ∙ ap Gap s.3))) (gap s.2 s.4 (ih s.1 (at + length s.0) (omega arith)))
    go (Taken k m) e s ih =
        let some = token_some s.0 s.1 k s.5.token in
        let sum : length (b ∷ rest) ≡ length s.0 + length s.1 = ap length s.2 ∙ length-append s.0 s.1 in
        subst (Reads at (b ∷ rest)) (sym (token_step (b ∷ rest) s.0 s.1 k at s.2 some (e ∙ ap (Taken k) s.3))) (token s.2 s.4 s.5 s.6 (ih s.1 (at + length s.0) (omega arith)))
    go (Refusal f) e s ih = subst (Reads at (b ∷ rest)) (sym (refuse_step_at (b ∷ rest) at f s e)) (refusal s)

pub reads : (bs : List ℕ) (at : ℕ) → Reads at bs (lexed_from bs zero at)
reads bs at = reads_within (length bs) bs at (omega arith)
