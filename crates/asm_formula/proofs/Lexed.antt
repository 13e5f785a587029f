-- The function that reads tokens gives what the relation says, and a text is read in one way.
use Rattle.std.proofs.Common.{◌≡◌, ℕ, zero, suc, ◌+◌, ◌<◌, ◌≤◌, List, [], ◌∷◌, ◌++◌, length, Option, Some, sym, refl, ap, ◌∙◌, subst, arith, length-append}
use Rattle.asm_formula.specs.declared.token.Token.{Token}
use Rattle.asm_formula.specs.declared.token.TokenKind.{TokenKind}
use Rattle.asm_formula.specs.declared.token.Front.{Front}
use Rattle.asm_formula.specs.declared.token.Front.TheVariants.{Blank, Taken, Nothing}
use Rattle.asm_formula.specs.Tokens.{token_at, Lexes, end, space, token, stop}
use Rattle.asm_formula.specs.Scan.{front_of, front_on, Lexed, with_token, after_front, lexed_from}
use Rattle.asm_formula.proofs.Longest.{token_some, IsFront, is_front, space_front, token_front, nothing_front}

pub skipped : (a c : List ℕ) (at : ℕ) → lexed_from (a ++ c) (length a) at ≡ lexed_from c zero (at + length a)
unfolding lexed_from
skipped [] c at = ap (lexed_from c zero) (omega arith)
skipped (x ∷ a) c at = skipped a c (at + 1) ∙ ap (lexed_from c zero) (omega arith)

pub space_step : (b : ℕ) (rest : List ℕ) (at : ℕ) → front_of b rest ≡ Blank → lexed_from (b ∷ rest) zero at ≡ lexed_from rest zero (at + 1)
unfolding lexed_from
space_step b rest at e = ap (after_front at (λ skip. lexed_from rest skip (at + 1))) e

pub token_step : (bs a c : List ℕ) (k : TokenKind) (at : ℕ) → bs ≡ a ++ c → 0 < length a → front_on bs ≡ Taken k (length a)
    → lexed_from bs zero at ≡ with_token (token_at k at) (lexed_from c zero (at + length a))
unfolding lexed_from
token_step bs [] c k at e n f = absurd (omega arith)
token_step bs (x ∷ a) c k at e n f =
    ap (λ (v : List ℕ). lexed_from v zero at) e
    ∙ ap (after_front at (λ skip. lexed_from (a ++ c) skip (at + 1))) (ap front_on (sym e) ∙ f)
    ∙ ap (λ (m : ℕ). with_token (token_at k at) (lexed_from (a ++ c) m (at + 1))) (omega arith)
    ∙ ap (with_token (token_at k at)) (skipped a c (at + 1) ∙ ap (lexed_from c zero) (omega arith))

pub stop_step : (b : ℕ) (rest : List ℕ) (at : ℕ) → front_of b rest ≡ Nothing → lexed_from (b ∷ rest) zero at ≡ ([], Some at)
unfolding lexed_from
stop_step b rest at e = ap (after_front at (λ skip. lexed_from rest skip (at + 1))) e

-- ---- what is read so, the function gives

pub lexes_is : (at : ℕ) (bs : List ℕ) (ts : List Token) (s : Option ℕ) → Lexes at bs ts s → lexed_from bs zero at ≡ (ts, s)
unfolding lexed_from
lexes_is at bs ts s end = refl
lexes_is at bs ts s (space {b = b} {bs = rest} h l) = space_step b rest at (space_front b rest h) ∙ lexes_is (at + 1) rest ts s l
lexes_is at bs ts s (token {a = a} {c = c} {k = k} {ts = us} e g l) =
    token_step bs a c k at e (token_some a k g.token) (token_front bs a c k e g)
    ∙ ap (with_token (token_at k at)) (lexes_is (at + length a) c us s l)
lexes_is at bs ts s (stop {b = b} {bs = rest} h none) = stop_step b rest at (nothing_front b rest h none)

-- ---- what the function gives is read so

abbrev pub Reads : ℕ → List ℕ → Lexed → Type 0
Reads at bs l = Lexes at bs l.0 l.1

reads_within : (n : ℕ) (bs : List ℕ) (at : ℕ) → length bs ≤ n → Reads at bs (lexed_from bs zero at)
unfolding lexed_from
reads_within n [] at h = end
reads_within zero (b ∷ rest) at h = absurd (omega arith)
reads_within (suc n) (b ∷ rest) at h = go (front_of b rest) refl (is_front b rest) (reads_within n)
  where
    go : (f : Front) → front_of b rest ≡ f → IsFront b rest f → ((bs : List ℕ) (at : ℕ) → length bs ≤ n → Reads at bs (lexed_from bs zero at)) → Reads at (b ∷ rest) (lexed_from (b ∷ rest) zero at)
    go Blank e s ih = subst (Reads at (b ∷ rest)) (sym (space_step b rest at e)) (space s (ih rest (at + 1) (omega arith)))
    go (Taken k m) e s ih =
        let some = token_some s.0 k s.4.token in
        let sum : length (b ∷ rest) ≡ length s.0 + length s.1 = ap length s.2 ∙ length-append s.0 s.1 in
        subst (Reads at (b ∷ rest)) (sym (token_step (b ∷ rest) s.0 s.1 k at s.2 some (e ∙ ap (Taken k) s.3))) (token s.2 s.4 (ih s.1 (at + length s.0) (omega arith)))
    go Nothing e s ih = subst (Reads at (b ∷ rest)) (sym (stop_step b rest at e)) (stop s.0 s.1)

pub reads : (bs : List ℕ) (at : ℕ) → Reads at bs (lexed_from bs zero at)
reads bs at = reads_within (length bs) bs at (omega arith)
