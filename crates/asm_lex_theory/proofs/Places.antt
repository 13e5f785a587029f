-- What is at an offset of a text.
use Rattle.std.proofs.Common.{◌≡◌, ℕ, zero, suc, ◌+◌, ◌-◌, ◌*◌, ◌^◌, ◌<◌, ◌≤◌, true, false, List, [], ◌∷◌, ◌++◌, length, take, drop, get_or, sym, refl, ap, ◌∙◌, subst, arith, length-append, length-drop, add-one, drop-cons}
use Rattle.std.specs.Prelude.{codes, Option, Some, None, fold}
use Rattle.std.specs.Option.{option_map}
use Rattle.std.proofs.lemmas.List.{drop-drop, take-append-drop}
use Rattle.std.proofs.lemmas.List.Sums.{fold_more, fold-append}
use Rattle.asm_syntax.specs.Bytes.{starts_with, value_of}
use Rattle.asm_syntax.specs.declared.token_refusal.TokenRefusal.{TokenRefusal}
use Rattle.asm_syntax.specs.Lexes.{End, At, token_at}
use Rattle.asm_syntax.specs.declared.token.TokenKind.{TokenKind}
use Rattle.asm_lex_theory.specs.declared.Front.TheVariants.{Gap, Taken, Refusal}
use Rattle.asm_lex_theory.specs.Scan.{front_on, block_len, with_token, lexed_from}
use Rattle.asm_lex_theory.proofs.Lists.{by_true, by_false, dropped}
use Rattle.asm_lex_theory.proofs.Fronts.{IsFront, is_front}
use Rattle.asm_lex_theory.proofs.Whole.{gap_some, token_some, gap_step, token_step, refuse_step_at}

pub cons_at : (bs : List ℕ) (i : ℕ) → i < length bs → drop i bs ≡ get_or bs i 0 ∷ drop (i + 1) bs
cons_at bs i h = rw (add-one, drop-cons bs i 0) refl

pub drop_out : (bs : List ℕ) (i : ℕ) → length bs ≤ i → drop i bs ≡ []
drop_out [] zero h = refl
drop_out [] (suc i) h = refl
drop_out (b ∷ bs) zero h = absurd (omega arith)
drop_out (b ∷ bs) (suc i) h = drop_out bs i (omega arith)

-- ---- the end of a comment

pub block_here : (bs : List ℕ) (i : ℕ) → i < length bs → starts_with (codes "*/") (get_or bs i 0 ∷ drop (i + 1) bs) ≡ true → block_len (drop i bs) ≡ Some 2
unfolding block_len
block_here bs i h e = ap block_len (cons_at bs i h) ∙ by_true (λ (o : Option ℕ). o ≡ Some 2) (starts_with (codes "*/") (get_or bs i 0 ∷ drop (i + 1) bs)) _ _ e refl

pub block_next : (bs : List ℕ) (i : ℕ) → i < length bs → starts_with (codes "*/") (get_or bs i 0 ∷ drop (i + 1) bs) ≡ false
    → block_len (drop i bs) ≡ option_map (λ n. n + 1) (block_len (drop (i + 1) bs))
unfolding block_len
block_next bs i h e = ap block_len (cons_at bs i h)
    ∙ by_false (λ (o : Option ℕ). o ≡ option_map (λ n. n + 1) (block_len (drop (i + 1) bs))) (starts_with (codes "*/") (get_or bs i 0 ∷ drop (i + 1) bs)) _ _ e refl

pub block_out : (bs : List ℕ) (i : ℕ) → length bs ≤ i → block_len (drop i bs) ≡ None
unfolding block_len
block_out bs i h = ap block_len (drop_out bs i h)

pub shifted : (j k : ℕ) (o : Option ℕ) → j ≡ k + 1 → option_map (λ n. n + k) (option_map (λ n. n + 1) o) ≡ option_map (λ n. n + j) o
shifted j k None e = refl
shifted j k (Some n) e = ap Some (omega arith)

-- ---- numbers

grows : (n : ℕ) (bs : List ℕ) → n ≤ fold (λ n b. 10 * n + (b - 48)) n bs
grows n [] = omega arith
grows n (b ∷ bs) = let ih = grows (10 * n + (b - 48)) bs in omega arith

pub too_many : (bs : List ℕ) (i value : ℕ) → i < length bs → value ≡ value_of (take i bs) → 2 ^ 127 ≤ 10 * value + (get_or bs i 0 - 48) → 2 ^ 127 ≤ value_of bs
too_many bs i value h e large =
    let step : value_of (take (i + 1) bs) ≡ 10 * value_of (take i bs) + (get_or bs i 0 - 48) = fold_more (λ n b. 10 * n + (b - 48)) 0 bs i 0 h in
    let whole : value_of bs ≡ fold (λ n b. 10 * n + (b - 48)) (value_of (take (i + 1) bs)) (drop (i + 1) bs) =
    ap value_of (sym (take-append-drop (i + 1) bs)) ∙ fold-append (λ n b. 10 * n + (b - 48)) 0 (take (i + 1) bs) (drop (i + 1) bs) in
    let more = grows (value_of (take (i + 1) bs)) (drop (i + 1) bs) in omega arith

-- ---- a step of the reading

is_front_on : (bs : List ℕ) → 0 < length bs → IsFront bs (front_on bs)
is_front_on [] h = absurd (omega arith)
is_front_on (b ∷ bs) h = is_front b bs

pub record Moved (bs : List ℕ) (at n : ℕ) : Type 0 where
  pub some : 0 < n
  pub within : at + n ≤ length bs

moved_rest : (bs a c : List ℕ) (at n : ℕ) → drop at bs ≡ a ++ c → n ≡ length a → c ≡ drop (at + n) bs
moved_rest bs a c at n e l = sym (dropped (drop at bs) a c n e l) ∙ drop-drop n at bs

moved_within : (bs a c : List ℕ) (at n : ℕ) → at < length bs → 0 < length a → drop at bs ≡ a ++ c → n ≡ length a → Moved bs at n
moved_within bs a c at n h s e l =
    let sum : length (drop at bs) ≡ length a + length c = ap length e ∙ length-append a c in
    let left = length-drop at bs in
    record { some = omega arith; within = omega arith }

front_here : (bs : List ℕ) (at : ℕ) → at < length bs → IsFront (drop at bs) (front_on (drop at bs))
front_here bs at h = let left = length-drop at bs in is_front_on (drop at bs) (omega arith)

pub gap_moves : (bs : List ℕ) (at n : ℕ) → at < length bs → Gap n ≡ front_on (drop at bs) → Moved bs at n
gap_moves bs at n h f = let s = subst (IsFront (drop at bs)) (sym f) (front_here bs at h) in moved_within bs s.0 s.1 at n h (gap_some s.0 s.1 s.4) s.2 s.3

pub token_moves : (bs : List ℕ) (at n : ℕ) (k : TokenKind) → at < length bs → Taken k n ≡ front_on (drop at bs) → Moved bs at n
token_moves bs at n k h f = let s = subst (IsFront (drop at bs)) (sym f) (front_here bs at h) in moved_within bs s.0 s.1 at n h (token_some s.0 s.1 k s.5.token) s.2 s.3

pub gap_at : (bs : List ℕ) (at n : ℕ) → at < length bs → Gap n ≡ front_on (drop at bs) → lexed_from (drop at bs) zero at ≡ lexed_from (drop (at + n) bs) zero (at + n)
gap_at bs at n h f =
    let s = subst (IsFront (drop at bs)) (sym f) (front_here bs at h) in
    gap_step (drop at bs) s.0 s.1 at s.2 (gap_some s.0 s.1 s.4) (sym f ∙ ap Gap s.3)
    ∙ ap (λ (v : List ℕ). lexed_from v zero (at + length s.0)) (moved_rest bs s.0 s.1 at n s.2 s.3) ∙ ap (λ (m : ℕ). lexed_from (drop (at + n) bs) zero (at + m)) (sym s.3)

pub token_next : (bs : List ℕ) (at n : ℕ) (k : TokenKind) → at < length bs → Taken k n ≡ front_on (drop at bs)
    → lexed_from (drop at bs) zero at ≡ with_token (token_at k at (at + n)) (lexed_from (drop (at + n) bs) zero (at + n))
token_next bs at n k h f =
    let s = subst (IsFront (drop at bs)) (sym f) (front_here bs at h) in
    token_step (drop at bs) s.0 s.1 k at s.2 (token_some s.0 s.1 k s.5.token) (sym f ∙ ap (Taken k) s.3)
    ∙ ap (λ (v : List ℕ). with_token (token_at k at (at + length s.0)) (lexed_from v zero (at + length s.0))) (moved_rest bs s.0 s.1 at n s.2 s.3)
    ∙ ap (λ (m : ℕ). with_token (token_at k at (at + m)) (lexed_from (drop (at + n) bs) zero (at + m))) (sym s.3)

pub refused_at : (bs : List ℕ) (at : ℕ) (f : TokenRefusal) → at < length bs → Refusal f ≡ front_on (drop at bs) → lexed_from (drop at bs) zero at ≡ ([], At f at)
refused_at bs at f h e = refuse_step_at (drop at bs) at f (subst (IsFront (drop at bs)) (sym e) (front_here bs at h)) (sym e)

pub ended_at : (bs : List ℕ) (at : ℕ) → length bs ≤ at → lexed_from (drop at bs) zero at ≡ ([], End)
unfolding lexed_from
ended_at bs at h = ap (λ (v : List ℕ). lexed_from v zero at) (drop_out bs at h)
