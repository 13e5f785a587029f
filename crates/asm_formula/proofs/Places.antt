-- What is at an offset of a text, and the steps of the reading from there.
use Rattle.std.proofs.Common.{◌≡◌, ℕ, zero, suc, ◌+◌, ◌-◌, ◌<◌, ◌≤◌, Bool, true, false, List, [], ◌∷◌, ◌++◌, length, take, drop, get_or, Some, None, Ok, Err, sym, refl, ap, ◌∙◌, subst, arith, length-append, length-drop, append_assoc, append-nil, get_or-drop}
use Rattle.std.specs.List.{prefix_len}
use Rattle.std.specs.Str.{IsUtf8, IsCharBoundary}
use Rattle.std.proofs.lemmas.Bool.Decides.{nat_tests}
use Rattle.std.proofs.lemmas.List.{drop-drop, drop_more, take_all}
use Rattle.std.proofs.lemmas.Str.{IsCharBoundary-after_ascii}
use Rattle.asm_formula.specs.declared.formula.FormulaRefusal.TheVariants.{Syntax}
use Rattle.asm_formula.specs.declared.token.Token.{Token}
use Rattle.asm_formula.specs.declared.token.TokenKind.{TokenKind}
use Rattle.asm_formula.specs.declared.token.TokenKind.TheVariants.{Name}
use Rattle.asm_formula.specs.declared.token.Front.{Front}
use Rattle.asm_formula.specs.declared.token.Front.TheVariants.{Blank, Taken, Nothing}
use Rattle.asm_formula.specs.Tokens.{is_letter, is_name_byte, is_space, signs, token_at, IsLongest}
use Rattle.asm_formula.specs.Scan.{name_len, sign_of, name_of, token_of, front_of, front_on, Lexed, with_token, lexed_from, after_tokens}
use Rattle.asm_formula.specs.Reading.{lexed_whole}
use Rattle.asm_formula.proofs.Lists.{by_true, by_false, dropped}
use Rattle.asm_formula.proofs.Longest.{token_some, IsFront, is_front}
use Rattle.asm_formula.proofs.Lexed.{space_step, token_step, stop_step}

pub cons_at : (bs : List ℕ) (i : ℕ) → i < length bs → drop i bs ≡ get_or bs i 0 ∷ drop (i + 1) bs
cons_at bs i h = drop_more bs i 0 h

pub drop_out : (bs : List ℕ) (i : ℕ) → length bs ≤ i → drop i bs ≡ []
drop_out [] zero h = refl
drop_out [] (suc i) h = refl
drop_out (b ∷ bs) zero h = absurd (omega arith)
drop_out (b ∷ bs) (suc i) h = drop_out bs i (omega arith)

-- the slice from an offset on
pub left_whole : (bs : List ℕ) (at : ℕ) → take (length bs - at) (drop at bs) ≡ drop at bs
left_whole bs at = take_all (length bs - at) (drop at bs) (omega (arith, length-drop at bs))

-- ---- what is there

pub space_here : (bs : List ℕ) (at : ℕ) → at < length bs → is_space (get_or bs at 0) ≡ true → Blank ≡ front_on (drop at bs)
unfolding front_of
space_here bs at h e = sym (ap front_on (cons_at bs at h) ∙ by_true (λ (f : Front). f ≡ Blank) (is_space (get_or bs at 0)) _ _ e refl)

pub name_here : (bs : List ℕ) (at : ℕ) → at < length bs → is_space (get_or bs at 0) ≡ false → is_letter (get_or bs at 0) ≡ true
    → name_of (get_or bs at 0) (drop (at + 1) bs) ≡ front_on (drop at bs)
unfolding front_of token_of
name_here bs at h s e =
    let P : Front → Type 0 = λ f. f ≡ name_of (get_or bs at 0) (drop (at + 1) bs) in
    sym (ap front_on (cons_at bs at h) ∙ by_false P (is_space (get_or bs at 0)) _ _ s (by_true P (is_letter (get_or bs at 0)) _ _ e refl))

pub sign_here : (bs : List ℕ) (at : ℕ) → at < length bs → is_space (get_or bs at 0) ≡ false → is_letter (get_or bs at 0) ≡ false
    → sign_of signs (drop at bs) ≡ front_on (drop at bs)
unfolding front_of token_of
sign_here bs at h s e =
    let b = get_or bs at 0 in
    let rest = drop (at + 1) bs in
    let P : Front → Type 0 = λ f. f ≡ sign_of signs (b ∷ rest) in
    ap (sign_of signs) (cons_at bs at h)
    ∙ sym (ap front_on (cons_at bs at h) ∙ by_false P (is_space b) _ _ s (by_false P (is_letter b) _ _ e refl))

-- ---- names

prefix_passes : (p : ℕ → Bool) (bs : List ℕ) (k : ℕ) → k < prefix_len p bs → p (get_or bs k 0) ≡ true
prefix_passes p [] k h = absurd (omega arith)
prefix_passes p (b ∷ bs) k h = go (p b) refl k h (prefix_passes p bs)
  where
    go : (v : Bool) → p b ≡ v → (k : ℕ) → k < prefix_len p (b ∷ bs) → ((j : ℕ) → j < prefix_len p bs → p (get_or bs j 0) ≡ true) → p (get_or (b ∷ bs) k 0) ≡ true
    go true e zero h ih = e
    go true e (suc k) h ih = ih k (let m : suc k < 1 + prefix_len p bs = rw e at h in omega arith)
    go false e k h ih = absurd (let m : k < 0 = rw e at h in omega arith)

name_ascii : (b : ℕ) → is_name_byte b ≡ true → b < 128
name_ascii b h = grind (arith, nat_tests)

letter_ascii : (b : ℕ) → is_letter b ≡ true → b < 128
letter_ascii b h = grind (arith, nat_tests)

-- a text may be cut behind a name
pub run_cut : (bs : List ℕ) (at : ℕ) → IsUtf8 bs → at < length bs → is_letter (get_or bs at 0) ≡ true → at + name_len (drop (at + 1) bs) ≤ length bs
    → IsCharBoundary bs (at + name_len (drop (at + 1) bs))
run_cut bs at u h e w = go (prefix_len is_name_byte (drop (at + 1) bs)) refl
  where
    go : (n : ℕ) → prefix_len is_name_byte (drop (at + 1) bs) ≡ n → IsCharBoundary bs (at + name_len (drop (at + 1) bs))
    go zero f = subst (IsCharBoundary bs) (omega arith) (IsCharBoundary-after_ascii bs at u h (letter_ascii _ e))
    go (suc m) f =
        let passes = prefix_passes is_name_byte (drop (at + 1) bs) m (omega arith) in
        let last : get_or bs (at + 1 + m) 0 < 128 = name_ascii _ (ap is_name_byte (sym (get_or-drop (at + 1) bs m 0)) ∙ passes) in
        subst (IsCharBoundary bs) (omega arith) (IsCharBoundary-after_ascii bs (at + 1 + m) u (omega arith) last)

-- as the code says it
pub name_done : (bs : List ℕ) (at len : ℕ) (name : List ℕ) → at < length bs → len ≡ prefix_len is_name_byte (drop (at + 1) bs)
    → name ≡ take (at + (len + 1) - at) (drop at bs) → Taken (Name name) (len + 1) ≡ name_of (get_or bs at 0) (drop (at + 1) bs)
name_done bs at len name h l n =
    let rest = drop (at + 1) bs in
    let m : at + (len + 1) - at ≡ name_len rest = omega arith in
    ap (λ (x : List ℕ). Taken (Name x) (len + 1)) (n ∙ ap (λ x. take x (drop at bs)) m ∙ ap (take (name_len rest)) (cons_at bs at h))
    ∙ ap (λ (x : ℕ). Taken (Name (take (name_len rest) (get_or bs at 0 ∷ rest))) (x + 1)) l

-- ---- a step of the reading

-- the front of what is left
abbrev IsFrontOn : List ℕ → Front → Type 0
IsFrontOn [] f = ⊥
IsFrontOn (b ∷ rest) f = IsFront b rest f

is_front_on : (bs : List ℕ) → 0 < length bs → IsFrontOn bs (front_on bs)
is_front_on [] h = absurd (omega arith)
is_front_on (b ∷ rest) h = is_front b rest

-- a token at the front, and what follows it
abbrev Parts : List ℕ → TokenKind → ℕ → Type 0
Parts bs k n = (a c : List ℕ) × (bs ≡ a ++ c) × (n ≡ length a) × IsLongest a c k

parts_of : (bs : List ℕ) (k : TokenKind) (n : ℕ) → IsFrontOn bs (Taken k n) → Parts bs k n
parts_of [] k n h = absurd h
parts_of (b ∷ rest) k n h = h

parts_here : (bs : List ℕ) (at n : ℕ) (k : TokenKind) → at < length bs → Taken k n ≡ front_on (drop at bs) → Parts (drop at bs) k n
parts_here bs at n k h f =
    let left = length-drop at bs in
    parts_of (drop at bs) k n (subst (IsFrontOn (drop at bs)) (sym f) (is_front_on (drop at bs) (omega arith)))

pub record Moved (bs : List ℕ) (at n : ℕ) : Type 0 where
  pub some : 0 < n
  pub within : at + n ≤ length bs

pub token_moves : (bs : List ℕ) (at n : ℕ) (k : TokenKind) → at < length bs → Taken k n ≡ front_on (drop at bs) → Moved bs at n
token_moves bs at n k h f =
    let s = parts_here bs at n k h f in
    let some : 0 < length s.0 = token_some s.0 k s.4.token in
    let l : n ≡ length s.0 = s.3 in
    let sum : length (drop at bs) ≡ length s.0 + length s.1 = ap length s.2 ∙ length-append s.0 s.1 in
    let left = length-drop at bs in
    record { some = omega arith; within = omega arith }

token_next : (bs : List ℕ) (at n : ℕ) (k : TokenKind) → at < length bs → Taken k n ≡ front_on (drop at bs)
    → lexed_from (drop at bs) zero at ≡ with_token (token_at k at) (lexed_from (drop (at + n) bs) zero (at + n))
token_next bs at n k h f =
    let s = parts_here bs at n k h f in
    let rest : s.1 ≡ drop (at + n) bs = sym (dropped (drop at bs) s.0 s.1 n s.2 s.3) ∙ drop-drop n at bs in
    token_step (drop at bs) s.0 s.1 k at s.2 (token_some s.0 k s.4.token) (sym f ∙ ap (λ (m : ℕ). Taken k m) s.3)
    ∙ ap (λ (v : List ℕ). with_token (token_at k at) (lexed_from v zero (at + length s.0))) rest
    ∙ ap (λ (m : ℕ). with_token (token_at k at) (lexed_from (drop (at + n) bs) zero (at + m))) (sym s.3)

space_next : (bs : List ℕ) (at : ℕ) → at < length bs → Blank ≡ front_on (drop at bs) → lexed_from (drop at bs) zero at ≡ lexed_from (drop (at + 1) bs) zero (at + 1)
space_next bs at h f =
    ap (λ (v : List ℕ). lexed_from v zero at) (cons_at bs at h)
    ∙ space_step (get_or bs at 0) (drop (at + 1) bs) at (ap front_on (sym (cons_at bs at h)) ∙ sym f)

stop_next : (bs : List ℕ) (at : ℕ) → at < length bs → Nothing ≡ front_on (drop at bs) → lexed_from (drop at bs) zero at ≡ ([], Some at)
stop_next bs at h f =
    ap (λ (v : List ℕ). lexed_from v zero at) (cons_at bs at h)
    ∙ stop_step (get_or bs at 0) (drop (at + 1) bs) at (ap front_on (sym (cons_at bs at h)) ∙ sym f)

end_next : (bs : List ℕ) (at : ℕ) → length bs ≤ at → lexed_from (drop at bs) zero at ≡ ([], None)
unfolding lexed_from
end_next bs at h = ap (λ (v : List ℕ). lexed_from v zero at) (drop_out bs at h)

-- ---- the steps of the loop

module _ (text : List ℕ) (all : Lexed) (ts : List Token) (at : ℕ) (e : all ≡ after_tokens ts (lexed_from (drop at text) zero at)) where
  pub space_keeps : at < length text → Blank ≡ front_on (drop at text) → all ≡ after_tokens ts (lexed_from (drop (at + 1) text) zero (at + 1))
  space_keeps h f = e ∙ ap (after_tokens ts) (space_next text at h f)

  pub token_keeps : (n : ℕ) (k : TokenKind) (us : List Token) → at < length text → Taken k n ≡ front_on (drop at text) → us ≡ ts ++ token_at k at ∷ []
      → all ≡ after_tokens us (lexed_from (drop (at + n) text) zero (at + n))
  token_keeps n k us h f u =
      let l : Lexed = lexed_from (drop (at + n) text) zero (at + n) in
      e ∙ ap (after_tokens ts) (token_next text at n k h f)
      ∙ ap (λ (x : List Token). (x, l.1)) (sym (append_assoc ts (token_at k at ∷ []) l.0))
      ∙ ap (λ (x : List Token). after_tokens x l) (sym u)

  pub stop_gives : at < length text → Nothing ≡ front_on (drop at text) → lexed_whole all.0 all.1 ≡ Err (Syntax at)
  stop_gives h f = ap (λ (l : Lexed). lexed_whole l.0 l.1) (e ∙ ap (after_tokens ts) (stop_next text at h f))

  pub end_gives : length text ≤ at → lexed_whole all.0 all.1 ≡ Ok ts
  end_gives h =
      ap (λ (l : Lexed). lexed_whole l.0 l.1) (e ∙ ap (after_tokens ts) (end_next text at h)) ∙ ap (λ (x : List Token). Ok x) (append-nil ts)
