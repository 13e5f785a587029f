-- What is at the front of a text.
use Rattle.std.proofs.Common.{◌≡◌, ℕ, ◌+◌, ◌^◌, ◌≤◌, Bool, true, false, List, [], ◌∷◌, ◌++◌, length, drop, sym, refl, ap, ◌∙◌, subst, arith, append_assoc, length-append}
use Rattle.std.specs.Prelude.{cond, ◌==◌, codes, Option, Some, None, pos, negsuc}
use Rattle.std.specs.Option.{option_map}
use Rattle.std.specs.List.{prefix_len}
use Rattle.std.proofs.lemmas.Bool.Decides.{nat_tests}
use Rattle.asm_syntax.specs.Bytes.{is_blank, is_string_byte, is_line_byte, starts_with}
use Rattle.asm_syntax.specs.Lexes.{HasNoEnd, IsGap, blank, line, block, begins_comment, begins_gap, IsToken, IsLongest, Fits, Refuses, open_comment, open_string, too_large, bad_byte}
use Rattle.asm_syntax.specs.declared.token.TokenKind.{TokenKind}
use Rattle.asm_syntax.specs.declared.token.TokenKind.TheVariants.{Id, Var, Number, Chars, Keyword, Refused, Symbol}
use Rattle.asm_syntax.specs.declared.token_refusal.TokenRefusal.{TokenRefusal}
use Rattle.asm_syntax.specs.declared.token_refusal.TokenRefusal.TheVariants.{OpenString, NumberTooLarge, BadByte}
use Rattle.asm_lex_theory.specs.declared.Front.{Front}
use Rattle.asm_lex_theory.specs.declared.Front.TheVariants.{Gap, Taken, Refusal}
use Rattle.asm_lex_theory.specs.Scan.{block_len, block_front, Form, token_form, fits, token_front, front_of, front_on}
use Rattle.asm_lex_theory.proofs.Lists.{by_cond, by_true, by_false, split, prefix_is, dropped, and_false, or_neither, or_none, eq_is, starts_two}
use Rattle.asm_lex_theory.proofs.Forms.{form_of, longest_form, form_longest, form_none}

-- the front is a gap, the longest token or a refusal, as the definition has them
abbrev pub IsFront : List ℕ → Front → Type 0
IsFront bs (Gap n) = (a c : List ℕ) × (bs ≡ a ++ c) × (n ≡ length a) × IsGap a c
IsFront bs (Taken k n) = (a c : List ℕ) × (bs ≡ a ++ c) × (n ≡ length a) × (begins_gap bs ≡ false) × IsLongest a c k × Fits k
IsFront bs (Refusal f) = Refuses bs f

-- ---- comments

line_is_front : (bs : List ℕ) → IsFront (codes "//" ++ bs) (Gap (prefix_len is_line_byte bs + 2))
line_is_front bs =
    let s = split is_line_byte bs in
    let n = s.len in
    (codes "//" ++ s.front, s.back, ap (λ x. codes "//" ++ x) s.parts, omega arith, line s.front s.all s.stops)

abbrev pub Block : List ℕ → Option ℕ → Type 0
Block bs None = HasNoEnd bs
Block bs (Some n) = (a after : List ℕ) × (bs ≡ a ++ 42 ∷ 47 ∷ after) × (n ≡ length a + 2) × HasNoEnd (a ++ codes "*")

-- whether the end is here doesn't depend on what follows it
no_end_here : (b : ℕ) (a after : List ℕ) → starts_with (codes "*/") (b ∷ (a ++ 42 ∷ 47 ∷ after)) ≡ false → starts_with (codes "*/") (b ∷ (a ++ codes "*")) ≡ false
no_end_here b [] after h = and_false (42 == b)
no_end_here b (y ∷ a) after h = h

end_not_here : (b : ℕ) (a after : List ℕ) → starts_with (codes "*/") (b ∷ (a ++ codes "*")) ≡ false → starts_with (codes "*/") (b ∷ (a ++ 42 ∷ 47 ∷ after)) ≡ false
end_not_here b [] after h = and_false (42 == b)
end_not_here b (y ∷ a) after h = h

block_step : (b : ℕ) (bs : List ℕ) (o : Option ℕ) → starts_with (codes "*/") (b ∷ bs) ≡ false → Block bs o → Block (b ∷ bs) (option_map (λ n. n + 1) o)
block_step b bs None h k = (h, k)
block_step b bs (Some n) h k =
    let l : n ≡ length k.0 + 2 = k.3 in
    (b ∷ k.0, k.1, ap (λ x. b ∷ x) k.2, omega arith, (no_end_here b k.0 k.1 (ap (λ x. starts_with (codes "*/") (b ∷ x)) (sym k.2) ∙ h), k.4))

block_is : (bs : List ℕ) → Block bs (block_len bs)
unfolding block_len
block_is [] = tt
block_is (b ∷ bs) =
    by_cond (Block (b ∷ bs)) (starts_with (codes "*/") (b ∷ bs)) _ _
    (λ h. let e = starts_two 42 47 (b ∷ bs) h in ([], e.0, e.1, refl, (refl, tt)))
    (λ h. block_step b bs (block_len bs) h (block_is bs))

block_is_front : (bs : List ℕ) → IsFront (codes "/*" ++ bs) (block_front (block_len bs))
unfolding block_len
block_is_front bs = go (block_len bs) (block_is bs)
  where
    go : (o : Option ℕ) → Block bs o → IsFront (codes "/*" ++ bs) (block_front o)
    go None k = open_comment bs k
    go (Some n) k =
        let l : n ≡ length k.0 + 2 = k.3 in
        let long : length (k.0 ++ codes "*/") ≡ length k.0 + 2 = length-append k.0 (codes "*/") in
        (codes "/*" ++ (k.0 ++ codes "*/"), k.1, ap (λ x. codes "/*" ++ x) (k.2 ∙ sym (append_assoc k.0 (codes "*/") k.1)), omega arith, block k.0 k.4)

block_found : (a c : List ℕ) → HasNoEnd (a ++ codes "*") → block_len (a ++ 42 ∷ 47 ∷ c) ≡ Some (length a + 2)
unfolding block_len
block_found [] c h = refl
block_found (x ∷ a) c h =
    by_false (λ (o : Option ℕ). o ≡ Some (length (x ∷ a) + 2)) (starts_with (codes "*/") (x ∷ (a ++ 42 ∷ 47 ∷ c))) _ _ (end_not_here x a c h.0)
    (ap (option_map (λ n. n + 1)) (block_found a c h.1) ∙ ap Some (omega arith))

block_none : (a : List ℕ) → HasNoEnd a → block_len a ≡ None
unfolding block_len
block_none [] h = refl
block_none (x ∷ a) h =
    by_false (λ (o : Option ℕ). o ≡ None) (starts_with (codes "*/") (x ∷ a)) _ _ h.0 (ap (option_map (λ n. n + 1)) (block_none a h.1))

-- ---- sizes

fits_true : (k : TokenKind) → Fits k → fits k ≡ true
fits_true (Number (pos n)) h = grind (arith, nat_tests)
fits_true (Number (negsuc n)) h = refl
fits_true (Id n) h = refl
fits_true (Var n) h = refl
fits_true (Chars n) h = refl
fits_true (Keyword n) h = refl
fits_true (Refused n) h = refl
fits_true (Symbol n) h = refl

fits_is : (k : TokenKind) → fits k ≡ true → Fits k
fits_is (Number (pos n)) h = grind (arith, nat_tests)
fits_is (Number (negsuc n)) h = tt
fits_is (Id n) h = tt
fits_is (Var n) h = tt
fits_is (Chars n) h = tt
fits_is (Keyword n) h = tt
fits_is (Refused n) h = tt
fits_is (Symbol n) h = tt

large_is : (k : TokenKind) → fits k ≡ false → (n : ℕ) × (k ≡ Number (pos n)) × (2 ^ 127 ≤ n)
large_is (Number (pos n)) h = (n, refl, grind (arith, nat_tests))
large_is (Number (negsuc n)) h = absurd (cc)
large_is (Id n) h = absurd (cc)
large_is (Var n) h = absurd (cc)
large_is (Chars n) h = absurd (cc)
large_is (Keyword n) h = absurd (cc)
large_is (Refused n) h = absurd (cc)
large_is (Symbol n) h = absurd (cc)

large_false : (n : ℕ) → 2 ^ 127 ≤ n → fits (Number (pos n)) ≡ false
large_false n h = grind (arith, nat_tests)

-- ---- tokens

open_is_refused : (rest : List ℕ) → token_form 34 rest ≡ None → Refuses (34 ∷ rest) OpenString
unfolding front_of token_front token_form block_len
open_is_refused rest e =
    let s = split is_string_byte rest in
    let len = prefix_len is_string_byte rest in
    subst (λ (x : List ℕ). Refuses (34 ∷ x) OpenString) (sym s.parts) (open_string s.front s.back s.all s.stops
    (ap (starts_with (codes "\"")) (sym (dropped rest s.front s.back len s.parts s.len)) ∙ closed (starts_with (codes "\"") (drop len rest)) _ e))
  where
    closed : (v : Bool) (f : TokenKind × ℕ) → cond v (Some f) None ≡ None → v ≡ false
    closed false f e = refl
    closed true f e = absurd (cc)

token_is_front : (b : ℕ) (rest : List ℕ) → begins_gap (b ∷ rest) ≡ false → IsFront (b ∷ rest) (token_front b (token_form b rest))
unfolding front_of token_front token_form block_len
token_is_front b rest g = go (token_form b rest) refl
  where
    go : (f : Form) → token_form b rest ≡ f → IsFront (b ∷ rest) (token_front b f)
    go None e = by_cond (IsFront (b ∷ rest)) (b == 34) _ _
        (λ h. let q = eq_is b 34 h in subst (λ (x : ℕ). Refuses (x ∷ rest) OpenString) (sym q) (open_is_refused rest (ap (λ x. token_form x rest) (sym q) ∙ e)))
        (λ h. bad_byte g h (form_none (b ∷ rest) e))
    go (Some (k, n)) e =
        let l = form_longest (b ∷ rest) k n e in
        by_cond (IsFront (b ∷ rest)) (fits k) _ _
        (λ h. (l.0, l.1, l.2, l.3, g, l.4, fits_is k h))
        (λ h. let big = large_is k h in too_large l.2 g (subst (IsLongest l.0 l.1) big.1 l.4) big.2)

pub is_front : (b : ℕ) (rest : List ℕ) → IsFront (b ∷ rest) (front_of b rest)
unfolding front_of token_front token_form block_len
is_front b rest =
    by_cond (IsFront (b ∷ rest)) (is_blank b) _ _ (λ h. (b ∷ [], rest, refl, refl, blank h)) (λ i.
    by_cond (IsFront (b ∷ rest)) (starts_with (codes "//") (b ∷ rest)) _ _
    (λ h. let e = starts_two 47 47 (b ∷ rest) h in subst (λ (x : List ℕ). IsFront x (Gap (prefix_len is_line_byte (drop 2 x) + 2))) (sym e.1) (line_is_front e.0)) (λ j.
    by_cond (IsFront (b ∷ rest)) (starts_with (codes "/*") (b ∷ rest)) _ _
    (λ h. let e = starts_two 47 42 (b ∷ rest) h in subst (λ (x : List ℕ). IsFront x (block_front (block_len (drop 2 x)))) (sym e.1) (block_is_front e.0)) (λ k.
    token_is_front b rest (or_none _ _ i (or_none _ _ j k)))))

-- ---- there is no other front

pub gap_front : (a c : List ℕ) → IsGap a c → front_on (a ++ c) ≡ Gap (length a)
unfolding front_of token_front token_form block_len
gap_front a c (blank {b = b} h) = by_true (λ (f : Front). f ≡ Gap 1) (is_blank b) _ _ h refl
gap_front x c (line a h s) = ap Gap (let n = prefix_is is_line_byte a c h s in omega arith)
gap_front x c (block a h) =
    ap (λ v. block_front (block_len v)) (append_assoc a (codes "*/") c) ∙ ap block_front (block_found a c h)
    ∙ ap Gap (let long : length (a ++ codes "*/") ≡ length a + 2 = length-append a (codes "*/") in omega arith)

no_gap_front : (bs : List ℕ) → begins_gap bs ≡ false → (b : ℕ) (rest : List ℕ) → bs ≡ b ∷ rest → front_on bs ≡ token_front b (token_form b rest)
unfolding front_of token_front token_form block_len
no_gap_front [] g b rest e = absurd (cc)
no_gap_front (x ∷ xs) g b rest e =
    let n = or_neither (is_blank x) (begins_comment (x ∷ xs)) g in
    let m = or_neither (starts_with (codes "//") (x ∷ xs)) (starts_with (codes "/*") (x ∷ xs)) n.1 in
    let P : Front → Type 0 = λ f. f ≡ token_front x (token_form x xs) in
    by_false P (is_blank x) _ _ n.0 (by_false P (starts_with (codes "//") (x ∷ xs)) _ _ m.0 (by_false P (starts_with (codes "/*") (x ∷ xs)) _ _ m.1 refl))
    ∙ ap (λ v. front_form v) e
  where
    front_form : List ℕ → Front
    front_form [] = Refusal BadByte
    front_form (b ∷ rest) = token_front b (token_form b rest)

pub taken_front : (bs : List ℕ) (k : TokenKind) (n : ℕ) → begins_gap bs ≡ false → form_of bs ≡ Some (k, n) → Fits k → front_on bs ≡ Taken k n
unfolding front_of token_front token_form block_len
taken_front [] k n g e h = absurd (cc)
taken_front (b ∷ rest) k n g e h =
    no_gap_front (b ∷ rest) g b rest refl ∙ ap (token_front b) e ∙ by_true (λ (f : Front). f ≡ Taken k n) (fits k) _ _ (fits_true k h) refl

large_front : (bs : List ℕ) (m n : ℕ) → begins_gap bs ≡ false → form_of bs ≡ Some (Number (pos m), n) → 2 ^ 127 ≤ m → front_on bs ≡ Refusal NumberTooLarge
unfolding front_of token_front token_form block_len
large_front [] m n g e h = absurd (cc)
large_front (b ∷ rest) m n g e h =
    no_gap_front (b ∷ rest) g b rest refl ∙ ap (token_front b) e ∙ by_false (λ (f : Front). f ≡ Refusal NumberTooLarge) (fits (Number (pos m))) _ _ (large_false m h) refl

no_form : (bs : List ℕ) → ((front after : List ℕ) (k : TokenKind) → bs ≡ front ++ after → IsToken front after k → ⊥) → form_of bs ≡ None
no_form bs none = go (form_of bs) refl
  where
    go : (f : Form) → form_of bs ≡ f → form_of bs ≡ None
    go None e = e
    go (Some (k, n)) e = let l = form_longest bs k n e in absurd (none l.0 l.1 k l.2 l.4.token)

pub refuse_front : (bs : List ℕ) (f : TokenRefusal) → Refuses bs f → front_on bs ≡ Refusal f
unfolding front_of token_front token_form block_len
refuse_front bs f (open_comment a h) = ap block_front (block_none a h)
refuse_front bs f (open_string a b h s q) =
    let len = prefix_len is_string_byte (a ++ b) in
    let n : len ≡ length a = prefix_is is_string_byte a b h s in
    ap (token_front 34) (by_false (λ (o : Form). o ≡ None) (starts_with (codes "\"") (drop len (a ++ b))) _ _
    (ap (starts_with (codes "\"")) (dropped (a ++ b) a b len refl n) ∙ q) refl)
refuse_front bs f (too_large {a = a} {b = c} {n = n} e g l le) = large_front bs n (length a) g (ap form_of e ∙ longest_form a c (Number (pos n)) l) le
refuse_front bs f (bad_byte {b = b} {bs = rest} g q none) =
    no_gap_front (b ∷ rest) g b rest refl ∙ ap (token_front b) (no_form (b ∷ rest) none) ∙ by_false (λ (v : Front). v ≡ Refusal BadByte) (b == 34) _ _ q refl
