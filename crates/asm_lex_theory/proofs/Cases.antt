-- What is at an offset of a text, case by case.
use Rattle.std.proofs.Common.{◌≡◌, ℕ, zero, suc, ◌+◌, ◌-◌, ◌^◌, ◌<◌, ◌≤◌, Bool, true, false, List, [], ◌∷◌, length, take, drop, get_or, sym, refl, ap, ◌∙◌, subst, arith, get_or-drop}
use Rattle.std.specs.Prelude.{cond, codes, Some, None, ℤ, pos, ◌==◌, ◌&&◌, nat_lt}
use Rattle.std.specs.List.{prefix_len}
use Rattle.std.specs.Str.{IsUtf8, IsCharBoundary}
use Rattle.std.proofs.lemmas.Bool.Decides.{nat_tests}
use Rattle.std.proofs.lemmas.List.{drop-drop}
use Rattle.std.proofs.lemmas.Str.{IsCharBoundary-after_ascii}
use Rattle.asm_syntax.specs.Bytes.{is_letter, is_digit, is_word_byte, is_blank, is_string_byte, is_line_byte, starts_with, value_of}
use Rattle.asm_syntax.specs.Words.{is_among, symbols, keywords, refused_words}
use Rattle.asm_syntax.specs.Lexes.{word_kind}
use Rattle.asm_syntax.specs.declared.token_refusal.TokenRefusal.TheVariants.{OpenString, NumberTooLarge, BadByte}
use Rattle.asm_syntax.specs.declared.token.TokenKind.{TokenKind}
use Rattle.asm_syntax.specs.declared.token.TokenKind.TheVariants.{Var, Number, Chars, Symbol}
use Rattle.asm_lex_theory.specs.declared.Front.{Front}
use Rattle.asm_lex_theory.specs.declared.Front.TheVariants.{Gap, Taken, Refusal}
use Rattle.asm_lex_theory.specs.Scan.{block_len, block_front, word_len, is_mark, Form, variable_form, digits_form, string_form, short_symbol, symbol_form, token_form, fits, token_front, front_of, front_on, token_here}
use Rattle.asm_lex_theory.proofs.Lists.{by_cond, by_true, by_false, among_pass, digit_no_letter, and_both}
use Rattle.asm_lex_theory.proofs.Places.{cons_at, drop_out}

drop_one : (bs : List ℕ) (at : ℕ) → drop 1 (drop (at + 1) bs) ≡ drop (at + 2) bs
drop_one bs at = drop-drop 1 (at + 1) bs ∙ ap (λ n. drop n bs) (omega arith)

-- ---- gaps

pub blank_here : (bs : List ℕ) (at : ℕ) → at < length bs → is_blank (get_or bs at 0) ≡ true → Gap 1 ≡ front_on (drop at bs)
unfolding front_of
blank_here bs at h e = sym (ap front_on (cons_at bs at h) ∙ by_true (λ (f : Front). f ≡ Gap 1) (is_blank (get_or bs at 0)) _ _ e refl)

pub line_here : (bs : List ℕ) (at : ℕ) → at < length bs → is_blank (get_or bs at 0) ≡ false → starts_with (codes "//") (get_or bs at 0 ∷ drop (at + 1) bs) ≡ true
    → Gap (prefix_len is_line_byte (drop (at + 2) bs) + 2) ≡ front_on (drop at bs)
unfolding front_of
line_here bs at h e f =
    let P : Front → Type 0 = λ x. x ≡ Gap (prefix_len is_line_byte (drop (at + 2) bs) + 2) in
    sym (ap front_on (cons_at bs at h) ∙ by_false P (is_blank (get_or bs at 0)) _ _ e (by_true P (starts_with (codes "//") (get_or bs at 0 ∷ drop (at + 1) bs)) _ _ f
    (ap (λ v. Gap (prefix_len is_line_byte v + 2)) (drop_one bs at))))

pub block_at : (bs : List ℕ) (at : ℕ) → at < length bs → is_blank (get_or bs at 0) ≡ false → starts_with (codes "//") (get_or bs at 0 ∷ drop (at + 1) bs) ≡ false
    → starts_with (codes "/*") (get_or bs at 0 ∷ drop (at + 1) bs) ≡ true → block_front (block_len (drop (at + 2) bs)) ≡ front_on (drop at bs)
unfolding front_of
block_at bs at h e f g =
    let P : Front → Type 0 = λ x. x ≡ block_front (block_len (drop (at + 2) bs)) in
    sym (ap front_on (cons_at bs at h) ∙ by_false P (is_blank (get_or bs at 0)) _ _ e (by_false P (starts_with (codes "//") (get_or bs at 0 ∷ drop (at + 1) bs)) _ _ f
    (by_true P (starts_with (codes "/*") (get_or bs at 0 ∷ drop (at + 1) bs)) _ _ g (ap (λ v. block_front (block_len v)) (drop_one bs at)))))

pub token_at_front : (bs : List ℕ) (at : ℕ) → at < length bs → is_blank (get_or bs at 0) ≡ false → starts_with (codes "//") (get_or bs at 0 ∷ drop (at + 1) bs) ≡ false
    → starts_with (codes "/*") (get_or bs at 0 ∷ drop (at + 1) bs) ≡ false → token_here bs at ≡ front_on (drop at bs)
unfolding front_of
token_at_front bs at h e f g =
    let P : Front → Type 0 = λ x. x ≡ token_here bs at in
    sym (ap front_on (cons_at bs at h) ∙ by_false P (is_blank (get_or bs at 0)) _ _ e (by_false P (starts_with (codes "//") (get_or bs at 0 ∷ drop (at + 1) bs)) _ _ f
    (by_false P (starts_with (codes "/*") (get_or bs at 0 ∷ drop (at + 1) bs)) _ _ g refl)))

-- ---- tokens

word_fits : (w : List ℕ) → fits (word_kind w) ≡ true
word_fits w = by_cond (λ (k : TokenKind). fits k ≡ true) (is_among keywords w) _ _ (λ _. refl) (λ _. by_cond (λ (k : TokenKind). fits k ≡ true) (is_among refused_words w) _ _ (λ _. refl) (λ _. refl))

pub word_here : (bs : List ℕ) (at : ℕ) → at < length bs → is_letter (get_or bs at 0) ≡ true
    → Taken (word_kind (take (word_len (drop (at + 1) bs)) (drop at bs))) (word_len (drop (at + 1) bs)) ≡ token_here bs at
unfolding token_form token_front
word_here bs at h e =
    let b = get_or bs at 0 in
    let rest = drop (at + 1) bs in
    let k = word_kind (take (word_len rest) (b ∷ rest)) in
    ap (λ v. Taken (word_kind (take (word_len rest) v)) (word_len rest)) (cons_at bs at h)
    ∙ sym (by_true (λ (f : Form). token_front b f ≡ Taken k (word_len rest)) (is_letter b) _ _ e
    (by_true (λ (f : Front). f ≡ Taken k (word_len rest)) (fits k) _ _ (word_fits (take (word_len rest) (b ∷ rest))) refl))

pub digits_here : (bs : List ℕ) (at : ℕ) → is_digit (get_or bs at 0) ≡ true
    → token_front (get_or bs at 0) (digits_form (get_or bs at 0 ∷ drop (at + 1) bs) (prefix_len is_digit (drop (at + 1) bs) + 1)) ≡ token_here bs at
unfolding token_form
digits_here bs at e =
    let b = get_or bs at 0 in
    let F = digits_form (b ∷ drop (at + 1) bs) (prefix_len is_digit (drop (at + 1) bs) + 1) in
    ap (token_front b) (sym (by_false (λ (f : Form). f ≡ F) (is_letter b) _ _ (digit_no_letter b e) (by_true (λ (f : Form). f ≡ F) (is_digit b) _ _ e refl)))

pub number_here : (bs : List ℕ) (at len n : ℕ) (m : Bool) → at < length bs → is_digit (get_or bs at 0) ≡ true → len ≡ prefix_len is_digit (drop (at + 1) bs) + 1
    → n ≡ value_of (take len (drop at bs)) → n < 2 ^ 127 → m ≡ is_mark (drop (at + len) bs) → Taken (Number (pos n)) (cond m (len + 1) len) ≡ token_here bs at
unfolding token_front
number_here bs at len n m h e l v s q =
    let b = get_or bs at 0 in
    let rest = drop (at + 1) bs in
    let dl = prefix_len is_digit rest + 1 in
    let number : n ≡ value_of (take dl (b ∷ rest)) = v ∙ ap (λ x. value_of (take x (drop at bs))) l ∙ ap (λ x. value_of (take dl x)) (cons_at bs at h) in
    let mark : m ≡ is_mark (drop dl (b ∷ rest)) = q ∙ ap is_mark (sym (drop-drop len at bs) ∙ ap (λ x. drop x (drop at bs)) l ∙ ap (drop dl) (cons_at bs at h)) in
    let small : nat_lt (value_of (take dl (b ∷ rest))) (2 ^ 127) ≡ true = ap (λ x. nat_lt x (2 ^ 127)) (sym number) ∙ below n s in
    ap (λ x. Taken (Number (pos x)) (cond m (len + 1) len)) number
    ∙ ap (λ x. Taken (Number (pos (value_of (take dl (b ∷ rest))))) (cond x (len + 1) len)) mark
    ∙ ap (λ x. Taken (Number (pos (value_of (take dl (b ∷ rest))))) (cond (is_mark (drop dl (b ∷ rest))) (x + 1) x)) l
    ∙ sym (by_true (λ (f : Front). f ≡ Taken (Number (pos (value_of (take dl (b ∷ rest))))) (cond (is_mark (drop dl (b ∷ rest))) (dl + 1) dl)) (nat_lt (value_of (take dl (b ∷ rest))) (2 ^ 127)) _ _ small refl)
    ∙ digits_here bs at e
  where
    below : (n : ℕ) → n < 2 ^ 127 → nat_lt n (2 ^ 127) ≡ true
    below n s = grind (arith, nat_tests)

pub large_here : (bs : List ℕ) (at len : ℕ) → at < length bs → is_digit (get_or bs at 0) ≡ true → len ≡ prefix_len is_digit (drop (at + 1) bs) + 1
    → 2 ^ 127 ≤ value_of (take len (drop at bs)) → Refusal NumberTooLarge ≡ token_here bs at
unfolding token_front
large_here bs at len h e l s =
    let b = get_or bs at 0 in
    let rest = drop (at + 1) bs in
    let dl = prefix_len is_digit rest + 1 in
    let number : value_of (take len (drop at bs)) ≡ value_of (take dl (b ∷ rest)) = ap (λ x. value_of (take x (drop at bs))) l ∙ ap (λ x. value_of (take dl x)) (cons_at bs at h) in
    sym (by_false (λ (f : Front). f ≡ Refusal NumberTooLarge) (nat_lt (value_of (take dl (b ∷ rest))) (2 ^ 127)) _ _ (ap (λ x. nat_lt x (2 ^ 127)) (sym number) ∙ above _ s) refl)
    ∙ digits_here bs at e
  where
    above : (n : ℕ) → 2 ^ 127 ≤ n → nat_lt n (2 ^ 127) ≡ false
    above n s = grind (arith, nat_tests)

-- ---- where a text may be cut

prefix_passes : (p : ℕ → Bool) (bs : List ℕ) (k : ℕ) → k < prefix_len p bs → p (get_or bs k 0) ≡ true
prefix_passes p [] k h = absurd (omega arith)
prefix_passes p (b ∷ bs) k h = go (p b) refl k h (prefix_passes p bs)
  where
    go : (v : Bool) → p b ≡ v → (k : ℕ) → k < prefix_len p (b ∷ bs) → ((j : ℕ) → j < prefix_len p bs → p (get_or bs j 0) ≡ true) → p (get_or (b ∷ bs) k 0) ≡ true
    go true e zero h ih = e
    go true e (suc k) h ih = ih k (let m : suc k < 1 + prefix_len p bs = rw e at h in omega arith)
    go false e k h ih = absurd (let m : k < 0 = rw e at h in omega arith)

pub word_ascii : (b : ℕ) → is_word_byte b ≡ true → b < 128
word_ascii b h = grind (arith, nat_tests)

pub letter_ascii : (b : ℕ) → is_letter b ≡ true → b < 128
letter_ascii b h = grind (arith, nat_tests)

pub run_cut : (bs : List ℕ) (at : ℕ) → IsUtf8 bs → at < length bs → is_letter (get_or bs at 0) ≡ true → at + word_len (drop (at + 1) bs) ≤ length bs → IsCharBoundary bs (at + word_len (drop (at + 1) bs))
run_cut bs at u h e w = go (prefix_len is_word_byte (drop (at + 1) bs)) refl
  where
    go : (n : ℕ) → prefix_len is_word_byte (drop (at + 1) bs) ≡ n → IsCharBoundary bs (at + word_len (drop (at + 1) bs))
    go zero f = subst (IsCharBoundary bs) (omega arith) (IsCharBoundary-after_ascii bs at u h (letter_ascii _ e))
    go (suc m) f =
        let passes = prefix_passes is_word_byte (drop (at + 1) bs) m (omega arith) in
        let last : get_or bs (at + 1 + m) 0 < 128 = word_ascii _ (ap is_word_byte (sym (get_or-drop (at + 1) bs m 0)) ∙ passes) in
        subst (IsCharBoundary bs) (omega arith) (IsCharBoundary-after_ascii bs (at + 1 + m) u (omega arith) last)

-- ---- variables, strings and symbols

form_here : (b : ℕ) (rest : List ℕ) (f : Form) → is_letter b ≡ false → is_digit b ≡ false → cond (b == 36) (variable_form rest) (cond (b == 34) (string_form rest (prefix_len is_string_byte rest)) (symbol_form b rest)) ≡ f → token_form b rest ≡ f
unfolding token_form
form_here b rest f e g h = by_false (λ (x : Form). x ≡ f) (is_letter b) _ _ e (by_false (λ (x : Form). x ≡ f) (is_digit b) _ _ g h)

variable_is : (bs : List ℕ) (at : ℕ) (f : Form) → is_letter (get_or bs at 0) ≡ false → is_digit (get_or bs at 0) ≡ false → (get_or bs at 0 == 36) ≡ true → variable_form (drop (at + 1) bs) ≡ f
    → token_front (get_or bs at 0) f ≡ token_here bs at
variable_is bs at f e g q v =
    ap (token_front (get_or bs at 0)) (sym (form_here (get_or bs at 0) (drop (at + 1) bs) f e g (by_true (λ (x : Form). x ≡ f) (get_or bs at 0 == 36) _ _ q v)))

pub variable_here : (bs : List ℕ) (at : ℕ) → is_letter (get_or bs at 0) ≡ false → is_digit (get_or bs at 0) ≡ false → (get_or bs at 0 == 36) ≡ true
    → at + 1 < length bs → is_letter (get_or bs (at + 1) 0) ≡ true
    → Taken (Var (take (word_len (drop (at + 2) bs)) (drop (at + 1) bs))) (word_len (drop (at + 2) bs) + 1) ≡ token_here bs at
unfolding token_front
variable_here bs at e g q h l =
    let n = word_len (drop (at + 2) bs) in
    let two : drop (at + 1 + 1) bs ≡ drop (at + 2) bs = ap (λ m. drop m bs) (omega arith) in
    let c : drop (at + 1) bs ≡ get_or bs (at + 1) 0 ∷ drop (at + 2) bs = cons_at bs (at + 1) h ∙ ap (λ v. get_or bs (at + 1) 0 ∷ v) two in
    let f : Form = Some (Var (take n (drop (at + 1) bs)), n + 1) in
    variable_is bs at f e g q (ap variable_form c ∙ by_true (λ (x : Form). x ≡ f) (is_letter (get_or bs (at + 1) 0)) _ _ l (ap (λ v. Some (Var (take n v), n + 1)) (sym c)))

bad_front : (b : ℕ) → (b == 34) ≡ false → Refusal BadByte ≡ token_front b None
unfolding token_front
bad_front b e = sym (by_false (λ (x : Front). x ≡ Refusal BadByte) (b == 34) _ _ e refl)

pub no_variable_end : (bs : List ℕ) (at : ℕ) → is_letter (get_or bs at 0) ≡ false → is_digit (get_or bs at 0) ≡ false → (get_or bs at 0 == 36) ≡ true
    → length bs ≤ at + 1 → Refusal BadByte ≡ token_here bs at
no_variable_end bs at e g q h = bad_front (get_or bs at 0) (not_quote _ q) ∙ variable_is bs at None e g q (ap variable_form (drop_out bs (at + 1) h))
  where
    not_quote : (b : ℕ) → (b == 36) ≡ true → (b == 34) ≡ false
    not_quote b q = grind (arith, nat_tests)

pub no_variable : (bs : List ℕ) (at : ℕ) → is_letter (get_or bs at 0) ≡ false → is_digit (get_or bs at 0) ≡ false → (get_or bs at 0 == 36) ≡ true
    → at + 1 < length bs → is_letter (get_or bs (at + 1) 0) ≡ false → Refusal BadByte ≡ token_here bs at
no_variable bs at e g q h l = bad_front (get_or bs at 0) (not_quote _ q) ∙ variable_is bs at None e g q (ap variable_form (cons_at bs (at + 1) h) ∙ by_false (λ (x : Form). x ≡ None) (is_letter (get_or bs (at + 1) 0)) _ _ l refl)
  where
    not_quote : (b : ℕ) → (b == 36) ≡ true → (b == 34) ≡ false
    not_quote b q = grind (arith, nat_tests)

string_is : (bs : List ℕ) (at : ℕ) (f : Form) → is_letter (get_or bs at 0) ≡ false → is_digit (get_or bs at 0) ≡ false → (get_or bs at 0 == 36) ≡ false → (get_or bs at 0 == 34) ≡ true
    → string_form (drop (at + 1) bs) (prefix_len is_string_byte (drop (at + 1) bs)) ≡ f → token_front (get_or bs at 0) f ≡ token_here bs at
string_is bs at f e g q r v =
    ap (token_front (get_or bs at 0)) (sym (form_here (get_or bs at 0) (drop (at + 1) bs) f e g
    (by_false (λ (x : Form). x ≡ f) (get_or bs at 0 == 36) _ _ q (by_true (λ (x : Form). x ≡ f) (get_or bs at 0 == 34) _ _ r v))))

pub string_here : (bs : List ℕ) (at len : ℕ) → is_letter (get_or bs at 0) ≡ false → is_digit (get_or bs at 0) ≡ false → (get_or bs at 0 == 36) ≡ false → (get_or bs at 0 == 34) ≡ true
    → len ≡ prefix_len is_string_byte (drop (at + 1) bs) → at + 1 + len < length bs → (get_or bs (at + 1 + len) 0 == 34) ≡ true
    → Taken (Chars (take len (drop (at + 1) bs))) (len + 2) ≡ token_here bs at
unfolding token_front
string_here bs at len e g q r l h c =
    let rest = drop (at + 1) bs in
    let f : Form = Some (Chars (take len rest), len + 2) in
    let n = prefix_len is_string_byte rest in
    let d : drop n rest ≡ get_or bs (at + 1 + len) 0 ∷ drop (at + 1 + len + 1) bs = ap (λ x. drop x rest) (sym l) ∙ drop-drop len (at + 1) bs ∙ cons_at bs (at + 1 + len) h in
    string_is bs at f e g q r (by_true (λ (x : Form). x ≡ f) (starts_with (codes "\"") (drop n rest)) _ _ (ap (starts_with (codes "\"")) d ∙ closes _ (drop (at + 1 + len + 1) bs) c)
    (ap (λ x. Some (Chars (take x rest), x + 2)) (sym l)))
  where
    closes : (b : ℕ) (after : List ℕ) → (b == 34) ≡ true → starts_with (codes "\"") (b ∷ after) ≡ true
    closes b after c = grind (arith, nat_tests)

open_front : (b : ℕ) → (b == 34) ≡ true → Refusal OpenString ≡ token_front b None
unfolding token_front
open_front b e = sym (by_true (λ (x : Front). x ≡ Refusal OpenString) (b == 34) _ _ e refl)

pub open_end : (bs : List ℕ) (at len : ℕ) → is_letter (get_or bs at 0) ≡ false → is_digit (get_or bs at 0) ≡ false → (get_or bs at 0 == 36) ≡ false → (get_or bs at 0 == 34) ≡ true
    → len ≡ prefix_len is_string_byte (drop (at + 1) bs) → length bs ≤ at + 1 + len → Refusal OpenString ≡ token_here bs at
open_end bs at len e g q r l h =
    let rest = drop (at + 1) bs in
    let n = prefix_len is_string_byte rest in
    let d : drop n rest ≡ [] = ap (λ x. drop x rest) (sym l) ∙ drop-drop len (at + 1) bs ∙ drop_out bs (at + 1 + len) h in
    open_front _ r ∙ string_is bs at None e g q r (by_false (λ (x : Form). x ≡ None) (starts_with (codes "\"") (drop n rest)) _ _ (ap (starts_with (codes "\"")) d) refl)

pub open_byte : (bs : List ℕ) (at len : ℕ) → is_letter (get_or bs at 0) ≡ false → is_digit (get_or bs at 0) ≡ false → (get_or bs at 0 == 36) ≡ false → (get_or bs at 0 == 34) ≡ true
    → len ≡ prefix_len is_string_byte (drop (at + 1) bs) → at + 1 + len < length bs → (get_or bs (at + 1 + len) 0 == 34) ≡ false → Refusal OpenString ≡ token_here bs at
open_byte bs at len e g q r l h c =
    let rest = drop (at + 1) bs in
    let n = prefix_len is_string_byte rest in
    let d : drop n rest ≡ get_or bs (at + 1 + len) 0 ∷ drop (at + 1 + len + 1) bs = ap (λ x. drop x rest) (sym l) ∙ drop-drop len (at + 1) bs ∙ cons_at bs (at + 1 + len) h in
    open_front _ r ∙ string_is bs at None e g q r (by_false (λ (x : Form). x ≡ None) (starts_with (codes "\"") (drop n rest)) _ _ (ap (starts_with (codes "\"")) d ∙ stays _ (drop (at + 1 + len + 1) bs) c) refl)
  where
    stays : (b : ℕ) (after : List ℕ) → (b == 34) ≡ false → starts_with (codes "\"") (b ∷ after) ≡ false
    stays b after c = grind (arith, nat_tests)

symbol_is : (bs : List ℕ) (at : ℕ) (f : Form) → is_letter (get_or bs at 0) ≡ false → is_digit (get_or bs at 0) ≡ false → (get_or bs at 0 == 36) ≡ false → (get_or bs at 0 == 34) ≡ false
    → symbol_form (get_or bs at 0) (drop (at + 1) bs) ≡ f → token_front (get_or bs at 0) f ≡ token_here bs at
symbol_is bs at f e g q r v =
    ap (token_front (get_or bs at 0)) (sym (form_here (get_or bs at 0) (drop (at + 1) bs) f e g
    (by_false (λ (x : Form). x ≡ f) (get_or bs at 0 == 36) _ _ q (by_false (λ (x : Form). x ≡ f) (get_or bs at 0 == 34) _ _ r v))))

-- what a symbol of one byte gives
abbrev pub short_front : ℕ → Front
short_front b = cond (is_among symbols (b ∷ [])) (Taken (Symbol (b ∷ [])) 1) (Refusal BadByte)

short_is : (b : ℕ) → (b == 34) ≡ false → short_front b ≡ token_front b (short_symbol b)
unfolding token_front
short_is b r = go (is_among symbols (b ∷ []))
  where
    go : (v : Bool) → cond v (Taken (Symbol (b ∷ [])) 1) (Refusal BadByte) ≡ token_front b (cond v (Some (Symbol (b ∷ []), 1)) None)
    go true = refl
    go false = bad_front b r

pub symbol_end : (bs : List ℕ) (at : ℕ) → is_letter (get_or bs at 0) ≡ false → is_digit (get_or bs at 0) ≡ false → (get_or bs at 0 == 36) ≡ false → (get_or bs at 0 == 34) ≡ false
    → length bs ≤ at + 1 → short_front (get_or bs at 0) ≡ token_here bs at
symbol_end bs at e g q r h = short_is _ r ∙ symbol_is bs at (short_symbol (get_or bs at 0)) e g q r (ap (symbol_form (get_or bs at 0)) (drop_out bs (at + 1) h))

pub symbol_short_here : (bs : List ℕ) (at : ℕ) → is_letter (get_or bs at 0) ≡ false → is_digit (get_or bs at 0) ≡ false → (get_or bs at 0 == 36) ≡ false → (get_or bs at 0 == 34) ≡ false
    → at + 1 < length bs → is_among symbols (get_or bs at 0 ∷ get_or bs (at + 1) 0 ∷ []) ≡ false → short_front (get_or bs at 0) ≡ token_here bs at
symbol_short_here bs at e g q r h m =
    let b = get_or bs at 0 in
    short_is _ r ∙ symbol_is bs at (short_symbol b) e g q r (ap (symbol_form b) (cons_at bs (at + 1) h)
    ∙ by_false (λ (x : Form). x ≡ short_symbol b) (is_among symbols (b ∷ get_or bs (at + 1) 0 ∷ [])) _ _ m refl)

pub symbol_long_here : (bs : List ℕ) (at : ℕ) → is_letter (get_or bs at 0) ≡ false → is_digit (get_or bs at 0) ≡ false → (get_or bs at 0 == 36) ≡ false → (get_or bs at 0 == 34) ≡ false
    → at + 1 < length bs → is_among symbols (get_or bs at 0 ∷ get_or bs (at + 1) 0 ∷ []) ≡ true
    → Taken (Symbol (get_or bs at 0 ∷ get_or bs (at + 1) 0 ∷ [])) 2 ≡ token_here bs at
unfolding token_front
symbol_long_here bs at e g q r h m =
    let b = get_or bs at 0 in
    let s = b ∷ get_or bs (at + 1) 0 ∷ [] in
    symbol_is bs at (Some (Symbol s, 2)) e g q r (ap (symbol_form b) (cons_at bs (at + 1) h)
    ∙ by_true (λ (x : Form). x ≡ Some (Symbol s, 2)) (is_among symbols s) _ _ m refl)

-- ---- as the code says it

pub word_done : (bs : List ℕ) (at len : ℕ) (k : TokenKind) (name : List ℕ) → at < length bs → is_letter (get_or bs at 0) ≡ true → len ≡ prefix_len is_word_byte (drop (at + 1) bs)
    → k ≡ word_kind name → name ≡ take (at + (len + 1) - at) (drop at bs) → Taken k (len + 1) ≡ token_here bs at
word_done bs at len k name h e l kn n =
    let m : at + (len + 1) - at ≡ word_len (drop (at + 1) bs) = omega arith in
    ap (λ (x : TokenKind). Taken x (len + 1)) (kn ∙ ap word_kind (n ∙ ap (λ x. take x (drop at bs)) m))
    ∙ ap (λ x. Taken (word_kind (take (word_len (drop (at + 1) bs)) (drop at bs))) (x + 1)) l ∙ word_here bs at h e

pub variable_done : (bs : List ℕ) (at len : ℕ) (name : List ℕ) → is_letter (get_or bs at 0) ≡ false → is_digit (get_or bs at 0) ≡ false → (get_or bs at 0 == 36) ≡ true
    → at + 1 < length bs → is_letter (get_or bs (at + 1) 0) ≡ true → len ≡ prefix_len is_word_byte (drop (at + 2) bs) → name ≡ take (at + 1 + (len + 1) - (at + 1)) (drop (at + 1) bs)
    → Taken (Var name) (len + 1 + 1) ≡ token_here bs at
variable_done bs at len name e g q h i l n =
    let m : at + 1 + (len + 1) - (at + 1) ≡ word_len (drop (at + 2) bs) = omega arith in
    ap (λ x. Taken (Var x) (len + 1 + 1)) (n ∙ ap (λ x. take x (drop (at + 1) bs)) m)
    ∙ ap (λ x. Taken (Var (take (word_len (drop (at + 2) bs)) (drop (at + 1) bs))) (x + 1 + 1)) l ∙ variable_here bs at e g q h i

pub string_done : (bs : List ℕ) (at len : ℕ) (name : List ℕ) → is_letter (get_or bs at 0) ≡ false → is_digit (get_or bs at 0) ≡ false → (get_or bs at 0 == 36) ≡ false → (get_or bs at 0 == 34) ≡ true
    → len ≡ prefix_len is_string_byte (drop (at + 1) bs) → at + 1 + len < length bs → (get_or bs (at + 1 + len) 0 == 34) ≡ true → name ≡ take (at + 1 + len - (at + 1)) (drop (at + 1) bs)
    → Taken (Chars name) (len + 2) ≡ token_here bs at
string_done bs at len name e g q r l h c n =
    let m : at + 1 + len - (at + 1) ≡ len = omega arith in
    ap (λ x. Taken (Chars x) (len + 2)) (n ∙ ap (λ x. take x (drop (at + 1) bs)) m) ∙ string_here bs at len e g q r l h c

two_taken : (bs : List ℕ) (at : ℕ) → at + 1 < length bs → take (at + 2 - at) (drop at bs) ≡ get_or bs at 0 ∷ get_or bs (at + 1) 0 ∷ []
two_taken bs at h =
    let two : at + 2 - at ≡ 2 = omega arith in
    ap (λ n. take n (drop at bs)) two ∙ ap (take 2) (cons_at bs at (omega arith) ∙ ap (λ x. get_or bs at 0 ∷ x) (cons_at bs (at + 1) h))

one_taken : (bs : List ℕ) (at : ℕ) → at < length bs → take (at + 1 - at) (drop at bs) ≡ get_or bs at 0 ∷ []
one_taken bs at h = let one : at + 1 - at ≡ 1 = omega arith in ap (λ n. take n (drop at bs)) one ∙ ap (take 1) (cons_at bs at h)

pub symbol_long_done : (bs : List ℕ) (at : ℕ) (name : List ℕ) → is_letter (get_or bs at 0) ≡ false → is_digit (get_or bs at 0) ≡ false → (get_or bs at 0 == 36) ≡ false → (get_or bs at 0 == 34) ≡ false
    → at + 1 < length bs → is_among symbols (get_or bs at 0 ∷ get_or bs (at + 1) 0 ∷ []) ≡ true → name ≡ take (at + 2 - at) (drop at bs) → Taken (Symbol name) 2 ≡ token_here bs at
symbol_long_done bs at name e g q r h m n = ap (λ x. Taken (Symbol x) 2) (n ∙ two_taken bs at h) ∙ symbol_long_here bs at e g q r h m

pub symbol_one : (bs : List ℕ) (at : ℕ) (name : List ℕ) → at < length bs → is_among symbols (get_or bs at 0 ∷ []) ≡ true → name ≡ take (at + 1 - at) (drop at bs) → Taken (Symbol name) 1 ≡ short_front (get_or bs at 0)
symbol_one bs at name h m n = ap (λ x. Taken (Symbol x) 1) (n ∙ one_taken bs at h) ∙ sym (by_true (λ (f : Front). f ≡ Taken (Symbol (get_or bs at 0 ∷ [])) 1) (is_among symbols (get_or bs at 0 ∷ [])) _ _ m refl)

pub symbol_bad : (b : ℕ) → is_among symbols (b ∷ []) ≡ false → Refusal BadByte ≡ short_front b
symbol_bad b m = sym (by_false (λ (f : Front). f ≡ Refusal BadByte) (is_among symbols (b ∷ [])) _ _ m refl)

-- ---- symbols are ASCII

abbrev pub all_ascii : List ℕ → Bool
all_ascii [] = true
all_ascii (b ∷ bs) = nat_lt b 128 && all_ascii bs

symbol_ascii : (c : List ℕ) → is_among symbols c ≡ true → all_ascii c ≡ true
symbol_ascii c m = among_pass all_ascii symbols c refl m

ascii_is : (b : ℕ) → nat_lt b 128 ≡ true → b < 128
ascii_is b h = grind (arith, nat_tests)

pub cut_after_two : (bs : List ℕ) (at : ℕ) → IsUtf8 bs → at + 1 < length bs → is_among symbols (get_or bs at 0 ∷ get_or bs (at + 1) 0 ∷ []) ≡ true → IsCharBoundary bs (at + 2)
cut_after_two bs at u h m =
    let a = and_both (nat_lt (get_or bs at 0) 128) (nat_lt (get_or bs (at + 1) 0) 128 && true) (symbol_ascii (get_or bs at 0 ∷ get_or bs (at + 1) 0 ∷ []) m) in
    let b = and_both (nat_lt (get_or bs (at + 1) 0) 128) true a.1 in
    subst (IsCharBoundary bs) (omega arith) (IsCharBoundary-after_ascii bs (at + 1) u h (ascii_is _ b.0))

pub cut_after_one : (bs : List ℕ) (at : ℕ) → IsUtf8 bs → at < length bs → is_among symbols (get_or bs at 0 ∷ []) ≡ true → IsCharBoundary bs (at + 1)
cut_after_one bs at u h m =
    let a = and_both (nat_lt (get_or bs at 0) 128) true (symbol_ascii (get_or bs at 0 ∷ []) m) in IsCharBoundary-after_ascii bs at u h (ascii_is _ a.0)

pub number_done : (bs : List ℕ) (at len out : ℕ) (z : ℤ) (m : Bool) → at < length bs → is_digit (get_or bs at 0) ≡ true → len ≡ prefix_len is_digit (drop (at + 1) bs)
    → z ≡ pos (value_of (take (at + (len + 1) - at) (drop at bs))) → value_of (take (at + (len + 1) - at) (drop at bs)) < 2 ^ 127
    → m ≡ is_mark (drop (at + (len + 1)) bs) → out ≡ cond m (len + 1 + 1) (len + 1) → Taken (Number z) out ≡ token_here bs at
number_done bs at len out z m h e l v s q o =
    ap (λ x. Taken (Number x) out) v ∙ ap (λ x. Taken (Number (pos (value_of (take (at + (len + 1) - at) (drop at bs))))) x) o
    ∙ number_here bs at (len + 1) (value_of (take (at + (len + 1) - at) (drop at bs))) m h e (omega arith) (ap (λ x. value_of (take x (drop at bs))) (omega arith)) s q

pub large_done : (bs : List ℕ) (at len : ℕ) → at < length bs → is_digit (get_or bs at 0) ≡ true → len ≡ prefix_len is_digit (drop (at + 1) bs)
    → 2 ^ 127 ≤ value_of (take (at + (len + 1) - at) (drop at bs)) → Refusal NumberTooLarge ≡ token_here bs at
large_done bs at len h e l s =
    let same : value_of (take (at + (len + 1) - at) (drop at bs)) ≡ value_of (take (len + 1) (drop at bs)) = ap (λ x. value_of (take x (drop at bs))) (omega arith) in
    large_here bs at (len + 1) h e (omega arith) (subst (λ (x : ℕ). 2 ^ 127 ≤ x) same s)
