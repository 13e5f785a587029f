-- A word with a blank or nothing after it is the longest token where it begins.
use Rattle.std.proofs.Common.{◌≡◌, ℕ, ◌+◌, ◌≤◌, Bool, true, false, List, [], ◌∷◌, ◌++◌, length, drop, sym, refl, ap, ◌∙◌, subst, arith, append_assoc, length-append}
use Rattle.std.specs.Prelude.{◌&&◌, not, ◌==◌, codes, Some, None}
use Rattle.std.specs.List.{prefix_len, list_all}
use Rattle.std.proofs.lemmas.Bool.Decides.{nat_tests}
use Rattle.asm_syntax.specs.Bytes.{is_letter, is_digit, is_word_byte, is_blank, is_string_byte, Every, Stops, starts_with, value_of}
use Rattle.asm_syntax.specs.Words.{is_among, symbols, keywords, refused_words}
use Rattle.asm_syntax.specs.Lexes.{IsWord, IsDigits, IsToken, word, variable, number, marked, chars, symbol, IsLongest, Fits}
use Rattle.asm_syntax.specs.declared.token.TokenKind.{TokenKind}
use Rattle.asm_lex_theory.specs.Scan.{is_mark, Form, symbol_form, token_form}
use Rattle.asm_lex_theory.proofs.Lists.{by_cond, by_true, by_false, prefix_is, dropped, among_pass, and_both, plain_is, digit_no_letter, is_plain, symbol_short, symbol_plain}
use Rattle.asm_lex_theory.proofs.Forms.{form_of, Offers, offers}
use Rattle.asm_print_theory.proofs.Propers.{Proper}

-- ---- the tokens of a text are proper

pub token_proper : (a after : List ℕ) (k : TokenKind) → IsToken a after k → Fits k → Proper k
token_proper a after k (word h) f =
    by_cond Proper (is_among keywords a) _ _ (λ e. e) (λ e. by_cond Proper (is_among refused_words a) _ _ (λ g. (e, g)) (λ g. (h, e, g)))
token_proper t after k (variable h) f = h
token_proper t after k (number {a = a} h) f = (value_of a, refl, f)
token_proper t after k (marked a h s) f = (value_of a, refl, f)
token_proper t after k (chars a h) f = h
token_proper t after k (symbol h) f = h

-- ---- what is after a word

-- nothing, or a blank
abbrev pub Apart : List ℕ → Type 0
Apart [] = Unit {0}
Apart (b ∷ bs) = is_blank b ≡ true

blank_no_word : (b : ℕ) → is_blank b ≡ true → is_word_byte b ≡ false
blank_no_word b h = grind (arith, nat_tests)

blank_no_digit : (b : ℕ) → is_blank b ≡ true → is_digit b ≡ false
blank_no_digit b h = grind (arith, nat_tests)

apart_word : (bs : List ℕ) → Apart bs → Stops is_word_byte bs
apart_word [] h = tt
apart_word (b ∷ bs) h = blank_no_word b h

apart_digit : (bs : List ℕ) → Apart bs → Stops is_digit bs
apart_digit [] h = tt
apart_digit (b ∷ bs) h = blank_no_digit b h

apart_mark : (bs : List ℕ) → Apart bs → is_mark bs ≡ false
apart_mark [] h = refl
apart_mark (b ∷ []) h = no_n b h
  where
    no_n : (b : ℕ) → is_blank b ≡ true → (b == 110) ≡ false
    no_n b h = grind (arith, nat_tests)
apart_mark (b ∷ c ∷ bs) h = ap (λ v. v && not (is_word_byte c)) (no_n b h)
  where
    no_n : (b : ℕ) → is_blank b ≡ true → (b == 110) ≡ false
    no_n b h = grind (arith, nat_tests)

-- ---- no token is longer

-- the form at the front is so long
abbrev pub Long : ℕ → Form → Type 0
Long n None = ⊥
Long n (Some f) = f.1 ≡ n

pub word_long : (a after : List ℕ) → IsWord a → Apart after → Long (length a) (form_of (a ++ after))
unfolding token_form
word_long [] after h e = absurd h
word_long (x ∷ a) after h e =
    let run : prefix_len is_word_byte (a ++ after) ≡ length a = prefix_is is_word_byte a after h.1 (apart_word after e) in
    by_true (Long (length (x ∷ a))) (is_letter x) _ _ h.0 (omega arith)

pub variable_long : (a after : List ℕ) → IsWord a → Apart after → Long (length (36 ∷ a)) (form_of (36 ∷ a ++ after))
unfolding token_form
variable_long [] after h e = absurd h
variable_long (x ∷ a) after h e =
    let run : prefix_len is_word_byte (a ++ after) ≡ length a = prefix_is is_word_byte a after h.1 (apart_word after e) in
    by_true (Long (length (36 ∷ x ∷ a))) (is_letter x) _ _ h.0 (omega arith)

pub digits_long : (a after : List ℕ) → IsDigits a → Apart after → Long (length a) (form_of (a ++ after))
unfolding token_form
digits_long [] after h e = absurd h
digits_long (x ∷ a) after h e =
    let run : prefix_len is_digit (a ++ after) ≡ length a = prefix_is is_digit a after h.1 (apart_digit after e) in
    let len = prefix_len is_digit (a ++ after) + 1 in
    let same : len ≡ length (x ∷ a) = omega arith in
    let behind : drop len ((x ∷ a) ++ after) ≡ after = dropped ((x ∷ a) ++ after) (x ∷ a) after len refl same in
    by_false (Long (length (x ∷ a))) (is_letter x) _ _ (digit_no_letter x h.0)
    (by_true (Long (length (x ∷ a))) (is_digit x) _ _ h.0
    (by_false (λ (n : ℕ). n ≡ length (x ∷ a)) (is_mark (drop len ((x ∷ a) ++ after))) _ _ (ap is_mark behind ∙ apart_mark after e) same))

pub string_long : (a after : List ℕ) → Every is_string_byte a → Long (length (34 ∷ (a ++ 34 ∷ []))) (form_of (34 ∷ (a ++ 34 ∷ []) ++ after))
unfolding token_form
string_long a after h =
    let rest = (a ++ 34 ∷ []) ++ after in
    let er : rest ≡ a ++ 34 ∷ after = append_assoc a (34 ∷ []) after in
    let len = prefix_len is_string_byte rest in
    let n : len ≡ length a = ap (prefix_len is_string_byte) er ∙ prefix_is is_string_byte a (34 ∷ after) h refl in
    let long : length (a ++ 34 ∷ []) ≡ length a + 1 = length-append a (34 ∷ []) in
    by_true (Long (length (34 ∷ (a ++ 34 ∷ [])))) (starts_with (codes "\"") (drop len rest)) _ _
    (ap (starts_with (codes "\"")) (dropped rest a (34 ∷ after) len er n)) (omega arith)

-- no symbol ends in a blank
abbrev firm : List ℕ → Bool
firm [] = true
firm (a ∷ []) = true
firm (a ∷ b ∷ c) = not (is_blank b)

not_both : (v : Bool) → v ≡ true → not v ≡ true → ⊥
not_both true h e = absurd (cc)
not_both false h e = absurd (cc)

symbol_firm : (x c : ℕ) → is_blank c ≡ true → is_among symbols (x ∷ c ∷ []) ≡ false
symbol_firm x c h = go (is_among symbols (x ∷ c ∷ [])) refl
  where
    go : (v : Bool) → is_among symbols (x ∷ c ∷ []) ≡ v → v ≡ false
    go false e = refl
    go true e = absurd (not_both (is_blank c) h (among_pass firm symbols (x ∷ c ∷ []) refl e))

plain_long : (n x : ℕ) (rest : List ℕ) → is_plain x ≡ true → Long n (symbol_form x rest) → Long n (token_form x rest)
unfolding token_form
plain_long n x rest h p =
    let e = plain_is (is_letter x) (is_digit x) (x == 36) (x == 34) h in
    by_false (Long n) (is_letter x) _ _ e.0 (by_false (Long n) (is_digit x) _ _ e.1 (by_false (Long n) (x == 36) _ _ e.2 (by_false (Long n) (x == 34) _ _ e.3 p)))

pub symbol_long : (a after : List ℕ) → is_among symbols a ≡ true → Apart after → Long (length a) (form_of (a ++ after))
symbol_long [] after h e = absurd (cc)
symbol_long (x ∷ []) [] h e = plain_long 1 x [] (symbol_plain (x ∷ []) h) (by_true (Long 1) (is_among symbols (x ∷ [])) _ _ h refl)
symbol_long (x ∷ []) (c ∷ after) h e =
    plain_long 1 x (c ∷ after) (symbol_plain (x ∷ []) h)
    (by_false (Long 1) (is_among symbols (x ∷ c ∷ [])) _ _ (symbol_firm x c e) (by_true (Long 1) (is_among symbols (x ∷ [])) _ _ h refl))
symbol_long (x ∷ y ∷ []) after h e =
    plain_long 2 x (y ∷ after) (symbol_plain (x ∷ y ∷ []) h) (by_true (Long 2) (is_among symbols (x ∷ y ∷ [])) _ _ h refl)
symbol_long (x ∷ y ∷ z ∷ a) after h e = absurd (let no = symbol_short (x ∷ y ∷ z ∷ a) h in cc)

-- a token as long as the form at the front is the longest
pub longest_at : (a after : List ℕ) (k : TokenKind) → IsToken a after k → Long (length a) (form_of (a ++ after)) → IsLongest a after k
longest_at a after k t h = record { token = t; longest = λ other behind j e u. no_longer other behind j e u (form_of (a ++ after)) refl h }
  where
    no_longer : (other behind : List ℕ) (j : TokenKind) → a ++ after ≡ other ++ behind → IsToken other behind j
        → (f : Form) → form_of (a ++ after) ≡ f → Long (length a) f → length other ≤ length a
    no_longer other behind j e u None g l = absurd l
    no_longer other behind j e u (Some f) g l =
        let o = subst (Offers (length other) j) (ap form_of (sym e) ∙ g) (offers other behind j u) in
        let o0 : length other ≤ f.1 = o.0 in
        let l0 : f.1 ≡ length a = l in omega arith

-- ---- words of the tables

abbrev is_word : List ℕ → Bool
is_word [] = false
is_word (b ∷ bs) = is_letter b && list_all is_word_byte bs

every_of : (bs : List ℕ) → list_all is_word_byte bs ≡ true → Every is_word_byte bs
every_of [] h = tt
every_of (b ∷ bs) h = let q = and_both (is_word_byte b) (list_all is_word_byte bs) h in (q.0, every_of bs q.1)

word_of_test : (w : List ℕ) → is_word w ≡ true → IsWord w
word_of_test [] h = absurd (cc)
word_of_test (b ∷ bs) h = let q = and_both (is_letter b) (list_all is_word_byte bs) h in (q.0, every_of bs q.1)

pub keyword_word : (w : List ℕ) → is_among keywords w ≡ true → IsWord w
keyword_word w h = word_of_test w (among_pass is_word keywords w refl h)

pub refused_word : (w : List ℕ) → is_among refused_words w ≡ true → IsWord w
refused_word w h = word_of_test w (among_pass is_word refused_words w refl h)
