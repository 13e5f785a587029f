-- Words with a space or a line feed after each are read as tokens of their kinds.
use Rattle.std.proofs.Common.{◌≡◌, ℕ, ◌+◌, Bool, true, false, List, [], ◌∷◌, ◌++◌, length, sym, refl, ap, ◌∙◌, subst, arith, append_assoc}
use Rattle.std.specs.Prelude.{◌&&◌, not, ◌==◌, codes, pos}
use Rattle.std.proofs.lemmas.Bool.Decides.{nat_tests}
use Rattle.asm_syntax.specs.Bytes.{is_letter, is_digit, is_blank, starts_with}
use Rattle.asm_syntax.specs.Words.{is_among, symbols, keywords, refused_words}
use Rattle.asm_syntax.specs.Lexes.{IsWord, IsDigits, blank, begins_gap, word_kind, IsToken, word, variable, number, chars, symbol, IsLongest, Fits, Stop, End, token_at, Lexes, end, gap, token, refusal}
use Rattle.asm_syntax.specs.Written.{Words, kind_word, written_all, own}
use Rattle.asm_syntax.specs.Canonical.{Lines, spaced, broken}
use Rattle.asm_syntax.specs.declared.token.Token.{Token}
use Rattle.asm_syntax.specs.declared.token.TokenKind.{TokenKind}
use Rattle.asm_syntax.specs.declared.token.TokenKind.TheVariants.{Id, Var, Number, Chars, Keyword, Refused, Symbol}
use Rattle.asm_lex_theory.proofs.Lists.{by_true, by_false, among_pass, and_false, or_neither, or_none}
use Rattle.asm_print_theory.proofs.Propers.{Proper, Kinds, kinds_of, words_of, Propers, Lexed}
use Rattle.asm_print_theory.proofs.Numbers.{decimal_digits}
use Rattle.asm_print_theory.proofs.Longest.{token_proper, Apart, word_long, variable_long, digits_long, string_long, symbol_long, longest_at, keyword_word, refused_word}

-- the tokens of a text are of proper kinds
pub lexed_proper : (at : ℕ) (bs : List ℕ) (ts : List Token) (s : Stop) → Lexes at bs ts s → Lexed ts
lexed_proper at bs ts s end = tt
lexed_proper at bs ts s (gap {a = a} {b = c} e g l) = lexed_proper (at + length a) c ts s l
lexed_proper at bs ts s (token {a = a} {b = c} {k = k} {ts = us} e g t f l) =
    (token_proper a c k t.token f, lexed_proper (at + length a) c us s l)
lexed_proper at bs ts s (refusal r) = tt

-- ---- no blank and no comment begins with a word

no_gap : (b : ℕ) (bs : List ℕ) → is_blank b ≡ false → (47 == b) ≡ false → begins_gap (b ∷ bs) ≡ false
no_gap b bs h e =
    or_none (is_blank b) _ h
    (or_none (starts_with (codes "//") (b ∷ bs)) (starts_with (codes "/*") (b ∷ bs)) (ap (λ v. v && starts_with (codes "/") bs) e)
    (ap (λ v. v && starts_with (codes "*") bs) e))

letter_no_gap : (b : ℕ) → is_letter b ≡ true → (is_blank b ≡ false) × ((47 == b) ≡ false)
letter_no_gap b h = (no_blank b h, no_slash b h)
  where
    no_blank : (b : ℕ) → is_letter b ≡ true → is_blank b ≡ false
    no_blank b h = grind (arith, nat_tests)

    no_slash : (b : ℕ) → is_letter b ≡ true → (47 == b) ≡ false
    no_slash b h = grind (arith, nat_tests)

digit_no_gap : (b : ℕ) → is_digit b ≡ true → (is_blank b ≡ false) × ((47 == b) ≡ false)
digit_no_gap b h = (no_blank b h, no_slash b h)
  where
    no_blank : (b : ℕ) → is_digit b ≡ true → is_blank b ≡ false
    no_blank b h = grind (arith, nat_tests)

    no_slash : (b : ℕ) → is_digit b ≡ true → (47 == b) ≡ false
    no_slash b h = grind (arith, nat_tests)

word_gap : (w after : List ℕ) → IsWord w → begins_gap (w ++ after) ≡ false
word_gap [] after h = absurd h
word_gap (b ∷ bs) after h = let n = letter_no_gap b h.0 in no_gap b (bs ++ after) n.0 n.1

digits_gap : (w after : List ℕ) → IsDigits w → begins_gap (w ++ after) ≡ false
digits_gap [] after h = absurd h
digits_gap (b ∷ bs) after h = let n = digit_no_gap b h.0 in no_gap b (bs ++ after) n.0 n.1

abbrev no_gap_in : List ℕ → Bool
no_gap_in w = not (begins_gap w)

not_true : (v : Bool) → not v ≡ true → v ≡ false
not_true false h = refl
not_true true h = absurd (cc)

blank_no_star : (b : ℕ) → is_blank b ≡ true → ((47 == b) ≡ false) × ((42 == b) ≡ false)
blank_no_star b h = (no_slash b h, no_star b h)
  where
    no_slash : (b : ℕ) → is_blank b ≡ true → (47 == b) ≡ false
    no_slash b h = grind (arith, nat_tests)

    no_star : (b : ℕ) → is_blank b ≡ true → (42 == b) ≡ false
    no_star b h = grind (arith, nat_tests)

symbol_gap : (w after : List ℕ) → is_among symbols w ≡ true → Apart after → begins_gap (w ++ after) ≡ false
symbol_gap [] after h e = absurd (cc)
symbol_gap (x ∷ []) [] h e = not_true (begins_gap (x ∷ [])) (among_pass no_gap_in symbols (x ∷ []) refl h)
symbol_gap (x ∷ []) (c ∷ after) h e =
    let n = or_neither (is_blank x) _ (not_true (begins_gap (x ∷ [])) (among_pass no_gap_in symbols (x ∷ []) refl h)) in
    let b = blank_no_star c e in
    or_none (is_blank x) _ n.0
    (or_none ((47 == x) && ((47 == c) && true)) ((47 == x) && ((42 == c) && true))
    (ap (λ v. (47 == x) && (v && true)) b.0 ∙ and_false (47 == x)) (ap (λ v. (47 == x) && (v && true)) b.1 ∙ and_false (47 == x)))
symbol_gap (x ∷ y ∷ w) after h e = go w h
  where
    go : (w : List ℕ) → is_among symbols (x ∷ y ∷ w) ≡ true → begins_gap (x ∷ y ∷ w ++ after) ≡ false
    go w h = not_true (begins_gap (x ∷ y ∷ w)) (among_pass no_gap_in symbols (x ∷ y ∷ w) refl h)

-- ---- each proper kind

-- its word is at the front of a text as a token of this kind
record Stands (k : TokenKind) (after : List ℕ) : Type 0 where
  no_gap : begins_gap (kind_word k ++ after) ≡ false
  longest : IsLongest (kind_word k) after k
  small : Fits k

word_stands : (k : TokenKind) (w after : List ℕ) → kind_word k ≡ w → word_kind w ≡ k → Fits k → IsWord w → Apart after → Stands k after
word_stands k w after e f s h a = record {
  no_gap = subst (λ (x : List ℕ). begins_gap (x ++ after) ≡ false) (sym e) (word_gap w after h);
  longest = subst (λ (x : List ℕ). IsLongest x after k) (sym e)
      (longest_at w after k (subst (λ (x : TokenKind). IsToken w after x) f (word h)) (word_long w after h a));
  small = s;
}

stands : (k : TokenKind) (after : List ℕ) → Proper k → Apart after → Stands k after
stands (Id w) after p a =
    word_stands (Id w) w after refl
    (by_false (λ (x : TokenKind). x ≡ Id w) (is_among keywords w) _ _ p.1 (by_false (λ (x : TokenKind). x ≡ Id w) (is_among refused_words w) _ _ p.2 refl))
    tt p.0 a
stands (Keyword w) after p a =
    word_stands (Keyword w) w after refl (by_true (λ (x : TokenKind). x ≡ Keyword w) (is_among keywords w) _ _ p refl) tt (keyword_word w p) a
stands (Refused w) after p a =
    word_stands (Refused w) w after refl
    (by_false (λ (x : TokenKind). x ≡ Refused w) (is_among keywords w) _ _ p.0 (by_true (λ (x : TokenKind). x ≡ Refused w) (is_among refused_words w) _ _ p.1 refl))
    tt (refused_word w p.1) a
stands (Var w) after p a = record { no_gap = refl; longest = longest_at (36 ∷ w) after (Var w) (variable p) (variable_long w after p a); small = tt }
stands (Number n) after p a =
    let d = decimal_digits p.0 p.2 in
    subst (λ n. Stands (Number n) after) (sym p.1) (record {
      no_gap = digits_gap _ after d.0;
      longest = longest_at _ after (Number (pos p.0))
          (subst (λ (m : ℕ). IsToken (kind_word (Number (pos p.0))) after (Number (pos m))) d.1 (number d.0)) (digits_long _ after d.0 a);
      small = p.2;
    })
stands (Chars text) after p a = record { no_gap = refl; longest = longest_at _ after (Chars text) (chars text p) (string_long text after p); small = tt }
stands (Symbol s) after p a = record {
  no_gap = symbol_gap s after p a;
  longest = longest_at s after (Symbol s) (symbol p) (symbol_long s after p a);
  small = tt;
}

-- ---- texts

-- wherever it is, the text is read to its end as tokens of these kinds
abbrev pub Reads : List ℕ → Kinds → Type 0
Reads bs ks = (at : ℕ) → (ts : List Token) × Lexes at bs ts End × (kinds_of ts ≡ ks)

pub read_nothing : Reads [] []
read_nothing at = ([], end, refl)

read_blank : (b : ℕ) (bs : List ℕ) (ks : Kinds) → is_blank b ≡ true → Reads bs ks → Reads (b ∷ bs) ks
read_blank b bs ks h r at = let x = r (at + 1) in (x.0, gap {a = b ∷ []} {b = bs} refl (blank h) x.1, x.2)

read_word : (k : TokenKind) (after : List ℕ) (ks : Kinds) → Proper k → Apart after → Reads after ks → Reads (kind_word k ++ after) (k ∷ ks)
read_word k after ks p a r at =
    let s = stands k after p a in
    let x = r (at + length (kind_word k)) in
    (token_at k at (at + length (kind_word k)) ∷ x.0, token refl s.no_gap s.longest s.small x.1, ap (λ ls. k ∷ ls) x.2)

-- words with spaces between them, before a blank or nothing
pub read_spaced : (ks ls : Kinds) (after : List ℕ) → Propers ks → Apart after → Reads after ls → Reads (spaced (words_of ks) ++ after) (ks ++ ls)
read_spaced [] ls after p a r = r
read_spaced (k ∷ []) ls after p a r = read_word k after ls p.0 a r
read_spaced (k ∷ l ∷ ks) ls after p a r =
    let rest = spaced (words_of (l ∷ ks)) ++ after in
    subst (λ (x : List ℕ). Reads x (k ∷ l ∷ ks ++ ls)) (sym (append_assoc (kind_word k) (32 ∷ spaced (words_of (l ∷ ks))) after))
    (read_word k (32 ∷ rest) ((l ∷ ks) ++ ls) p.0 refl (read_blank 32 rest ((l ∷ ks) ++ ls) refl (read_spaced (l ∷ ks) ls after p.1 a r)))

-- kinds by the words of their front and their back
record Cut (ks : Kinds) (v w : Words) : Type 0 where
  front : Kinds
  back : Kinds
  parts : ks ≡ front ++ back
  fronts : words_of front ≡ v
  backs : words_of back ≡ w
  first : Propers front
  last : Propers back

abbrev first_word : Words → List ℕ
first_word [] = []
first_word (w ∷ ws) = w

abbrev other_words : Words → Words
other_words [] = []
other_words (w ∷ ws) = ws

cut_words : (ks : Kinds) (v w : Words) → Propers ks → words_of ks ≡ v ++ w → Cut ks v w
cut_words ks [] w p e = record { front = []; back = ks; parts = refl; fronts = refl; backs = e; first = tt; last = p }
cut_words [] (x ∷ v) w p e = absurd (cc)
cut_words (k ∷ ks) (x ∷ v) w p e =
    let c = cut_words ks v w p.1 (ap other_words e) in
    record {
      front = k ∷ c.front;
      back = c.back;
      parts = ap (λ ls. k ∷ ls) c.parts;
      fronts = λ i. ap first_word e i ∷ c.fronts i;
      backs = c.backs;
      first = (p.0, c.first);
      last = c.last;
    }

no_kinds : (ks : Kinds) → words_of ks ≡ [] → ks ≡ []
no_kinds [] e = refl
no_kinds (k ∷ ks) e = absurd (cc)

-- lines of words, with a line feed after each
pub read_broken : (ls : Lines) (ks : Kinds) → Propers ks → words_of ks ≡ written_all own ls → Reads (broken ls) ks
read_broken [] ks p e = subst (λ x. Reads [] x) (sym (no_kinds ks e)) read_nothing
read_broken (l ∷ ls) ks p e =
    let c = cut_words ks l (written_all own ls) p e in
    let r = read_spaced c.front c.back (10 ∷ broken ls) c.first refl (read_blank 10 (broken ls) c.back refl (read_broken ls c.back c.last c.backs)) in
    subst (λ x. Reads (broken (l ∷ ls)) x) (sym c.parts) (subst (λ x. Reads (spaced x ++ 10 ∷ broken ls) (c.front ++ c.back)) c.fronts r)
