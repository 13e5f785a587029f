-- Compact JSON texts hold no line feed.
use Rattle.std.proofs.Common.{◌≡◌, ℕ, zero, suc, ◌/◌, ◌%◌, ◌+◌, ◌<◌, ◌==◌, ◌||◌, nat_lt, pos, negsuc, List, [], ◌∷◌, ◌++◌, Bool, true, false, cond, decimal, codes, drop, refl, sym, ap, ◌∙◌, arith}
use Rattle.std.specs.Fmt.{digits, digits_onto, digit_glyph, signed_decimal}
use Rattle.std.specs.Char.{digit_char}
use Rattle.std.proofs.lemmas.Bool.Decides.{nat_tests}
use Rattle.std.proofs.lemmas.List.Folds.{list_any-append}
use Rattle.json.specs.Print.{escape_letter, escape_byte, escape, quoted}
use Rattle.serde_json.specs.Data.{Num, unsigned, negative, float, Data, null, boolean, number, string, array, object, Items, no_items, item, Members, no_members, member}
use Rattle.serde_json.specs.Written.{number_text, comma_if, compact_text, items_text, members_text}
use Rattle.asm_io.specs.Lines.{is_feed, has_feed}
use Rattle.asm_portable.specs.Json.{data_of}
use Rattle.asm_portable.specs.Ports.{fields}
use Rattle.asm_board.specs.declared.reply.Body.{Body}
use Rattle.asm_board.specs.Replies.{body_fields, reply_of, reply_text}

abbrev Unfed : List ℕ → Type 0
Unfed bytes = has_feed bytes ≡ false

above : (b : ℕ) → 10 < b → (b == 10) ≡ false
above b h = grind (arith, nat_tests)

is_number : (x n : ℕ) → (x == n) ≡ true → x ≡ n
is_number x n h = grind (arith, nat_tests)

is_less : (a b : ℕ) → nat_lt a b ≡ true → a < b
is_less a b h = grind (arith, nat_tests)

is_printed : (x : ℕ) → nat_lt x 32 ≡ false → 10 < x
is_printed x h = grind (arith, nat_tests)

unfed-append : (xs ys : List ℕ) → Unfed xs → Unfed ys → Unfed (xs ++ ys)
unfed-append xs ys p q = list_any-append is_feed xs ys ∙ ap (λ t. t || has_feed ys) p ∙ q

unfed-cons : (b : ℕ) (bs : List ℕ) → 10 < b → Unfed bs → Unfed (b ∷ bs)
unfed-cons b bs h q = ap (λ t. t || has_feed bs) (above b h) ∙ q

-- ---- numbers

glyph_above : (d : ℕ) → 10 < digit_glyph false d
glyph_above d = elim (nat_lt d 10) as (λ t. 10 < cond t (48 + d) (87 + d)) [ true ↦ omega arith | false ↦ omega arith ]

digits_unfed : (k n : ℕ) (acc : List ℕ) → Unfed acc → Unfed (digits_onto k 10 false n acc)
digits_unfed zero n acc h = h
digits_unfed (suc k) n acc h =
    let d = digit_glyph false (n % 10) in
    let next : Unfed (d ∷ acc) = unfed-cons d acc (glyph_above (n % 10)) h in
    elim (n / 10 == 0) as (λ t. Unfed (cond t (d ∷ acc) (digits_onto k 10 false (n / 10) (d ∷ acc)))) [ true ↦ next | false ↦ digits_unfed k (n / 10) (d ∷ acc) next ]

decimal_unfed : (n : ℕ) → Unfed (decimal n)
unfolding digits
decimal_unfed n = digits_unfed 64 n [] refl

number_unfed : (n : Num) → Unfed (number_text n)
number_unfed (unsigned n) = decimal_unfed n
number_unfed (negative (pos n)) = decimal_unfed n
number_unfed (negative (negsuc n)) = unfed-cons 45 (decimal (suc n)) (omega arith) (decimal_unfed (suc n))
number_unfed (float x) = refl

-- ---- strings

pick_above : (b : Bool) (n m : ℕ) → 10 < n → (0 < m → 10 < m) → 0 < cond b n m → 10 < cond b n m
pick_above true n m p q h = p
pick_above false n m p q h = q h

abbrev other_letter : ℕ → ℕ
other_letter x = cond (x == 8) 98 (cond (x == 12) 102 (cond (x == 10) 110 (cond (x == 13) 114 (cond (x == 9) 116 0))))

none_above : 0 < 0 → 10 < 0
none_above h = absurd (omega (arith, h))

other_above : (x : ℕ) → 0 < other_letter x → 10 < other_letter x
other_above x = pick_above (x == 8) 98 (cond (x == 12) 102 (cond (x == 10) 110 (cond (x == 13) 114 (cond (x == 9) 116 0)))) (omega arith)
    (pick_above (x == 12) 102 (cond (x == 10) 110 (cond (x == 13) 114 (cond (x == 9) 116 0))) (omega arith)
    (pick_above (x == 10) 110 (cond (x == 13) 114 (cond (x == 9) 116 0)) (omega arith)
    (pick_above (x == 13) 114 (cond (x == 9) 116 0) (omega arith) (pick_above (x == 9) 116 0 (omega arith) none_above))))

quote_above : (x : ℕ) → ((x == 34) || (x == 92)) ≡ true → 10 < x
quote_above x =
    elim (x == 34) as (λ t. (x == 34) ≡ t → (t || (x == 92)) ≡ true → 10 < x) [
      | true ↦ λ e _. omega (arith, is_number x 34 e)
      | false ↦ λ _ e. omega (arith, is_number x 92 e)
    ] refl

letter_above : (x : ℕ) → 0 < escape_letter x → 10 < escape_letter x
letter_above x =
    elim ((x == 34) || (x == 92)) as (λ t. ((x == 34) || (x == 92)) ≡ t → 0 < cond t x (other_letter x) → 10 < cond t x (other_letter x)) [
      | true ↦ λ e _. quote_above x e
      | false ↦ λ _. other_above x
    ] refl

char_above : (d : ℕ) → 10 < digit_char d
char_above d = elim (nat_lt d 10) as (λ t. 10 < cond t (48 + d) (87 + d)) [ true ↦ omega arith | false ↦ omega arith ]

abbrev code_of : ℕ → List ℕ
code_of x = 92 ∷ 117 ∷ 48 ∷ 48 ∷ digit_char (x / 16) ∷ digit_char (x % 16) ∷ []

last_unfed : (x : ℕ) → Unfed (digit_char (x / 16) ∷ digit_char (x % 16) ∷ [])
last_unfed x = unfed-cons (digit_char (x / 16)) (digit_char (x % 16) ∷ []) (char_above (x / 16)) (unfed-cons (digit_char (x % 16)) [] (char_above (x % 16)) refl)

code_unfed : (x : ℕ) → Unfed (code_of x)
code_unfed x = last_unfed x

byte_unfed : (x : ℕ) → Unfed (escape_byte x)
unfolding escape_byte
byte_unfed x =
    elim (nat_lt 0 (escape_letter x)) as (λ t. nat_lt 0 (escape_letter x) ≡ t → Unfed (cond t (92 ∷ escape_letter x ∷ []) (cond (nat_lt x 32) (code_of x) (x ∷ [])))) [
      | true ↦ λ e. unfed-cons (escape_letter x) [] (letter_above x (is_less 0 (escape_letter x) e)) refl
      | false ↦ λ _. elim (nat_lt x 32) as (λ t. nat_lt x 32 ≡ t → Unfed (cond t (code_of x) (x ∷ []))) [
        | true ↦ λ _. code_unfed x
        | false ↦ λ e. unfed-cons x [] (is_printed x e) refl
      ] refl
    ] refl

escape_unfed : (s : List ℕ) → Unfed (escape s)
escape_unfed [] = refl
escape_unfed (x ∷ xs) = unfed-append (escape_byte x) (escape xs) (byte_unfed x) (escape_unfed xs)

quoted_unfed : (s : List ℕ) → Unfed (quoted s)
quoted_unfed s = unfed-append (escape s) (34 ∷ []) (escape_unfed s) refl

-- ---- values

comma_unfed : (later : Bool) → Unfed (comma_if later)
comma_unfed true = refl
comma_unfed false = refl

mutual
  pub text_unfed : (d : Data) → Unfed (compact_text d)
  text_unfed null = refl
  text_unfed (boolean true) = refl
  text_unfed (boolean false) = refl
  text_unfed (number n) = number_unfed n
  text_unfed (string s) = quoted_unfed s
  text_unfed (array ds) = items_unfed false ds
  text_unfed (object ms) = members_unfed false ms

  items_unfed : (later : Bool) (ds : Items) → Unfed (items_text later ds)
  items_unfed later no_items = refl
  items_unfed later (item d ds) =
      unfed-append (comma_if later) (compact_text d ++ items_text true ds) (comma_unfed later) (unfed-append (compact_text d) (items_text true ds) (text_unfed d) (items_unfed true ds))

  members_unfed : (later : Bool) (ms : Members) → Unfed (members_text later ms)
  members_unfed later no_members = refl
  members_unfed later (member k d ms) =
      unfed-append (comma_if later) (quoted k ++ 58 ∷ (compact_text d ++ members_text true ms)) (comma_unfed later) (
      unfed-append (quoted k) (58 ∷ (compact_text d ++ members_text true ms)) (quoted_unfed k) (unfed-append (compact_text d) (members_text true ms) (text_unfed d) (members_unfed true ms)))

-- ---- replies

rest_unfed : (bytes : List ℕ) → Unfed bytes → Unfed (drop 1 bytes)
rest_unfed [] h = refl
rest_unfed (b ∷ bs) h = (elim (is_feed b) as (λ t. (t || has_feed bs) ≡ false → has_feed bs ≡ false) [ true ↦ λ e. absurd (cc (e)) | false ↦ λ e. e ]) h

pub reply_unfed : (at : ℕ) (body : Body) → Unfed (reply_text (reply_of at body))
reply_unfed at body =
    let tail = drop 1 (compact_text (data_of (fields (body_fields body)))) in
    unfed-append (codes "{\"at\":") (decimal at ++ 44 ∷ tail) refl (
    unfed-append (decimal at) (44 ∷ tail) (decimal_unfed at) (rest_unfed (compact_text (data_of (fields (body_fields body)))) (text_unfed (data_of (fields (body_fields body))))))
