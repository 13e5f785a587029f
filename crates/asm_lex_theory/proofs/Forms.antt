-- The longest token at the front.
use Rattle.std.proofs.Common.{◌≡◌, ℕ, ◌+◌, ◌≤◌, Bool, true, false, List, [], ◌∷◌, ◌++◌, length, take, drop, sym, refl, ap, ◌∙◌, subst, arith, append_assoc, length-append}
use Rattle.std.specs.Prelude.{◌&&◌, not, ◌==◌, codes, Some, None, pos}
use Rattle.std.specs.List.{prefix_len}
use Rattle.std.proofs.lemmas.Bool.Decides.{nat_tests}
use Rattle.asm_syntax.specs.Bytes.{is_letter, is_digit, is_word_byte, is_string_byte, Stops, starts_with, value_of}
use Rattle.asm_syntax.specs.Words.{is_among, symbols}
use Rattle.asm_syntax.specs.Lexes.{word_kind, IsToken, word, variable, number, marked, chars, symbol, IsLongest}
use Rattle.asm_syntax.specs.declared.token.TokenKind.{TokenKind}
use Rattle.asm_syntax.specs.declared.token.TokenKind.TheVariants.{Var, Number, Chars, Symbol}
use Rattle.asm_lex_theory.specs.Scan.{word_len, is_mark, Form, variable_form, digits_form, string_form, short_symbol, symbol_form, token_form}
use Rattle.asm_lex_theory.proofs.Lists.{by_cond, by_true, by_false, split, prefix_at_least, prefix_is, taken, dropped, symbol_short, symbol_plain, plain_is, digit_no_letter, eq_is, is_plain}

-- ---- what is found is a token

abbrev pub Spelled : List ℕ → Form → Type 0
Spelled bs None = Unit {0}
Spelled bs (Some f) = (a c : List ℕ) × (bs ≡ a ++ c) × (f.1 ≡ length a) × IsToken a c f.0

word_spelled : (b : ℕ) (rest : List ℕ) → is_letter b ≡ true → Spelled (b ∷ rest) (Some (word_kind (take (word_len rest) (b ∷ rest)), word_len rest))
word_spelled b rest h =
    let s = split is_word_byte rest in
    let n = s.len in
    let e : b ∷ rest ≡ (b ∷ s.front) ++ s.back = ap (λ x. b ∷ x) s.parts in
    let l : word_len rest ≡ length (b ∷ s.front) = omega arith in
    (b ∷ s.front, s.back, e, l, subst (λ (x : List ℕ). IsToken (b ∷ s.front) s.back (word_kind x)) (sym (taken (b ∷ rest) (b ∷ s.front) s.back (word_len rest) e l)) (word (h, s.all)))

variable_spelled : (rest : List ℕ) → Spelled (36 ∷ rest) (variable_form rest)
variable_spelled [] = tt
variable_spelled (b ∷ rest) = by_cond (Spelled (36 ∷ b ∷ rest)) (is_letter b) _ _ (λ h.
    let s = split is_word_byte rest in
    let n = s.len in
    let e : b ∷ rest ≡ (b ∷ s.front) ++ s.back = ap (λ x. b ∷ x) s.parts in
    let l : word_len rest ≡ length (b ∷ s.front) = omega arith in
    let m : word_len rest + 1 ≡ length (36 ∷ b ∷ s.front) = omega arith in
    (36 ∷ b ∷ s.front, s.back, ap (λ x. 36 ∷ x) e, m, subst (λ (x : List ℕ). IsToken (36 ∷ b ∷ s.front) s.back (Var x)) (sym (taken (b ∷ rest) (b ∷ s.front) s.back (word_len rest) e l)) (variable (h, s.all)))) (λ h. tt)

mark_is : (g : List ℕ) → is_mark g ≡ true → (after : List ℕ) × (g ≡ 110 ∷ after) × Stops is_word_byte after
mark_is [] h = absurd (cc)
mark_is (b ∷ []) h = let e : b ≡ 110 = grind (arith, nat_tests) in ([], ap (λ x. x ∷ []) e, tt)
mark_is (b ∷ c ∷ bs) h = go (b == 110) (is_word_byte c) refl refl h
  where
    go : (v w : Bool) → (b == 110) ≡ v → is_word_byte c ≡ w → (v && not w) ≡ true → (after : List ℕ) × (b ∷ c ∷ bs ≡ 110 ∷ after) × Stops is_word_byte after
    go true false e f h = let i : b ≡ 110 = grind (arith, nat_tests) in (c ∷ bs, ap (λ x. x ∷ c ∷ bs) i, f)
    go true true e f h = absurd (cc)
    go false w e f h = absurd (cc)

digits_spelled : (b : ℕ) (rest : List ℕ) → is_digit b ≡ true → Spelled (b ∷ rest) (digits_form (b ∷ rest) (prefix_len is_digit rest + 1))
digits_spelled b rest h =
    let s = split is_digit rest in
    let n = s.len in
    let len = prefix_len is_digit rest + 1 in
    let e : b ∷ rest ≡ (b ∷ s.front) ++ s.back = ap (λ x. b ∷ x) s.parts in
    let l : len ≡ length (b ∷ s.front) = omega arith in
    let t : take len (b ∷ rest) ≡ b ∷ s.front = taken (b ∷ rest) (b ∷ s.front) s.back len e l in
    let d : drop len (b ∷ rest) ≡ s.back = dropped (b ∷ rest) (b ∷ s.front) s.back len e l in
    by_cond (λ (n : ℕ). Spelled (b ∷ rest) (Some (Number (pos (value_of (take len (b ∷ rest)))), n))) (is_mark (drop len (b ∷ rest))) _ _
    (λ m.
    let k = mark_is s.back (ap is_mark (sym d) ∙ m) in
    let long : length ((b ∷ s.front) ++ codes "n") ≡ length (b ∷ s.front) + 1 = length-append (b ∷ s.front) (codes "n") in (
      (b ∷ s.front) ++ codes "n",
      k.0,
      e ∙ ap (λ x. (b ∷ s.front) ++ x) k.1 ∙ sym (append_assoc (b ∷ s.front) (codes "n") k.0),
      omega arith,
      subst (λ (x : List ℕ). IsToken ((b ∷ s.front) ++ codes "n") k.0 (Number (pos (value_of x)))) (sym t) (marked (b ∷ s.front) (h, s.all) k.2),
    ))
    (λ m. (b ∷ s.front, s.back, e, l, subst (λ (x : List ℕ). IsToken (b ∷ s.front) s.back (Number (pos (value_of x)))) (sym t) (number (h, s.all))))

quote_is : (g : List ℕ) → starts_with (codes "\"") g ≡ true → (after : List ℕ) × (g ≡ 34 ∷ after)
quote_is [] h = absurd (cc)
quote_is (b ∷ bs) h = let e : b ≡ 34 = grind (arith, nat_tests) in (bs, ap (λ x. x ∷ bs) e)

string_spelled : (rest : List ℕ) → Spelled (34 ∷ rest) (string_form rest (prefix_len is_string_byte rest))
string_spelled rest =
    let s = split is_string_byte rest in
    let n = s.len in
    let len = prefix_len is_string_byte rest in
    by_cond (Spelled (34 ∷ rest)) (starts_with (codes "\"") (drop len rest)) _ _ (λ h.
    let q = quote_is s.back (ap (starts_with (codes "\"")) (sym (dropped rest s.front s.back len s.parts n)) ∙ h) in
    let long : length (s.front ++ 34 ∷ []) ≡ length s.front + 1 = length-append s.front (34 ∷ []) in (
      34 ∷ (s.front ++ 34 ∷ []),
      q.0,
      ap (λ x. 34 ∷ x) (s.parts ∙ ap (λ x. s.front ++ x) q.1 ∙ sym (append_assoc s.front (34 ∷ []) q.0)),
      omega arith,
      subst (λ (x : List ℕ). IsToken (34 ∷ (s.front ++ 34 ∷ [])) q.0 (Chars x)) (sym (taken rest s.front s.back len s.parts n)) (chars s.front s.all),
    )) (λ h. tt)

short_spelled : (b : ℕ) (rest : List ℕ) → Spelled (b ∷ rest) (short_symbol b)
short_spelled b rest = by_cond (Spelled (b ∷ rest)) (is_among symbols (b ∷ [])) _ _ (λ h. (b ∷ [], rest, refl, refl, symbol h)) (λ h. tt)

symbol_spelled : (b : ℕ) (rest : List ℕ) → Spelled (b ∷ rest) (symbol_form b rest)
symbol_spelled b [] = short_spelled b []
symbol_spelled b (c ∷ rest) = by_cond (Spelled (b ∷ c ∷ rest)) (is_among symbols (b ∷ c ∷ [])) _ _ (λ h. (b ∷ c ∷ [], rest, refl, refl, symbol h)) (λ h. short_spelled b (c ∷ rest))

pub token_spelled : (b : ℕ) (rest : List ℕ) → Spelled (b ∷ rest) (token_form b rest)
unfolding token_form
token_spelled b rest =
    by_cond (Spelled (b ∷ rest)) (is_letter b) _ _ (word_spelled b rest) (λ i.
    by_cond (Spelled (b ∷ rest)) (is_digit b) _ _ (digits_spelled b rest) (λ j.
    by_cond (Spelled (b ∷ rest)) (b == 36) _ _ (λ h. subst (λ (x : ℕ). Spelled (x ∷ rest) (variable_form rest)) (sym (eq_is b 36 h)) (variable_spelled rest)) (λ k.
    by_cond (Spelled (b ∷ rest)) (b == 34) _ _ (λ h. subst (λ (x : ℕ). Spelled (x ∷ rest) (string_form rest (prefix_len is_string_byte rest))) (sym (eq_is b 34 h)) (string_spelled rest)) (λ l.
    symbol_spelled b rest))))

-- ---- no token is longer than what is found, and one of its length is it

abbrev pub form_of : List ℕ → Form
form_of [] = None
form_of (b ∷ rest) = token_form b rest

abbrev pub Offers : ℕ → TokenKind → Form → Type 0
Offers n k None = ⊥
Offers n k (Some f) = (n ≤ f.1) × (n ≡ f.1 → f.0 ≡ k)

mark_holds : (d : List ℕ) → Stops is_word_byte d → is_mark (110 ∷ d) ≡ true
mark_holds [] s = refl
mark_holds (y ∷ d) s = ap not s

plain_form : (P : Form → Type 0) (b : ℕ) (rest : List ℕ) → is_plain b ≡ true → P (symbol_form b rest) → P (token_form b rest)
unfolding token_form
plain_form P b rest h p =
    let e = plain_is (is_letter b) (is_digit b) (b == 36) (b == 34) h in
    by_false P (is_letter b) _ _ e.0 (by_false P (is_digit b) _ _ e.1 (by_false P (b == 36) _ _ e.2 (by_false P (b == 34) _ _ e.3 p)))

symbol_offers : (c d : List ℕ) → is_among symbols c ≡ true → Offers (length c) (Symbol c) (form_of (c ++ d))
unfolding token_form
symbol_offers [] d h = absurd (cc)
symbol_offers (x ∷ []) [] h = plain_form (Offers 1 (Symbol (x ∷ []))) x [] (symbol_plain (x ∷ []) h) (by_true (Offers 1 (Symbol (x ∷ []))) (is_among symbols (x ∷ [])) _ _ h (omega arith, λ e. refl))
symbol_offers (x ∷ []) (y ∷ d) h =
    plain_form (Offers 1 (Symbol (x ∷ []))) x (y ∷ d) (symbol_plain (x ∷ []) h)
    (by_cond (Offers 1 (Symbol (x ∷ []))) (is_among symbols (x ∷ y ∷ [])) _ _ (λ m. (omega arith, λ e. absurd (omega arith)))
    (λ m. by_true (Offers 1 (Symbol (x ∷ []))) (is_among symbols (x ∷ [])) _ _ h (omega arith, λ e. refl)))
symbol_offers (x ∷ y ∷ []) d h =
    plain_form (Offers 2 (Symbol (x ∷ y ∷ []))) x (y ∷ d) (symbol_plain (x ∷ y ∷ []) h)
    (by_true (Offers 2 (Symbol (x ∷ y ∷ []))) (is_among symbols (x ∷ y ∷ [])) _ _ h (omega arith, λ e. refl))
symbol_offers (x ∷ y ∷ z ∷ c) d h = absurd (let no = symbol_short (x ∷ y ∷ z ∷ c) h in cc)

pub offers : (c d : List ℕ) (k : TokenKind) → IsToken c d k → Offers (length c) k (form_of (c ++ d))
unfolding token_form
offers c d k (word {a = []} h) = absurd h
offers c d k (word {a = x ∷ a} h) =
    let more = prefix_at_least is_word_byte a d h.1 in
    by_true (Offers (length (x ∷ a)) (word_kind (x ∷ a))) (is_letter x) _ _ h.0
    (omega arith, λ e. ap word_kind (taken ((x ∷ a) ++ d) (x ∷ a) d (word_len (a ++ d)) refl (sym e)))
offers c d k (variable {a = []} h) = absurd h
offers c d k (variable {a = x ∷ a} h) =
    let more = prefix_at_least is_word_byte a d h.1 in
    by_true (Offers (length (36 ∷ x ∷ a)) (Var (x ∷ a))) (is_letter x) _ _ h.0
    (omega arith, λ e. ap Var (taken ((x ∷ a) ++ d) (x ∷ a) d (word_len (a ++ d)) refl (omega arith)))
offers c d k (number {a = []} h) = absurd h
offers c d k (number {a = x ∷ a} h) =
    let more = prefix_at_least is_digit a d h.1 in
    let len = prefix_len is_digit (a ++ d) + 1 in
    by_false (Offers (length (x ∷ a)) (Number (pos (value_of (x ∷ a))))) (is_letter x) _ _ (digit_no_letter x h.0)
    (by_true (Offers (length (x ∷ a)) (Number (pos (value_of (x ∷ a))))) (is_digit x) _ _ h.0
    (by_cond (λ (n : ℕ). Offers (length (x ∷ a)) (Number (pos (value_of (x ∷ a)))) (Some (Number (pos (value_of (take len ((x ∷ a) ++ d)))), n))) (is_mark (drop len ((x ∷ a) ++ d))) _ _
    (λ m. (omega arith, λ e. absurd (omega arith)))
    (λ m. (omega arith, λ e. ap (λ x. Number (pos (value_of x))) (taken ((x ∷ a) ++ d) (x ∷ a) d len refl (sym e))))))
offers c d k (marked [] h s) = absurd h
offers c d k (marked (x ∷ a) h s) =
    let rest = (a ++ codes "n") ++ d in
    let er : rest ≡ a ++ 110 ∷ d = append_assoc a (codes "n") d in
    let len = prefix_len is_digit rest + 1 in
    let n : prefix_len is_digit rest ≡ length a = ap (prefix_len is_digit) er ∙ prefix_is is_digit a (110 ∷ d) h.1 refl in
    let l : len ≡ length (x ∷ a) = omega arith in
    let long : length (a ++ codes "n") ≡ length a + 1 = length-append a (codes "n") in
    let e : x ∷ rest ≡ (x ∷ a) ++ 110 ∷ d = ap (λ v. x ∷ v) er in
    let K : TokenKind = Number (pos (value_of (x ∷ a))) in
    let N : ℕ = length (x ∷ (a ++ codes "n")) in
    by_false (Offers N K) (is_letter x) _ _ (digit_no_letter x h.0)
    (by_true (Offers N K) (is_digit x) _ _ h.0
    (by_true (λ (n : ℕ). Offers N K (Some (Number (pos (value_of (take len (x ∷ rest)))), n))) (is_mark (drop len (x ∷ rest))) _ _
    (ap is_mark (dropped (x ∷ rest) (x ∷ a) (110 ∷ d) len e l) ∙ mark_holds d s)
    (omega arith, λ _. ap (λ v. Number (pos (value_of v))) (taken (x ∷ rest) (x ∷ a) (110 ∷ d) len e l))))
offers c d k (chars a h) =
    let rest = (a ++ 34 ∷ []) ++ d in
    let er : rest ≡ a ++ 34 ∷ d = append_assoc a (34 ∷ []) d in
    let len = prefix_len is_string_byte rest in
    let n : len ≡ length a = ap (prefix_len is_string_byte) er ∙ prefix_is is_string_byte a (34 ∷ d) h refl in
    let long : length (a ++ 34 ∷ []) ≡ length a + 1 = length-append a (34 ∷ []) in
    by_true (Offers (length (34 ∷ (a ++ 34 ∷ []))) (Chars a)) (starts_with (codes "\"") (drop len rest)) _ _
    (ap (starts_with (codes "\"")) (dropped rest a (34 ∷ d) len er n))
    (omega arith, λ _. ap Chars (taken rest a (34 ∷ d) len er n))
offers c d k (symbol {a = a} h) = symbol_offers a d h

pub spelled : (bs : List ℕ) → Spelled bs (form_of bs)
spelled [] = tt
spelled (b ∷ rest) = token_spelled b rest

pub longest_form : (a c : List ℕ) (k : TokenKind) → IsLongest a c k → form_of (a ++ c) ≡ Some (k, length a)
longest_form a c k h = go (form_of (a ++ c)) refl
  where
    go : (f : Form) → form_of (a ++ c) ≡ f → form_of (a ++ c) ≡ Some (k, length a)
    go None e = absurd (subst (Offers (length a) k) e (offers a c k h.token))
    go (Some (j, n)) e =
        let o = subst (Offers (length a) k) e (offers a c k h.token) in
        let s = subst (Spelled (a ++ c)) e (spelled (a ++ c)) in
        let m : length s.0 ≤ length a = h.longest s.0 s.1 j s.2 s.4 in
        let l : n ≡ length s.0 = s.3 in
        let o0 : length a ≤ n = o.0 in
        let same : length a ≡ n = omega arith in
        e ∙ ap (λ (x : TokenKind). Some (x, n)) (o.1 same) ∙ ap (λ (y : ℕ). Some (k, y)) (sym same)

pub form_longest : (bs : List ℕ) (k : TokenKind) (n : ℕ) → form_of bs ≡ Some (k, n) → (a c : List ℕ) × (bs ≡ a ++ c) × (n ≡ length a) × IsLongest a c k
form_longest bs k n e =
    let s = subst (Spelled bs) e (spelled bs) in
    let l : n ≡ length s.0 = s.3 in (
      s.0,
      s.1,
      s.2,
      l,
      record {
        token = s.4;
        longest = λ other left j f t.
            let o = subst (Offers (length other) j) (ap form_of (sym f ∙ sym s.2) ∙ e) (offers other left j t) in
            let o0 : length other ≤ n = o.0 in omega arith;
      },
    )

pub form_none : (bs : List ℕ) → form_of bs ≡ None → (front after : List ℕ) (k : TokenKind) → bs ≡ front ++ after → IsToken front after k → ⊥
form_none bs e front after k f t = subst (Offers (length front) k) (ap form_of (sym f) ∙ e) (offers front after k t)
