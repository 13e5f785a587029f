-- The words of the command line.
use Rattle.std.proofs.Common.{◌≡◌, ℕ, ◌<◌, ◌≤◌, ◌^◌, List, [], ◌∷◌, length, get_or, Bool, true, false, Option, Some, None, String, string_bytes, codes, decimal, MatchOption, inl, inr, refl, sym, ap, ◌∙◌, arith}
use Rattle.std.proofs.lemmas.Fmt.{decimal_injective}
use Rattle.std.specs.declared.alloc.Global.{Global}
use Rattle.std.specs.Str.{bytes_eq}
use Rattle.std.specs.Cmp.Lexicographic.{bytes_decides}
use Rattle.asm_demo.specs.Calls.{IsSize}
use Rattle.asm_stdio.specs.Words.{bytes_of, AreStdio, AreDemo, AreKnown}

first_of_one : {A : Type 0} (x y : A) (xs : List A) → x ∷ xs ≡ y ∷ [] → x ≡ y
first_of_one x y xs e = cc

first_of_two : {A : Type 0} (x y a b : A) → x ∷ y ∷ [] ≡ a ∷ b ∷ [] → x ≡ a
first_of_two x y a b e = cc

second_of_two : {A : Type 0} (x y a b : A) → x ∷ y ∷ [] ≡ a ∷ b ∷ [] → y ≡ b
second_of_two x y a b e = cc

pub one_word : (words : List (String Global)) (w : String Global) (r : Bool) → 1 ≤ length words → length words < 2 → w ≡ get_or words 0 w
    → r ≡ bytes_eq (string_bytes w) (codes "stdio") → (r ≡ true → AreStdio words) × (AreStdio words → r ≡ true)
one_word [] w r some few is e = absurd (omega arith)
one_word (x ∷ y ∷ zs) w r some few is e = absurd (omega arith)
one_word (x ∷ []) w r some few is e = (
  λ t. ap (λ s. s ∷ []) (ap string_bytes (sym is) ∙ (bytes_decides (string_bytes w) (codes "stdio")).0 (sym e ∙ t)),
  λ a. e ∙ (bytes_decides (string_bytes w) (codes "stdio")).1 (ap string_bytes is ∙ first_of_one (string_bytes x) (codes "stdio") [] a),
)

-- the bytes of two words
pub two_words : (words : List (String Global)) (w s : String Global) → 2 ≤ length words → length words < 3 → w ≡ get_or words 0 w → s ≡ get_or words 1 s
    → bytes_of words ≡ string_bytes w ∷ string_bytes s ∷ []
two_words [] w s some few first second = absurd (omega arith)
two_words (x ∷ []) w s some few first second = absurd (omega arith)
two_words (x ∷ y ∷ z ∷ zs) w s some few first second = absurd (omega arith)
two_words (x ∷ y ∷ []) w s some few first second =
    ap (λ b. b ∷ string_bytes y ∷ []) (ap string_bytes (sym first)) ∙ ap (λ b. string_bytes w ∷ b ∷ []) (ap string_bytes (sym second))

-- what is said of the second word, where the first one is `demo`
pub demo_of_size : (words : List (String Global)) (word digits : List ℕ) (r : Option ℕ) → bytes_of words ≡ word ∷ digits ∷ [] → word ≡ codes "demo"
    → MatchOption r ((size : ℕ) → IsSize size → digits ≡ decimal size → ⊥) (λ size. IsSize size × (digits ≡ decimal size))
    → MatchOption r ((size : ℕ) → AreDemo size words → ⊥) (λ size. AreDemo size words)
demo_of_size words word digits None are first none =
    λ size d. none size d.is_size (second_of_two word digits (codes "demo") (decimal size) (sym are ∙ d.are))
demo_of_size words word digits (Some size) are first found = record {
  is_size = found.0;
  are = are ∙ ap (λ w. w ∷ digits ∷ []) first ∙ ap (λ s. codes "demo" ∷ s ∷ []) found.1;
}

-- other first words ask for no demo
pub no_demo : (words : List (String Global)) (word digits : List ℕ) → bytes_of words ≡ word ∷ digits ∷ [] → (word ≡ codes "demo" → ⊥)
    → (size : ℕ) → AreDemo size words → ⊥
no_demo words word digits are other size d = other (first_of_two word digits (codes "demo") (decimal size) (sym are ∙ d.are))

-- the words of a demo are two
pub two_for_demo : (words : List (String Global)) (size : ℕ) → AreDemo size words → length words ≡ 2
two_for_demo [] size d = absurd (let e = d.are in cc)
two_for_demo (x ∷ []) size d = absurd (let e = d.are in cc)
two_for_demo (x ∷ y ∷ []) size d = refl
two_for_demo (x ∷ y ∷ z ∷ zs) size d = absurd (let e = d.are in cc)

-- no words ask for two things
pub apart : (words : List (String Global)) (size : ℕ) → AreStdio words → AreDemo size words → ⊥
apart words size a d = let e = sym a ∙ d.are in cc

-- or for demos of two sizes
pub one_size : (words : List (String Global)) (a b : ℕ) → AreDemo a words → AreDemo b words → a ≡ b
one_size words a b d e =
    let small : a < 2 ^ 64 = omega (arith, d.is_size.most) in
    let small_too : b < 2 ^ 64 = omega (arith, e.is_size.most) in
    decimal_injective a b small small_too (second_of_two (codes "demo") (decimal a) (codes "demo") (decimal b) (sym d.are ∙ e.are))

pub known_none : (words : List (String Global)) → (AreStdio words → ⊥) → ((size : ℕ) → AreDemo size words → ⊥) → AreKnown words → ⊥
known_none words a d (inl s) = a s
known_none words a d (inr k) = d k.0 k.1
