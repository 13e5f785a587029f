-- The formula that is read of a text is the one that the grammar spells, and the refusal the first.
use Rattle.std.proofs.Common.{◌≡◌, ◌↔◌, ◌⊎◌, ℕ, ◌+◌, ◌<◌, ◌≤◌, Bool, true, false, cond, ◌||◌, nat_lt, List, [], ◌∷◌, ◌++◌, length, count_by, Option, Some, None, Ok, Err, inl, inr, refl, ap, ◌∙◌, subst, arith, length-append, ltb-true, ltb-false}
use Rattle.asm_grammar.specs.Language.{Language}
use Rattle.asm_grammar.specs.Refusals.{unlimited, GoesNoFurther, IsSyntax, IsTooDeep}
use Rattle.asm_grammar.specs.Parser.{Reply, Took, Refused}
use Rattle.asm_grammar.proofs.Whole.{AnswerIs, whole_answer, reads_spelled}
use Rattle.asm_grammar.proofs.Fronts.{Fronts, fronts-unlimited}
use Rattle.asm_grammar.proofs.OnePlace.{one_syntax, spelled_no_syntax}
use Rattle.asm_formula.specs.declared.formula.Formula.{Formula}
use Rattle.asm_formula.specs.declared.formula.FormulaRefusal.{FormulaRefusal}
use Rattle.asm_formula.specs.declared.formula.FormulaRefusal.TheVariants.{Syntax, TooMany}
use Rattle.asm_formula.specs.declared.token.Token.{Token}
use Rattle.asm_formula.specs.Formulas.{names}
use Rattle.asm_formula.specs.Tokens.{Lexes, is_name}
use Rattle.asm_formula.specs.Grammar.{formula, formula_within}
use Rattle.asm_formula.specs.Scan.{Lexed, lexed_from}
use Rattle.asm_formula.specs.Parsing as r
use Rattle.asm_formula.specs.Reading.{Read, on_read, lexed_whole, is_too_much, within_limits, place, whole, tree_of, first_repeated, unless_repeated, distinct, formula_of}
use Rattle.asm_formula.specs.Texts.{HasFewNames, AreTokens, IsFormulaText, IsRefusedText, no_token, too_many, no_formula, repeated}
use Rattle.asm_formula.proofs.Lexed.{lexes_is, reads}
use Rattle.asm_formula.proofs.Exactness.{sound_within, complete_within, fronts_within}
use Rattle.asm_formula.proofs.Depths.{upto_within, sizes}
use Rattle.asm_formula.proofs.Repeats.{none_repeated, one_repeated, distinct_none, repeated_one}
use Rattle.asm_formula.proofs.Counts.{names_counted}

-- ---- lists of at most 64 tokens

abbrev within : Language Token Formula
within = formula_within 64

fronts_formula : Fronts formula
fronts_formula = fronts-unlimited fronts_within

-- what so few tokens spell or begin, they do within the limit
within_spells : (f : Formula) (ts : List Token) → length ts ≤ 64 → formula.Spells f ts → within.Spells f ts
within_spells f ts h s = (upto_within s.0 64).spells f ts h s.1

within_begins : (ts : List Token) → length ts ≤ 64 → formula.Begins ts → within.Begins ts
within_begins ts h s = (upto_within s.0 64).begins ts h s.1

-- the same language whatever the limit
abbrev same : Language Token Formula
same = unlimited (λ n. within)

answer : (ts : List Token) → AnswerIs within same ts (r.formula 64 ts)
answer = whole_answer {L = λ n. within} 0 (sound_within 64) (complete_within false 64) (λ n. complete_within true 64)

pub took_spelled : (ts : List Token) (f : Formula) → length ts ≤ 64 → formula.Spells f ts → r.formula 64 ts ≡ Took f []
took_spelled ts f h s =
    reads_spelled {L = λ n. within} 0 (sound_within 64) (complete_within false 64) (λ n. complete_within true 64) ts f (within_spells f ts h s)

-- the front of a list, with its next token, is no longer
front_few : (ts front rest : List Token) → length ts ≤ 64 → ts ≡ front ++ rest → length front ≤ 64
front_few ts front rest h e = (sizes 64 ts front rest h e).0

next_few : (ts front rest : List Token) (t : Token) → length ts ≤ 64 → ts ≡ front ++ t ∷ rest → length (front ++ t ∷ []) ≤ 64
next_few ts front rest t h e =
    let sum : length ts ≡ length front + length (t ∷ rest) = ap length e ∙ length-append front (t ∷ rest) in
    let short : length (front ++ t ∷ []) ≡ length front + 1 = length-append front (t ∷ []) in
    omega arith

goes_no_further : (ts front rest : List Token) → length ts ≤ 64 → ts ≡ front ++ rest → GoesNoFurther same front rest → GoesNoFurther formula front rest
goes_no_further ts front [] h e ends = λ f s. ends f (0, within_spells f front (front_few ts front [] h e) s)
goes_no_further ts front (t ∷ rest) h e ends = λ bg. ends (0, within_begins (front ++ t ∷ []) (next_few ts front rest t h e) bg)

-- what the parser refuses, the grammar does
syntax_of : (ts rest : List Token) → length ts ≤ 64 → IsSyntax within same ts rest → IsSyntax formula formula ts rest
syntax_of ts rest h s = record {
  front = s.front;
  split = s.split;
  before = (64, s.before);
  there = goes_no_further ts s.front rest h s.split s.there;
}

never_deep : (ts rest : List Token) → IsTooDeep within same ts rest → ⊥
never_deep ts rest s = s.passes s.goes_on.1

-- what is read of a list: a formula that it spells, or the first token that no formula has there
abbrev IsReadOf : List Token → Reply Token Formula → Type 0
IsReadOf ts (Took f []) = formula.Spells f ts
IsReadOf ts (Took f (t ∷ rest)) = IsSyntax formula formula ts (t ∷ rest)
IsReadOf ts (Refused deep rest) = IsSyntax formula formula ts rest

read_of : (ts : List Token) → length ts ≤ 64 → IsReadOf ts (r.formula 64 ts)
read_of ts h = go (r.formula 64 ts) (answer ts)
  where
    go : (reply : Reply Token Formula) → AnswerIs within same ts reply → IsReadOf ts reply
    go (Took f []) a = (64, a.0)
    go (Took f (t ∷ rest)) a = syntax_of ts (t ∷ rest) h a
    go (Refused false rest) a = syntax_of ts rest h a
    go (Refused true rest) a = absurd (never_deep ts rest a)

-- the one place at which a list is refused
whole_refused : (bytes : ℕ) (ts rest : List Token) → length ts ≤ 64 → IsSyntax formula formula ts rest
    → whole bytes (r.formula 64 ts) ≡ Err (Syntax (place bytes rest))
whole_refused bytes ts rest h s = go (r.formula 64 ts) (read_of ts h)
  where
    one : (rest' : List Token) → IsSyntax formula formula ts rest' → rest' ≡ rest
    one rest' s' = one_syntax {within = formula} {free = formula} fronts_formula (λ a bg. bg) (λ f a sp. sp) ts rest' rest s' s

    go : (reply : Reply Token Formula) → IsReadOf ts reply → whole bytes reply ≡ Err (Syntax (place bytes rest))
    go (Took f []) a =
        absurd (spelled_no_syntax {within = formula} {free = formula} fronts_formula (λ a bg. bg) (λ f a sp. sp) ts rest f a s)
    go (Took f (t ∷ more)) a = ap (λ (x : List Token). Err (Syntax (place bytes x))) (one (t ∷ more) a)
    go (Refused deep more) a = ap (λ (x : List Token). Err (Syntax (place bytes x))) (one more a)

-- ---- limits

few_tokens : (ts : List Token) → is_too_much ts ≡ false → (length ts ≤ 64) × (count_by is_name ts ≤ 16)
few_tokens ts e = go (nat_lt 64 (length ts)) (nat_lt 16 (count_by is_name ts)) refl refl e
  where
    go : (v w : Bool) → nat_lt 64 (length ts) ≡ v → nat_lt 16 (count_by is_name ts) ≡ w → (v || w) ≡ false → (length ts ≤ 64) × (count_by is_name ts ≤ 16)
    go false false h k n = (ltb-false _ _ h, ltb-false _ _ k)
    go true w h k n = absurd (cc n)
    go false true h k n = absurd (cc n)

much_tokens : (ts : List Token) → is_too_much ts ≡ true → (64 < length ts) ⊎ (16 < count_by is_name ts)
much_tokens ts e = go (nat_lt 64 (length ts)) (nat_lt 16 (count_by is_name ts)) refl refl e
  where
    go : (v w : Bool) → nat_lt 64 (length ts) ≡ v → nat_lt 16 (count_by is_name ts) ≡ w → (v || w) ≡ true → (64 < length ts) ⊎ (16 < count_by is_name ts)
    go true w h k n = inl (ltb-true _ _ h)
    go false true h k n = inr (ltb-true _ _ k)
    go false false h k n = absurd (cc n)

not_much : (ts : List Token) → length ts ≤ 64 → count_by is_name ts ≤ 16 → is_too_much ts ≡ false
not_much ts h k = go (is_too_much ts) refl
  where
    go : (v : Bool) → is_too_much ts ≡ v → is_too_much ts ≡ false
    go false e = e
    go true e = absurd (both (much_tokens ts e))
      where
        both : (64 < length ts) ⊎ (16 < count_by is_name ts) → ⊥
        both (inl n) = absurd (omega arith)
        both (inr n) = absurd (omega arith)

much : (ts : List Token) → (64 < length ts) ⊎ (16 < count_by is_name ts) → is_too_much ts ≡ true
much ts h = go (is_too_much ts) refl h
  where
    go : (v : Bool) → is_too_much ts ≡ v → (64 < length ts) ⊎ (16 < count_by is_name ts) → is_too_much ts ≡ true
    go true e h = e
    go false e (inl n) = let f = few_tokens ts e in absurd (omega (arith, f.0))
    go false e (inr n) = let f = few_tokens ts e in absurd (omega (arith, f.1))

-- ---- what is read is so

abbrev much_read : Read (List Token)
much_read = Err TooMany

abbrev Means : List ℕ → Read Formula → Type 0
Means text (Ok f) = IsFormulaText text f
Means text (Err why) = IsRefusedText text why

distinct_means : (text : List ℕ) (ts : List Token) (f : Formula) → AreTokens text ts → formula.Spells f ts → Means text (distinct f)
distinct_means text ts f a s = go (first_repeated (names f)) refl
  where
    go : (o : Option (List ℕ)) → first_repeated (names f) ≡ o → Means text (unless_repeated o f)
    go None e = record { tokens = ts; are_tokens = a; spells = s; distinct = none_repeated (names f) e }
    go (Some name) e = repeated f a s (one_repeated (names f) name e)

tree_means : (text : List ℕ) (ts : List Token) → AreTokens text ts → Means text (on_read (tree_of (length text) ts) distinct)
tree_means text ts a = go (r.formula 64 ts) (read_of ts a.few)
  where
    go : (reply : Reply Token Formula) → IsReadOf ts reply → Means text (on_read (whole (length text) reply) distinct)
    go (Took f []) s = distinct_means text ts f a s
    go (Took f (t ∷ rest)) s = no_formula {rest = t ∷ rest} a s
    go (Refused deep rest) s = no_formula a s

few_means : (text : List ℕ) (ts : List Token) → Lexes 0 text ts None
    → Means text (on_read (within_limits ts) (λ few. on_read (tree_of (length text) few) distinct))
few_means text ts l = go (is_too_much ts) refl
  where
    go : (v : Bool) → is_too_much ts ≡ v
        → Means text (on_read (cond v much_read (Ok ts)) (λ few. on_read (tree_of (length text) few) distinct))
    go true e = too_many l (much_tokens ts e)
    go false e = let f = few_tokens ts e in tree_means text ts (record { lexes = l; few = f.0; few_names = f.1 })

lexed_means : (text : List ℕ) (ts : List Token) (s : Option ℕ) → Lexes 0 text ts s
    → Means text (on_read (lexed_whole ts s) (λ tokens. on_read (within_limits tokens) (λ few. on_read (tree_of (length text) few) distinct)))
lexed_means text ts None l = few_means text ts l
lexed_means text ts (Some at) l = no_token l

means : (text : List ℕ) → Means text (formula_of text)
unfolding formula_of
means text = lexed_means text (lexed_from text 0 0).0 (lexed_from text 0 0).1 (reads text 0)

-- ---- what is so is read

abbrev after_tokens : List ℕ → List Token → Read Formula
after_tokens text tokens = on_read (within_limits tokens) (λ few. on_read (tree_of (length text) few) distinct)

lexed_is : (text : List ℕ) (ts : List Token) → Lexes 0 text ts None → formula_of text ≡ after_tokens text ts
unfolding formula_of
lexed_is text ts l = ap (λ (x : Lexed). on_read (lexed_whole x.0 x.1) (after_tokens text)) (lexes_is 0 text ts None l)

tokens_are : (text : List ℕ) (ts : List Token) → AreTokens text ts → formula_of text ≡ on_read (tree_of (length text) ts) distinct
tokens_are text ts a =
    lexed_is text ts a.lexes
    ∙ ap (λ (v : Bool). on_read (cond v much_read (Ok ts)) (λ few. on_read (tree_of (length text) few) distinct)) (not_much ts a.few a.few_names)

spelled_is : (text : List ℕ) (ts : List Token) (f : Formula) → AreTokens text ts → formula.Spells f ts → formula_of text ≡ distinct f
spelled_is text ts f a s =
    tokens_are text ts a ∙ ap (λ (reply : Reply Token Formula). on_read (whole (length text) reply) distinct) (took_spelled ts f a.few s)

formula_is : (text : List ℕ) (f : Formula) → IsFormulaText text f → formula_of text ≡ Ok f
formula_is text f h = spelled_is text h.tokens f h.are_tokens h.spells ∙ ap (λ o. unless_repeated o f) (distinct_none (names f) h.distinct)

refusal_is : (text : List ℕ) (why : FormulaRefusal) → IsRefusedText text why → formula_of text ≡ Err why
unfolding formula_of
refusal_is text why (no_token {tokens = ts} {at = at} l) =
    ap (λ (x : Lexed). on_read (lexed_whole x.0 x.1) (after_tokens text)) (lexes_is 0 text ts (Some at) l)
refusal_is text why (too_many {tokens = ts} l h) =
    lexed_is text ts l
    ∙ ap (λ (v : Bool). on_read (cond v much_read (Ok ts)) (λ few. on_read (tree_of (length text) few) distinct)) (much ts h)
refusal_is text why (no_formula {tokens = ts} {rest = rest} a s) =
    tokens_are text ts a ∙ ap (λ (x : Read Formula). on_read x distinct) (whole_refused (length text) ts rest a.few s)
refusal_is text why (repeated {tokens = ts} f {name = name} a s e) = spelled_is text ts f a s ∙ ap (λ o. unless_repeated o f) (repeated_one (names f) name e)

-- ---- the laws

pub formula_read : (text : List ℕ) (f : Formula) → (formula_of text ≡ Ok f) ↔ IsFormulaText text f
formula_read text f = (λ e. subst (λ (x : Read Formula). Means text x) e (means text), formula_is text f)

pub formula_refused : (text : List ℕ) (why : FormulaRefusal) → (formula_of text ≡ Err why) ↔ IsRefusedText text why
formula_refused text why = (λ e. subst (λ (x : Read Formula). Means text x) e (means text), refusal_is text why)

few_names : (f : Formula) (text : List ℕ) → IsFormulaText text f → HasFewNames f
few_names f text h =
    let count : length (names f) ≡ count_by is_name h.tokens = names_counted f h.tokens h.spells in
    let few : count_by is_name h.tokens ≤ 16 = h.are_tokens.few_names in
    record { few = omega arith; distinct = h.distinct }

pub formula_names : (text : List ℕ) (f : Formula) → formula_of text ≡ Ok f → HasFewNames f
formula_names text f e = few_names f text ((formula_read text f).0 e)
