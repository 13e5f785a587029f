-- Each import that isn't of the standard library is found, or one before it; where all are of it, none is found.
use Rattle.std.proofs.Common.{◌≡◌, ◌≤◌, ◌+◌, ℕ, zero, suc, List, [], ◌∷◌, ◌++◌, length, Bool, true, false, ◌⊎◌, inl, inr, sym, refl, ap, ◌∙◌, subst, append_assoc, length-append, codes, arith}
use Rattle.std.specs.Prelude.{◌&&◌, Some, None}
use Rattle.asm_grammar.specs.Language.{Language}
use Rattle.asm_grammar.specs.Parser.{sees}
use Rattle.asm_grammar.proofs.Exact.{Ends}
use Rattle.asm_grammar.proofs.Pairs.{split_on}
use Rattle.asm_syntax.specs.declared.token.Token.{Token}
use Rattle.asm_syntax.specs.Marks.{is, keyword, symbol}
use Rattle.asm_syntax.specs.Models as g
use Rattle.asm_syntax.specs.Models.{Import}
use Rattle.asm_syntax.specs.Grammar.{is_standard, are_standard}
use Rattle.asm_parse_theory.specs.Models as r
use Rattle.asm_parse_theory.specs.Models.{foreign_parts, foreign_word}
use Rattle.asm_parse_theory.proofs.Sets.{apart}
use Rattle.asm_parse_theory.proofs.NoImportTerms.{is_import, NoImport}
use Rattle.asm_parse_theory.proofs.NoImportModels.{no_parts}
use Rattle.asm_parse_theory.proofs.Without.{past_clear, not_clear}
use Rattle.asm_parse_theory.proofs.Rows.{Row}
use Rattle.asm_parse_theory.proofs.Imports.{is_slash, Opened, spelled_import, begun_import}
use Rattle.asm_parse_theory.proofs.ForeignStep.{Answer, at_parts, at_other, at_end, at_import}

-- ---- behind imports

off_import : (t : Token) → is_import t ≡ true → is_slash t ≡ false
off_import = apart (keyword (codes "import") ∷ []) (symbol (codes "/") ∷ []) refl

-- one is found there, or before it
abbrev pub FoundBy : List Token → Answer → Type 0
FoundBy later found = (given : Import) × (rest : List Token) × (found ≡ Some (given, rest)) × (length later ≤ length rest)

abbrev is_signature : Token → Bool
is_signature = is (keyword (codes "signature"))

-- S begins with the word `signature`, and has no import in it.
module _ {V : Type 0} {S : Language Token V} (none : NoImport S) (first : (t : Token) (ts : List Token) → S.Begins (t ∷ ts) → is_signature t ≡ true) where
  -- whole imports, and then one more or S begins
  abbrev Goes : List Token → Type 0
  Goes b = g.imported.Begins b ⊎ S.Begins b

  first_off : (t : Token) (b ts : List Token) → b ≡ t ∷ ts → Goes b → is_slash t ≡ false
  first_off t b ts e (inl bg) = by_begun (begun_import b bg)
    where
      by_begun : (b ≡ []) ⊎ Opened (λ z. g.parts.Begins z) b → is_slash t ≡ false
      by_begun (inl e') = let both : [] ≡ t ∷ ts = sym e' ∙ e in absurd (cc both)
      by_begun (inr o) =
          let both : o.word ∷ o.list ≡ t ∷ ts = sym o.parts ∙ e in
          let same : o.word ≡ t = cc both in
          off_import t (subst (λ z. is_import z ≡ true) same o.imports)
  first_off t b ts e (inr bg) =
      apart (keyword (codes "signature") ∷ []) (symbol (codes "/") ∷ []) refl t (first t ts (subst (λ z. S.Begins z) e bg))

  row_off : (vs : List Import) (t : Token) (a b ts : List Token) → a ++ b ≡ t ∷ ts → Row g.imported vs a → Goes b → is_slash t ≡ false
  row_off [] t a b ts e row go = first_off t b ts (sym (ap (λ z. z ++ b) row) ∙ e) go
  row_off (v ∷ vs) t a b ts e row go =
      let o = spelled_import v row.0 row.3 in
      let both : o.word ∷ ((o.list ++ row.1) ++ b) ≡ t ∷ ts = sym (ap (λ z. z ++ b) (row.2 ∙ ap (λ z. z ++ row.1) o.parts)) ∙ e in
      let same : o.word ≡ t = cc both in
      off_import t (subst (λ z. is_import z ≡ true) same o.imports)

  -- ---- each such import is found, or one before it

  module _ (word : Token) (list behind : List Token) (given : Import) (imports : is_import word ≡ true) (lists : g.parts.Spells given list)
      (whole : sees is_slash behind ≡ false) (foreign : is_standard given ≡ false) where
    abbrev later : List Token
    later = list ++ behind

    ends_behind : (b : List Token) → sees is_slash b ≡ false → Ends is_slash b
    ends_behind [] e = tt
    ends_behind (t ∷ b) e = e

    -- a list with the word in it
    ends_before : (c a b : List Token) (vs : List Import) → c ++ word ∷ list ≡ a ++ b → Row g.imported vs a → Goes b
        → Ends is_slash (c ++ word ∷ later)
    ends_before [] a b vs e row go = off_import word imports
    ends_before (t ∷ c) a b vs e row go = row_off vs t a b (c ++ word ∷ list) (sym e) row go

    find_here : (n : ℕ) → FoundBy later (r.foreign_among (suc n) (word ∷ later))
    find_here n =
        let at = at_import n word given list behind imports lists (ends_behind behind whole) in
        let found = at ∙ ap (λ x. at_parts x (r.foreign_among n behind) given later) foreign in
        (given, later, found, omega arith)

    -- behind one whole import
    find_on : (n : ℕ) (t : Token) (i : Import) (l c : List Token) → is_import t ≡ true → g.parts.Spells i l → Ends is_slash (c ++ word ∷ later)
        → FoundBy later (r.foreign_among n (c ++ word ∷ later)) → FoundBy later (r.foreign_among (suc n) (t ∷ l ++ (c ++ word ∷ later)))
    find_on n t i l c e sp end ih = go (is_standard i) refl
      where
        at : r.foreign_among (suc n) (t ∷ l ++ (c ++ word ∷ later))
            ≡ at_parts (is_standard i) (r.foreign_among n (c ++ word ∷ later)) i (l ++ (c ++ word ∷ later))
        at = at_import n t i l (c ++ word ∷ later) e sp end

        by : (x : Bool) → is_standard i ≡ x → r.foreign_among (suc n) (t ∷ l ++ (c ++ word ∷ later))
            ≡ at_parts x (r.foreign_among n (c ++ word ∷ later)) i (l ++ (c ++ word ∷ later))
        by x h = at ∙ ap (λ x. at_parts x (r.foreign_among n (c ++ word ∷ later)) i (l ++ (c ++ word ∷ later))) h

        go : (x : Bool) → is_standard i ≡ x → FoundBy later (r.foreign_among (suc n) (t ∷ l ++ (c ++ word ∷ later)))
        go true h = (ih.0, ih.1, by true h ∙ ih.2, ih.3)
        go false h =
            let long : length (l ++ (c ++ word ∷ later)) ≡ length l + length (c ++ word ∷ later) = length-append l (c ++ word ∷ later) in
            let long' : length (c ++ word ∷ later) ≡ length c + length (word ∷ later) = length-append c (word ∷ later) in
            (i, l ++ (c ++ word ∷ later), by false h, omega arith)

    -- no import begins here
    not_here : (t : Token) (d b : List Token) → t ∷ d ++ word ∷ list ≡ b → Goes b → ⊥
    not_here t d b e (inr bg) = not_clear is_import (t ∷ d) word list imports (none.begins (t ∷ d ++ word ∷ list) (subst (λ z. S.Begins z) (sym e) bg))
    not_here t d b e (inl bg) = by_begun (begun_import b bg)
      where
        by_begun : (b ≡ []) ⊎ Opened (λ z. g.parts.Begins z) b → ⊥
        by_begun (inl e') = let both : t ∷ d ++ word ∷ list ≡ [] = e ∙ e' in absurd (cc both)
        by_begun (inr o) =
            let both : t ∷ d ++ word ∷ list ≡ o.word ∷ o.list = e ∙ o.parts in
            let tail : d ++ word ∷ list ≡ o.list = cc both in
            not_clear is_import d word list imports (no_parts.begins (d ++ word ∷ list) (subst (λ z. g.parts.Begins z) (sym tail) o.fact))

    pub find : (n : ℕ) (vs : List Import) (d a b : List Token) → length (d ++ word ∷ later) ≤ n → d ++ word ∷ list ≡ a ++ b
        → Row g.imported vs a → Goes b → FoundBy later (r.foreign_among n (d ++ word ∷ later))
    find zero vs [] a b le e row go = absurd (omega arith)
    find zero vs (t ∷ d) a b le e row go = absurd (omega arith)
    find (suc n) vs [] a b le e row go = find_here n
    find (suc n) [] (t ∷ d) a b le e row go = absurd (not_here t d b (e ∙ ap (λ z. z ++ b) row) go)
    find (suc n) (v ∷ vs) (t ∷ d) a b le e row go =
        let o = spelled_import v row.0 row.3 in
        let both : t ∷ d ++ word ∷ list ≡ o.word ∷ ((o.list ++ row.1) ++ b) = e ∙ ap (λ z. z ++ b) (row.2 ∙ ap (λ z. z ++ row.1) o.parts) in
        let same : o.word ≡ t = cc both in
        let tail : d ++ word ∷ list ≡ (o.list ++ row.1) ++ b = cc both in
        let past = past_clear is_import d word list o.list (row.1 ++ b) imports (no_parts.spells v o.list o.fact) (tail ∙ append_assoc o.list row.1 b) in
        let whole' : d ++ word ∷ later ≡ o.list ++ (past.0 ++ word ∷ later) = split_on d o.list past.0 (word ∷ later) past.1 in
        let long : length (d ++ word ∷ later) ≡ length o.list + length (past.0 ++ word ∷ later) =
        ap length whole' ∙ length-append o.list (past.0 ++ word ∷ later) in
        let less : length (past.0 ++ word ∷ later) ≤ n = omega arith in
        subst (λ z. FoundBy later (r.foreign_among (suc n) (t ∷ z))) (sym whole')
        (find_on n t v o.list past.0 (subst (λ z. is_import z ≡ true) same o.imports) o.fact
        (ends_before past.0 row.1 b vs (sym past.2) row.4 go)
        (find n vs past.0 row.1 b less (sym past.2) row.4 go))

-- ---- whole imports

abbrev pub is_none : Answer → Bool
is_none None = true
is_none (Some x) = false

abbrev pub BeginsOff : List Token → Type 0
BeginsOff b = (sees is_import b ≡ false) × Ends is_slash b

row_ends : (vs : List Import) (a b : List Token) → Row g.imported vs a → BeginsOff b → Ends is_slash (a ++ b)
row_ends [] a b row off = subst (λ z. Ends is_slash (z ++ b)) (sym row) off.1
row_ends (v ∷ vs) a b row off =
    let o = spelled_import v row.0 row.3 in
    subst (λ z. Ends is_slash z) (sym (ap (λ z. z ++ b) (row.2 ∙ ap (λ z. z ++ row.1) o.parts))) (off_import o.word o.imports)

none_off : (n : ℕ) (b : List Token) → sees is_import b ≡ false → r.foreign_among n b ≡ None
none_off n [] e = at_end n
none_off n (t ∷ b) e = at_other n t b e

standard_step : (x : Bool) (next : Answer) (v : Import) (ts : List Token) (y : Bool) → is_none next ≡ y → is_none (at_parts x next v ts) ≡ (x && y)
standard_step true next v ts y e = e
standard_step false next v ts y e = refl

module _ (v : Import) (vs : List Import) (a x y b : List Token) (e : a ≡ x ++ y) (o : Opened (λ z. g.parts.Spells v z) x)
    (end : Ends is_slash (y ++ b)) where
  regrouped : a ++ b ≡ o.word ∷ (o.list ++ (y ++ b))
  regrouped = ap (λ z. z ++ b) (e ∙ ap (λ z. z ++ y) o.parts) ∙ ap (λ z. o.word ∷ z) (append_assoc o.list y b)

  none_more : (n : ℕ) → length (a ++ b) ≤ n
      → ((m : ℕ) → length (y ++ b) ≤ m → is_none (r.foreign_among m (y ++ b)) ≡ are_standard vs)
      → is_none (r.foreign_among n (a ++ b)) ≡ are_standard (v ∷ vs)
  none_more zero le ih = let long : length (a ++ b) ≡ length (o.word ∷ (o.list ++ (y ++ b))) = ap length regrouped in absurd (omega arith)
  none_more (suc n) le ih =
      let long : length (a ++ b) ≡ length (o.word ∷ (o.list ++ (y ++ b))) = ap length regrouped in
      let long' : length (o.list ++ (y ++ b)) ≡ length o.list + length (y ++ b) = length-append o.list (y ++ b) in
      ap is_none (ap (λ z. r.foreign_among (suc n) z) regrouped ∙ at_import n o.word v o.list (y ++ b) o.imports o.fact end)
      ∙ standard_step (is_standard v) (r.foreign_among n (y ++ b)) v (o.list ++ (y ++ b)) (are_standard vs) (ih n (omega arith))

-- where whole imports stand, none is found exactly where all are of the standard library
pub none_standard : (n : ℕ) (vs : List Import) (a b : List Token) → length (a ++ b) ≤ n → Row g.imported vs a → BeginsOff b
    → is_none (r.foreign_among n (a ++ b)) ≡ are_standard vs
none_standard n [] a b le row off = ap is_none (ap (λ z. r.foreign_among n (z ++ b)) row ∙ none_off n b off.0)
none_standard n (v ∷ vs) a b le row off =
    none_more v vs a row.0 row.1 b row.2 (spelled_import v row.0 row.3) (row_ends vs row.1 b row.4 off) n le
    (λ m le'. none_standard m vs row.1 b le' row.4 off)
