-- Sets of marks: what computing on two sets says of every token.
use Rattle.std.proofs.Common.{◌≡◌, List, [], ◌∷◌, Bool, true, false, sym, refl, ap, ◌∙◌}
use Rattle.std.specs.Prelude.{not, ◌||◌, ◌&&◌}
use Rattle.std.proofs.lemmas.Slice.Eq.{bytes_eq-Decides}
use Rattle.asm_syntax.specs.declared.token.Token.{Token}
use Rattle.asm_syntax.specs.Marks.{Mark, keyword, symbol, id, variable, number, chars, refused, mark_of, same}
use Rattle.asm_parse_theory.specs.Firsts.{has, among}

abbrev every : (Mark → Bool) → List Mark → Bool
every f [] = true
every f (c ∷ cs) = f c && every f cs

-- no mark is in both
abbrev pub disjoint : List Mark → List Mark → Bool
disjoint cs ds = every (λ c. not (has ds c)) cs

-- each of the first is in the second
abbrev pub within : List Mark → List Mark → Bool
within cs ds = every (has ds) cs

same_is : (c m : Mark) → same c m ≡ true → c ≡ m
same_is (keyword v) (keyword w) e = ap keyword ((bytes_eq-Decides v w).0 e)
same_is (symbol v) (symbol w) e = ap symbol ((bytes_eq-Decides v w).0 e)
same_is id id e = refl
same_is variable variable e = refl
same_is number number e = refl
same_is chars chars e = refl
same_is refused refused e = refl
same_is c m e = absurd (cc e)

and_left : (x y : Bool) → (x && y) ≡ true → x ≡ true
and_left true y e = refl
and_left false y e = absurd (cc e)

and_right : (x y : Bool) → (x && y) ≡ true → y ≡ true
and_right true y e = e
and_right false y e = absurd (cc e)

-- a test that each mark of the set passes is passed by a mark that the set has
every_has : (f : Mark → Bool) (cs : List Mark) (m : Mark) → every f cs ≡ true → has cs m ≡ true → f m ≡ true
every_has f [] m e h = absurd (cc h)
every_has f (c ∷ []) m e h = ap f (sym (same_is c m h)) ∙ and_left (f c) true e
every_has f (c ∷ d ∷ cs) m e h = go (every_has f (d ∷ cs) m (and_right (f c) (every f (d ∷ cs)) e)) (same c m) refl h
  where
    go : (has (d ∷ cs) m ≡ true → f m ≡ true) → (x : Bool) → same c m ≡ x → (x || has (d ∷ cs) m) ≡ true → f m ≡ true
    go rest true i k = ap f (sym (same_is c m i)) ∙ and_left (f c) (every f (d ∷ cs)) e
    go rest false i k = rest k

not_true : (x : Bool) → not x ≡ true → x ≡ false
not_true true e = absurd (cc e)
not_true false e = refl

-- no token has a mark of both
pub apart : (cs ds : List Mark) → disjoint cs ds ≡ true → (t : Token) → among cs t ≡ true → among ds t ≡ false
apart cs ds e t h = not_true (among ds t) (every_has (λ c. not (has ds c)) cs (mark_of t.kind) e h)

-- a token with a mark of the first has one of the second
pub under : (cs ds : List Mark) → within cs ds ≡ true → (t : Token) → among cs t ≡ true → among ds t ≡ true
under cs ds e t h = every_has (has ds) cs (mark_of t.kind) e h

-- a token with no mark of the second has none of the first
pub off : (cs ds : List Mark) → within cs ds ≡ true → (t : Token) → among ds t ≡ false → among cs t ≡ false
off cs ds e t h = go (among cs t) refl
  where
    go : (x : Bool) → among cs t ≡ x → among cs t ≡ false
    go true i = let j : among ds t ≡ true = under cs ds e t i in absurd (cc (h, j))
    go false i = i
