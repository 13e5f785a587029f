-- When a parser is exact for a language: it is sound and it is complete.
use Rattle.std.proofs.Common.{◌≡◌, List, [], ◌∷◌, ◌++◌, Bool, true, false, ◌⊎◌, inr}
use Rattle.asm_grammar.specs.Language.{Language}
use Rattle.asm_grammar.specs.Parser.{Reply, Took, Refused, Parser}

-- ---- sound

-- What p takes is spelled in L, and what it has taken before it stops begins in L. A token at which it stops as too deep may
-- follow in the wider language M.
abbrev pub SoundAt : {T V : Type 0} → Language T V → Language T V → List T → Reply T V → Type 0
SoundAt {T} L M ts (Took v rest) = (a : List T) × (ts ≡ a ++ rest) × L.Spells v a
SoundAt {T} L M ts (Refused false rest) = (a : List T) × (ts ≡ a ++ rest) × L.Begins a
SoundAt {T} L M ts (Refused true rest) =
    (a : List T) × (t : T) × (b : List T) × (rest ≡ t ∷ b) × (ts ≡ a ++ rest) × L.Begins a × M.Begins (a ++ t ∷ [])

pub record Sound {T V : Type 0} (p : Parser T V) (L M : Language T V) : Type 0 where
  pub at : (ts : List T) → SoundAt L M ts (p ts)
  pub wider : (v : V) (a : List T) → L.Spells v a → M.Spells v a

-- ---- complete

-- the next token isn't one of C
abbrev pub Ends : {T : Type 0} → (T → Bool) → List T → Type 0
Ends C [] = Unit {0}
Ends C (t ∷ ts) = C t ≡ false

-- v was taken, and b is left; where X, the parser may also stop as too deep
abbrev pub Gives : {T V : Type 0} → (X : Bool) → V → List T → Reply T V → Type 0
Gives X v b (Took w rest) = (w ≡ v) × (rest ≡ b)
Gives X v b (Refused false rest) = ⊥
Gives X v b (Refused true rest) = X ≡ true

abbrev pub IsRestOf : {T : Type 0} → List T → List T → Type 0
IsRestOf {T} b rest = (c : List T) × (b ≡ c ++ rest)

-- the parser went at least as far as b; where X, it may also stop before as too deep
abbrev pub Reaches : {T V : Type 0} → (X : Bool) → List T → Reply T V → Type 0
Reaches X b (Took w rest) = IsRestOf b rest
Reaches X b (Refused false rest) = IsRestOf b rest
Reaches X b (Refused true rest) = (X ≡ true) ⊎ IsRestOf b rest

-- What is spelled and not followed by a token that goes on is taken, and a partial spelling is never stopped inside.
-- F has the tokens with which L begins, C those that may go on after a whole spelling of a value, and `empty` says whether L
-- spells the empty list.
pub record Complete {T V : Type 0} (X : Bool) (p : Parser T V) (L : Language T V) (F : T → Bool) (C : V → T → Bool) (empty : Bool) : Type 0 where
  pub whole : (v : V) (a b : List T) → L.Spells v a → Ends (C v) b → Gives X v b (p (a ++ b))
  pub partly : (a b : List T) → L.Begins a → Reaches X b (p (a ++ b))
  pub any : (b : List T) → Reaches false b (p b)
  pub first : (t : T) (a : List T) → L.Begins (t ∷ a) → F t ≡ true
  pub nonempty : empty ≡ false → (v : V) → L.Spells v [] → ⊥
  pub begins : (v : V) (a : List T) → L.Spells v a → L.Begins a

-- no token is in both
abbrev pub Apart : {T : Type 0} → (T → Bool) → (T → Bool) → Type 0
Apart {T} C F = (t : T) → F t ≡ true → C t ≡ false

-- larger sets serve too
pub weaken : {T V : Type 0} {X : Bool} {p : Parser T V} {L : Language T V} {F : T → Bool} {C : V → T → Bool} {e : Bool}
    → (F' : T → Bool) (C' : V → T → Bool) → ((t : T) → F t ≡ true → F' t ≡ true) → ((v : V) (t : T) → C' v t ≡ false → C v t ≡ false)
    → Complete X p L F C e → Complete X p L F' C' e
weaken {T} {V} {X} {p} {L} {F} {C} {e} F' C' f c d = record {
  whole = λ v a b s h. d.whole v a b s (ends v b h);
  partly = d.partly;
  any = d.any;
  first = λ t a bg. f t (d.first t a bg);
  nonempty = d.nonempty;
  begins = d.begins;
}
  where
    ends : (v : V) (b : List T) → Ends (C' v) b → Ends (C v) b
    ends v [] h = tt
    ends v (t ∷ b) h = c v t h

-- ---- both

any_at : {T V : Type 0} (L M : Language T V) (b : List T) (r : Reply T V) → SoundAt L M b r → Reaches false b r
any_at L M b (Took v rest) s = (s.0, s.1)
any_at L M b (Refused false rest) s = (s.0, s.1)
any_at L M b (Refused true rest) s = inr (s.0, s.4)

-- a sound parser leaves a rest of its list
pub any_sound : {T V : Type 0} {p : Parser T V} {L M : Language T V} → Sound p L M → (b : List T) → Reaches false b (p b)
any_sound {T} {V} {p} {L} {M} s b = any_at L M b (p b) (s.at b)
