-- The parser of a form and of at most one step after it, which is allowed only after a value that fits, is exact.
use Rattle.std.proofs.Common.{◌≡◌, List, [], ◌∷◌, ◌++◌, Bool, true, false, inl, inr, refl, append_assoc}
use Rattle.std.specs.Prelude.{Option, Some, None}
use Rattle.asm_grammar.specs.Language.{Language, Dangles, dangling}
use Rattle.asm_grammar.specs.Parser.{Reply, Took, Refused, Parser, and_then, ◌>>=◌, sees, mapped, optional, guard, followed}
use Rattle.asm_grammar.proofs.Exact.{SoundAt, Sound, Reaches, Complete, Apart}
use Rattle.asm_grammar.proofs.Basic.{remade}
use Rattle.asm_grammar.proofs.Pairs.{regroup, paired}
use Rattle.asm_grammar.proofs.SoundChains.{always}
use Rattle.asm_grammar.proofs.Dangling.{optional_at, dangling_on, complete-body}

-- q only where the condition holds
abbrev guarded : {T W : Type 0} → Bool → Parser T W → Parser T W
guarded x q = guard x >>= (λ done. q)

-- what is read after the reply of the first parser
abbrev with_step : {T V W : Type 0} → (V → Bool) → (T → Bool) → Parser T W → Reply T V → Reply T (V × Option W)
with_step fits test q r = and_then r (λ v. mapped (λ w. (v, w)) (optional test (guarded (fits v) q)))

-- ---- what is taken is spelled

module _ {T V W : Type 0} (fits : V → Bool) (test : T → Bool) {p : Parser T V} {q : Parser T W} {L L' : Language T V} {M M' : Language T W}
    (s : Sound p L L') (s' : Sound q M M') (begins : (v : V) (a : List T) → L.Spells v a → L.Begins a)
    (starts : (t : T) → test t ≡ true → M'.Begins (t ∷ [])) where
  abbrev narrow : Language T (V × Option W)
  narrow = dangling fits L M

  -- in the wider language each value fits
  abbrev wide : Language T (V × Option W)
  wide = dangling always L' M'

  followed_more : (ts : List T) (v : V) (a rest : List T) → ts ≡ a ++ rest → L.Spells v a → fits v ≡ true → (r : Reply T W)
      → SoundAt M M' rest r → SoundAt narrow wide ts (paired v (remade Some r))
  followed_more ts v a rest e sp f (Took w rest') h = (a ++ h.0, regroup ts a rest h.0 rest' e h.1, (a, h.0, refl, f, sp, h.2))
  followed_more ts v a rest e sp f (Refused false rest') h =
      (a ++ h.0, regroup ts a rest h.0 rest' e h.1, inr (v, a, h.0, refl, f, sp, h.2))
  followed_more ts v a rest e sp f (Refused true rest') h = (
    a ++ h.0,
    h.1,
    h.2,
    h.3,
    regroup ts a rest h.0 rest' e h.4,
    inr (v, a, h.0, refl, f, sp, h.5),
    inr (v, a, h.0 ++ h.1 ∷ [], append_assoc a h.0 (h.1 ∷ []), refl, s.wider v a sp, h.6),
  )

  followed_test : (ts : List T) (v : V) (a rest : List T) → ts ≡ a ++ rest → L.Spells v a → (x : Bool) → sees test rest ≡ x
      → (y : Bool) → fits v ≡ y → SoundAt narrow wide ts (paired v (optional_at (guarded y q) rest x))
  followed_test ts v a rest e sp false i y j = (a, e, sp)
  followed_test ts v a [] e sp true i y j = absurd (cc i)
  followed_test ts v a (t ∷ rest) e sp true i false j =
      (a, t, rest, refl, e, inl (begins v a sp), inr (v, a, t ∷ [], refl, refl, s.wider v a sp, starts t i))
  followed_test ts v a (t ∷ rest) e sp true i true j = followed_more ts v a (t ∷ rest) e sp j (q (t ∷ rest)) (s'.at (t ∷ rest))

  followed_at : (ts : List T) → (r : Reply T V) → SoundAt L L' ts r → SoundAt narrow wide ts (with_step fits test q r)
  followed_at ts (Took v rest) h = followed_test ts v h.0 rest h.1 h.2 (sees test rest) refl (fits v) refl
  followed_at ts (Refused false rest) h = (h.0, h.1, inl h.2)
  followed_at ts (Refused true rest) h = (h.0, h.1, h.2, h.3, h.4, inl h.5, inl h.6)

  wider_followed : (v : V) (w : Option W) (ts : List T) → Dangles fits L M v w ts → Dangles always L' M' v w ts
  wider_followed v None ts h = s.wider v ts h
  wider_followed v (Some w) ts h = (h.0, h.1, h.2, refl, s.wider v h.0 h.4, s'.wider w h.1 h.5)

  pub sound-followed : Sound (followed fits test p q) narrow wide
  sound-followed = record {
    at = λ ts. followed_at ts (p ts) (s.at ts);
    wider = λ v ts h. wider_followed v.0 v.1 ts h;
  }

-- ---- what is spelled is taken

guarded_any : {T W : Type 0} (q : Parser T W) (y : Bool) (b : List T) → Reaches false b (q b) → Reaches false b (guarded y q b)
guarded_any q true b h = h
guarded_any q false b h = inr ([], refl)

-- where the condition fails, X has to be true
complete-guarded : {T W : Type 0} {X : Bool} {q : Parser T W} {M : Language T W} {F : T → Bool} {C : W → T → Bool} {e : Bool}
    → (y : Bool) → (y ≡ false → X ≡ true) → Complete X q M F C e → Complete X (guarded y q) M F C e
complete-guarded true deep c = c
complete-guarded {q = q} false deep c = record {
  whole = λ w a b s h. deep refl;
  partly = λ a b s. inl (deep refl);
  any = λ b. guarded_any q false b (c.any b);
  first = c.first;
  nonempty = c.nonempty;
  begins = c.begins;
}

-- `fits` is the parser's test of values, and `fits'` the language's. Where the parser's is stricter, X has to be true.
module _ {T V W : Type 0} (X : Bool) (fits fits' : V → Bool) {p : Parser T V} {q : Parser T W} {L : Language T V} {M : Language T W}
    {G F : T → Bool} {C : V → T → Bool} {C' : W → T → Bool} (c : Complete X p L G C false) (c' : Complete X q M F C' false)
    (apart : (v : V) → fits' v ≡ true → Apart (C v) F) (loose : (v : V) → fits' v ≡ true → fits v ≡ false → X ≡ true) where
  pub complete-followed : Complete X (followed fits F p q) (dangling fits' L M) G (dangling_on F C C') false
  complete-followed =
      complete-body X fits' (λ v. guarded (fits v) q) c (λ v i. complete-guarded (fits v) (loose v i) c')
      (λ v b. guarded_any q (fits v) b (c'.any b)) apart
