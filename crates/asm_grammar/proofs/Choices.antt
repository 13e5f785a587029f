-- The parser of a choice by the next token is exact, and that of a token that opens a construct.
use Rattle.std.proofs.Common.{◌≡◌, List, [], ◌∷◌, ◌++◌, Bool, true, false, inl, inr, sym, refl, ap, subst}
use Rattle.std.specs.Prelude.{cond, ◌||◌, ◌&&◌}
use Rattle.asm_grammar.specs.Language.{Language, opens, ◌either◌}
use Rattle.asm_grammar.specs.Parser.{Reply, Took, Refused, Parser, sees, choose, opened}
use Rattle.asm_grammar.proofs.Exact.{SoundAt, Sound, Ends, Gives, Reaches, Complete, Apart}
use Rattle.asm_grammar.proofs.Basic.{reaches_any, made_gives, made_reaches}
use Rattle.asm_grammar.proofs.Pairs.{or_false, or_left, or_right, further, paired, with_next}

-- ---- a choice by the next token

module _ {T V : Type 0} where
  choice_at : (L M L' M' : Language T V) (ts : List T) (x : Bool) (r r' : Reply T V) → SoundAt L M ts r → SoundAt L' M' ts r'
      → SoundAt (L either L') (M either M') ts (cond x r r')
  choice_at L M L' M' ts true (Took v rest) r' s s' = (s.0, s.1, inl s.2)
  choice_at L M L' M' ts true (Refused false rest) r' s s' = (s.0, s.1, inl s.2)
  choice_at L M L' M' ts true (Refused true rest) r' s s' = (s.0, s.1, s.2, s.3, s.4, inl s.5, inl s.6)
  choice_at L M L' M' ts false r (Took v rest) s s' = (s'.0, s'.1, inr s'.2)
  choice_at L M L' M' ts false r (Refused false rest) s s' = (s'.0, s'.1, inr s'.2)
  choice_at L M L' M' ts false r (Refused true rest) s s' = (s'.0, s'.1, s'.2, s'.3, s'.4, inr s'.5, inr s'.6)

  abbrev IsWider : Language T V → Language T V → Type 0
  IsWider L M = (v : V) (a : List T) → L.Spells v a → M.Spells v a

  wider_either : (L M L' M' : Language T V) → IsWider L M → IsWider L' M' → IsWider (L either L') (M either M')
  wider_either L M L' M' w w' v a (inl s) = inl (w v a s)
  wider_either L M L' M' w w' v a (inr s) = inr (w' v a s)

  pub sound-either : {p q : Parser T V} {L M L' M' : Language T V} (F : T → Bool)
      → Sound p L M → Sound q L' M' → Sound (choose F p q) (L either L') (M either M')
  sound-either {p} {q} {L} {M} {L'} {M'} F s s' = record {
    at = λ ts. choice_at L M L' M' ts (sees F ts) (p ts) (q ts) (s.at ts) (s'.at ts);
    wider = wider_either L M L' M' s.wider s'.wider;
  }

  module _ (X : Bool) {p q : Parser T V} {L L' : Language T V} {F F' : T → Bool} {C C' : V → T → Bool} {e' : Bool}
      (c : Complete X p L F C false) (c' : Complete X q L' F' C' e') (apart : Apart F F') where
    -- what may go on: after an empty second form also what begins the first
    abbrev pub either_on : V → T → Bool
    either_on v t = (e' && F t) || (C v t || C' v t)

    ends_first : (v : V) (b : List T) → Ends (either_on v) b → Ends (C v) b
    ends_first v [] h = tt
    ends_first v (t ∷ b) h = (or_false (C v t) (C' v t) (or_false (e' && F t) (C v t || C' v t) h).1).0

    ends_second : (v : V) (b : List T) → Ends (either_on v) b → Ends (C' v) b
    ends_second v [] h = tt
    ends_second v (t ∷ b) h = (or_false (C v t) (C' v t) (or_false (e' && F t) (C v t || C' v t) h).1).1

    -- what is answered at a list, by whether the first form begins there
    abbrev at_list : List T → Bool → Reply T V
    at_list ts x = cond x (p ts) (q ts)

    either_whole : (v : V) (a b : List T) → (L either L').Spells v a → Ends (either_on v) b → Gives X v b (choose F p q (a ++ b))
    either_whole v [] b (inl s) h = absurd (c.nonempty refl v s)
    either_whole v (t ∷ a) b (inl s) h =
        subst (λ x. Gives X v b (at_list (t ∷ a ++ b) x)) (sym (c.first t a (c.begins v (t ∷ a) s))) (c.whole v (t ∷ a) b s (ends_first v b h))
    either_whole v (t ∷ a) b (inr s) h =
        subst (λ x. Gives X v b (at_list (t ∷ a ++ b) x)) (sym (apart t (c'.first t a (c'.begins v (t ∷ a) s))))
        (c'.whole v (t ∷ a) b s (ends_second v b h))
    either_whole v [] [] (inr s) h = c'.whole v [] [] s tt
    either_whole v [] (u ∷ b) (inr s) h =
        subst (λ x. Gives X v (u ∷ b) (at_list (u ∷ b) x)) (sym (unseen e' refl (or_false (e' && F u) (C v u || C' v u) h).0))
        (c'.whole v [] (u ∷ b) s (ends_second v (u ∷ b) h))
      where
        unseen : (x : Bool) → e' ≡ x → (x && F u) ≡ false → F u ≡ false
        unseen true i n = n
        unseen false i n = absurd (c'.nonempty i v s)

    either_any : (b : List T) → Reaches false b (choose F p q b)
    either_any b = go (sees F b)
      where
        go : (x : Bool) → Reaches false b (at_list b x)
        go true = c.any b
        go false = c'.any b

    either_partly : (a b : List T) → (L either L').Begins a → Reaches X b (choose F p q (a ++ b))
    either_partly [] b s = reaches_any X b (choose F p q b) (either_any b)
    either_partly (t ∷ a) b (inl s) = subst (λ x. Reaches X b (at_list (t ∷ a ++ b) x)) (sym (c.first t a s)) (c.partly (t ∷ a) b s)
    either_partly (t ∷ a) b (inr s) =
        subst (λ x. Reaches X b (at_list (t ∷ a ++ b) x)) (sym (apart t (c'.first t a s))) (c'.partly (t ∷ a) b s)

    either_first : (t : T) (a : List T) → (L either L').Begins (t ∷ a) → (F t || F' t) ≡ true
    either_first t a (inl s) = or_left (F t) (F' t) (c.first t a s)
    either_first t a (inr s) = or_right (F t) (F' t) (c'.first t a s)

    either_nonempty : e' ≡ false → (v : V) → (L either L').Spells v [] → ⊥
    either_nonempty n v (inl s) = c.nonempty refl v s
    either_nonempty n v (inr s) = c'.nonempty n v s

    either_begins : (v : V) (a : List T) → (L either L').Spells v a → (L either L').Begins a
    either_begins v a (inl s) = inl (c.begins v a s)
    either_begins v a (inr s) = inr (c'.begins v a s)

    pub complete-either : Complete X (choose F p q) (L either L') (λ t. F t || F' t) either_on e'
    complete-either = record {
      whole = either_whole;
      partly = either_partly;
      any = either_any;
      first = either_first;
      nonempty = either_nonempty;
      begins = either_begins;
    }

-- ---- a token that opens

-- what `enter` answers at a token, by whether it passes and whether one more may be open
abbrev entered : {T : Type 0} → Bool → Bool → T → List T → Reply T T
entered x y t ts = cond x (cond y (Took t ts) (Refused true (t ∷ ts))) (Refused false (t ∷ ts))

module _ {T W : Type 0} (is_open : Bool) (test : T → Bool) where
  opened_took : (L M : Language T W) (t : T) (ts : List T) → test t ≡ true → is_open ≡ true → (r : Reply T W) → SoundAt L M ts r
      → SoundAt (opens is_open test L) (opens true test M) (t ∷ ts) (paired t r)
  opened_took L M t ts is o (Took w rest) s = (t ∷ s.0, ap (λ x. t ∷ x) s.1, (s.0, refl, is, o, s.2))
  opened_took L M t ts is o (Refused false rest) s = (t ∷ s.0, ap (λ x. t ∷ x) s.1, inr (t, s.0, refl, is, o, s.2))
  opened_took L M t ts is o (Refused true rest) s =
      (t ∷ s.0, s.1, s.2, s.3, ap (λ x. t ∷ x) s.4, inr (t, s.0, refl, is, o, s.5), inr (t, s.0 ++ s.1 ∷ [], refl, is, refl, s.6))

  module _ {q : Parser T W} {L M : Language T W} (s : is_open ≡ true → Sound q L M) (begins : M.Begins []) where
    opened_at_2 : (t : T) (ts : List T) (x : Bool) → test t ≡ x → (y : Bool) → is_open ≡ y
        → SoundAt (opens is_open test L) (opens true test M) (t ∷ ts) (with_next (entered x y t ts) q)
    opened_at_2 t ts false i y j = ([], refl, inl refl)
    opened_at_2 t ts true i false j = ([], t, ts, refl, refl, inl refl, inr (t, [], refl, i, refl, begins))
    opened_at_2 t ts true i true j = opened_took L M t ts i j (q ts) ((s j).at ts)

    opened_at : (ts : List T) → SoundAt (opens is_open test L) (opens true test M) ts (opened is_open test q ts)
    opened_at [] = ([], refl, inl refl)
    opened_at (t ∷ ts) = opened_at_2 t ts (test t) refl is_open refl

    -- what the parser reads is in a language in which one more may be open
    pub sound-opens : Sound (opened is_open test q) (opens is_open test L) (opens true test M)
    sound-opens = record { at = opened_at; wider = λ v ts h. (h.0, h.1, h.2, refl, (s h.3).wider v.1 h.0 h.4) }

  -- `is_open` says whether the parser lets one more be open, and `may` whether the language does. How L is begun is shown by a
  -- parser q' that has room enough.
  module _ (X may : Bool) {q q' : Parser T W} {L : Language T W} {F F' : T → Bool} {C C' : W → T → Bool}
      (c : is_open ≡ true → may ≡ true → Complete X q L F C false) (d : may ≡ true → Complete true q' L F' C' false)
      (loose : may ≡ true → is_open ≡ false → X ≡ true) (any : is_open ≡ true → (b : List T) → Reaches false b (q b)) where
    opened_whole_2 : (t : T) (w : W) (a b : List T) → may ≡ true → L.Spells w a → Ends (C w) b → (y : Bool) → is_open ≡ y
        → Gives X (t, w) b (with_next (entered true y t (a ++ b)) q)
    opened_whole_2 t w a b o sp h true j = made_gives (λ w. (t, w)) X w (t, w) b (q (a ++ b)) refl ((c j o).whole w a b sp h)
    opened_whole_2 t w a b o sp h false j = loose o j

    opened_whole : (t : T) (w : W) (ts a b : List T) → ts ≡ t ∷ a → test t ≡ true → may ≡ true → L.Spells w a → Ends (C w) b
        → Gives X (t, w) b (opened is_open test q (ts ++ b))
    opened_whole t w ts a b e is o sp h =
        subst (λ (x : List T). Gives {V = T × W} X (t, w) b (opened is_open test q (x ++ b))) (sym e)
        (subst (λ (x : Bool). Gives {V = T × W} X (t, w) b (with_next (entered x is_open t (a ++ b)) q)) (sym is)
        (opened_whole_2 t w a b o sp h is_open refl))

    opened_any_2 : (t : T) (b : List T) (x y : Bool) → is_open ≡ y → Reaches false (t ∷ b) (with_next (entered x y t b) q)
    opened_any_2 t b false y j = ([], refl)
    opened_any_2 t b true false j = inr ([], refl)
    opened_any_2 t b true true j =
        further false (t ∷ b) b (paired t (q b)) (t ∷ [], refl) (made_reaches (λ w. (t, w)) false b (q b) (any j b))

    opened_any : (b : List T) → Reaches false b (opened is_open test q b)
    opened_any [] = ([], refl)
    opened_any (t ∷ b) = opened_any_2 t b (test t) is_open refl

    opened_partly_2 : (t : T) (a b : List T) → may ≡ true → L.Begins a → (y : Bool) → is_open ≡ y
        → Reaches X b (with_next (entered true y t (a ++ b)) q)
    opened_partly_2 t a b o bg true j = made_reaches (λ w. (t, w)) X b (q (a ++ b)) ((c j o).partly a b bg)
    opened_partly_2 t a b o bg false j = inl (loose o j)

    opened_partly : (a b : List T) → (opens may test L).Begins a → Reaches X b (opened is_open test q (a ++ b))
    opened_partly a b (inl e) =
        subst (λ (x : List T). Reaches X b (opened is_open test q (x ++ b))) (sym e)
        (reaches_any X b (opened is_open test q b) (opened_any b))
    opened_partly a b (inr s) =
        subst (λ (x : List T). Reaches X b (opened is_open test q (x ++ b))) (sym s.2)
        (subst (λ (x : Bool). Reaches X b (with_next (entered x is_open s.0 (s.1 ++ b)) q)) (sym s.3)
        (opened_partly_2 s.0 s.1 b s.4 s.5 is_open refl))

    opened_first : (t : T) (a : List T) → (opens may test L).Begins (t ∷ a) → test t ≡ true
    opened_first t a (inl e) = absurd (cc e)
    opened_first t a (inr s) = let same : t ≡ s.0 = cc s.2 in subst (λ x. test x ≡ true) (sym same) s.3

    pub complete-opens : Complete X (opened is_open test q) (opens may test L) test (λ v. C v.1) false
    complete-opens = record {
      whole = λ v ts b s h. opened_whole v.0 v.1 ts s.0 b s.1 s.2 s.3 s.4 h;
      partly = opened_partly;
      any = opened_any;
      first = opened_first;
      nonempty = λ n v s. absurd (cc s.1);
      begins = λ v ts s. inr (v.0, s.0, s.1, s.2, s.3, (d s.3).begins v.1 s.0 s.4);
    }
