-- The parser of two forms in a row is exact.
use Rattle.std.proofs.Common.{◌≡◌, List, [], ◌∷◌, ◌++◌, Bool, true, false, inl, inr, sym, refl, ap, ◌∙◌, subst, append_assoc, append-nil}
use Rattle.std.specs.Prelude.{◌||◌, ◌&&◌}
use Rattle.asm_grammar.specs.Language.{Language, ◌then◌}
use Rattle.asm_grammar.specs.Parser.{Reply, Took, Refused, Parser, and_then, mapped, both}
use Rattle.asm_grammar.proofs.Exact.{SoundAt, Sound, Ends, Gives, IsRestOf, Reaches, Complete, Apart}
use Rattle.asm_grammar.proofs.Basic.{rest_of_rest, reaches_any, remade, made_gives, made_reaches}

-- ---- tests

pub or_false : (x y : Bool) → (x || y) ≡ false → (x ≡ false) × (y ≡ false)
or_false true y e = absurd (cc e)
or_false false y e = (refl, e)

pub or_left : (x y : Bool) → x ≡ true → (x || y) ≡ true
or_left true y e = refl
or_left false y e = absurd (cc e)

pub or_right : (x y : Bool) → y ≡ true → (x || y) ≡ true
or_right true y e = refl
or_right false y e = e

pub is_true : (x : Bool) → (x ≡ false → ⊥) → x ≡ true
is_true true f = refl
is_true false f = absurd (f refl)

-- the sets of two forms in a row: of the first and the second, where x says whether the near one may be empty
abbrev pub with_far : {T : Type 0} → Bool → (T → Bool) → (T → Bool) → T → Bool
with_far x far near t = (x && far t) || near t

pub ends_far : {T : Type 0} (x : Bool) (far near : T → Bool) (b : List T) → Ends (with_far x far near) b → x ≡ true → Ends far b
ends_far x far near [] h e = tt
ends_far true far near (t ∷ b) h e = (or_false (far t) (near t) h).0
ends_far false far near (t ∷ b) h e = absurd (cc e)

pub ends_near : {T : Type 0} (x : Bool) (far near : T → Bool) (b : List T) → Ends (with_far x far near) b → Ends near b
ends_near x far near [] h = tt
ends_near x far near (t ∷ b) h = (or_false (x && far t) (near t) h).1

far_in : {T : Type 0} (x : Bool) (far near : T → Bool) (t : T) → x ≡ true → far t ≡ true → with_far x far near t ≡ true
far_in true far near t e h = or_left (far t) (near t) h
far_in false far near t e h = absurd (cc e)

-- ---- replies

-- what q reads after a reply, with both values
abbrev pub with_next : {T V W : Type 0} → Reply T V → Parser T W → Reply T (V × W)
with_next r q = and_then r (λ v. mapped (λ w. (v, w)) q)

-- a reply with this value beside its own
abbrev pub paired : {T V W : Type 0} → V → Reply T W → Reply T (V × W)
paired v r = remade (λ w. (v, w)) r

-- what the second parser reaches, the two reach
pub further : {T W : Type 0} (X : Bool) (b rest : List T) (r : Reply T W) → IsRestOf b rest → Reaches X rest r → Reaches X b r
further X b rest (Took w rest') h g = rest_of_rest b rest rest' h g
further X b rest (Refused false rest') h g = rest_of_rest b rest rest' h g
further X b rest (Refused true rest') h (inl e) = inl e
further X b rest (Refused true rest') h (inr g) = inr (rest_of_rest b rest rest' h g)

-- a list in three parts, from its parts two by two
pub regroup : {T : Type 0} (ts a rest b rest' : List T) → ts ≡ a ++ rest → rest ≡ b ++ rest' → ts ≡ (a ++ b) ++ rest'
regroup ts a rest b rest' e f = e ∙ ap (λ x. a ++ x) f ∙ sym (append_assoc a b rest')

-- a list in two parts, and what follows it
pub split_on : {T : Type 0} (ts a b rest : List T) → ts ≡ a ++ b → ts ++ rest ≡ a ++ (b ++ rest)
split_on ts a b rest e = ap (λ x. x ++ rest) e ∙ append_assoc a b rest

-- ---- what is taken is spelled

module _ {T V W : Type 0} where
  both_took : (q : Parser T W) (L M : Language T V) (L' M' : Language T W) (ts : List T) (v : V) (a rest : List T) → ts ≡ a ++ rest
      → L.Spells v a → M.Spells v a → (r : Reply T W) → SoundAt L' M' rest r → SoundAt (L then L') (M then M') ts (paired v r)
  both_took q L M L' M' ts v a rest e sp wide (Took w rest') s = (a ++ s.0, regroup ts a rest s.0 rest' e s.1, (a, s.0, refl, sp, s.2))
  both_took q L M L' M' ts v a rest e sp wide (Refused false rest') s =
      (a ++ s.0, regroup ts a rest s.0 rest' e s.1, inr (v, a, s.0, refl, sp, s.2))
  both_took q L M L' M' ts v a rest e sp wide (Refused true rest') s = (
    a ++ s.0,
    s.1,
    s.2,
    s.3,
    regroup ts a rest s.0 rest' e s.4,
    inr (v, a, s.0, refl, sp, s.5),
    inr (v, a, s.0 ++ s.1 ∷ [], append_assoc a s.0 (s.1 ∷ []), wide, s.6),
  )

  both_at : (q : Parser T W) (L M : Language T V) (L' M' : Language T W) (ts : List T) → ((v : V) (a : List T) → L.Spells v a → M.Spells v a)
      → ((rest : List T) → SoundAt L' M' rest (q rest)) → (r : Reply T V) → SoundAt L M ts r → SoundAt (L then L') (M then M') ts (with_next r q)
  both_at q L M L' M' ts wide s' (Took v rest) s = both_took q L M L' M' ts v s.0 rest s.1 s.2 (wide v s.0 s.2) (q rest) (s' rest)
  both_at q L M L' M' ts wide s' (Refused false rest) s = (s.0, s.1, inl s.2)
  both_at q L M L' M' ts wide s' (Refused true rest) s = (s.0, s.1, s.2, s.3, s.4, inl s.5, inl s.6)

  pub sound-then : {p : Parser T V} {q : Parser T W} {L M : Language T V} {L' M' : Language T W}
      → Sound p L M → Sound q L' M' → Sound (both p q) (L then L') (M then M')
  sound-then {p} {q} {L} {M} {L'} {M'} s s' = record {
    at = λ ts. both_at q L M L' M' ts s.wider s'.at (p ts) (s.at ts);
    wider = λ v ts h. (h.0, h.1, h.2, s.wider v.0 h.0 h.3, s'.wider v.1 h.1 h.4);
  }

-- ---- what is spelled is taken

module _ {T V W : Type 0} (X : Bool) (q : Parser T W) where
  reaches_both : (b : List T) → ((x : List T) → Reaches false x (q x)) → (r : Reply T V) → Reaches X b r → Reaches X b (with_next r q)
  reaches_both b any (Took v rest) h =
      further X b rest (paired v (q rest)) h (made_reaches (λ w. (v, w)) X rest (q rest) (reaches_any X rest (q rest) (any rest)))
  reaches_both b any (Refused false rest) h = h
  reaches_both b any (Refused true rest) h = h

  gives_both : (v : V) (w : W) (c b : List T) → Gives X w b (q c) → (r : Reply T V) → Gives X v c r → Gives X (v, w) b (with_next r q)
  gives_both v w c b g' (Took u rest) g =
      subst (λ (x : List T). Gives X (v, w) b (paired u (q x))) (sym g.1)
      (made_gives (λ w. (u, w)) X w (v, w) b (q c) (ap (λ x. (x, w)) (sym g.0)) g')
  gives_both v w c b g' (Refused false rest) g = g
  gives_both v w c b g' (Refused true rest) g = g

  reaches_after : (v : V) (c b : List T) → Reaches X b (q c) → (r : Reply T V) → Gives X v c r → Reaches X b (with_next r q)
  reaches_after v c b g' (Took u rest) g =
      subst (λ (x : List T). Reaches X b (paired u (q x))) (sym g.1) (made_reaches (λ w. (u, w)) X b (q c) g')
  reaches_after v c b g' (Refused false rest) g = absurd g
  reaches_after v c b g' (Refused true rest) g = inl g

module _ {T V W : Type 0} (X : Bool) {p : Parser T V} {q : Parser T W} {L : Language T V} {L' : Language T W} {F F' : T → Bool}
    {C : V → T → Bool} {C' : W → T → Bool} {e e' : Bool} (c : Complete X p L F C e) (c' : Complete X q L' F' C' e')
    (apart : (v : V) → Apart (C v) F') where
  -- what begins the second form ends the first
  ends_before : (v : V) (w : W) (a b : List T) → (e' ≡ false → a ≡ [] → ⊥) → L'.Begins a → Ends (with_far e' (C v) (C' w)) b → Ends (C v) (a ++ b)
  ends_before v w [] b full bg h = ends_far e' (C v) (C' w) b h (is_true e' (λ n. full n refl))
  ends_before v w (t ∷ a) b full bg h = apart v t (c'.first t a bg)

  both_whole : (v : V) (w : W) (ts a a' b : List T) → ts ≡ a ++ a' → L.Spells v a → L'.Spells w a' → Ends (with_far e' (C v) (C' w)) b
      → Gives X (v, w) b (both p q (ts ++ b))
  both_whole v w ts a a' b is sp sp' h =
      let full : e' ≡ false → a' ≡ [] → ⊥ = λ n z. c'.nonempty n w (subst (λ x. L'.Spells w x) z sp') in
      let ends : Ends (C v) (a' ++ b) = ends_before v w a' b full (c'.begins w a' sp') h in
      subst (λ (x : List T). Gives X (v, w) b (with_next (p x) q)) (sym (split_on ts a a' b is))
      (gives_both X q v w (a' ++ b) b (c'.whole w a' b sp' (ends_near e' (C v) (C' w) b h)) (p (a ++ (a' ++ b))) (c.whole v a (a' ++ b) sp ends))

  both_partly_2 : (v : V) (ts a a' b : List T) → ts ≡ a ++ a' → L.Spells v a → L'.Begins a' → Reaches X b (both p q (ts ++ b))
  both_partly_2 v ts a [] b is sp bg =
      reaches_both X q b c'.any (p (ts ++ b)) (c.partly ts b (subst (λ x. L.Begins x) (sym (is ∙ append-nil a)) (c.begins v a sp)))
  both_partly_2 v ts a (t ∷ a') b is sp bg =
      subst (λ (x : List T). Reaches X b (with_next (p x) q)) (sym (split_on ts a (t ∷ a') b is))
      (reaches_after X q v (t ∷ a' ++ b) b (c'.partly (t ∷ a') b bg)
      (p (a ++ (t ∷ a' ++ b))) (c.whole v a (t ∷ a' ++ b) sp (apart v t (c'.first t a' bg))))

  both_partly : (ts b : List T) → (L then L').Begins ts → Reaches X b (both p q (ts ++ b))
  both_partly ts b (inl bg) = reaches_both X q b c'.any (p (ts ++ b)) (c.partly ts b bg)
  both_partly ts b (inr s) = both_partly_2 s.0 ts s.1 s.2 b s.3 s.4 s.5

  both_first_2 : (t : T) (ts : List T) (v : V) (a a' : List T) → t ∷ ts ≡ a ++ a' → L.Spells v a → L'.Begins a' → with_far e F' F t ≡ true
  both_first_2 t ts v [] a' is sp bg =
      far_in e F' F t (is_true e (λ n. c.nonempty n v sp)) (c'.first t ts (subst (λ x. L'.Begins x) (sym is) bg))
  both_first_2 t ts v (u ∷ a) a' is sp bg =
      let same : t ≡ u = cc is in
      or_right (e && F' t) (F t) (c.first t a (subst (λ x. L.Begins (x ∷ a)) (sym same) (c.begins v (u ∷ a) sp)))

  both_first : (t : T) (ts : List T) → (L then L').Begins (t ∷ ts) → with_far e F' F t ≡ true
  both_first t ts (inl bg) = or_right (e && F' t) (F t) (c.first t ts bg)
  both_first t ts (inr s) = both_first_2 t ts s.0 s.1 s.2 s.3 s.4 s.5

  both_nonempty : (x x' : Bool) → x ≡ e → x' ≡ e' → (x && x') ≡ false → (v : V) (w : W) (a a' : List T) → [] ≡ a ++ a'
      → L.Spells v a → L'.Spells w a' → ⊥
  both_nonempty x x' i i' n v w (t ∷ a) a' is sp sp' = absurd (cc is)
  both_nonempty x x' i i' n v w [] (t ∷ a') is sp sp' = absurd (cc is)
  both_nonempty true x' i i' n v w [] [] is sp sp' = c'.nonempty (sym i' ∙ n) w sp'
  both_nonempty false x' i i' n v w [] [] is sp sp' = c.nonempty (sym i) v sp

  pub complete-then : Complete X (both p q) (L then L') (with_far e F' F) (λ v. with_far e' (C v.0) (C' v.1)) (e && e')
  complete-then = record {
    whole = λ v ts b s h. both_whole v.0 v.1 ts s.0 s.1 b s.2 s.3 s.4 h;
    partly = both_partly;
    any = λ b. reaches_both false q b c'.any (p b) (c.any b);
    first = both_first;
    nonempty = λ n v s. both_nonempty e e' refl refl n v.0 v.1 s.0 s.1 s.2 s.3 s.4;
    begins = λ v ts s. inr (v.0, s.0, s.1, s.2, s.3, c'.begins v.1 s.1 s.4);
  }
