-- The parser of a body, and of what may follow it only where it is closed, is exact.
use Rattle.std.proofs.Common.{◌≡◌, List, [], ◌∷◌, ◌++◌, Bool, true, false, inl, inr, sym, refl, ap, ◌∙◌, subst, append_assoc, append-nil}
use Rattle.std.specs.Prelude.{cond, ◌||◌, Option, Some, None}
use Rattle.asm_grammar.specs.Language.{Language, Dangles, dangling}
use Rattle.asm_grammar.specs.Parser.{Reply, Took, Refused, Parser, and_then, ◌>>=◌, sees, mapped, both, optional}
use Rattle.asm_grammar.proofs.Exact.{SoundAt, Sound, Ends, Gives, Reaches, Complete, Apart}
use Rattle.asm_grammar.proofs.Basic.{reaches_any, true_is_false, remade}
use Rattle.asm_grammar.proofs.Pairs.{or_false, further, regroup, split_on, paired, with_next}
use Rattle.asm_grammar.proofs.Greedy.{GreedyAt, Greedy}

-- what `optional` answers at a list, by whether its form begins there
abbrev pub optional_at : {T W : Type 0} → Parser T W → List T → Bool → Reply T (Option W)
optional_at q ts x = cond x (remade Some (q ts)) (Took None ts)

-- ---- what is taken is spelled

module _ {T V W : Type 0} (is_closed : V → Bool) (F : T → Bool) {p : Parser T V} {q : Parser T W} {B B' : Language T V} {M M' : Language T W}
    (s : Sound p B B') (s' : Sound q M M') (greedy : Greedy is_closed F p) where
  closed_by : (v : V) (rest : List T) → sees F rest ≡ true → (is_closed v ≡ false → Ends F rest) → (x : Bool) → is_closed v ≡ x → x ≡ true
  closed_by v rest seen g true i = refl
  closed_by v [] seen g false i = absurd (cc seen)
  closed_by v (t ∷ rest) seen g false i = absurd (true_is_false (F t) seen (g i))

  dangling_more : (ts : List T) (v : V) (a rest : List T) → ts ≡ a ++ rest → B.Spells v a → B'.Spells v a → is_closed v ≡ true → (r : Reply T W)
      → SoundAt M M' rest r → SoundAt (dangling is_closed B M) (dangling is_closed B' M') ts (paired v (remade Some r))
  dangling_more ts v a rest e sp wide c (Took w rest') h = (a ++ h.0, regroup ts a rest h.0 rest' e h.1, (a, h.0, refl, c, sp, h.2))
  dangling_more ts v a rest e sp wide c (Refused false rest') h =
      (a ++ h.0, regroup ts a rest h.0 rest' e h.1, inr (v, a, h.0, refl, c, sp, h.2))
  dangling_more ts v a rest e sp wide c (Refused true rest') h = (
    a ++ h.0,
    h.1,
    h.2,
    h.3,
    regroup ts a rest h.0 rest' e h.4,
    inr (v, a, h.0, refl, c, sp, h.5),
    inr (v, a, h.0 ++ h.1 ∷ [], append_assoc a h.0 (h.1 ∷ []), c, wide, h.6),
  )

  dangling_test : (ts : List T) (v : V) (a rest : List T) → ts ≡ a ++ rest → B.Spells v a → (is_closed v ≡ false → Ends F rest)
      → (x : Bool) → sees F rest ≡ x → SoundAt (dangling is_closed B M) (dangling is_closed B' M') ts (paired v (optional_at q rest x))
  dangling_test ts v a rest e sp g false i = (a, e, sp)
  dangling_test ts v a rest e sp g true i = dangling_more ts v a rest e sp (s.wider v a sp) (go (is_closed v) refl) (q rest) (s'.at rest)
    where
      go : (x : Bool) → is_closed v ≡ x → is_closed v ≡ true
      go x j = j ∙ closed_by v rest i g x j

  dangling_at : (ts : List T) → (r : Reply T V) → SoundAt B B' ts r → GreedyAt is_closed F r
      → SoundAt (dangling is_closed B M) (dangling is_closed B' M') ts (with_next r (optional F q))
  dangling_at ts (Took v rest) h g = dangling_test ts v h.0 rest h.1 h.2 g (sees F rest) refl
  dangling_at ts (Refused false rest) h g = (h.0, h.1, inl h.2)
  dangling_at ts (Refused true rest) h g = (h.0, h.1, h.2, h.3, h.4, inl h.5, inl h.6)

  wider_dangles : (v : V) (w : Option W) (ts : List T) → Dangles is_closed B M v w ts → Dangles is_closed B' M' v w ts
  wider_dangles v None ts h = s.wider v ts h
  wider_dangles v (Some w) ts h = (h.0, h.1, h.2, h.3, s.wider v h.0 h.4, s'.wider w h.1 h.5)

  pub sound-dangling : Sound (both p (optional F q)) (dangling is_closed B M) (dangling is_closed B' M')
  sound-dangling = record {
    at = λ ts. dangling_at ts (p ts) (s.at ts) (greedy ts);
    wider = λ v ts h. wider_dangles v.0 v.1 ts h;
  }

-- ---- what is spelled is taken

-- what may go on after a body, and after what follows it
abbrev pub dangling_on : {T V W : Type 0} → (T → Bool) → (V → T → Bool) → (W → T → Bool) → V × Option W → T → Bool
dangling_on F C C' (v, None) t = F t || C v t
dangling_on F C C' (v, Some w) t = C' w t

-- The parser of what follows may depend on the body's value. After a closed body it is complete, and after any body it leaves
-- a rest of its list.
module _ {T V W : Type 0} (X : Bool) (is_closed : V → Bool) {p : Parser T V} (q : V → Parser T W) {B : Language T V} {M : Language T W}
    {G F : T → Bool} {C : V → T → Bool} {C' : W → T → Bool}
    (c : Complete X p B G C false) (c' : (v : V) → is_closed v ≡ true → Complete X (q v) M F C' false)
    (any : (v : V) (b : List T) → Reaches false b (q v b)) (apart : (v : V) → is_closed v ≡ true → Apart (C v) F) where
  ends_body : (v : V) (b : List T) → Ends (λ t. F t || C v t) b → Ends (C v) b
  ends_body v [] h = tt
  ends_body v (t ∷ b) h = (or_false (F t) (C v t) h).1

  unseen : (v : V) (b : List T) → Ends (λ t. F t || C v t) b → sees F b ≡ false
  unseen v [] h = refl
  unseen v (t ∷ b) h = (or_false (F t) (C v t) h).0

  seen_first : (v : V) (w : W) (a b : List T) → is_closed v ≡ true → M.Spells w a → sees F (a ++ b) ≡ true
  seen_first v w [] b i sp = absurd ((c' v i).nonempty refl w sp)
  seen_first v w (t ∷ a) b i sp = (c' v i).first t a ((c' v i).begins w (t ∷ a) sp)

  ends_more : (v : V) (w : W) (a b : List T) → is_closed v ≡ true → M.Spells w a → Ends (C v) (a ++ b)
  ends_more v w [] b i sp = absurd ((c' v i).nonempty refl w sp)
  ends_more v w (t ∷ a) b i sp = apart v i t ((c' v i).first t a ((c' v i).begins w (t ∷ a) sp))

  -- a body, and what may follow it
  abbrev body_and_more : Parser T (V × Option W)
  body_and_more = p >>= (λ v. mapped (λ w. (v, w)) (optional F (q v)))

  -- what is read after the body
  abbrev tail : Reply T V → Reply T (V × Option W)
  tail r = and_then r (λ v. mapped (λ w. (v, w)) (optional F (q v)))

  none_gives : (v : V) (b : List T) → sees F b ≡ false → (r : Reply T V) → Gives X v b r → Gives {V = V × Option W} X (v, None) b (tail r)
  none_gives v b i (Took u rest) g =
      subst (λ (x : List T). Gives {V = V × Option W} X (v, None) b (paired u (optional_at (q u) x (sees F x)))) (sym g.1)
      (subst (λ (x : Bool). Gives {V = V × Option W} X (v, None) b (paired u (optional_at (q u) b x))) (sym i) (ap (λ x. (x, None)) g.0, refl))
  none_gives v b i (Refused false rest) g = absurd g
  none_gives v b i (Refused true rest) g = g

  some_gives_2 : (u v : V) (w : W) (b : List T) → u ≡ v → (r : Reply T W) → Gives X w b r
      → Gives {V = V × Option W} X (v, Some w) b (paired u (remade Some r))
  some_gives_2 u v w b e (Took w' rest) g = ((λ i. (e i, Some (g.0 i))), g.1)
  some_gives_2 u v w b e (Refused false rest) g = absurd g
  some_gives_2 u v w b e (Refused true rest) g = g

  some_gives : (v : V) (w : W) (d b : List T) → sees F d ≡ true → Gives X w b (q v d) → (r : Reply T V) → Gives X v d r
      → Gives {V = V × Option W} X (v, Some w) b (tail r)
  some_gives v w d b i h (Took u rest) g =
      subst (λ (x : List T). Gives {V = V × Option W} X (v, Some w) b (paired u (optional_at (q u) x (sees F x)))) (sym g.1)
      (subst (λ (x : Bool). Gives {V = V × Option W} X (v, Some w) b (paired u (optional_at (q u) d x))) (sym i)
      (some_gives_2 u v w b g.0 (q u d) (subst (λ (x : V). Gives X w b (q x d)) (sym g.0) h)))
  some_gives v w d b i h (Refused false rest) g = absurd g
  some_gives v w d b i h (Refused true rest) g = g

  dangling_whole : (v : V) (w : Option W) (ts b : List T) → Dangles is_closed B M v w ts → Ends (dangling_on F C C' (v, w)) b
      → Gives X (v, w) b (body_and_more (ts ++ b))
  dangling_whole v None ts b h e = none_gives v b (unseen v b e) (p (ts ++ b)) (c.whole v ts b h (ends_body v b e))
  dangling_whole v (Some w) ts b h e =
      subst (λ (x : List T). Gives {V = V × Option W} X (v, Some w) b (tail (p x))) (sym (split_on ts h.0 h.1 b h.2))
      (some_gives v w (h.1 ++ b) b (seen_first v w h.1 b h.3 h.5) ((c' v h.3).whole w h.1 b h.5 e)
      (p (h.0 ++ (h.1 ++ b))) (c.whole v h.0 (h.1 ++ b) h.4 (ends_more v w h.1 b h.3 h.5)))

  -- ---- a partial spelling

  tail_any : (u : V) (rest : List T) (x : Bool) (r : Reply T W) → Reaches false rest r
      → Reaches false rest (paired u (cond x (remade Some r) (Took None rest)))
  tail_any u rest false r h = ([], refl)
  tail_any u rest true (Took w rest') h = h
  tail_any u rest true (Refused false rest') h = h
  tail_any u rest true (Refused true rest') h = h

  body_any : (Y : Bool) (b : List T) (r : Reply T V) → Reaches Y b r → Reaches Y b (tail r)
  body_any Y b (Took u rest) h =
      let r' : Reply T (V × Option W) = paired u (optional F (q u) rest) in
      further Y b rest r' h (reaches_any Y rest r' (tail_any u rest (sees F rest) (q u rest) (any u rest)))
  body_any Y b (Refused false rest) h = h
  body_any Y b (Refused true rest) h = h

  some_reaches_2 : (u : V) (b : List T) (r : Reply T W) → Reaches X b r → Reaches X b (paired u (remade Some r))
  some_reaches_2 u b (Took w rest) g = g
  some_reaches_2 u b (Refused false rest) g = g
  some_reaches_2 u b (Refused true rest) g = g

  some_reaches : (v : V) (d b : List T) → sees F d ≡ true → Reaches X b (q v d) → (r : Reply T V) → Gives X v d r → Reaches X b (tail r)
  some_reaches v d b i h (Took u rest) g =
      subst (λ (x : List T). Reaches X b (paired u (optional_at (q u) x (sees F x)))) (sym g.1)
      (subst (λ (x : Bool). Reaches X b (paired u (optional_at (q u) d x))) (sym i)
      (some_reaches_2 u b (q u d) (subst (λ (x : V). Reaches X b (q x d)) (sym g.0) h)))
  some_reaches v d b i h (Refused false rest) g = absurd g
  some_reaches v d b i h (Refused true rest) g = inl g

  dangling_partly_2 : (v : V) (ts a a' b : List T) → ts ≡ a ++ a' → is_closed v ≡ true → B.Spells v a → M.Begins a'
      → Reaches X b (body_and_more (ts ++ b))
  dangling_partly_2 v ts a [] b e i sp bg =
      body_any X b (p (ts ++ b)) (c.partly ts b (subst (λ x. B.Begins x) (sym (e ∙ append-nil a)) (c.begins v a sp)))
  dangling_partly_2 v ts a (t ∷ a') b e i sp bg =
      let rest : List T = t ∷ a' ++ b in
      subst (λ (x : List T). Reaches X b (tail (p x))) (sym (split_on ts a (t ∷ a') b e))
      (some_reaches v rest b ((c' v i).first t a' bg) ((c' v i).partly (t ∷ a') b bg)
      (p (a ++ rest)) (c.whole v a rest sp (apart v i t ((c' v i).first t a' bg))))

  dangling_partly : (ts b : List T) → (dangling is_closed B M).Begins ts → Reaches X b (body_and_more (ts ++ b))
  dangling_partly ts b (inl bg) = body_any X b (p (ts ++ b)) (c.partly ts b bg)
  dangling_partly ts b (inr h) = dangling_partly_2 h.0 ts h.1 h.2 b h.3 h.4 h.5 h.6

  dangling_first_2 : (t : T) (ts : List T) (v : V) (a a' : List T) → t ∷ ts ≡ a ++ a' → B.Spells v a → G t ≡ true
  dangling_first_2 t ts v [] a' e sp = absurd (c.nonempty refl v sp)
  dangling_first_2 t ts v (u ∷ a) a' e sp =
      let same : t ≡ u = cc e in subst (λ x. G x ≡ true) (sym same) (c.first u a (c.begins v (u ∷ a) sp))

  dangling_first : (t : T) (ts : List T) → (dangling is_closed B M).Begins (t ∷ ts) → G t ≡ true
  dangling_first t ts (inl bg) = c.first t ts bg
  dangling_first t ts (inr h) = dangling_first_2 t ts h.0 h.1 h.2 h.3 h.5

  dangling_nonempty : (v : V) (w : Option W) → Dangles is_closed B M v w [] → ⊥
  dangling_nonempty v None h = c.nonempty refl v h
  dangling_nonempty v (Some w) h = go h.0 h.1 h.2 h.4
    where
      go : (a a' : List T) → [] ≡ a ++ a' → B.Spells v a → ⊥
      go [] a' e sp = c.nonempty refl v sp
      go (t ∷ a) a' e sp = absurd (cc e)

  dangling_begins : (v : V) (w : Option W) (ts : List T) → Dangles is_closed B M v w ts → (dangling is_closed B M).Begins ts
  dangling_begins v None ts h = inl (c.begins v ts h)
  dangling_begins v (Some w) ts h = inr (v, h.0, h.1, h.2, h.3, h.4, (c' v h.3).begins w h.1 h.5)

  pub complete-body : Complete X body_and_more (dangling is_closed B M) G (dangling_on F C C') false
  complete-body = record {
    whole = λ v ts b h e. dangling_whole v.0 v.1 ts b h e;
    partly = dangling_partly;
    any = λ b. body_any false b (p b) (c.any b);
    first = dangling_first;
    nonempty = λ n v h. dangling_nonempty v.0 v.1 h;
    begins = λ v ts h. dangling_begins v.0 v.1 ts h;
  }

pub complete-dangling : {T V W : Type 0} (X : Bool) (is_closed : V → Bool) {p : Parser T V} {q : Parser T W} {B : Language T V} {M : Language T W}
    {G F : T → Bool} {C : V → T → Bool} {C' : W → T → Bool} → Complete X p B G C false → Complete X q M F C' false
    → ((v : V) → is_closed v ≡ true → Apart (C v) F)
    → Complete X (both p (optional F q)) (dangling is_closed B M) G (dangling_on F C C') false
complete-dangling X is_closed {p} {q} c c' apart = complete-body X is_closed (λ v. q) c (λ v i. c') (λ v. c'.any) apart
