-- What a chain spells is taken by its parser: a first value, and any number of steps after it.
use Rattle.std.proofs.Common.{◌≡◌, ℕ, zero, suc, ◌≤◌, ◌+◌, List, [], ◌∷◌, ◌++◌, length, Bool, true, false, inl, inr, sym, refl, ap, ◌∙◌, subst, append-nil, length-append, arith}
use Rattle.std.specs.Prelude.{cond, ◌||◌}
use Rattle.asm_grammar.specs.Language.{Language, Follows, FollowsPartly, chain}
use Rattle.asm_grammar.specs.Parser.{Reply, Took, Refused, Parser, and_then, ◌>>=◌, sees, guard, climb, chained}
use Rattle.asm_grammar.proofs.Exact.{Ends, Gives, Reaches, Complete, Apart}
use Rattle.asm_grammar.proofs.Basic.{reaches_any}
use Rattle.asm_grammar.proofs.Pairs.{or_false, further, split_on}
use Rattle.asm_grammar.proofs.SoundChains.{with_steps}

-- the list that begins a step passes the test
follows_first : {T O : Type 0} {S : Language T O} (test : T → Bool)
    → ((t : T) (a : List T) → S.Begins (t ∷ a) → test t ≡ true) → ((o : O) → S.Spells o [] → ⊥)
    → ((o : O) (a : List T) → S.Spells o a → S.Begins a)
    → (t : T) (ts : List T) (o : O) (x y : List T) → t ∷ ts ≡ x ++ y → S.Spells o x → test t ≡ true
follows_first test first full begins t ts o [] y e sp = absurd (full o sp)
follows_first test first full begins t ts o (u ∷ x) y e sp =
    let same : t ≡ u = cc e in subst (λ z. test z ≡ true) (sym same) (first u x (begins o (u ∷ x) sp))

-- what goes on after steps: what begins one more, and what goes on with the last
abbrev pub goes_on : {T : Type 0} → (T → Bool) → (T → Bool) → T → Bool
goes_on test C t = test t || C t

-- `fits` is the parser's test of left operands, and `fits'` the language's. Where the parser's is stricter, X has to be true.
module _ {T V O : Type 0} (X : Bool) (fits fits' : V → Bool) (join : V → O → V) (test : T → Bool) {step : Parser T O} {S : Language T O}
    {C : T → Bool} (c : Complete X step S test (λ o. C) false) (apart : Apart C test)
    (loose : (left : V) → fits' left ≡ true → fits left ≡ false → X ≡ true) where
  -- at most n steps after a left operand
  abbrev steps : ℕ → V → Parser T V
  steps n left = climb fits join test step n left

  -- n more steps after the step that was read
  abbrev more : ℕ → V → Reply T O → Reply T V
  more n left r = and_then r (λ o. steps n (join left o))

  -- a turn at ts, by whether a step begins there and whether the left operand fits
  abbrev turn : ℕ → V → List T → Bool → Bool → Reply T V
  turn n left ts x y = cond x (and_then (guard y ts) (λ done. step >>= (λ o. steps n (join left o)))) (Took left ts)

  -- ---- what ends the steps

  not_sees : (b : List T) → Ends (goes_on test C) b → sees test b ≡ false
  not_sees [] h = refl
  not_sees (t ∷ b) h = (or_false (test t) (C t) h).0

  ends_step : (b : List T) → Ends (goes_on test C) b → Ends C b
  ends_step [] h = tt
  ends_step (t ∷ b) h = (or_false (test t) (C t) h).1

  -- the step before more steps ends
  ends_on : (n : ℕ) (left v : V) (y b : List T) → Follows fits' join S n left v y → Ends (goes_on test C) b → Ends C (y ++ b)
  ends_on n left v [] b fo h = ends_step b h
  ends_on zero left v (t ∷ y) b fo h = absurd (cc fo.1)
  ends_on (suc n) left v (t ∷ y) b fo h = apart t (follows_first test c.first (c.nonempty refl) c.begins t y fo.0 fo.1 fo.2 fo.3 fo.5)

  -- more steps begin with a token that passes the test
  partly_ends : (n : ℕ) (left : V) (t : T) (y : List T) → FollowsPartly fits' join S n left (t ∷ y) → test t ≡ true
  partly_ends zero left t y (inl e) = absurd (cc e)
  partly_ends zero left t y (inr s) = c.first t y s.1
  partly_ends (suc n) left t y fo = follows_first test c.first (c.nonempty refl) c.begins t y fo.0 fo.1 fo.2 fo.3 fo.5

  -- ---- the steps leave a rest of their list

  climb_any_step : (n : ℕ) (left : V) (b : List T) → ((o : V) (rest : List T) → Reaches false rest (steps n o rest)) → (r : Reply T O)
      → Reaches false b r → Reaches false b (more n left r)
  climb_any_step n left b ih (Took o rest) h = further false b rest (steps n (join left o) rest) h (ih (join left o) rest)
  climb_any_step n left b ih (Refused false rest) h = h
  climb_any_step n left b ih (Refused true rest) h = h

  climb_any_test : (n : ℕ) (left : V) (b : List T) → ((o : V) (rest : List T) → Reaches false rest (steps n o rest)) → (x y : Bool)
      → Reaches false b (turn n left b x y)
  climb_any_test n left b ih false y = ([], refl)
  climb_any_test n left b ih true false = inr ([], refl)
  climb_any_test n left b ih true true = climb_any_step n left b ih (step b) (c.any b)

  climb_any : (n : ℕ) (left : V) (b : List T) → Reaches false b (steps n left b)
  climb_any zero left b = ([], refl)
  climb_any (suc n) left b = climb_any_test n left b (climb_any n) (sees test b) (fits left)

  climb_reaches : (n : ℕ) (left : V) (b : List T) → Reaches X b (steps n left b)
  climb_reaches n left b = reaches_any X b (steps n left b) (climb_any n left b)

  -- ---- a turn at a token that begins a step

  turn_gives : (n : ℕ) (left v : V) (o : O) (ts c' b : List T) → sees test ts ≡ true → fits' left ≡ true → Gives X o c' (step ts)
      → Gives X v b (steps n (join left o) c') → Gives X v b (steps (suc n) left ts)
  turn_gives n left v o ts c' b seen f g ih =
      subst (λ (x : Bool). Gives X v b (turn n left ts x (fits left))) (sym seen) (go (fits left) refl)
    where
      taken : (r : Reply T O) → Gives X o c' r → Gives X v b (more n left r)
      taken (Took u rest) h =
          subst (λ (x : List T). Gives X v b (steps n (join left u) x)) (sym h.1)
          (subst (λ (x : O). Gives X v b (steps n (join left x) c')) (sym h.0) ih)
      taken (Refused false rest) h = absurd h
      taken (Refused true rest) h = h

      go : (y : Bool) → fits left ≡ y → Gives X v b (turn n left ts true y)
      go true j = taken (step ts) g
      go false j = loose left f j

  turn_reaches : (n : ℕ) (left : V) (ts b : List T) → sees test ts ≡ true → fits' left ≡ true → Reaches X b (more n left (step ts))
      → Reaches X b (steps (suc n) left ts)
  turn_reaches n left ts b seen f g = subst (λ (x : Bool). Reaches X b (turn n left ts x (fits left))) (sym seen) (go (fits left) refl)
    where
      go : (y : Bool) → fits left ≡ y → Reaches X b (turn n left ts true y)
      go true j = g
      go false j = inl (loose left f j)

  -- ---- whole steps

  -- a list with a step and what follows, one token longer than what follows the step's first
  shorter : (t : T) (x y ts : List T) (n : ℕ) → ts ≡ t ∷ (x ++ y) → length ts ≤ suc n → length y ≤ n
  shorter t x y ts n e le =
      let longer : length ts ≡ length (t ∷ (x ++ y)) = ap length e in
      let sum : length (x ++ y) ≡ length x + length y = length-append x y in
      omega arith

  climb_on : (n k : ℕ) (left v : V) (o : O) (x y a b : List T) → (length (y ++ b) ≤ n → Gives X v b (steps n (join left o) (y ++ b)))
      → length (a ++ b) ≤ suc n → a ≡ x ++ y → fits' left ≡ true → S.Spells o x → Follows fits' join S k (join left o) v y
      → Ends (goes_on test C) b → Gives X v b (steps (suc n) left (a ++ b))
  climb_on n k left v o [] y a b ih le e f sp fo h = absurd (c.nonempty refl o sp)
  climb_on n k left v o (t ∷ x) y a b ih le e f sp fo h =
      let regrouped : a ++ b ≡ t ∷ (x ++ (y ++ b)) = split_on a (t ∷ x) y b e in
      subst (λ (z : List T). Gives X v b (steps (suc n) left z)) (sym regrouped)
      (turn_gives n left v o (t ∷ (x ++ (y ++ b))) (y ++ b) b (c.first t x (c.begins o (t ∷ x) sp)) f
      (c.whole o (t ∷ x) (y ++ b) sp (ends_on k (join left o) v y b fo h)) (ih (shorter t x (y ++ b) (a ++ b) n regrouped le)))

  too_short : (o : O) (x y a b : List T) → length (a ++ b) ≤ 0 → a ≡ x ++ y → S.Spells o x → ⊥
  too_short o [] y a b le e sp = c.nonempty refl o sp
  too_short o (t ∷ x) y a b le e sp =
      let longer : length (a ++ b) ≡ length (t ∷ (x ++ y) ++ b) = ap (λ z. length (z ++ b)) e in absurd (omega arith)

  climb_whole : (n k : ℕ) (left v : V) (a b : List T) → length (a ++ b) ≤ n → Follows fits' join S k left v a → Ends (goes_on test C) b
      → Gives X v b (steps n left (a ++ b))
  climb_whole zero zero left v a b le fo h = (sym fo.0, ap (λ x. x ++ b) fo.1)
  climb_whole (suc n) zero left v a b le fo h =
      subst (λ (x : List T). Gives X v b (steps (suc n) left (x ++ b))) (sym fo.1)
      (subst (λ (x : Bool). Gives X v b (turn n left b x (fits left))) (sym (not_sees b h)) (sym fo.0, refl))
  climb_whole zero (suc k) left v a b le fo h = absurd (too_short fo.0 fo.1 fo.2 a b le fo.3 fo.5)
  climb_whole (suc n) (suc k) left v a b le fo h =
      climb_on n k left v fo.0 fo.1 fo.2 a b (λ le'. climb_whole n k (join left fo.0) v fo.2 b le' fo.6 h) le fo.3 fo.4 fo.5 fo.6 h

  -- ---- steps that end in the middle of one

  last_step : (n : ℕ) (left : V) (b : List T) → (r : Reply T O) → Reaches X b r → Reaches X b (more n left r)
  last_step n left b (Took o rest) h = further X b rest (steps n (join left o) rest) h (climb_reaches n (join left o) rest)
  last_step n left b (Refused false rest) h = h
  last_step n left b (Refused true rest) h = h

  climb_last : (n : ℕ) (left : V) (a b : List T) → length (a ++ b) ≤ n → fits' left ≡ true → S.Begins a → Reaches X b (steps n left (a ++ b))
  climb_last n left [] b le f bg = climb_reaches n left b
  climb_last zero left (t ∷ a) b le f bg = absurd (omega arith)
  climb_last (suc n) left (t ∷ a) b le f bg =
      turn_reaches n left (t ∷ a ++ b) b (c.first t a bg) f (last_step n left b (step (t ∷ a ++ b)) (c.partly (t ∷ a) b bg))

  -- a whole step with more after it
  mid_step : (n : ℕ) (left : V) (o : O) (rest b : List T) → Reaches X b (steps n (join left o) rest) → (r : Reply T O) → Gives X o rest r
      → Reaches X b (more n left r)
  mid_step n left o rest b g (Took w rest') h =
      subst (λ (z : List T). Reaches X b (steps n (join left w) z)) (sym h.1)
      (subst (λ (z : O). Reaches X b (steps n (join left z) rest)) (sym h.0) g)
  mid_step n left o rest b g (Refused false rest') h = absurd h
  mid_step n left o rest b g (Refused true rest') h = inl h

  climb_mid : (n k : ℕ) (left : V) (o : O) (x y a b : List T) → (length (y ++ b) ≤ n → Reaches X b (steps n (join left o) (y ++ b)))
      → length (a ++ b) ≤ suc n → a ≡ x ++ y → fits' left ≡ true → S.Spells o x → FollowsPartly fits' join S k (join left o) y
      → Reaches X b (steps (suc n) left (a ++ b))
  climb_mid n k left o [] y a b ih le e f sp fo = absurd (c.nonempty refl o sp)
  climb_mid n k left o (t ∷ x) [] a b ih le e f sp fo =
      let begins : S.Begins (t ∷ x) = c.begins o (t ∷ x) sp in
      subst (λ (z : List T). Reaches X b (steps (suc n) left z)) (sym (ap (λ z. z ++ b) (e ∙ append-nil (t ∷ x))))
      (turn_reaches n left (t ∷ x ++ b) b (c.first t x begins) f (last_step n left b (step (t ∷ x ++ b)) (c.partly (t ∷ x) b begins)))
  climb_mid n k left o (t ∷ x) (u ∷ y) a b ih le e f sp fo =
      let rest : List T = u ∷ y ++ b in
      let regrouped : a ++ b ≡ t ∷ (x ++ (u ∷ y ++ b)) = split_on a (t ∷ x) (u ∷ y) b e in
      subst (λ (z : List T). Reaches X b (steps (suc n) left z)) (sym regrouped)
      (turn_reaches n left (t ∷ (x ++ rest)) b (c.first t x (c.begins o (t ∷ x) sp)) f
      (mid_step n left o rest b (ih (shorter t x rest (a ++ b) n regrouped le))
      (step (t ∷ (x ++ rest))) (c.whole o (t ∷ x) rest sp (apart u (partly_ends k (join left o) u y fo)))))

  climb_partly : (n k : ℕ) (left : V) (a b : List T) → length (a ++ b) ≤ n → FollowsPartly fits' join S k left a → Reaches X b (steps n left (a ++ b))
  climb_partly n zero left a b le (inl e) = subst (λ (z : List T). Reaches X b (steps n left (z ++ b))) (sym e) (climb_reaches n left b)
  climb_partly n zero left a b le (inr s) = climb_last n left a b le s.0 s.1
  climb_partly zero (suc k) left a b le fo = absurd (too_short fo.0 fo.1 fo.2 a b le fo.3 fo.5)
  climb_partly (suc n) (suc k) left a b le fo =
      climb_mid n k left fo.0 fo.1 fo.2 a b (λ le'. climb_partly n k (join left fo.0) fo.2 b le' fo.6) le fo.3 fo.4 fo.5 fo.6

  -- ---- the whole chain

  -- what the steps read after the first parser
  abbrev from_first : Reply T V → Reply T V
  from_first r = with_steps fits join test step r

  module _ {p : Parser T V} {L : Language T V} {F C' : T → Bool} (d : Complete X p L F (λ v. C') false) (apart' : Apart C' test) where
    -- what may go on after a chain
    abbrev on_chain : T → Bool
    on_chain t = C' t || goes_on test C t

    -- a step that comes next ends the first value
    ends_head : (n : ℕ) (left v : V) (y b : List T) → Follows fits' join S n left v y → Ends on_chain b → Ends C' (y ++ b)
    ends_head n left v [] [] fo h = tt
    ends_head n left v [] (t ∷ b) fo h = (or_false (C' t) (goes_on test C t) h).0
    ends_head zero left v (t ∷ y) b fo h = absurd (cc fo.1)
    ends_head (suc n) left v (t ∷ y) b fo h = apart' t (follows_first test c.first (c.nonempty refl) c.begins t y fo.0 fo.1 fo.2 fo.3 fo.5)

    ends_tail : (b : List T) → Ends on_chain b → Ends (goes_on test C) b
    ends_tail [] h = tt
    ends_tail (t ∷ b) h = (or_false (C' t) (goes_on test C t) h).1

    head_gives : (v w : V) (c' b : List T) → Gives X w b (steps (length c') v c') → (r : Reply T V) → Gives X v c' r → Gives X w b (from_first r)
    head_gives v w c' b g (Took u rest) h =
        subst (λ (x : List T). Gives X w b (steps (length x) u x)) (sym h.1)
        (subst (λ (x : V). Gives X w b (steps (length c') x c')) (sym h.0) g)
    head_gives v w c' b g (Refused false rest) h = absurd h
    head_gives v w c' b g (Refused true rest) h = h

    head_reaches : (v : V) (c' b : List T) → Reaches X b (steps (length c') v c') → (r : Reply T V) → Gives X v c' r → Reaches X b (from_first r)
    head_reaches v c' b g (Took u rest) h =
        subst (λ (x : List T). Reaches X b (steps (length x) u x)) (sym h.1)
        (subst (λ (x : V). Reaches X b (steps (length c') x c')) (sym h.0) g)
    head_reaches v c' b g (Refused false rest) h = absurd h
    head_reaches v c' b g (Refused true rest) h = inl h

    head_any : (Y : Bool) (b : List T) (r : Reply T V) → Reaches Y b r → Reaches Y b (from_first r)
    head_any Y b (Took u rest) h =
        let r' : Reply T V = steps (length rest) u rest in
        further Y b rest r' h (reaches_any Y rest r' (climb_any (length rest) u rest))
    head_any Y b (Refused false rest) h = h
    head_any Y b (Refused true rest) h = h

    chain_whole : (v left : V) (n : ℕ) (ts x y b : List T) → ts ≡ x ++ y → L.Spells left x → Follows fits' join S n left v y → Ends on_chain b
        → Gives X v b (chained fits join test step p (ts ++ b))
    chain_whole v left n ts x y b e sp fo h =
        subst (λ (z : List T). Gives X v b (from_first (p z))) (sym (split_on ts x y b e))
        (head_gives left v (y ++ b) b (climb_whole (length (y ++ b)) n left v y b (omega arith) fo (ends_tail b h))
        (p (x ++ (y ++ b))) (d.whole left x (y ++ b) sp (ends_head n left v y b fo h)))

    chain_partly_2 : (left : V) (n : ℕ) (ts x y b : List T) → ts ≡ x ++ y → L.Spells left x → FollowsPartly fits' join S n left y
        → Reaches X b (chained fits join test step p (ts ++ b))
    chain_partly_2 left n ts x [] b e sp fo =
        head_any X b (p (ts ++ b)) (d.partly ts b (subst (λ z. L.Begins z) (sym (e ∙ append-nil x)) (d.begins left x sp)))
    chain_partly_2 left n ts x (t ∷ y) b e sp fo =
        let rest : List T = t ∷ y ++ b in
        subst (λ (z : List T). Reaches X b (from_first (p z))) (sym (split_on ts x (t ∷ y) b e))
        (head_reaches left rest b (climb_partly (length rest) n left (t ∷ y) b (omega arith) fo)
        (p (x ++ rest)) (d.whole left x rest sp (apart' t (partly_ends n left t y fo))))

    chain_partly : (ts b : List T) → (chain fits' join S L).Begins ts → Reaches X b (chained fits join test step p (ts ++ b))
    chain_partly ts b (inl bg) = head_any X b (p (ts ++ b)) (d.partly ts b bg)
    chain_partly ts b (inr s) = chain_partly_2 s.0 s.1 ts s.2 s.3 b s.4 s.5 s.6

    chain_first : (t : T) (ts : List T) → (chain fits' join S L).Begins (t ∷ ts) → F t ≡ true
    chain_first t ts (inl bg) = d.first t ts bg
    chain_first t ts (inr s) = follows_first F d.first (d.nonempty refl) d.begins t ts s.0 s.2 s.3 s.4 s.5

    chain_nonempty : (left : V) (x y : List T) → [] ≡ x ++ y → L.Spells left x → ⊥
    chain_nonempty left [] y e sp = d.nonempty refl left sp
    chain_nonempty left (t ∷ x) y e sp = absurd (cc e)

    follows_begins : (n : ℕ) (left v : V) (y : List T) → Follows fits' join S n left v y → FollowsPartly fits' join S n left y
    follows_begins zero left v y fo = inl fo.1
    follows_begins (suc n) left v y fo = (fo.0, fo.1, fo.2, fo.3, fo.4, fo.5, follows_begins n (join left fo.0) v fo.2 fo.6)

    pub complete-chain : Complete X (chained fits join test step p) (chain fits' join S L) F (λ v t. C' t || goes_on test C t) false
    complete-chain = record {
      whole = λ v ts b s h. chain_whole v s.0 s.1 ts s.2 s.3 b s.4 s.5 s.6 h;
      partly = chain_partly;
      any = λ b. head_any false b (p b) (d.any b);
      first = chain_first;
      nonempty = λ n v s. chain_nonempty s.0 s.2 s.3 s.4 s.5;
      begins = λ v ts s. inr (s.0, s.1, s.2, s.3, s.4, s.5, follows_begins s.1 s.0 v s.3 s.6);
    }
