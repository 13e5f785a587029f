-- Each front of a partial spelling is a partial spelling.
use Rattle.std.proofs.Common.{◌≡◌, ℕ, zero, suc, List, [], ◌∷◌, ◌++◌, Bool, true, ◌⊎◌, inl, inr, sym, refl, ap, subst}
use Rattle.std.specs.Prelude.{Option, Some, None}
use Rattle.asm_grammar.specs.Language.{Language, word, nothing, ◌then◌, opens, ◌either◌, made, maybe, Follows, FollowsPartly, chain, Dangles, dangling, spanned}
use Rattle.asm_grammar.specs.Refusals.{unlimited}

-- a front of a partial spelling is a partial spelling, and so is what spells a value
pub record Fronts {T V : Type 0} (L : Language T V) : Type 0 where
  pub front : (a b : List T) → L.Begins (a ++ b) → L.Begins a
  pub begins : (v : V) (a : List T) → L.Spells v a → L.Begins a

-- ---- lists

front_empty : {T : Type 0} (a b : List T) → a ++ b ≡ [] → a ≡ []
front_empty [] b e = refl
front_empty (t ∷ a) b e = absurd (cc e)

-- of two fronts of one list, one is a front of the other
pub two_fronts : {T : Type 0} (a b x y : List T) → a ++ b ≡ x ++ y
    → ((c : List T) × (x ≡ a ++ c)) ⊎ ((c : List T) × (a ≡ x ++ c) × (y ≡ c ++ b))
two_fronts [] b x y e = inl (x, refl)
two_fronts (t ∷ a) b [] y e = inr (t ∷ a, refl, sym e)
two_fronts {T} (t ∷ a) b (u ∷ x) y e =
    let head : t ≡ u = cc e in
    let tail : a ++ b ≡ x ++ y = cc e in
    go head (two_fronts a b x y tail)
  where
    go : t ≡ u → ((c : List T) × (x ≡ a ++ c)) ⊎ ((c : List T) × (a ≡ x ++ c) × (y ≡ c ++ b))
        → ((c : List T) × (u ∷ x ≡ t ∷ a ++ c)) ⊎ ((c : List T) × (t ∷ a ≡ u ∷ x ++ c) × (y ≡ c ++ b))
    go h (inl f) = inl (f.0, cc (h, f.1))
    go h (inr f) = inr (f.0, cc (h, f.1), f.2)

-- ---- words

module _ {T : Type 0} (test : T → Bool) where
  word_front : (a b : List T) → (word test).Begins (a ++ b) → (word test).Begins a
  word_front [] b bg = inl refl
  word_front (t ∷ a) b (inl e) = absurd (cc e)
  word_front (t ∷ a) b (inr s) =
      let head : t ≡ s.0 = cc s.2 in
      let tail : a ++ b ≡ [] = cc s.2 in
      let none : a ≡ [] = front_empty a b tail in
      inr (s.0, s.1, cc (head, none))

  pub fronts-word : Fronts (word test)
  fronts-word = record { front = word_front; begins = λ v a s. inr (v, s.0, s.1) }

pub fronts-nothing : {T V : Type 0} (x : V) → Fronts {T = T} (nothing x)
fronts-nothing x = record { front = front_empty; begins = λ v a s. s.1 }

-- ---- two in a row

module _ {T V W : Type 0} {L : Language T V} {M : Language T W} (f : Fronts L) (g : Fronts M) where
  then_split : (a b : List T) (v : V) (x y : List T) → L.Spells v x → M.Begins y
      → ((c : List T) × (x ≡ a ++ c)) ⊎ ((c : List T) × (a ≡ x ++ c) × (y ≡ c ++ b)) → (L then M).Begins a
  then_split a b v x y sp bg (inl s) = inl (f.front a s.0 (subst (λ z. L.Begins z) s.1 (f.begins v x sp)))
  then_split a b v x y sp bg (inr s) = inr (v, x, s.0, s.1, sp, g.front s.0 b (subst (λ z. M.Begins z) s.2 bg))

  then_front : (a b : List T) → (L then M).Begins (a ++ b) → (L then M).Begins a
  then_front a b (inl bg) = inl (f.front a b bg)
  then_front a b (inr s) = then_split a b s.0 s.1 s.2 s.4 s.5 (two_fronts a b s.1 s.2 s.3)

  pub fronts-then : Fronts (L then M)
  fronts-then = record { front = then_front; begins = λ v a s. inr (v.0, s.0, s.1, s.2, s.3, g.begins v.1 s.1 s.4) }

-- ---- a token that opens

module _ {T W : Type 0} (is_open : Bool) (test : T → Bool) {M : Language T W} (f : is_open ≡ true → Fronts M) where
  opens_front : (a b : List T) → (opens is_open test M).Begins (a ++ b) → (opens is_open test M).Begins a
  opens_front [] b bg = inl refl
  opens_front (t ∷ a) b (inl e) = absurd (cc e)
  opens_front (t ∷ a) b (inr s) =
      let head : t ≡ s.0 = cc s.2 in
      let tail : s.1 ≡ a ++ b = cc s.2 in
      inr (s.0, a, ap (λ z. z ∷ a) head, s.3, s.4, (f s.4).front a b (subst (λ z. M.Begins z) tail s.5))

  pub fronts-opens : Fronts (opens is_open test M)
  fronts-opens = record { front = opens_front; begins = λ v a s. inr (v.0, s.0, s.1, s.2, s.3, (f s.3).begins v.1 s.0 s.4) }

-- ---- choices, and what is made of a form

module _ {T V : Type 0} {L M : Language T V} (f : Fronts L) (g : Fronts M) where
  either_front : (a b : List T) → (L either M).Begins (a ++ b) → (L either M).Begins a
  either_front a b (inl bg) = inl (f.front a b bg)
  either_front a b (inr bg) = inr (g.front a b bg)

  either_begins : (v : V) (a : List T) → (L either M).Spells v a → (L either M).Begins a
  either_begins v a (inl s) = inl (f.begins v a s)
  either_begins v a (inr s) = inr (g.begins v a s)

  pub fronts-either : Fronts (L either M)
  fronts-either = record { front = either_front; begins = either_begins }

pub fronts-made : {T V W : Type 0} (f : V → W) {L : Language T V} → Fronts L → Fronts (made f L)
fronts-made f g = record { front = g.front; begins = λ w a s. g.begins s.0 a s.2 }

pub fronts-maybe : {T V : Type 0} {L : Language T V} → Fronts L → Fronts (maybe L)
fronts-maybe f = fronts-either (fronts-made Some f) (fronts-nothing None)

pub fronts-spanned : {T V W S : Type 0} (span : List T → S) (f : S → V → W) {L : Language T V} → Fronts L → Fronts (spanned span f L)
fronts-spanned span f g = record { front = g.front; begins = λ w a s. g.begins s.0 a s.2 }

pub fronts-unlimited : {T V : Type 0} {L : ℕ → Language T V} → ((n : ℕ) → Fronts (L n)) → Fronts (unlimited L)
fronts-unlimited f = record { front = λ a b s. (s.0, (f s.0).front a b s.1); begins = λ v a s. (s.0, (f s.0).begins v a s.1) }

-- ---- chains

module _ {T V O : Type 0} (fits : V → Bool) (join : V → O → V) {S : Language T O} (g : Fronts S) where
  follows_begins : (n : ℕ) (left v : V) (a : List T) → Follows fits join S n left v a → FollowsPartly fits join S n left a
  follows_begins zero left v a s = inl s.1
  follows_begins (suc n) left v a s = (s.0, s.1, s.2, s.3, s.4, s.5, follows_begins n (join left s.0) v s.2 s.6)

  abbrev FollowsSome : V → List T → Type 0
  FollowsSome left a = (m : ℕ) × FollowsPartly fits join S m left a

  follows_split : (left : V) (a b : List T) (o : O) (x y : List T) → fits left ≡ true → S.Spells o x
      → ((c : List T) → y ≡ c ++ b → FollowsSome (join left o) c)
      → ((c : List T) × (x ≡ a ++ c)) ⊎ ((c : List T) × (a ≡ x ++ c) × (y ≡ c ++ b)) → FollowsSome left a
  follows_split left a b o x y h sp ih (inl s) = (0, inr (h, g.front a s.0 (subst (λ z. S.Begins z) s.1 (g.begins o x sp))))
  follows_split left a b o x y h sp ih (inr s) = let more = ih s.0 s.2 in (suc more.0, (o, x, s.0, s.1, h, sp, more.1))

  follows_front : (n : ℕ) (left : V) (a b : List T) → FollowsPartly fits join S n left (a ++ b) → FollowsSome left a
  follows_front zero left a b (inl e) = (0, inl (front_empty a b e))
  follows_front zero left a b (inr s) = (0, inr (s.0, g.front a b s.1))
  follows_front (suc n) left a b s =
      follows_split left a b s.0 s.1 s.2 s.4 s.5
      (λ c e. follows_front n (join left s.0) c b (subst (λ z. FollowsPartly fits join S n (join left s.0) z) e s.6))
      (two_fronts a b s.1 s.2 s.3)

  module _ {L : Language T V} (f : Fronts L) where
    chain_split : (a b : List T) (left : V) (n : ℕ) (x y : List T) → L.Spells left x → FollowsPartly fits join S n left y
        → ((c : List T) × (x ≡ a ++ c)) ⊎ ((c : List T) × (a ≡ x ++ c) × (y ≡ c ++ b)) → (chain fits join S L).Begins a
    chain_split a b left n x y sp fo (inl s) = inl (f.front a s.0 (subst (λ z. L.Begins z) s.1 (f.begins left x sp)))
    chain_split a b left n x y sp fo (inr s) =
        let some = follows_front n left s.0 b (subst (λ z. FollowsPartly fits join S n left z) s.2 fo) in
        inr (left, some.0, x, s.0, s.1, sp, some.1)

    chain_front : (a b : List T) → (chain fits join S L).Begins (a ++ b) → (chain fits join S L).Begins a
    chain_front a b (inl bg) = inl (f.front a b bg)
    chain_front a b (inr s) = chain_split a b s.0 s.1 s.2 s.3 s.5 s.6 (two_fronts a b s.2 s.3 s.4)

    pub fronts-chain : Fronts (chain fits join S L)
    fronts-chain = record {
      front = chain_front;
      begins = λ v a s. inr (s.0, s.1, s.2, s.3, s.4, s.5, follows_begins s.1 s.0 v s.3 s.6);
    }

-- ---- a body, and what may follow it where it is closed

module _ {T V W : Type 0} (is_closed : V → Bool) {B : Language T V} {M : Language T W} (f : Fronts B) (g : Fronts M) where
  dangling_split : (a b : List T) (v : V) (x y : List T) → is_closed v ≡ true → B.Spells v x → M.Begins y
      → ((c : List T) × (x ≡ a ++ c)) ⊎ ((c : List T) × (a ≡ x ++ c) × (y ≡ c ++ b)) → (dangling is_closed B M).Begins a
  dangling_split a b v x y h sp bg (inl s) = inl (f.front a s.0 (subst (λ z. B.Begins z) s.1 (f.begins v x sp)))
  dangling_split a b v x y h sp bg (inr s) = inr (v, x, s.0, s.1, h, sp, g.front s.0 b (subst (λ z. M.Begins z) s.2 bg))

  dangling_front : (a b : List T) → (dangling is_closed B M).Begins (a ++ b) → (dangling is_closed B M).Begins a
  dangling_front a b (inl bg) = inl (f.front a b bg)
  dangling_front a b (inr s) = dangling_split a b s.0 s.1 s.2 s.4 s.5 s.6 (two_fronts a b s.1 s.2 s.3)

  dangles_begins : (v : V) (w : Option W) (a : List T) → Dangles is_closed B M v w a → (dangling is_closed B M).Begins a
  dangles_begins v None a s = inl (f.begins v a s)
  dangles_begins v (Some w) a s = inr (v, s.0, s.1, s.2, s.3, s.4, g.begins w s.1 s.5)

  pub fronts-dangling : Fronts (dangling is_closed B M)
  fronts-dangling = record { front = dangling_front; begins = λ v a s. dangles_begins v.0 v.1 a s }
