-- Lists of bytes and tests.
use Rattle.std.proofs.Common.{◌≡◌, ℕ, ◌≤◌, Bool, true, false, cond, List, [], ◌∷◌, ◌++◌, length, take, drop, sym, refl, ap, ◌∙◌, arith, nat_eq}
use Rattle.std.proofs.lemmas.Bool.Decides.{Decides-eqb}
use Rattle.std.proofs.lemmas.List.{take_at, drop_at}
use Rattle.std.proofs.lemmas.Slice.Eq.{starts_is}
use Rattle.std.specs.List.{prefix_len, starts_with}
use Rattle.asm_formula.specs.Tokens.{Every}

pub by_cond : {A : Type 0} (P : A → Type 0) (v : Bool) (x y : A) → (v ≡ true → P x) → (v ≡ false → P y) → P (cond v x y)
by_cond P true x y f g = f refl
by_cond P false x y f g = g refl

pub by_true : {A : Type 0} (P : A → Type 0) (v : Bool) (x y : A) → v ≡ true → P x → P (cond v x y)
by_true P true x y e h = h
by_true P false x y e h = absurd (cc)

pub by_false : {A : Type 0} (P : A → Type 0) (v : Bool) (x y : A) → v ≡ false → P y → P (cond v x y)
by_false P true x y e h = absurd (cc)
by_false P false x y e h = h

-- the longest front that passes
pub record Split (p : ℕ → Bool) (bs : List ℕ) : Type 0 where
  pub front : List ℕ
  pub back : List ℕ
  pub parts : bs ≡ front ++ back
  pub len : prefix_len p bs ≡ length front
  pub all : Every p front

pub split : (p : ℕ → Bool) (bs : List ℕ) → Split p bs
split p [] = record { front = []; back = []; parts = refl; len = refl; all = tt }
split p (b ∷ bs) = split_more p b bs (p b) refl (split p bs)
  where
    split_more : (p : ℕ → Bool) (b : ℕ) (bs : List ℕ) (v : Bool) → p b ≡ v → Split p bs → Split p (b ∷ bs)
    split_more p b bs true e s = record { front = b ∷ s.front; back = s.back; parts = ap (λ x. b ∷ x) s.parts; len = rw e (let ih = s.len in omega arith); all = (e, s.all) }
    split_more p b bs false e s = record { front = []; back = b ∷ bs; parts = refl; len = rw e refl; all = tt }

pub prefix_at_least : (p : ℕ → Bool) (a b : List ℕ) → Every p a → length a ≤ prefix_len p (a ++ b)
prefix_at_least p [] b h = omega arith
prefix_at_least p (x ∷ a) b h = rw h.0 (let ih = prefix_at_least p a b h.1 in omega arith)

pub taken : (bs a c : List ℕ) (n : ℕ) → bs ≡ a ++ c → n ≡ length a → take n bs ≡ a
taken bs a c n e l = ap (take n) e ∙ take_at a c n (sym l)

pub dropped : (bs a c : List ℕ) (n : ℕ) → bs ≡ a ++ c → n ≡ length a → drop n bs ≡ c
dropped bs a c n e l = ap (drop n) e ∙ drop_at a c n (sym l)

-- what a text starts with is its front
pub starts : (bs s : List ℕ) → starts_with nat_eq bs s ≡ true → bs ≡ s ++ drop (length s) bs
starts bs s h = (starts_is Decides-eqb bs s (starts_with nat_eq bs s) refl).0 h
