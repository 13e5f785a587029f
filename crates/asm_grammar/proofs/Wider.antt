-- A form that is put together from wider forms and looser tests is wider.
use Rattle.std.proofs.Common.{◌≡◌, ℕ, zero, suc, List, Bool, true, inl, inr}
use Rattle.std.specs.Prelude.{Option, Some, None}
use Rattle.asm_grammar.specs.Language.{Language, nothing, ◌then◌, opens, ◌either◌, made, maybe, Follows, FollowsPartly, chain, Dangles, dangling, spanned}
use Rattle.asm_grammar.specs.Refusals.{unlimited}

-- what L spells and begins, M spells and begins too
pub record Wider {T V : Type 0} (L M : Language T V) : Type 0 where
  pub spells : (v : V) (a : List T) → L.Spells v a → M.Spells v a
  pub begins : (a : List T) → L.Begins a → M.Begins a

-- a form that is the same in both
pub wider-same : {T V : Type 0} (L : Language T V) → Wider L L
wider-same L = record { spells = λ v a s. s; begins = λ a s. s }

-- ---- two in a row

pub wider-then : {T V W : Type 0} {L L' : Language T V} {M M' : Language T W} → Wider L L' → Wider M M' → Wider (L then M) (L' then M')
wider-then {T} {V} {W} {L} {L'} {M} {M'} f g = record {
  spells = λ v a s. (s.0, s.1, s.2, f.spells v.0 s.0 s.3, g.spells v.1 s.1 s.4);
  begins = go;
}
  where
    go : (a : List T) → (L then M).Begins a → (L' then M').Begins a
    go a (inl bg) = inl (f.begins a bg)
    go a (inr s) = inr (s.0, s.1, s.2, s.3, f.spells s.0 s.1 s.4, g.begins s.2 s.5)

-- ---- a token that opens

-- where one more may be open, it may be open in the wider form too
pub wider-opens : {T W : Type 0} (is_open is_open' : Bool) (test : T → Bool) {M M' : Language T W}
    → (is_open ≡ true → is_open' ≡ true) → (is_open ≡ true → Wider M M') → Wider (opens is_open test M) (opens is_open' test M')
wider-opens {T} {W} is_open is_open' test {M} {M'} o f = record {
  spells = λ v a s. (s.0, s.1, s.2, o s.3, (f s.3).spells v.1 s.0 s.4);
  begins = go;
}
  where
    go : (a : List T) → (opens is_open test M).Begins a → (opens is_open' test M').Begins a
    go a (inl e) = inl e
    go a (inr s) = inr (s.0, s.1, s.2, s.3, o s.4, (f s.4).begins s.1 s.5)

-- ---- choices, and what is made of a form

pub wider-either : {T V : Type 0} {L L' M M' : Language T V} → Wider L L' → Wider M M' → Wider (L either M) (L' either M')
wider-either {T} {V} {L} {L'} {M} {M'} f g = record { spells = spells; begins = begins }
  where
    spells : (v : V) (a : List T) → (L either M).Spells v a → (L' either M').Spells v a
    spells v a (inl s) = inl (f.spells v a s)
    spells v a (inr s) = inr (g.spells v a s)

    begins : (a : List T) → (L either M).Begins a → (L' either M').Begins a
    begins a (inl s) = inl (f.begins a s)
    begins a (inr s) = inr (g.begins a s)

pub wider-made : {T V W : Type 0} (f : V → W) {L M : Language T V} → Wider L M → Wider (made f L) (made f M)
wider-made f g = record { spells = λ w a s. (s.0, s.1, g.spells s.0 a s.2); begins = g.begins }

pub wider-maybe : {T V : Type 0} {L M : Language T V} → Wider L M → Wider (maybe L) (maybe M)
wider-maybe f = wider-either (wider-made Some f) (wider-same (nothing None))

pub wider-spanned : {T V W S : Type 0} (span : List T → S) (f : S → V → W) {L M : Language T V} → Wider L M
    → Wider (spanned span f L) (spanned span f M)
wider-spanned span f g = record { spells = λ w a s. (s.0, s.1, g.spells s.0 a s.2); begins = g.begins }

-- without a limit is wider than with one
pub wider-unlimited : {T V : Type 0} {L : Language T V} {M : ℕ → Language T V} (n : ℕ) → Wider L (M n) → Wider L (unlimited M)
wider-unlimited n f = record { spells = λ v a s. (n, f.spells v a s); begins = λ a s. (n, f.begins a s) }

-- ---- chains

-- where a left operand fits, it fits in the wider form too
module _ {T V O : Type 0} (fits fits' : V → Bool) (join : V → O → V) {S S' : Language T O}
    (loose : (v : V) → fits v ≡ true → fits' v ≡ true) (g : Wider S S') where
  wider_follows : (n : ℕ) (left v : V) (a : List T) → Follows fits join S n left v a → Follows fits' join S' n left v a
  wider_follows zero left v a s = s
  wider_follows (suc n) left v a s =
      (s.0, s.1, s.2, s.3, loose left s.4, g.spells s.0 s.1 s.5, wider_follows n (join left s.0) v s.2 s.6)

  wider_partly : (n : ℕ) (left : V) (a : List T) → FollowsPartly fits join S n left a → FollowsPartly fits' join S' n left a
  wider_partly zero left a (inl e) = inl e
  wider_partly zero left a (inr s) = inr (loose left s.0, g.begins a s.1)
  wider_partly (suc n) left a s =
      (s.0, s.1, s.2, s.3, loose left s.4, g.spells s.0 s.1 s.5, wider_partly n (join left s.0) s.2 s.6)

  module _ {L L' : Language T V} (f : Wider L L') where
    wider_chain_begins : (a : List T) → (chain fits join S L).Begins a → (chain fits' join S' L').Begins a
    wider_chain_begins a (inl bg) = inl (f.begins a bg)
    wider_chain_begins a (inr s) = inr (s.0, s.1, s.2, s.3, s.4, f.spells s.0 s.2 s.5, wider_partly s.1 s.0 s.3 s.6)

    pub wider-chain : Wider (chain fits join S L) (chain fits' join S' L')
    wider-chain = record {
      spells = λ v a s. (s.0, s.1, s.2, s.3, s.4, f.spells s.0 s.2 s.5, wider_follows s.1 s.0 v s.3 s.6);
      begins = wider_chain_begins;
    }

-- ---- a body, and what may follow it

-- where a body may be followed, it may be followed in the wider form too
module _ {T V W : Type 0} (is_closed is_closed' : V → Bool) {B B' : Language T V} {M M' : Language T W}
    (loose : (v : V) → is_closed v ≡ true → is_closed' v ≡ true) (f : Wider B B') (g : Wider M M') where
  wider_dangles : (v : V) (w : Option W) (a : List T) → Dangles is_closed B M v w a → Dangles is_closed' B' M' v w a
  wider_dangles v None a s = f.spells v a s
  wider_dangles v (Some w) a s = (s.0, s.1, s.2, loose v s.3, f.spells v s.0 s.4, g.spells w s.1 s.5)

  wider_dangling_begins : (a : List T) → (dangling is_closed B M).Begins a → (dangling is_closed' B' M').Begins a
  wider_dangling_begins a (inl bg) = inl (f.begins a bg)
  wider_dangling_begins a (inr s) = inr (s.0, s.1, s.2, s.3, loose s.0 s.4, f.spells s.0 s.1 s.5, g.begins s.2 s.6)

  pub wider-dangling : Wider (dangling is_closed B M) (dangling is_closed' B' M')
  wider-dangling = record { spells = λ v a s. wider_dangles v.0 v.1 a s; begins = wider_dangling_begins }
