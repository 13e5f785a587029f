-- What the parser of a chain takes is spelled: a first value, and any number of steps after it.
use Rattle.std.proofs.Common.{◌≡◌, ℕ, zero, suc, List, [], ◌∷◌, ◌++◌, length, Bool, true, false, inl, inr, refl, append_assoc}
use Rattle.std.specs.Prelude.{cond}
use Rattle.asm_grammar.specs.Language.{Language, Follows, FollowsPartly, chain}
use Rattle.asm_grammar.specs.Parser.{Reply, Took, Refused, Parser, and_then, ◌>>=◌, guard, climb, chained}
use Rattle.asm_grammar.proofs.Exact.{SoundAt, Sound}
use Rattle.asm_grammar.proofs.Pairs.{regroup}

-- what follows a left operand
abbrev pub after : {T V O : Type 0} → (V → Bool) → (V → O → V) → Language T O → V → Language T V
after fits join step left = record {
  Spells = λ v ts. (n : ℕ) × Follows fits join step n left v ts;
  Begins = λ ts. (n : ℕ) × FollowsPartly fits join step n left ts;
}

abbrev pub always : {V : Type 0} → V → Bool
always v = true

-- ---- the steps

module _ {T V O : Type 0} (fits : V → Bool) (join : V → O → V) (test : T → Bool) {step : Parser T O} {S S' : Language T O}
    (s : Sound step S S') (starts : (t : T) → test t ≡ true → S'.Begins (t ∷ [])) where
  -- in the wider language each left operand fits
  abbrev wide : V → Language T V
  wide left = after always join S' left

  abbrev narrow : V → Language T V
  narrow left = after fits join S left

  climb_went : (left : V) (o : O) (ts a rest : List T) → ts ≡ a ++ rest → fits left ≡ true → S.Spells o a → (r : Reply T V)
      → SoundAt (narrow (join left o)) (wide (join left o)) rest r → SoundAt (narrow left) (wide left) ts r
  climb_went left o ts a rest e f sp (Took v rest') h =
      (a ++ h.0, regroup ts a rest h.0 rest' e h.1, (suc h.2.0, (o, a, h.0, refl, f, sp, h.2.1)))
  climb_went left o ts a rest e f sp (Refused false rest') h =
      (a ++ h.0, regroup ts a rest h.0 rest' e h.1, (suc h.2.0, (o, a, h.0, refl, f, sp, h.2.1)))
  climb_went left o ts a rest e f sp (Refused true rest') h = (
    a ++ h.0,
    h.1,
    h.2,
    h.3,
    regroup ts a rest h.0 rest' e h.4,
    (suc h.5.0, (o, a, h.0, refl, f, sp, h.5.1)),
    (suc h.6.0, (o, a, h.0 ++ h.1 ∷ [], append_assoc a h.0 (h.1 ∷ []), refl, s.wider o a sp, h.6.1)),
  )

  -- `next` climbs on from a left operand
  module _ (left : V) (next : V → Parser T V) (ih : (o : V) (rest : List T) → SoundAt (narrow o) (wide o) rest (next o rest)) where
    climb_step : (ts : List T) → fits left ≡ true → (r : Reply T O) → SoundAt S S' ts r
        → SoundAt (narrow left) (wide left) ts (and_then r (λ o. next (join left o)))
    climb_step ts f (Took o rest) h = climb_went left o ts h.0 rest h.1 f h.2 (next (join left o) rest) (ih (join left o) rest)
    climb_step ts f (Refused false rest) h = (h.0, h.1, (0, inr (f, h.2)))
    climb_step ts f (Refused true rest) h = (h.0, h.1, h.2, h.3, h.4, (0, inr (f, h.5)), (0, inr (refl, h.6)))

    climb_test : (t : T) (ts : List T) → (x : Bool) → test t ≡ x → (y : Bool) → fits left ≡ y
        → SoundAt (narrow left) (wide left) (t ∷ ts)
        (cond x (and_then (guard y (t ∷ ts)) (λ done. step >>= (λ o. next (join left o)))) (Took left (t ∷ ts)))
    climb_test t ts false i y j = ([], refl, (0, (refl, refl)))
    climb_test t ts true i false j = ([], t, ts, refl, refl, (0, inl refl), (0, inr (refl, starts t i)))
    climb_test t ts true i true j = climb_step (t ∷ ts) j (step (t ∷ ts)) (s.at (t ∷ ts))

  climb_at : (n : ℕ) (left : V) (ts : List T) → SoundAt (narrow left) (wide left) ts (climb fits join test step n left ts)
  climb_at zero left ts = ([], refl, (0, (refl, refl)))
  climb_at (suc n) left [] = ([], refl, (0, (refl, refl)))
  climb_at (suc n) left (t ∷ ts) = climb_test left (climb fits join test step n) (climb_at n) t ts (test t) refl (fits left) refl

  wider_follows : (n : ℕ) (left v : V) (a : List T) → Follows fits join S n left v a → Follows always join S' n left v a
  wider_follows zero left v a h = h
  wider_follows (suc n) left v a h = (h.0, h.1, h.2, h.3, refl, s.wider h.0 h.1 h.5, wider_follows n (join left h.0) v h.2 h.6)

-- ---- the whole chain

-- what the steps read after the reply of the first parser
abbrev pub with_steps : {T V O : Type 0} → (V → Bool) → (V → O → V) → (T → Bool) → Parser T O → Reply T V → Reply T V
with_steps fits join test step r = and_then r (λ v rest. climb fits join test step (length rest) v rest)

module _ {T V O : Type 0} (fits : V → Bool) (join : V → O → V) (test : T → Bool) {p : Parser T V} {step : Parser T O}
    {L M : Language T V} {S S' : Language T O} (s : Sound p L M) (s' : Sound step S S')
    (starts : (t : T) → test t ≡ true → S'.Begins (t ∷ [])) where
  abbrev narrow_chain : Language T V
  narrow_chain = chain fits join S L

  abbrev wide_chain : Language T V
  wide_chain = chain always join S' M

  chain_took : (ts : List T) (v : V) (a rest : List T) → ts ≡ a ++ rest → L.Spells v a → (r : Reply T V)
      → SoundAt (after fits join S v) (after always join S' v) rest r → SoundAt narrow_chain wide_chain ts r
  chain_took ts v a rest e sp (Took w rest') h = (a ++ h.0, regroup ts a rest h.0 rest' e h.1, (v, h.2.0, a, h.0, refl, sp, h.2.1))
  chain_took ts v a rest e sp (Refused false rest') h =
      (a ++ h.0, regroup ts a rest h.0 rest' e h.1, inr (v, h.2.0, a, h.0, refl, sp, h.2.1))
  chain_took ts v a rest e sp (Refused true rest') h = (
    a ++ h.0,
    h.1,
    h.2,
    h.3,
    regroup ts a rest h.0 rest' e h.4,
    inr (v, h.5.0, a, h.0, refl, sp, h.5.1),
    inr (v, h.6.0, a, h.0 ++ h.1 ∷ [], append_assoc a h.0 (h.1 ∷ []), s.wider v a sp, h.6.1),
  )

  chain_at : (ts : List T) (r : Reply T V) → SoundAt L M ts r → SoundAt narrow_chain wide_chain ts (with_steps fits join test step r)
  chain_at ts (Took v rest) h =
      chain_took ts v h.0 rest h.1 h.2
      (climb fits join test step (length rest) v rest) (climb_at fits join test s' starts (length rest) v rest)
  chain_at ts (Refused false rest) h = (h.0, h.1, inl h.2)
  chain_at ts (Refused true rest) h = (h.0, h.1, h.2, h.3, h.4, inl h.5, inl h.6)

  pub sound-chain : Sound (chained fits join test step p) narrow_chain wide_chain
  sound-chain = record {
    at = λ ts. chain_at ts (p ts) (s.at ts);
    wider = λ v ts h.
        (h.0, h.1, h.2, h.3, h.4, s.wider h.0 h.2 h.5, wider_follows fits join test s' starts h.1 h.0 v h.3 h.6);
  }
