-- What a set of updates came of: none of the steps to it was a fault.
use Rattle.std.proofs.Common.{◌≡◌, ℕ, Bool, true, false, not, if◌then◌else◌, List, refl}
use Rattle.std.specs.Prelude.{nat_le}
use Rattle.asm_value.specs.declared.value.Value.{Value}
use Rattle.asm_value.specs.State.{set_weight}
use Rattle.asm_value.specs.UpdateSet.{UpdateSet}
use Rattle.asm_syntax.specs.declared.token.Span.{Span}
use Rattle.asm_program.specs.declared.outcome.Fault.{Fault}
use Rattle.asm_program.specs.declared.outcome.FaultKind.TheVariants as kind
use Rattle.asm_program.specs.declared.outcome.Outcome.{Outcome}
use Rattle.asm_program.specs.declared.outcome.Outcome.TheVariants as outcome
use Rattle.asm_program.specs.declared.outcome.Parts.{Parts}
use Rattle.asm_program.specs.declared.outcome.Parts.TheVariants as parts
use Rattle.asm_program.specs.Yields.{Yielded, Yields, Stops, on_set, on_term, on_terms, limited}
use Rattle.asm_program.specs.Yields.{Satisfying, Found, Faulted, on_found}

pub same_set : (v u : UpdateSet) (later after : List ℕ) → Yields v later ≡ Yields u after → v ≡ u
same_set v u later after e = cc

pub same_next : (v u : UpdateSet) (later after : List ℕ) → Yields v later ≡ Yields u after
    → later ≡ after
same_next v u later after e = cc

no_fault : {A : Type 0} (f : Fault) (u : UpdateSet) (after : List ℕ) → Stops f ≡ Yields u after → A
no_fault f u after e = absurd (cc)

module _ (u : UpdateSet) (after : List ℕ) where
  pub set_of : (y : Yielded) (k : UpdateSet → List ℕ → Yielded) → on_set y k ≡ Yields u after
      → (v : UpdateSet) × (later : List ℕ) × (y ≡ Yields v later) × (k v later ≡ Yields u after)
  set_of (Yields v later) k e = (v, later, refl, e)
  set_of (Stops f) k e = no_fault f u after e

  pub term_of : (o : Outcome) (k : Value → Yielded) → on_term o k ≡ Yields u after
      → (v : Value) × (o ≡ outcome.Value v) × (k v ≡ Yields u after)
  term_of (outcome.Value v) k e = (v, refl, e)
  term_of (outcome.Fault f) k e = no_fault f u after e

  pub terms_of : (o : Parts) (k : List Value → Yielded) → on_terms o k ≡ Yields u after
      → (vs : List Value) × (o ≡ parts.Values vs) × (k vs ≡ Yields u after)
  terms_of (parts.Values vs) k e = (vs, refl, e)
  terms_of (parts.Fault f) k e = no_fault f u after e

  pub found_of : (o : Satisfying) (k : List (List Value) → Yielded) → on_found o k ≡ Yields u after
      → (cs : List (List Value)) × (o ≡ Found cs) × (k cs ≡ Yields u after)
  found_of (Found cs) k e = (cs, refl, e)
  found_of (Faulted f) k e = no_fault f u after e

  pub if_of : (b : Bool) (y : Yielded) (f : Fault) → (if b then y else Stops f) ≡ Yields u after
      → (b ≡ true) × (y ≡ Yields u after)
  if_of true y f e = (refl, e)
  if_of false y f e = no_fault f u after e

  pub unless_of : (b : Bool) (y : Yielded) (f : Fault) → (if not b then Stops f else y)
      ≡ Yields u after
      → (b ≡ true) × (y ≡ Yields u after)
  unless_of true y f e = (refl, e)
  unless_of false y f e = no_fault f u after e

  pub limited_of : (span : Span) (s : UpdateSet) (later : List ℕ)
      → limited span s later ≡ Yields u after
      → Yields s later ≡ Yields u after
  limited_of span s later e = (if_of (nat_le (set_weight s) 131072) (Yields s later) _ e).1

  pub limited_on : (span : Span) (s : UpdateSet) (later : List ℕ) (k : UpdateSet → List ℕ → Yielded)
      → on_set (limited span s later) k ≡ Yields u after → k s later ≡ Yields u after
  limited_on span s later k e = by_test (nat_le (set_weight s) 131072) e
    where
      by_test : (b : Bool) → on_set (if b then Yields s later
          else Stops (record { kind = kind.UpdatesTooLarge; span = span })) k ≡ Yields u after
          → k s later ≡ Yields u after
      by_test true h = h
      by_test false h = no_fault _ u after h
