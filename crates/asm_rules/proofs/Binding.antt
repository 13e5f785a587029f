-- Variables that are bound one after another.
use Rattle.std.proofs.Common.{◌≡◌, ℕ, ◌+◌, ◌<◌, ◌≤◌, List, [], ◌∷◌, ◌++◌, take, drop, length, get_or, sym, ap, ◌∙◌, arith}
use Rattle.std.proofs.lemmas.List.{drop_more, drop_all, length-take, take-append-le}
use Rattle.asm_value.specs.declared.value.Value.{Value}
use Rattle.asm_program.specs.declared.outcome.Fault.{Fault}
use Rattle.asm_program.specs.declared.outcome.Outcome.{Outcome}
use Rattle.asm_program.specs.declared.outcome.Outcome.TheVariants as outcome
use Rattle.asm_program.specs.declared.trees.Term.{Term}
use Rattle.asm_program.specs.Yields.{Yielded, Stops, on_term, bind_all}

module _ (gives : Term → List Value → Outcome) where
  -- one more term, which gives a value
  pub bind_all-value : (ts : List Term) (i : ℕ) (d : Term) (env : List Value) (v : Value) (go : List Value → Yielded)
      → i < length ts → outcome.Value v ≡ gives (get_or ts i d) env
      → bind_all gives (drop (i + 1) ts) (env ++ v ∷ []) go ≡ bind_all gives (drop i ts) env go
  bind_all-value ts i d env v go h e =
      sym (ap (λ us. bind_all gives us env go) (drop_more ts i d h)
      ∙ ap (λ o. on_term o (λ w. bind_all gives (drop (i + 1) ts) (env ++ w ∷ []) go)) (sym e))

  -- one more term, which faults
  pub bind_all-fault : (ts : List Term) (i : ℕ) (d : Term) (env : List Value) (f : Fault) (go : List Value → Yielded)
      → i < length ts → outcome.Fault f ≡ gives (get_or ts i d) env
      → bind_all gives (drop i ts) env go ≡ Stops f
  bind_all-fault ts i d env f go h e =
      ap (λ us. bind_all gives us env go) (drop_more ts i d h)
      ∙ ap (λ o. on_term o (λ w. bind_all gives (drop (i + 1) ts) (env ++ w ∷ []) go)) (sym e)

  pub bind_all-end : (ts : List Term) (i : ℕ) (env : List Value) (go : List Value → Yielded)
      → length ts ≤ i → bind_all gives (drop i ts) env go ≡ go env
  bind_all-end ts i env go h = ap (λ us. bind_all gives us env go) (drop_all i ts h)

-- one more item leaves the first ones as they are
pub take-push : (xs ys : List Value) (v : Value) → take (length xs) ys ≡ xs → take (length xs) (ys ++ v ∷ []) ≡ xs
take-push xs ys v e =
    let long : length xs ≤ length ys = omega (arith, ap length e, length-take (length xs) ys) in
    take-append-le (length xs) ys (v ∷ []) long ∙ e
