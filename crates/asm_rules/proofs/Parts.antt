-- Values from left to right.
use Rattle.std.proofs.Common.{◌≡◌, ℕ, ◌+◌, ◌<◌, List, [], ◌∷◌, ◌++◌, map, drop, length, get_or, refl, sym, ap, ◌∙◌, append_assoc}
use Rattle.std.proofs.lemmas.List.{drop_more}
use Rattle.asm_value.specs.declared.value.Value.{Value}
use Rattle.asm_program.specs.declared.outcome.Fault.{Fault}
use Rattle.asm_program.specs.declared.outcome.Outcome.TheVariants as outcome
use Rattle.asm_program.specs.declared.outcome.Parts.{Parts}
use Rattle.asm_program.specs.declared.outcome.Parts.TheVariants as parts
use Rattle.asm_program.specs.declared.trees.Term.{Term}
use Rattle.asm_program.specs.Meaning.{Meaning, add_value, then_parts, all_of}
use Rattle.asm_rules.specs.Outcomes.{preceded}

pub preceded-none : (r : Parts) → preceded [] r ≡ r
preceded-none (parts.Values ws) = refl
preceded-none (parts.Fault e) = refl

preceded-add : (vs : List Value) (v : Value) (r : Parts) → preceded vs (add_value v r) ≡ preceded (vs ++ v ∷ []) r
preceded-add vs v (parts.Values ws) = ap (λ us. parts.Values us) (sym (append_assoc vs (v ∷ []) ws))
preceded-add vs v (parts.Fault e) = refl

module _ (m : Term → Meaning) (env : List Value) where
  -- one more part, which gives a value
  pub all_of-value : (ts : List Term) (i : ℕ) (d : Term) (vs : List Value) (v : Value) → i < length ts
      → outcome.Value v ≡ m (get_or ts i d) env
      → preceded (vs ++ v ∷ []) (all_of (map m (drop (i + 1) ts)) env) ≡ preceded vs (all_of (map m (drop i ts)) env)
  all_of-value ts i d vs v h e =
      sym (ap (λ us. preceded vs (all_of (map m us) env)) (drop_more ts i d h)
      ∙ ap (λ o. preceded vs (then_parts o (all_of (map m (drop (i + 1) ts)) env))) (sym e)
      ∙ preceded-add vs v (all_of (map m (drop (i + 1) ts)) env))

  -- one more part, which faults
  pub all_of-fault : (ts : List Term) (i : ℕ) (d : Term) (vs : List Value) (f : Fault) → i < length ts
      → outcome.Fault f ≡ m (get_or ts i d) env
      → parts.Fault f ≡ preceded vs (all_of (map m (drop i ts)) env)
  all_of-fault ts i d vs f h e =
      sym (ap (λ us. preceded vs (all_of (map m us) env)) (drop_more ts i d h)
      ∙ ap (λ o. preceded vs (then_parts o (all_of (map m (drop (i + 1) ts)) env))) (sym e))

pub ruleset value_steps = (all_of-value, all_of-fault, preceded-none)
