-- What each form of term gives, of the forms without operations.
use Rattle.std.proofs.Common.{◌≡◌, ℕ, true, false, if◌then◌else◌, None, List, [], ◌∷◌, ◌++◌, map}
use Rattle.std.proofs.Common.{slice_get, unwrap_or, ap, ◌∙◌, rules}
use Rattle.asm_value.specs.declared.value.Value.{Value}
use Rattle.asm_value.specs.declared.value.Value.TheVariants.{Undef}
use Rattle.asm_value.specs.declared.domain.Domain.{Domain}
use Rattle.asm_value.specs.Living.{is_true}
use Rattle.asm_value.specs.State.{StateMap}
use Rattle.asm_program.specs.declared.outcome.Outcome.TheVariants as outcome
use Rattle.asm_program.specs.declared.trees.Term.{Term}
use Rattle.asm_program.specs.declared.trees.Case.{Case}
use Rattle.asm_program.specs.declared.trees.Term.TheOpen.{Term-F, Case-F}
use Rattle.asm_program.specs.declared.trees.Term.TheFolds.{fold-Case, fold_out-Term, fold_out-Case}
use Rattle.asm_program.specs.declared.trees.Term.TheFolds.{map-Term}
use Rattle.asm_program.specs.declared.trees.Term.TheVariants as form
use Rattle.asm_program.specs.declared.trees.Term.TheViews.{out-Term, out-Case, roll-Case}
use Rattle.asm_program.specs.declared.trees.Term.TheViews.{the_lemmas}
use Rattle.asm_program.specs.declared.program.Program.{Program}
use Rattle.asm_program.specs.Forms.{of_term, case_pair}
use Rattle.asm_program.specs.Meaning.{Meaning, eval_level, values, eval, on_value, bind_all, truth}
use Rattle.asm_program.specs.Meaning.{undefined, is_false, conjunction, implication, for_all}
use Rattle.asm_program.specs.Meaning.{for_one, first_case, read, over}

module _ {X : Type 0} (level : (ℕ → X) → Term-F X (X × X) → X) (calls : ℕ → X) where
  abbrev term_level : Term-F Term Case → X
  term_level a =
      level calls (map-Term Term Case X (X × X) (of_term level calls)
      (λ c. (of_term level calls (out-Case c).value, of_term level calls (out-Case c).term)) a)

  case_out : (c : Case) → fold-Case X (X × X) (level calls) case_pair c
      ≡ (of_term level calls (out-Case c).value, of_term level calls (out-Case c).term)
  unfolding of_term
  case_out c = fold_out-Case X (X × X) (level calls) case_pair c

  of_term-out : (t : Term) (a : Term-F Term Case) → out-Term t ≡ a
      → of_term level calls t ≡ term_level a
  unfolding of_term
  of_term-out t a e =
      fold_out-Term X (X × X) (level calls) case_pair t
      ∙ (λ i. level calls (map-Term Term Case X (X × X) (of_term level calls) (λ c. case_out c i)
      (e i)))

module _ (p : Program) (state : StateMap) where
  -- one level, with the meaning of each part in its place
  abbrev level : Term-F Term Case → Meaning
  level a =
      eval_level p state (values p state 512)
      (map-Term Term Case Meaning (Meaning × Meaning) (eval p state)
      (λ c. (eval p state (out-Case c).value, eval p state (out-Case c).term)) a)

  at_level : (t : Term) (a : Term-F Term Case) → out-Term t ≡ a → (env : List Value)
      → eval p state t env ≡ level a env
  unfolding eval
  at_level t a e env = ap (λ m. m env) (of_term-out (eval_level p state) (values p state 512) t a e)

  pub eval-Constant : (v : Value) (env : List Value) → eval p state (form.Constant v) env
      ≡ outcome.Value v
  eval-Constant v env =
      at_level (form.Constant v) (Term-F.Constant v) (search (rules, the_lemmas)) env

  pub eval-Variable : (i : ℕ) (env : List Value)
      → eval p state (form.Variable i) env ≡ outcome.Value (unwrap_or (slice_get env i) Undef)
  eval-Variable i env =
      at_level (form.Variable i) (Term-F.Variable i) (search (rules, the_lemmas)) env

  pub eval-And : (left right : Term) (env : List Value) → eval p state (form.And left right) env
      ≡ on_value (eval p state left env) (λ v. if is_false v then truth false
      else on_value (eval p state right env) (conjunction v))
  eval-And left right env =
      at_level (form.And left right) (Term-F.And left right) (search (rules, the_lemmas)) env

  pub eval-Implies : (left right : Term) (env : List Value)
      → eval p state (form.Implies left right) env
      ≡ on_value (eval p state left env) (λ v. if is_false v then truth true
      else on_value (eval p state right env) (implication v))
  eval-Implies left right env =
      at_level (form.Implies left right) (Term-F.Implies left right)
      (search (rules, the_lemmas)) env

  pub eval-Read : (f : ℕ) (env : List Value)
      → eval p state (form.Read f []) env ≡ outcome.Value (read p state f [])
  eval-Read f env = at_level (form.Read f []) (Term-F.Read f []) (search (rules, the_lemmas)) env

  pub eval-If : (guard first : Term) (env : List Value) → eval p state
      (form.If guard first None) env
      ≡ on_value (eval p state guard env) (λ v. if is_true v then eval p state first env
      else undefined)
  eval-If guard first env =
      at_level (form.If guard first None) (Term-F.If guard first None)
      (search (rules, the_lemmas)) env

  pub eval-Let : (ts : List Term) (body : Term) (env : List Value)
      → eval p state (form.Let ts body) env
      ≡ bind_all (map (eval p state) ts) env (eval p state body)
  eval-Let ts body env =
      at_level (form.Let ts body) (Term-F.Let ts body) (search (rules, the_lemmas)) env

  pub eval-Switch : (value case_value case_term : Term) (env : List Value)
      → eval p state (form.Switch value (roll-Case (record
      { value = case_value; term = case_term }) ∷ []) None) env
      ≡ on_value (eval p state value env) (λ v. first_case v
      ((eval p state case_value, eval p state case_term) ∷ []) None env)
  eval-Switch value case_value case_term env =
      let c = roll-Case (record { value = case_value; term = case_term }) in
      at_level (form.Switch value (c ∷ []) None) (Term-F.Switch value (c ∷ []) None)
      (search (rules, the_lemmas)) env
      ∙ ap (λ (q : Case-F Term Case). on_value (eval p state value env)
      (λ v. first_case v ((eval p state q.value, eval p state q.term) ∷ []) None env))
      (opened case_value case_term)
    where
      opened : (v t : Term) → out-Case (roll-Case (record { value = v; term = t }))
          ≡ record { value = v; term = t }
      opened v t = search (rules, the_lemmas)

  pub eval-Forall : (ranges : List Domain) (body : Term) (env : List Value)
      → eval p state (form.Forall ranges body) env
      ≡ for_all (over p state ranges) (λ c. eval p state body (env ++ c))
  eval-Forall ranges body env =
      at_level (form.Forall ranges body) (Term-F.Forall ranges body)
      (search (rules, the_lemmas)) env

  pub eval-ExistUnique : (ranges : List Domain) (body : Term) (env : List Value)
      → eval p state (form.ExistUnique ranges body) env
      ≡ for_one false (over p state ranges) (λ c. eval p state body (env ++ c))
  eval-ExistUnique ranges body env =
      at_level (form.ExistUnique ranges body) (Term-F.ExistUnique ranges body)
      (search (rules, the_lemmas)) env
