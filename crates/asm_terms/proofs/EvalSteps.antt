-- One more part, case, variable or combination.
use Rattle.std.proofs.Common.{◌≡◌, ℕ, ◌+◌, ◌<◌, Bool, true, false, cond, List, [], ◌∷◌, ◌++◌, map}
use Rattle.std.proofs.Common.{drop, length, get_or, Option, refl, sym, ap, ◌∙◌}
use Rattle.std.proofs.Common.{append_assoc}
use Rattle.std.proofs.lemmas.List.{append-nil, drop_more}
use Rattle.asm_value.specs.declared.value.Value.{Value}
use Rattle.asm_value.specs.Living.{is_true}
use Rattle.asm_value.specs.Ranges.{tuples, put_first, each_first}
use Rattle.asm_program.specs.declared.outcome.Fault.{Fault}
use Rattle.asm_program.specs.declared.outcome.Outcome.{Outcome}
use Rattle.asm_program.specs.declared.outcome.Outcome.TheVariants.{Value as Gives, Fault as Faults}
use Rattle.asm_program.specs.declared.outcome.Parts.{Parts}
use Rattle.asm_program.specs.declared.outcome.Parts.TheVariants as parts
use Rattle.asm_program.specs.declared.trees.Term.{Term}
use Rattle.asm_program.specs.declared.trees.Case.{Case}
use Rattle.asm_program.specs.Meaning.{Meaning, add_value, then_parts, all_of, on_value, bind_all}
use Rattle.asm_program.specs.Meaning.{truth, is_same, for_all, for_some, for_one}
use Rattle.asm_terms.specs.declared.quantifier.Quantifier.{Quantifier}
use Rattle.asm_terms.specs.declared.quantifier.Quantifier.TheVariants.{Forall, Exist, ExistUnique}
use Rattle.asm_terms.specs.declared.quantifier.Progress.{Progress}
use Rattle.asm_terms.specs.declared.quantifier.Progress.TheVariants.{GoesOn, Ends}
use Rattle.asm_terms.specs.declared.view.View.{View}
use Rattle.asm_terms.specs.Evaluation.{gives, case_gives, cases_give, walks}
use Rattle.asm_terms.proofs.EvalLaws.{case_gives-out}
use Rattle.asm_terms.specs.Quantifiers.{step, on_progress, walked, finished, quantified}

-- ---- several terms

-- these values, and then the parts
abbrev pub preceded : List Value → Parts → Parts
preceded vs (parts.Values ws) = parts.Values (vs ++ ws)
preceded vs (parts.Fault e) = parts.Fault e

pub preceded-none : (r : Parts) → preceded [] r ≡ r
preceded-none (parts.Values ws) = refl
preceded-none (parts.Fault e) = refl

preceded-add : (vs : List Value) (v : Value) (r : Parts)
    → preceded vs (add_value v r) ≡ preceded (vs ++ v ∷ []) r
preceded-add vs v (parts.Values ws) =
    ap (λ us. parts.Values us) (sym (append_assoc vs (v ∷ []) ws))
preceded-add vs v (parts.Fault e) = refl

module _ (m : Term → Meaning) where
  -- one more part, which gives a value
  pub all_of-value : (env : List Value) (ts : List Term) (i : ℕ) (d : Term) (vs : List Value)
      (v : Value)
      → i < length ts → Gives v ≡ m (get_or ts i d) env
      → preceded (vs ++ v ∷ []) (all_of (map m (drop (i + 1) ts)) env)
      ≡ preceded vs (all_of (map m (drop i ts)) env)
  all_of-value env ts i d vs v h e =
      sym (ap (λ us. preceded vs (all_of (map m us) env)) (drop_more ts i d h)
      ∙ ap (λ o. preceded vs (then_parts o (all_of (map m (drop (i + 1) ts)) env))) (sym e)
      ∙ preceded-add vs v (all_of (map m (drop (i + 1) ts)) env))

  -- one more part, which faults
  pub all_of-fault : (env : List Value) (ts : List Term) (i : ℕ) (d : Term) (vs : List Value)
      (f : Fault)
      → i < length ts → Faults f ≡ m (get_or ts i d) env
      → parts.Fault f ≡ preceded vs (all_of (map m (drop i ts)) env)
  all_of-fault env ts i d vs f h e =
      sym (ap (λ us. preceded vs (all_of (map m us) env)) (drop_more ts i d h)
      ∙ ap (λ o. preceded vs (then_parts o (all_of (map m (drop (i + 1) ts)) env))) (sym e))

  -- one more variable
  pub bind-value : (env : List Value) (ts : List Term) (i : ℕ) (d : Term) (v : Value)
      (go : List Value → Outcome)
      → i < length ts → Gives v ≡ m (get_or ts i d) env
      → bind_all (map m (drop (i + 1) ts)) (env ++ v ∷ []) go
      ≡ bind_all (map m (drop i ts)) env go
  bind-value env ts i d v go h e =
      sym (ap (λ us. bind_all (map m us) env go) (drop_more ts i d h)
      ∙ ap (λ o. on_value o (λ w. bind_all (map m (drop (i + 1) ts)) (env ++ w ∷ []) go)) (sym e))

  pub bind-fault : (env : List Value) (ts : List Term) (i : ℕ) (d : Term) (f : Fault)
      (go : List Value → Outcome)
      → i < length ts → Faults f ≡ m (get_or ts i d) env
      → bind_all (map m (drop i ts)) env go ≡ Faults f
  bind-fault env ts i d f go h e =
      ap (λ us. bind_all (map m us) env go) (drop_more ts i d h)
      ∙ ap (λ o. on_value o (λ w. bind_all (map m (drop (i + 1) ts)) (env ++ w ∷ []) go)) (sym e)

-- ---- combinations

on_progress-twice : (p : Progress) (f g : Bool → Progress)
    → on_progress (on_progress p f) g ≡ on_progress p (λ b. on_progress (f b) g)
on_progress-twice (GoesOn found) f g = refl
on_progress-twice (Ends o) f g = refl

pub on_progress-only : (p : Progress) → on_progress p (λ b. GoesOn b) ≡ p
on_progress-only (GoesOn found) = refl
on_progress-only (Ends o) = refl

module _ (q : Quantifier) (body : List Value → Outcome) where
  pub walked-append : (found : Bool) (xs ys : List (List Value))
      → walked q found (xs ++ ys) body
      ≡ on_progress (walked q found xs body) (λ later. walked q later ys body)
  walked-append found [] ys = refl
  walked-append found (c ∷ cs) ys =
      (λ i. on_progress (step q found (body c)) (λ later. walked-append later cs ys i))
      ∙ sym (on_progress-twice (step q found (body c)) (λ later. walked q later cs body)
      (λ later. walked q later ys body))

  pub walked-put_first : (found : Bool) (x : Value) (cs : List (List Value))
      → walked q found (put_first x cs) body ≡ walked q found cs (λ c. body (x ∷ c))
  walked-put_first found x [] = refl
  walked-put_first found x (c ∷ cs) =
      λ i. on_progress (step q found (body (x ∷ c))) (λ later. walked-put_first later x cs i)

  -- the combinations that begin with one more member
  pub walked-member : (found : Bool) (xs : List Value) (i : ℕ) (d : Value)
      (cs : List (List Value))
      → i < length xs
      → walked q found (each_first (drop i xs) cs) body
      ≡ on_progress (walked q found (put_first (get_or xs i d) cs) body)
      (λ later. walked q later (each_first (drop (i + 1) xs) cs) body)
  walked-member found xs i d cs h =
      ap (λ us. walked q found (each_first us cs) body) (drop_more xs i d h)
      ∙ walked-append found (put_first (get_or xs i d) cs) (each_first (drop (i + 1) xs) cs)

-- with one more variable for the first of each combination
pub walked-with : (q : Quantifier) (m : Meaning) (env : List Value) (found : Bool) (x : Value)
    (cs : List (List Value))
    → walked q found cs (λ c. m ((env ++ x ∷ []) ++ c))
    ≡ walked q found (put_first x cs) (λ c. m (env ++ c))
walked-with q m env found x cs =
    (λ i. walked q found cs (λ c. m (append_assoc env (x ∷ []) c i)))
    ∙ sym (walked-put_first q (λ c. m (env ++ c)) found x cs)

-- no range at all has one combination, of nothing
pub walked-none : (q : Quantifier) (m : Meaning) (env : List Value) (found : Bool)
    → walked q found (tuples []) (λ c. m (env ++ c)) ≡ step q found (m env)
walked-none q m env found =
    on_progress-only (step q found (m (env ++ []))) ∙ ap (λ e. step q found (m e)) (append-nil env)

on_value-both : (o : Outcome) (f g : Value → Outcome) → ((v : Value) → f v ≡ g v)
    → on_value o f ≡ on_value o g
on_value-both o f g h = λ i. on_value o (λ v. h v i)

module _ (body : List Value → Outcome) where
  all-step : (found : Bool) (o : Outcome) (cs : List (List Value))
      → ((b : Bool) → finished Forall (walked Forall b cs body) ≡ for_all cs body)
      → finished Forall (on_progress (step Forall found o) (λ b. walked Forall b cs body))
      ≡ on_value o (λ v. cond (is_true v) (for_all cs body) (truth false))
  all-step found (Gives v) cs h =
      elim (is_true v) as (λ t. finished Forall (on_progress
      (cond t (GoesOn found) (Ends (truth false))) (λ b. walked Forall b cs body))
      ≡ cond t (for_all cs body) (truth false)) [ true ↦ h found | false ↦ refl ]
  all-step found (Faults e) cs h = refl

  finished-all : (cs : List (List Value)) (found : Bool)
      → finished Forall (walked Forall found cs body) ≡ for_all cs body
  finished-all [] found = refl
  finished-all (c ∷ cs) found = all-step found (body c) cs (finished-all cs)

  some-step : (found : Bool) (o : Outcome) (cs : List (List Value))
      → ((b : Bool) → finished Exist (walked Exist b cs body) ≡ for_some cs body)
      → finished Exist (on_progress (step Exist found o) (λ b. walked Exist b cs body))
      ≡ on_value o (λ v. cond (is_true v) (truth true) (for_some cs body))
  some-step found (Gives v) cs h =
      elim (is_true v) as (λ t. finished Exist (on_progress
      (cond t (Ends (truth true)) (GoesOn found)) (λ b. walked Exist b cs body))
      ≡ cond t (truth true) (for_some cs body)) [ true ↦ refl | false ↦ h found ]
  some-step found (Faults e) cs h = refl

  finished-some : (cs : List (List Value)) (found : Bool)
      → finished Exist (walked Exist found cs body) ≡ for_some cs body
  finished-some [] found = refl
  finished-some (c ∷ cs) found = some-step found (body c) cs (finished-some cs)

  one-true : (found : Bool) (cs : List (List Value))
      → finished ExistUnique (walked ExistUnique true cs body) ≡ for_one true cs body
      → finished ExistUnique (on_progress (cond found (Ends (truth false)) (GoesOn true))
      (λ b. walked ExistUnique b cs body))
      ≡ cond found (truth false) (for_one true cs body)
  one-true true cs h = refl
  one-true false cs h = h

  one-step : (found : Bool) (o : Outcome) (cs : List (List Value))
      → ((b : Bool) → finished ExistUnique (walked ExistUnique b cs body) ≡ for_one b cs body)
      → finished ExistUnique
      (on_progress (step ExistUnique found o) (λ b. walked ExistUnique b cs body))
      ≡ on_value o (λ v. cond (is_true v) (cond found (truth false) (for_one true cs body))
      (for_one found cs body))
  one-step found (Gives v) cs h =
      elim (is_true v) as (λ t. finished ExistUnique (on_progress
      (cond t (cond found (Ends (truth false)) (GoesOn true)) (GoesOn found))
      (λ b. walked ExistUnique b cs body))
      ≡ cond t (cond found (truth false) (for_one true cs body)) (for_one found cs body))
      [ true ↦ one-true found cs (h true) | false ↦ h found ]
  one-step found (Faults e) cs h = refl

  finished-one : (cs : List (List Value)) (found : Bool)
      → finished ExistUnique (walked ExistUnique found cs body) ≡ for_one found cs body
  finished-one [] found = refl
  finished-one (c ∷ cs) found = one-step found (body c) cs (finished-one cs)

  -- what a quantifier gives once it has gone through all combinations
  pub finished-walked : (q : Quantifier) (cs : List (List Value))
      → finished q (walked q false cs body) ≡ quantified q cs body
  finished-walked Forall cs = finished-all cs false
  finished-walked Exist cs = finished-some cs false
  finished-walked ExistUnique cs = finished-one cs false

-- ---- in a view

module _ (view : View) (v : Value) (other : Option Term) where
  case-step : (env : List Value) (cs : List Case) (i : ℕ) (d : Case) → i < length cs
      → d ≡ get_or cs i d
      → cases_give view v (drop i cs) other env
      ≡ on_value (gives view d.value env) (λ w. cond (is_same v w) (gives view d.term env)
      (cases_give view v (drop (i + 1) cs) other env))
  case-step env cs i d h is =
      ap (λ us. cases_give view v us other env) (drop_more cs i d h)
      ∙ (λ k. on_value ((case_gives view (sym is k)).0 env) (λ w. cond (is_same v w)
      ((case_gives view (sym is k)).1 env) (cases_give view v (drop (i + 1) cs) other env)))
      ∙ (λ k. on_value ((case_gives-out view d k).0 env) (λ w. cond (is_same v w)
      ((case_gives-out view d k).1 env) (cases_give view v (drop (i + 1) cs) other env)))

  pub case-fault : (env : List Value) (cs : List Case) (i : ℕ) (d : Case) (e : Fault)
      → i < length cs → d ≡ get_or cs i d → Faults e ≡ gives view d.value env
      → Faults e ≡ cases_give view v (drop i cs) other env
  case-fault env cs i d e h is at =
      sym (case-step env cs i d h is ∙ ap (λ o. on_value o (λ w. cond (is_same v w)
      (gives view d.term env) (cases_give view v (drop (i + 1) cs) other env))) (sym at))

  with_value : (env : List Value) (cs : List Case) (i : ℕ) (d : Case) (w : Value) (b : Bool)
      → i < length cs → d ≡ get_or cs i d → Gives w ≡ gives view d.value env → is_same v w ≡ b
      → cases_give view v (drop i cs) other env
      ≡ cond b (gives view d.term env) (cases_give view v (drop (i + 1) cs) other env)
  with_value env cs i d w b h is at same =
      case-step env cs i d h is ∙ ap (λ o. on_value o (λ u. cond (is_same v u)
      (gives view d.term env) (cases_give view v (drop (i + 1) cs) other env))) (sym at)
      ∙ ap (λ c. cond c (gives view d.term env) (cases_give view v (drop (i + 1) cs) other env))
      same

  pub case-found : (env : List Value) (cs : List Case) (i : ℕ) (d : Case) (w : Value)
      → i < length cs → d ≡ get_or cs i d → Gives w ≡ gives view d.value env
      → is_same v w ≡ true
      → gives view d.term env ≡ cases_give view v (drop i cs) other env
  case-found env cs i d w h is at same = sym (with_value env cs i d w true h is at same)

  pub case-passed : (env : List Value) (cs : List Case) (i : ℕ) (d : Case) (w : Value)
      → i < length cs → d ≡ get_or cs i d → Gives w ≡ gives view d.value env
      → is_same v w ≡ false
      → cases_give view v (drop (i + 1) cs) other env ≡ cases_give view v (drop i cs) other env
  case-passed env cs i d w h is at same = sym (with_value env cs i d w false h is at same)

module _ (view : View) (q : Quantifier) (body : Term) where
  walks-step : (env : List Value) (found : Bool) (xs : List Value) (i : ℕ) (x : Value)
      (cs : List (List Value))
      → i < length xs → x ≡ get_or xs i x
      → walks view q found (each_first (drop i xs) cs) body env
      ≡ on_progress (walks view q found (put_first x cs) body env)
      (λ later. walks view q later (each_first (drop (i + 1) xs) cs) body env)
  walks-step env found xs i x cs h is =
      walked-member q (λ c. gives view body (env ++ c)) found xs i x cs h
      ∙ ap (λ y. on_progress (walks view q found (put_first y cs) body env)
      (λ later. walks view q later (each_first (drop (i + 1) xs) cs) body env)) (sym is)

  pub walks-on : (env : List Value) (found later : Bool) (xs : List Value) (i : ℕ) (x : Value)
      (cs : List (List Value))
      → i < length xs → x ≡ get_or xs i x
      → GoesOn later ≡ walks view q found (put_first x cs) body env
      → walks view q later (each_first (drop (i + 1) xs) cs) body env
      ≡ walks view q found (each_first (drop i xs) cs) body env
  walks-on env found later xs i x cs h is at =
      sym (walks-step env found xs i x cs h is ∙ ap (λ p. on_progress p
      (λ b. walks view q b (each_first (drop (i + 1) xs) cs) body env)) (sym at))

  pub walks-end : (env : List Value) (found : Bool) (o : Outcome) (xs : List Value) (i : ℕ)
      (x : Value) (cs : List (List Value))
      → i < length xs → x ≡ get_or xs i x
      → Ends o ≡ walks view q found (put_first x cs) body env
      → Ends o ≡ walks view q found (each_first (drop i xs) cs) body env
  walks-end env found o xs i x cs h is at =
      sym (walks-step env found xs i x cs h is ∙ ap (λ p. on_progress p
      (λ b. walks view q b (each_first (drop (i + 1) xs) cs) body env)) (sym at))

  pub walks-with : (env : List Value) (found : Bool) (x : Value) (cs : List (List Value))
      → walks view q found cs body (env ++ x ∷ []) ≡ walks view q found (put_first x cs) body env
  walks-with env found x cs = walked-with q (gives view body) env found x cs

  pub finished-walks : (env : List Value) (cs : List (List Value))
      → finished q (walks view q false cs body env)
      ≡ quantified q cs (λ c. gives view body (env ++ c))
  finished-walks env cs = finished-walked (λ c. gives view body (env ++ c)) q cs

pub ruleset part_steps = (all_of-value, all_of-fault, preceded-none)
