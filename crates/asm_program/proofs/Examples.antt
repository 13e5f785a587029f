-- Terms with their values and rules with their sets, worked out by hand.
use Rattle.std.proofs.Common.{◌≡◌, pos, true, false, if◌then◌else◌, None, List, [], ◌∷◌, ◌++◌}
use Rattle.std.proofs.Common.{unwrap_or, ap, ◌∙◌, rules}
use Rattle.std.specs.Option.{option_map_or}
use Rattle.std.specs.Ordering.{is_eq}
use Rattle.std.proofs.lemmas.Cmp.{tied_itself}
use Rattle.asm_value.specs.declared.value.Value.TheVariants.{Undef, Truth, Int}
use Rattle.asm_value.specs.declared.domain.Domain.TheVariants as domains
use Rattle.asm_value.specs.Value.{as_truth_level}
use Rattle.asm_value.specs.TotalOrders.{compare_total}
use Rattle.asm_value.specs.Living.{is_true, live_of}
use Rattle.asm_value.specs.Members.{members}
use Rattle.asm_value.specs.State.{StateMap}
use Rattle.asm_value.proofs.MemberLists.{out_undef, out_truth}
use Rattle.asm_value.proofs.MembersLaws.{member_steps}
use Rattle.asm_value.specs.Ranges.{tuples}
use Rattle.asm_value.specs.declared.domain.DomainInfo.{DomainInfo}
use Rattle.asm_value.specs.declared.domain.Live.{Live}
use Rattle.asm_value.proofs.LivingLaws.{is_true-Truth}
use Rattle.asm_program.specs.declared.outcome.Outcome.TheVariants as outcome
use Rattle.asm_program.specs.declared.trees.Term.TheVariants as term
use Rattle.asm_program.specs.declared.trees.Term.TheViews.{roll-Case}
use Rattle.asm_program.specs.declared.program.Program.{Program}
use Rattle.asm_program.specs.Members.{combinations}
use Rattle.asm_program.specs.Meaning.{eval, is_false, is_same, for_all, for_one}
use Rattle.asm_program.proofs.TermForms.{eval-Constant, eval-Variable, eval-And, eval-Implies}
use Rattle.asm_program.proofs.TermForms.{eval-If, eval-Let, eval-Switch, eval-Forall}
use Rattle.asm_program.proofs.TermForms.{eval-ExistUnique}

-- ---- truth values and undef

false_is_false : is_false (Truth false) ≡ true
false_is_false =
    ap (λ a. option_map_or (λ b. if b then false else true) (as_truth_level a) false)
    (out_truth false)

true_not_false : is_false (Truth true) ≡ false
true_not_false =
    ap (λ a. option_map_or (λ b. if b then false else true) (as_truth_level a) false)
    (out_truth true)

undef_not_false : is_false Undef ≡ false
undef_not_false =
    ap (λ a. option_map_or (λ b. if b then false else true) (as_truth_level a) false) out_undef

false_not_true : is_true (Truth false) ≡ false
false_not_true = ap (λ a. unwrap_or (as_truth_level a) false) (out_truth false)

undef_not_true : is_true Undef ≡ false
undef_not_true = ap (λ a. unwrap_or (as_truth_level a) false) out_undef

undef_is_undef : is_same Undef Undef ≡ true
undef_is_undef = ap is_eq (tied_itself compare_total Undef)

-- ---- terms

module _ (p : Program) (state : StateMap) where
  -- `false and undef` is false: the right side isn't looked at
  pub false_and_undef : eval p state (term.And (term.Constant (Truth false))
      (term.Constant Undef)) [] ≡ outcome.Value (Truth false)
  false_and_undef = simp (eval-And, eval-Constant, false_is_false)

  -- `undef and false` is false
  pub undef_and_false : eval p state (term.And (term.Constant Undef)
      (term.Constant (Truth false))) [] ≡ outcome.Value (Truth false)
  undef_and_false = simp (eval-And, eval-Constant, undef_not_false, false_is_false)

  -- `true and undef` is undef
  pub true_and_undef : eval p state (term.And (term.Constant (Truth true)) (term.Constant Undef)) []
      ≡ outcome.Value Undef
  true_and_undef =
      simp (eval-And, eval-Constant, true_not_false, undef_not_false, is_true-Truth, undef_not_true)

  -- `undef implies true` is true
  pub undef_implies_true : eval p state (term.Implies (term.Constant Undef)
      (term.Constant (Truth true))) [] ≡ outcome.Value (Truth true)
  undef_implies_true = simp (eval-Implies, eval-Constant, undef_not_false, is_true-Truth)

  -- `if undef then 1 endif` is undef
  pub if_undef : eval p state (term.If (term.Constant Undef) (term.Constant (Int (pos 1))) None) []
      ≡ outcome.Value Undef
  if_undef = simp (eval-If, eval-Constant, undef_not_true)

  -- `let x = 1, y = x in y endlet` is 1: a later term sees the earlier variable
  pub let_sees : eval p state (term.Let (term.Constant (Int (pos 1)) ∷ term.Variable 0 ∷ [])
      (term.Variable 1)) [] ≡ outcome.Value (Int (pos 1))
  let_sees = simp (eval-Let, eval-Constant, eval-Variable)

  -- `switch undef case undef: 1 endswitch` is 1
  pub undef_case : eval p state (term.Switch (term.Constant Undef)
      (roll-Case (record { value = term.Constant Undef; term = term.Constant (Int (pos 1)) }) ∷ [])
      None) [] ≡ outcome.Value (Int (pos 1))
  undef_case = simp (eval-Switch, eval-Constant, undef_is_undef)

  pub booleans : combinations p.domains state (domains.Truth ∷ [])
      ≡ (Truth false ∷ []) ∷ (Truth true ∷ []) ∷ []
  booleans = ap (λ vs. tuples (vs ∷ [])) (truth_members p.domains (live_of state p.domains))
    where
      truth_members : (ds : List DomainInfo) (live : Live)
          → members ds live domains.Truth ≡ Truth false ∷ Truth true ∷ []
      truth_members ds live = search (rules, member_steps)

  -- `(forall b in Boolean with b)` is false, and `(exist unique b in Boolean with b)` is true
  pub not_all_true : eval p state (term.Forall (domains.Truth ∷ []) (term.Variable 0)) []
      ≡ outcome.Value (Truth false)
  not_all_true =
      eval-Forall p state (domains.Truth ∷ []) (term.Variable 0) []
      ∙ ap (λ cs. for_all cs (λ c. eval p state (term.Variable 0) ([] ++ c))) booleans
      ∙ simp (eval-Variable, false_not_true)

  pub one_is_true : eval p state (term.ExistUnique (domains.Truth ∷ []) (term.Variable 0)) []
      ≡ outcome.Value (Truth true)
  one_is_true =
      eval-ExistUnique p state (domains.Truth ∷ []) (term.Variable 0) []
      ∙ ap (λ cs. for_one false cs (λ c. eval p state (term.Variable 0) ([] ++ c))) booleans
      ∙ simp (eval-Variable, false_not_true, is_true-Truth)
