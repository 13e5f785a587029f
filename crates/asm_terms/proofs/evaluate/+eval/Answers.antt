-- Each form gives what its equation says, of parts of lower height.
use Rattle.std.proofs.Common.{◌≡◌, ◌∙◌, ◌+◌, ◌∷◌, [], ◌++◌, map, drop, false, ap, sym, subst}
use Rattle.std.proofs.Common.{arith}
use Rattle.std.specs.Prelude.{IfOk}
use Rattle.std.specs.Option.{option_map}
use Rattle.std.specs.Ordering.{is_eq}
use Rattle.asm_value.specs.Ranges.{tuples, each_first}
use Rattle.asm_program.specs.declared.trees.Term.TheVariants as form
use Rattle.asm_program.specs.Forms.{body_of, optional, of_cases}
use Rattle.asm_program.specs.CallLaws.{greatest-append}
use Rattle.asm_terms.specs.Quantifiers.{finished}
use Rattle.asm_terms.specs.Evaluation.{gives, cases_give, walks, ranges_in}
use Rattle.asm_terms.proofs.EvalHeights.{height_in, case_heights_in, part-height, case-parts}
use Rattle.asm_terms.proofs.EvalHeights.{call_height-body, height-Operator, height-And, height-Or}
use Rattle.asm_terms.proofs.EvalHeights.{height-Implies, height-Read, height-Call, height-Tuple}
use Rattle.asm_terms.proofs.EvalHeights.{height-Interval, height-Set, height-Seq, height-If}
use Rattle.asm_terms.proofs.EvalHeights.{height-Let, height-Switch, height-Forall, height-Exist}
use Rattle.asm_terms.proofs.EvalHeights.{height-ExistUnique}
use Rattle.asm_terms.proofs.EvalLaws.{call_gives-Some, call_gives-None, gives-Operator, gives-And}
use Rattle.asm_terms.proofs.EvalLaws.{gives-Or, gives-Implies, gives-Read, gives-Call}
use Rattle.asm_terms.proofs.EvalLaws.{gives-Tuple, gives-Interval, gives-Set, gives-Seq, gives-If}
use Rattle.asm_terms.proofs.EvalLaws.{gives-Let, gives-Switch, gives-Forall, gives-Exist}
use Rattle.asm_terms.proofs.EvalLaws.{gives-ExistUnique, gives-Constant, gives-Variable}
use Rattle.asm_terms.proofs.EvalSteps.{case-fault, case-found, case-passed, walks-on, walks-end}
use Rattle.asm_terms.proofs.EvalSteps.{walks-with, finished-walks}
use Rattle.asm_terms.proofs.evaluate.+eval.Goals as goal

pub evaluate-operator-requires : goal.evaluate-operator-requires
evaluate-operator-requires t c =
    let d = height-Operator c.args.view.now c.args.term.now c.in-Operator.operation
    c.in-Operator.args c.in-Operator.span
    c.in-Operator.is in
    grind arith

pub evaluate-and-requires : goal.evaluate-and-requires
evaluate-and-requires t c =
    let d = height-And c.args.view.now c.args.term.now c.in-And.left c.in-And.right
    c.in-And.is in
    grind arith

pub evaluate-or-requires : goal.evaluate-or-requires
evaluate-or-requires t c =
    let d = height-Or c.args.view.now c.args.term.now c.in-Or.left c.in-Or.right
    c.in-Or.is in
    grind arith

pub evaluate-implies-requires : goal.evaluate-implies-requires
evaluate-implies-requires t c =
    let d = height-Implies c.args.view.now c.args.term.now c.in-Implies.left c.in-Implies.right
    c.in-Implies.is in
    grind arith

pub evaluate-read_of-requires : goal.evaluate-read_of-requires
evaluate-read_of-requires t c =
    let d = height-Read c.args.view.now c.args.term.now c.in-Read.function c.in-Read.args
    c.in-Read.is in
    grind arith

pub evaluate-call_of-requires : goal.evaluate-call_of-requires
evaluate-call_of-requires t c =
    let d = height-Call c.args.view.now c.args.term.now c.in-Call.function c.in-Call.args
    c.in-Call.is in
    grind arith

pub evaluate-tuple-requires : goal.evaluate-tuple-requires
evaluate-tuple-requires t c =
    let d = height-Tuple c.args.view.now c.args.term.now c.in-Tuple.items c.in-Tuple.span
    c.in-Tuple.is in
    grind arith

pub evaluate-interval-requires : goal.evaluate-interval-requires
evaluate-interval-requires t c =
    let d = height-Interval c.args.view.now c.args.term.now c.in-Interval.from c.in-Interval.to
    c.in-Interval.span
    c.in-Interval.is in
    grind arith

pub evaluate-set-requires : goal.evaluate-set-requires
evaluate-set-requires t c =
    let d = height-Set c.args.view.now c.args.term.now c.in-Set.items c.in-Set.span
    c.in-Set.is in
    grind arith

pub evaluate-sequence-requires : goal.evaluate-sequence-requires
evaluate-sequence-requires t c =
    let d = height-Seq c.args.view.now c.args.term.now c.in-Seq.items c.in-Seq.span
    c.in-Seq.is in
    grind arith

pub evaluate-conditional-requires : goal.evaluate-conditional-requires
evaluate-conditional-requires t c =
    let d = height-If c.args.view.now c.args.term.now c.in-If.guard c.in-If.then c.in-If.other
    c.in-If.is in
    grind arith

pub evaluate-binding-requires : goal.evaluate-binding-requires
evaluate-binding-requires t c =
    let d = height-Let c.args.view.now c.args.term.now c.in-Let.values c.in-Let.body
    c.in-Let.is in
    let e = greatest-append (map (height_in c.args.view.now) c.in-Let.values)
    (height_in c.args.view.now c.in-Let.body ∷ []) in
    grind arith

pub evaluate-switch-requires : goal.evaluate-switch-requires
evaluate-switch-requires t c =
    let d = height-Switch c.args.view.now c.args.term.now c.in-Switch.value c.in-Switch.cases
    c.in-Switch.other
    c.in-Switch.is in
    let e = greatest-append (of_cases (map (case_heights_in c.args.view.now) c.in-Switch.cases))
    (optional (option_map (height_in c.args.view.now) c.in-Switch.other)) in
    grind arith

pub evaluate-quantified-requires : goal.evaluate-quantified-requires
evaluate-quantified-requires t c =
    let d = height-Forall c.args.view.now c.args.term.now c.in-Forall.ranges c.in-Forall.body
    c.in-Forall.is in
    grind arith

pub evaluate-quantified-requires-in-Exist : goal.evaluate-quantified-requires-in-Exist
evaluate-quantified-requires-in-Exist t c =
    let d = height-Exist c.args.view.now c.args.term.now c.in-Exist.ranges c.in-Exist.body
    c.in-Exist.is in
    grind arith

pub evaluate-quantified-requires-in-ExistUnique : goal.evaluate-quantified-requires-in-ExistUnique
evaluate-quantified-requires-in-ExistUnique t c =
    let d = height-ExistUnique c.args.view.now c.args.term.now c.in-ExistUnique.ranges
    c.in-ExistUnique.body
    c.in-ExistUnique.is in
    grind arith

pub evaluate-returns-in-Operator-clause-outcome : goal.evaluate-returns-in-Operator-clause-outcome
evaluate-returns-in-Operator-clause-outcome t c =
    let is = c.in-Operator.is ∙ (λ i. form.Operator c.in-Operator.operation
    (sym c.as_slice.ensures i) c.in-Operator.span) in
    subst (λ z. IfOk c.operator.result (λ out. out ≡ z))
    (sym (gives-Operator c.args.view.now c.args.term.now c.args.env.now c.in-Operator.operation
    c.as_slice.result.now c.in-Operator.span is))
    c.operator.ensures.outcome

pub evaluate-returns-in-And-clause-outcome : goal.evaluate-returns-in-And-clause-outcome
evaluate-returns-in-And-clause-outcome t c =
    let is = c.in-And.is ∙ (λ i. form.And (sym c.get.ensures i) (sym c.get-in-And.ensures i)) in
    subst (λ z. IfOk c.and.result (λ out. out ≡ z))
    (sym (gives-And c.args.view.now c.args.term.now c.args.env.now c.get.result.now
    c.get-in-And.result.now is))
    c.and.ensures.outcome

pub evaluate-returns-in-Or-clause-outcome : goal.evaluate-returns-in-Or-clause-outcome
evaluate-returns-in-Or-clause-outcome t c =
    let is = c.in-Or.is ∙ (λ i. form.Or (sym c.get-in-Or.ensures i) (sym c.get-in-Or-2.ensures i))
    in
    subst (λ z. IfOk c.or.result (λ out. out ≡ z))
    (sym (gives-Or c.args.view.now c.args.term.now c.args.env.now c.get-in-Or.result.now
    c.get-in-Or-2.result.now is))
    c.or.ensures.outcome

pub evaluate-returns-in-Implies-clause-outcome : goal.evaluate-returns-in-Implies-clause-outcome
evaluate-returns-in-Implies-clause-outcome t c =
    let is = c.in-Implies.is ∙ (λ i. form.Implies (sym c.get-in-Implies.ensures i)
    (sym c.get-in-Implies-2.ensures i)) in
    subst (λ z. IfOk c.implies.result (λ out. out ≡ z))
    (sym (gives-Implies c.args.view.now c.args.term.now c.args.env.now c.get-in-Implies.result.now
    c.get-in-Implies-2.result.now is))
    c.implies.ensures.outcome

pub evaluate-returns-in-Read-clause-outcome : goal.evaluate-returns-in-Read-clause-outcome
evaluate-returns-in-Read-clause-outcome t c =
    let is = c.in-Read.is ∙ (λ i. form.Read c.in-Read.function (sym c.as_slice-in-Read.ensures i))
    in
    subst (λ z. IfOk c.read_of.result (λ out. out ≡ z))
    (sym (gives-Read c.args.view.now c.args.term.now c.args.env.now c.in-Read.function
    c.as_slice-in-Read.result.now is))
    c.read_of.ensures.outcome

pub evaluate-returns-in-Call-clause-outcome : goal.evaluate-returns-in-Call-clause-outcome
evaluate-returns-in-Call-clause-outcome t c =
    let is = c.in-Call.is ∙ (λ i. form.Call c.in-Call.function (sym c.as_slice-in-Call.ensures i))
    in
    subst (λ z. IfOk c.call_of.result (λ out. out ≡ z))
    (sym (gives-Call c.args.view.now c.args.term.now c.args.env.now c.in-Call.function
    c.as_slice-in-Call.result.now is))
    c.call_of.ensures.outcome

pub evaluate-returns-in-Tuple-clause-outcome : goal.evaluate-returns-in-Tuple-clause-outcome
evaluate-returns-in-Tuple-clause-outcome t c =
    let is = c.in-Tuple.is ∙ (λ i. form.Tuple (sym c.as_slice-in-Tuple.ensures i) c.in-Tuple.span)
    in
    subst (λ z. IfOk c.tuple.result (λ out. out ≡ z))
    (sym (gives-Tuple c.args.view.now c.args.term.now c.args.env.now c.as_slice-in-Tuple.result.now
    c.in-Tuple.span is))
    c.tuple.ensures.outcome

pub evaluate-returns-in-Interval-clause-outcome : goal.evaluate-returns-in-Interval-clause-outcome
evaluate-returns-in-Interval-clause-outcome t c =
    let is = c.in-Interval.is ∙ (λ i. form.Interval (sym c.get-in-Interval.ensures i)
    (sym c.get-in-Interval-2.ensures i) c.in-Interval.span) in
    subst (λ z. IfOk c.interval.result (λ out. out ≡ z))
    (sym (gives-Interval c.args.view.now c.args.term.now c.args.env.now
    c.get-in-Interval.result.now c.get-in-Interval-2.result.now c.in-Interval.span is))
    c.interval.ensures.outcome

pub evaluate-returns-in-Set-clause-outcome : goal.evaluate-returns-in-Set-clause-outcome
evaluate-returns-in-Set-clause-outcome t c =
    let is = c.in-Set.is ∙ (λ i. form.Set (sym c.as_slice-in-Set.ensures i) c.in-Set.span) in
    subst (λ z. IfOk c.set.result (λ out. out ≡ z))
    (sym (gives-Set c.args.view.now c.args.term.now c.args.env.now c.as_slice-in-Set.result.now
    c.in-Set.span is))
    c.set.ensures.outcome

pub evaluate-returns-in-Seq-clause-outcome : goal.evaluate-returns-in-Seq-clause-outcome
evaluate-returns-in-Seq-clause-outcome t c =
    let is = c.in-Seq.is ∙ (λ i. form.Seq (sym c.as_slice-in-Seq.ensures i) c.in-Seq.span) in
    subst (λ z. IfOk c.sequence.result (λ out. out ≡ z))
    (sym (gives-Seq c.args.view.now c.args.term.now c.args.env.now c.as_slice-in-Seq.result.now
    c.in-Seq.span is))
    c.sequence.ensures.outcome

pub evaluate-returns-in-If-clause-outcome : goal.evaluate-returns-in-If-clause-outcome
evaluate-returns-in-If-clause-outcome t c =
    let is = c.in-If.is ∙ (λ i. form.If (sym c.get-in-If.ensures i) (sym c.get-in-If-2.ensures i)
    c.in-If.other) in
    subst (λ z. IfOk c.conditional.result (λ out. out ≡ z))
    (sym (gives-If c.args.view.now c.args.term.now c.args.env.now c.get-in-If.result.now
    c.get-in-If-2.result.now c.in-If.other is))
    c.conditional.ensures.outcome

pub evaluate-returns-in-Let-clause-outcome : goal.evaluate-returns-in-Let-clause-outcome
evaluate-returns-in-Let-clause-outcome t c =
    let is = c.in-Let.is ∙ (λ i. form.Let (sym c.as_slice-in-Let.ensures i)
    (sym c.get-in-Let.ensures i)) in
    subst (λ z. IfOk c.binding.result (λ out. out ≡ z))
    (sym (gives-Let c.args.view.now c.args.term.now c.args.env.now c.as_slice-in-Let.result.now
    c.get-in-Let.result.now is))
    c.binding.ensures.outcome

pub evaluate-returns-in-Switch-clause-outcome : goal.evaluate-returns-in-Switch-clause-outcome
evaluate-returns-in-Switch-clause-outcome t c =
    let is = c.in-Switch.is ∙ (λ i. form.Switch (sym c.get-in-Switch.ensures i)
    (sym c.as_slice-in-Switch.ensures i) c.in-Switch.other) in
    subst (λ z. IfOk c.switch.result (λ out. out ≡ z))
    (sym (gives-Switch c.args.view.now c.args.term.now c.args.env.now c.get-in-Switch.result.now
    c.as_slice-in-Switch.result.now c.in-Switch.other is))
    c.switch.ensures.outcome

pub evaluate-returns-in-Forall-clause-outcome : goal.evaluate-returns-in-Forall-clause-outcome
evaluate-returns-in-Forall-clause-outcome t c =
    let is = c.in-Forall.is ∙ (λ i. form.Forall (sym c.as_slice-in-Forall.ensures i)
    (sym c.get-in-Forall.ensures i)) in
    subst (λ z. IfOk c.quantified.result (λ out. out ≡ z))
    (sym (gives-Forall c.args.view.now c.args.term.now c.args.env.now
    c.as_slice-in-Forall.result.now c.get-in-Forall.result.now is))
    c.quantified.ensures.outcome

pub evaluate-returns-in-Exist-clause-outcome : goal.evaluate-returns-in-Exist-clause-outcome
evaluate-returns-in-Exist-clause-outcome t c =
    let is = c.in-Exist.is ∙ (λ i. form.Exist (sym c.as_slice-in-Exist.ensures i)
    (sym c.get-in-Exist.ensures i)) in
    subst (λ z. IfOk c.quantified-in-Exist.result (λ out. out ≡ z))
    (sym (gives-Exist c.args.view.now c.args.term.now c.args.env.now c.as_slice-in-Exist.result.now
    c.get-in-Exist.result.now is))
    c.quantified-in-Exist.ensures.outcome

pub evaluate-returns-in-ExistUnique-clause-outcome :
    goal.evaluate-returns-in-ExistUnique-clause-outcome
evaluate-returns-in-ExistUnique-clause-outcome t c =
    let is = c.in-ExistUnique.is ∙ (λ i. form.ExistUnique (sym c.as_slice-in-ExistUnique.ensures i)
    (sym c.get-in-ExistUnique.ensures i)) in
    subst (λ z. IfOk c.quantified-in-ExistUnique.result (λ out. out ≡ z))
    (sym (gives-ExistUnique c.args.view.now c.args.term.now c.args.env.now
    c.as_slice-in-ExistUnique.result.now c.get-in-ExistUnique.result.now is))
    c.quantified-in-ExistUnique.ensures.outcome

pub evaluate-returns-in-Constant-clause-outcome : goal.evaluate-returns-in-Constant-clause-outcome
evaluate-returns-in-Constant-clause-outcome t c =
    subst (λ z. IfOk c.constant.result (λ out. out ≡ z))
    (sym (gives-Constant c.args.view.now c.args.term.now c.args.env.now c.in-Constant.value
    c.in-Constant.is))
    c.constant.ensures

pub evaluate-returns-in-Variable-clause-outcome : goal.evaluate-returns-in-Variable-clause-outcome
evaluate-returns-in-Variable-clause-outcome t c =
    subst (λ z. IfOk c.variable.result (λ out. out ≡ z))
    (sym (gives-Variable c.args.view.now c.args.term.now c.args.env.now c.in-Variable.at
    c.in-Variable.is))
    c.variable.ensures

pub call-evaluate-requires : goal.call-evaluate-requires
call-evaluate-requires t c =
    let is = ap (λ p. body_of p.functions c.args.function) (sym c.program.ensures)
    ∙ c.in-Some.ensures.some in
    let e = call_height-body c.args.view.now c.args.function c.in-Some.body.now is in grind arith

pub call-returns-in-Some : goal.call-returns-in-Some
call-returns-in-Some t c =
    let is = ap (λ p. body_of p.functions c.args.function) (sym c.program.ensures)
    ∙ c.in-Some.ensures.some in
    subst (λ z. IfOk c.evaluate.result (λ out. out ≡ z))
    (ap (gives c.args.view.now c.in-Some.body.now) c.of_values-variables.ensures
    ∙ sym (call_gives-Some c.args.view.now c.args.function c.in-Some.body.now c.args.args.items is))
    c.evaluate.ensures.outcome

pub call-returns-in-None : goal.call-returns-in-None
call-returns-in-None t c =
    let is = ap (λ p. body_of p.functions c.args.function) (sym c.program.ensures)
    ∙ c.in-None.ensures.none in
    c.undefined.ensures ∙ sym (call_gives-None c.args.view.now c.args.function c.args.args.items is)

pub bind-evaluate-requires : goal.bind-evaluate-requires
bind-evaluate-requires t c =
    let p = part-height c.args.view.now c.args.values.now c.loop-value.value-index
    c.value-item.result
    c.loop-value-test.true in
    grind arith

pub evaluate_all-evaluate-requires : goal.evaluate_all-evaluate-requires
evaluate_all-evaluate-requires t c =
    let p = part-height c.args.view.now c.args.terms.now c.loop-term.term-index c.term-item.result
    c.loop-term-test.true in
    grind arith

pub first_case-evaluate-requires : goal.first_case-evaluate-requires
first_case-evaluate-requires t c =
    let p = case-parts c.args.view.now c.args.cases.now c.loop-case.case-index c.case-item.result
    c.loop-case-test.true c.case-item.is in
    grind arith

pub first_case-evaluate-requires-then-is_eq : goal.first_case-evaluate-requires-then-is_eq
first_case-evaluate-requires-then-is_eq t c =
    let p = case-parts c.args.view.now c.args.cases.now c.loop-case.case-index c.case-item.result
    c.loop-case-test.true c.case-item.is in
    grind arith

pub first_case-returns-in-Fault-clause-outcome : goal.first_case-returns-in-Fault-clause-outcome
first_case-returns-in-Fault-clause-outcome t c =
    let env = c.loop-case.env in
    let view = c.args.view.now in
    let v = c.args.value.now in
    let cs = c.args.cases.now in
    let i = c.loop-case.case-index in
    let at = c.in_ok-found.ensures.outcome ∙ (λ k. gives view (c.get.ensures k) env) in
    case-fault view v c.args.other.now env cs i c.case-item.result c.in-Fault.fault
    c.loop-case-test.true c.case-item.is (sym c.in-Fault.is ∙ at)
    ∙ c.loop-case.invariant.rest

pub first_case-returns-then-is_eq-clause-outcome : goal.first_case-returns-then-is_eq-clause-outcome
first_case-returns-then-is_eq-clause-outcome t c =
    let env = c.loop-case.env in
    let view = c.args.view.now in
    let v = c.args.value.now in
    let cs = c.args.cases.now in
    let i = c.loop-case.case-index in
    let at = c.in_ok-found.ensures.outcome ∙ (λ k. gives view (c.get.ensures k) env) in
    let same = ap is_eq (sym c.compare.ensures) ∙ sym c.is_eq.ensures ∙ c.if-is_eq.true in
    subst (λ z. IfOk c.evaluate-then-is_eq.result (λ out. out ≡ z))
    ((λ k. gives view (c.get-then-is_eq.ensures k) (c.in_ok-found.ensures.same k))
    ∙ case-found view v c.args.other.now env cs i c.case-item.result c.in-Value.found
    c.loop-case-test.true c.case-item.is (sym c.in-Value.is ∙ at) same
    ∙ c.loop-case.invariant.rest)
    c.evaluate-then-is_eq.ensures.outcome

pub first_case-loop-case-preserved : goal.first_case-loop-case-preserved
first_case-loop-case-preserved t c =
    let env = c.loop-case.env in
    let view = c.args.view.now in
    let v = c.args.value.now in
    let cs = c.args.cases.now in
    let i = c.loop-case.case-index in
    let at = c.in_ok-found.ensures.outcome ∙ (λ k. gives view (c.get.ensures k) env) in
    let other = ap is_eq (sym c.compare.ensures) ∙ sym c.is_eq.ensures ∙ c.if-is_eq.false in
    record {
      rest = ap (cases_give view v (drop (i + 1) cs) c.args.other.now) c.in_ok-found.ensures.same
          ∙ case-passed view v c.args.other.now env cs i c.case-item.result c.in-Value.found
          c.loop-case-test.true c.case-item.is (sym c.in-Value.is ∙ at) other
          ∙ c.loop-case.invariant.rest;
      same = c.in_ok-found.ensures.same ∙ c.loop-case.invariant.same;
    }

pub quantified-returns-clause-outcome : goal.quantified-returns-clause-outcome
quantified-returns-clause-outcome t c =
    let view = c.args.view.now in
    let q = c.args.quantifier in
    let body = c.args.body.now in
    let env = c.args.env.now in
    let lists = c.as_slice.ensures ∙ c.in_ok-lists.ensures in
    c.finished.ensures
    ∙ ap (finished q) (c.in_ok-progress.ensures.outcome
    ∙ (λ k. walks view q false (tuples (lists k)) body env))
    ∙ finished-walks view q body env (tuples (ranges_in view c.args.ranges.now))

pub walk_members-loop-member-preserved : goal.walk_members-loop-member-preserved
walk_members-loop-member-preserved t c =
    let view = c.args.view.now in
    let q = c.args.quantifier in
    let body = c.args.body.now in
    let env = c.loop-member.env in
    let xs = c.args.members.now in
    let i = c.loop-member.member-index in
    let cs = tuples c.args.others.now in
    record {
      rest = ap (walks view q c.in-GoesOn.later (each_first (drop (i + 1) xs) cs) body)
          c.in_ok-later.ensures.same
          ∙ walks-on view q body env c.loop-member.found c.in-GoesOn.later xs i
          c.member-item.result cs c.loop-member-test.true c.member-item.is
          (sym c.in-GoesOn.is ∙ c.in_ok-later.ensures.outcome)
          ∙ c.loop-member.invariant.rest;
      same = c.in_ok-later.ensures.same ∙ c.loop-member.invariant.same;
    }

pub walk_members-returns-in-Ends-clause-outcome : goal.walk_members-returns-in-Ends-clause-outcome
walk_members-returns-in-Ends-clause-outcome t c =
    let view = c.args.view.now in
    let q = c.args.quantifier in
    let body = c.args.body.now in
    let env = c.loop-member.env in
    let xs = c.args.members.now in
    let i = c.loop-member.member-index in
    let cs = tuples c.args.others.now in
    walks-end view q body env c.loop-member.found c.in-Ends.outcome xs i c.member-item.result cs
    c.loop-member-test.true c.member-item.is (sym c.in-Ends.is ∙ c.in_ok-later.ensures.outcome)
    ∙ c.loop-member.invariant.rest

pub walk_with-returns-clause-outcome : goal.walk_with-returns-clause-outcome
walk_with-returns-clause-outcome t c =
    let view = c.args.view.now in
    let q = c.args.quantifier in
    let body = c.args.body.now in
    let env = c.args.env.now in
    let cs = tuples c.args.others.now in
    c.in_ok-progress.ensures.outcome
    ∙ ap (walks view q c.args.found cs body) (c.in_ok-push.ensures.ok
    ∙ ap (λ x. env ++ x ∷ []) c.in_ok-copy.ensures)
    ∙ walks-with view q body env c.args.found c.args.member.now cs
