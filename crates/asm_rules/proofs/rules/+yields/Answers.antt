-- Parts of a rule.
use Rattle.std.proofs.Common.{◌≡◌, ℕ, ◌+◌, cond, List, ◌++◌, map, drop, refl, ◌∙◌, ap, sym, subst, arith}
use Rattle.std.specs.Prelude.{IfOk}
use Rattle.std.specs.Option.{option_map}
use Rattle.std.proofs.lemmas.Grind.{common_steps}
use Rattle.std.proofs.lemmas.List.{drop_all}
use Rattle.asm_value.specs.declared.value.Value.{Value}
use Rattle.asm_value.specs.State.{IsConsistent, fire}
use Rattle.asm_value.specs.UpdateSet as set
use Rattle.asm_value.specs.UpdateSet.{UpdateSet}
use Rattle.asm_value.proofs.FiringLaws.{fire-empty}
use Rattle.asm_program.specs.declared.trees.Rule.TheVariants as form
use Rattle.asm_program.specs.Forms.{rule_of}
use Rattle.asm_program.specs.Meaning.{eval, is_same}
use Rattle.asm_program.specs.Yields.{Yielded, Stops, on_term, guard_of, guarded, otherwise, first_case, union_of, one_by_one, yields}
use Rattle.asm_program.specs.YieldsLaws.{case_yields, macro_height-body, rule_values-body, rule_values-none}
use Rattle.asm_program.specs.YieldsLaws.{height-Call, height-Par, height-Seq, height-If, height-Forall, height-Choose, height-Let, height-Switch, height-Extend}
use Rattle.asm_program.specs.YieldsLaws.{yields-Skip, yields-Call, yields-Update, yields-Par, yields-Seq, yields-If, yields-Forall, yields-Choose, yields-Let, yields-Switch, yields-Extend}
use Rattle.asm_terms.specs.Views.{map_of, program_of}
use Rattle.asm_rules.specs.declared.guards.Guard.TheVariants.{Holds, Fails, Fault as Faults}
use Rattle.asm_rules.specs.Outcomes.{yielded, going, after, judged, compared, chosen}
use Rattle.asm_rules.proofs.Heights.{height-at, case_height-at}
use Rattle.asm_rules.proofs.Steps.{guarded-none, on_term-holds, on_term-fails, on_term-faults, on_term-same, on_term-stops, first_case-drop, union_of-goes, union_of-stops, parts-goes, parts-stops, IsConsistent-empty, one_by_one-step, one_by_one-clash}
use Rattle.asm_rules.proofs.rules.+yields.Goals as goal

pub rule_yields-call-requires : goal.rule_yields-call-requires
rule_yields-call-requires t c =
    let d = height-Call (program_of c.args.view.now).macros c.args.rule.now c.in-Call.rule c.in-Call.args c.in-Call.is in
    grind arith

pub rule_yields-union_of-requires : goal.rule_yields-union_of-requires
rule_yields-union_of-requires t c =
    let d = height-Par (program_of c.args.view.now).macros c.args.rule.now c.in-Par.parts c.in-Par.span c.in-Par.is in
    grind arith

pub rule_yields-one_by_one-requires : goal.rule_yields-one_by_one-requires
rule_yields-one_by_one-requires t c =
    let d = height-Seq (program_of c.args.view.now).macros c.args.rule.now c.in-Seq.parts c.in-Seq.span c.in-Seq.is in
    grind arith

pub rule_yields-rule_yields-requires : goal.rule_yields-rule_yields-requires
rule_yields-rule_yields-requires t c =
    let d = height-If (program_of c.args.view.now).macros c.args.rule.now c.in-If.guard c.in-If.then c.in-If.other c.in-If.is in
    grind arith

pub rule_yields-otherwise-requires : goal.rule_yields-otherwise-requires
rule_yields-otherwise-requires t c =
    let d = height-If (program_of c.args.view.now).macros c.args.rule.now c.in-If.guard c.in-If.then c.in-If.other c.in-If.is in
    grind arith

pub rule_yields-for_all-requires : goal.rule_yields-for_all-requires
rule_yields-for_all-requires t c =
    let d = height-Forall (program_of c.args.view.now).macros c.args.rule.now c.in-Forall.ranges c.in-Forall.guard c.in-Forall.body c.in-Forall.span c.in-Forall.is in
    grind arith

pub rule_yields-choose-requires : goal.rule_yields-choose-requires
rule_yields-choose-requires t c =
    let d = height-Choose (program_of c.args.view.now).macros c.args.rule.now c.in-Choose.ranges c.in-Choose.guard c.in-Choose.body c.in-Choose.other c.in-Choose.place c.in-Choose.is in
    grind arith

pub rule_yields-bound-requires : goal.rule_yields-bound-requires
rule_yields-bound-requires t c =
    let d = height-Let (program_of c.args.view.now).macros c.args.rule.now c.in-Let.values c.in-Let.body c.in-Let.is in
    grind arith

pub rule_yields-switch-requires : goal.rule_yields-switch-requires
rule_yields-switch-requires t c =
    let d = height-Switch (program_of c.args.view.now).macros c.args.rule.now c.in-Switch.value c.in-Switch.cases c.in-Switch.other c.in-Switch.is in
    grind arith

pub rule_yields-extended-requires : goal.rule_yields-extended-requires
rule_yields-extended-requires t c =
    let d = height-Extend (program_of c.args.view.now).macros c.args.rule.now c.in-Extend.domain c.in-Extend.count c.in-Extend.body c.in-Extend.span c.in-Extend.is in
    grind arith

pub call-rule_yields-requires : goal.call-rule_yields-requires
call-rule_yields-requires t c =
    let d = macro_height-body (program_of c.args.view.now) c.args.number c.in-Some.body.now (ap (λ q. rule_of q.macros c.args.number) (sym c.program.ensures) ∙ c.in-Some.ensures.some) in
    grind arith

pub first_case-rule_yields-requires : goal.first_case-rule_yields-requires
first_case-rule_yields-requires t c =
    let d = case_height-at (program_of c.args.view.now).macros c.args.cases.now c.loop-case.case-index c.case-item.result c.loop-case-test.true in
    grind arith

pub union_of-rule_yields-requires : goal.union_of-rule_yields-requires
union_of-rule_yields-requires t c =
    let d = height-at (program_of c.args.view.now).macros c.args.rules.now c.loop-part.part-index c.part-item.result c.loop-part-test.true in
    grind arith

pub one_by_one-rule_yields-requires : goal.one_by_one-rule_yields-requires
one_by_one-rule_yields-requires t c =
    let d = height-at (program_of c.args.view.now).macros c.args.rules.now c.loop-part.part-index c.part-item.result c.loop-part-test.true in
    grind arith

pub rule_yields-returns-in-Skip-clause-outcome : goal.rule_yields-returns-in-Skip-clause-outcome
rule_yields-returns-in-Skip-clause-outcome t c =
    let e = yields-Skip (program_of c.args.view.now) c.args.pick c.args.rule.now (map_of c.args.view.now) c.args.env.now c.args.next.now c.in-Skip.is in
    grind (arith, common_steps)

pub rule_yields-returns-in-Call-clause-outcome : goal.rule_yields-returns-in-Call-clause-outcome
rule_yields-returns-in-Call-clause-outcome t c =
    let e = yields-Call (program_of c.args.view.now) c.args.pick c.args.rule.now (map_of c.args.view.now) c.args.env.now c.args.next.now c.in-Call.rule c.in-Call.args c.in-Call.is in
    grind (arith, common_steps)

pub rule_yields-returns-in-Update-clause-outcome : goal.rule_yields-returns-in-Update-clause-outcome
rule_yields-returns-in-Update-clause-outcome t c =
    let e = yields-Update (program_of c.args.view.now) c.args.pick c.args.rule.now (map_of c.args.view.now) c.args.env.now c.args.next.now c.in-Update.function c.in-Update.args c.in-Update.value c.in-Update.span c.in-Update.is in
    grind (arith, common_steps)

pub rule_yields-returns-in-Par-clause-outcome : goal.rule_yields-returns-in-Par-clause-outcome
rule_yields-returns-in-Par-clause-outcome t c =
    let e = yields-Par (program_of c.args.view.now) c.args.pick c.args.rule.now (map_of c.args.view.now) c.args.env.now c.args.next.now c.in-Par.parts c.in-Par.span c.in-Par.is in
    grind (arith, common_steps)

pub rule_yields-returns-in-Seq-clause-outcome : goal.rule_yields-returns-in-Seq-clause-outcome
rule_yields-returns-in-Seq-clause-outcome t c =
    let e = yields-Seq (program_of c.args.view.now) c.args.pick c.args.rule.now (map_of c.args.view.now) c.args.env.now c.args.next.now c.in-Seq.parts c.in-Seq.span c.in-Seq.is in
    grind (arith, common_steps)

pub rule_yields-returns-in-Forall-clause-outcome : goal.rule_yields-returns-in-Forall-clause-outcome
rule_yields-returns-in-Forall-clause-outcome t c =
    let e = yields-Forall (program_of c.args.view.now) c.args.pick c.args.rule.now (map_of c.args.view.now) c.args.env.now c.args.next.now c.in-Forall.ranges c.in-Forall.guard c.in-Forall.body c.in-Forall.span c.in-Forall.is in
    grind (arith, common_steps)

pub rule_yields-returns-in-Choose-clause-outcome : goal.rule_yields-returns-in-Choose-clause-outcome
rule_yields-returns-in-Choose-clause-outcome t c =
    let ranges = c.as_slice-in-Choose.result.now in
    let body = c.get-in-Choose.result.now in
    let guard = c.in-Choose.guard in
    let other = c.in-Choose.other in
    let place = c.in-Choose.place in
    let is = c.in-Choose.is
    ∙ ap (λ r. form.Choose r guard c.in-Choose.body other place) (sym c.as_slice-in-Choose.ensures)
    ∙ ap (λ b. form.Choose ranges guard b other place) (sym c.get-in-Choose.ensures) in
    let e = yields-Choose (program_of c.args.view.now) c.args.pick c.args.rule.now (map_of c.args.view.now) c.args.env.now c.args.next.now ranges guard body other place is in
    subst (λ z. IfOk c.choose.result (λ out. yielded out c.choose.new.next ≡ z)) (sym e) c.choose.ensures.outcome

pub rule_yields-returns-in-Let-clause-outcome : goal.rule_yields-returns-in-Let-clause-outcome
rule_yields-returns-in-Let-clause-outcome t c =
    let e = yields-Let (program_of c.args.view.now) c.args.pick c.args.rule.now (map_of c.args.view.now) c.args.env.now c.args.next.now c.in-Let.values c.in-Let.body c.in-Let.is in
    grind (arith, common_steps)

pub rule_yields-returns-in-Extend-clause-outcome : goal.rule_yields-returns-in-Extend-clause-outcome
rule_yields-returns-in-Extend-clause-outcome t c =
    let e = yields-Extend (program_of c.args.view.now) c.args.pick c.args.rule.now (map_of c.args.view.now) c.args.env.now c.args.next.now c.in-Extend.domain c.in-Extend.count c.in-Extend.body c.in-Extend.span c.in-Extend.is in
    grind (arith, common_steps)

pub rule_yields-returns-in-Switch-clause-outcome : goal.rule_yields-returns-in-Switch-clause-outcome
rule_yields-returns-in-Switch-clause-outcome t c =
    let e = yields-Switch (program_of c.args.view.now) c.args.pick c.args.rule.now (map_of c.args.view.now) c.args.env.now c.args.next.now c.in-Switch.value c.in-Switch.cases c.in-Switch.other c.in-Switch.is in
    grind (arith, common_steps)

pub call-returns-in-Some-clause-outcome : goal.call-returns-in-Some-clause-outcome
call-returns-in-Some-clause-outcome t c =
    let r = rule_values-body (program_of c.args.view.now) c.args.pick c.args.number c.in-Some.body.now (ap (λ q. rule_of q.macros c.args.number) (sym c.program.ensures) ∙ c.in-Some.ensures.some) in
    grind (arith, common_steps)

pub call-returns-in-Values-clause-outcome : goal.call-returns-in-Values-clause-outcome
call-returns-in-Values-clause-outcome t c =
    let r = rule_values-none (program_of c.args.view.now) c.args.pick c.args.number (ap (λ q. rule_of q.macros c.args.number) (sym c.program.ensures) ∙ c.in-None.ensures.none) in
    grind (arith, common_steps)

pub first_case-returns-in-Holds-clause-outcome : goal.first_case-returns-in-Holds-clause-outcome
first_case-returns-in-Holds-clause-outcome t c =
    let r = c.case-item.result in
    let v = c.args.value.now in
    let env = c.loop-case.env in
    let next = c.loop-case.next in
    let other = option_map (yields (program_of c.args.view.now) c.args.pick) c.args.other.now in
    let later = first_case (program_of c.args.view.now) v (map (case_yields (program_of c.args.view.now) c.args.pick) (drop (c.loop-case.case-index + 1) c.args.cases.now)) other (map_of c.args.view.now) env next in
    let e = subst (λ x. first_case (program_of c.args.view.now) v (map (case_yields (program_of c.args.view.now) c.args.pick) (drop c.loop-case.case-index c.args.cases.now)) other (map_of c.args.view.now) env next
    ≡ on_term (eval (program_of c.args.view.now) (map_of c.args.view.now) x.value env) (λ w. cond (is_same v w) (yields (program_of c.args.view.now) c.args.pick x.rule (map_of c.args.view.now) env next) later)) (sym c.case-item.is)
    (first_case-drop (program_of c.args.view.now) c.args.pick v other (map_of c.args.view.now) env next c.args.cases.now c.loop-case.case-index r c.loop-case-test.true) in
    let h = sym c.in-Holds.is ∙ c.in_ok-compare.ensures.outcome ∙ ap (λ x. compared v (eval (program_of c.args.view.now) (map_of c.args.view.now) x env)) c.get.ensures in
    let o = on_term-same v (eval (program_of c.args.view.now) (map_of c.args.view.now) r.value env) (yields (program_of c.args.view.now) c.args.pick r.rule (map_of c.args.view.now) env next) later h in
    let whole = (λ i. yields (program_of c.args.view.now) c.args.pick (c.get-in-Holds.ensures i) (map_of c.args.view.now) (c.in_ok-compare.ensures.same i) next)
    ∙ sym (e ∙ o) ∙ c.loop-case.invariant.0 in
    subst (λ z. IfOk c.rule_yields.result (λ out. yielded out c.rule_yields.new.next ≡ z)) whole c.rule_yields.ensures.outcome

pub first_case-returns-in-Fault-clause-outcome : goal.first_case-returns-in-Fault-clause-outcome
first_case-returns-in-Fault-clause-outcome t c =
    let r = c.case-item.result in
    let v = c.args.value.now in
    let env = c.loop-case.env in
    let next = c.loop-case.next in
    let other = option_map (yields (program_of c.args.view.now) c.args.pick) c.args.other.now in
    let later = first_case (program_of c.args.view.now) v (map (case_yields (program_of c.args.view.now) c.args.pick) (drop (c.loop-case.case-index + 1) c.args.cases.now)) other (map_of c.args.view.now) env next in
    let e = subst (λ x. first_case (program_of c.args.view.now) v (map (case_yields (program_of c.args.view.now) c.args.pick) (drop c.loop-case.case-index c.args.cases.now)) other (map_of c.args.view.now) env next
    ≡ on_term (eval (program_of c.args.view.now) (map_of c.args.view.now) x.value env) (λ w. cond (is_same v w) (yields (program_of c.args.view.now) c.args.pick x.rule (map_of c.args.view.now) env next) later)) (sym c.case-item.is)
    (first_case-drop (program_of c.args.view.now) c.args.pick v other (map_of c.args.view.now) env next c.args.cases.now c.loop-case.case-index r c.loop-case-test.true) in
    let h = sym c.in-Fault.is ∙ c.in_ok-compare.ensures.outcome ∙ ap (λ x. compared v (eval (program_of c.args.view.now) (map_of c.args.view.now) x env)) c.get.ensures in
    sym (e ∙ on_term-stops v (eval (program_of c.args.view.now) (map_of c.args.view.now) r.value env) (λ w. cond (is_same v w) (yields (program_of c.args.view.now) c.args.pick r.rule (map_of c.args.view.now) env next) later) c.in-Fault.fault h)
    ∙ c.loop-case.invariant.0

pub first_case-returns-clause-outcome : goal.first_case-returns-clause-outcome
first_case-returns-clause-outcome t c =
    let other = option_map (yields (program_of c.args.view.now) c.args.pick) c.args.other.now in
    let e = ap (λ cs. first_case (program_of c.args.view.now) c.args.value.now (map (case_yields (program_of c.args.view.now) c.args.pick) cs) other (map_of c.args.view.now) c.loop-case.env c.loop-case.next)
    (drop_all c.loop-case.case-index c.args.cases.now c.loop-case-test.false) in
    subst (λ z. IfOk c.otherwise.result (λ out. yielded out c.otherwise.new.next ≡ z)) (sym e ∙ c.loop-case.invariant.0) c.otherwise.ensures.outcome

pub rule_yields-returns-in-Holds-clause-outcome : goal.rule_yields-returns-in-Holds-clause-outcome
rule_yields-returns-in-Holds-clause-outcome t c =
    let e = yields-If (program_of c.args.view.now) c.args.pick c.args.rule.now (map_of c.args.view.now) c.args.env.now c.args.next.now c.in-If.guard c.in-If.then c.in-If.other c.in-If.is in
    let h : Holds ≡ judged (eval (program_of c.args.view.now) (map_of c.args.view.now) c.in-If.guard c.args.env.now) = grind arith in
    let o = on_term-holds (eval (program_of c.args.view.now) (map_of c.args.view.now) c.in-If.guard c.args.env.now) (yields (program_of c.args.view.now) c.args.pick c.in-If.then (map_of c.args.view.now) c.args.env.now c.args.next.now)
    (otherwise (option_map (yields (program_of c.args.view.now) c.args.pick) c.in-If.other) (map_of c.args.view.now) c.args.env.now c.args.next.now) h in
    grind (arith, common_steps)

pub rule_yields-returns-in-Fails-clause-outcome : goal.rule_yields-returns-in-Fails-clause-outcome
rule_yields-returns-in-Fails-clause-outcome t c =
    let e = yields-If (program_of c.args.view.now) c.args.pick c.args.rule.now (map_of c.args.view.now) c.args.env.now c.args.next.now c.in-If.guard c.in-If.then c.in-If.other c.in-If.is in
    let h : Fails ≡ judged (eval (program_of c.args.view.now) (map_of c.args.view.now) c.in-If.guard c.args.env.now) = grind arith in
    let o = on_term-fails (eval (program_of c.args.view.now) (map_of c.args.view.now) c.in-If.guard c.args.env.now) (yields (program_of c.args.view.now) c.args.pick c.in-If.then (map_of c.args.view.now) c.args.env.now c.args.next.now)
    (otherwise (option_map (yields (program_of c.args.view.now) c.args.pick) c.in-If.other) (map_of c.args.view.now) c.args.env.now c.args.next.now) h in
    grind (arith, common_steps)

pub rule_yields-returns-in-Fault-clause-outcome : goal.rule_yields-returns-in-Fault-clause-outcome
rule_yields-returns-in-Fault-clause-outcome t c =
    let e = yields-If (program_of c.args.view.now) c.args.pick c.args.rule.now (map_of c.args.view.now) c.args.env.now c.args.next.now c.in-If.guard c.in-If.then c.in-If.other c.in-If.is in
    let h : Faults c.in-Fault.fault ≡ judged (eval (program_of c.args.view.now) (map_of c.args.view.now) c.in-If.guard c.args.env.now) = grind arith in
    sym (e ∙ on_term-faults (eval (program_of c.args.view.now) (map_of c.args.view.now) c.in-If.guard c.args.env.now) _ c.in-Fault.fault h)

pub union_of-returns-in-Some-clause-outcome : goal.union_of-returns-in-Some-clause-outcome
union_of-returns-in-Some-clause-outcome t c =
    let is = c.in_ok-outcome.ensures.outcome ∙ ap (λ r. yields (program_of c.args.view.now) c.args.pick r (map_of c.args.view.now) c.loop-part.env c.loop-part.next) (c.get.ensures ∙ c.part-item.is) in
    let rest = λ (whole : UpdateSet) (last : List ℕ). union_of c.args.span whole (map (λ part. part (map_of c.args.view.now) c.loop-part.env) (map (yields (program_of c.args.view.now) c.args.pick) (drop (c.loop-part.part-index + 1) c.args.rules.now))) last in
    parts-stops c.args.span (λ part. part (map_of c.args.view.now) c.loop-part.env) (yields (program_of c.args.view.now) c.args.pick) c.args.rules.now c.loop-part.part-index c.part-item.result
    c.loop-part.all c.loop-part.next c.rule_yields.new.next c.in_ok-outcome.outcome c.in-Some.fault c.loop-part-test.true is
    (c.in_ok-fault.ensures c.rule_yields.new.next rest ∙ ap (λ o. going o (rest c.unite.new.all c.rule_yields.new.next)) c.in-Some.is)
    ∙ c.loop-part.invariant.0

pub union_of-loop-part-preserved : goal.union_of-loop-part-preserved
union_of-loop-part-preserved t c =
    let is = c.in_ok-outcome.ensures.outcome ∙ ap (λ r. yields (program_of c.args.view.now) c.args.pick r (map_of c.args.view.now) c.loop-part.env c.loop-part.next) (c.get.ensures ∙ c.part-item.is) in
    let rest = λ (whole : UpdateSet) (last : List ℕ). union_of c.args.span whole (map (λ part. part (map_of c.args.view.now) c.loop-part.env) (map (yields (program_of c.args.view.now) c.args.pick) (drop (c.loop-part.part-index + 1) c.args.rules.now))) last in
    let kept = parts-goes c.args.span (λ part. part (map_of c.args.view.now) c.loop-part.env) (yields (program_of c.args.view.now) c.args.pick) c.args.rules.now c.loop-part.part-index c.part-item.result
    c.loop-part.all c.unite.new.all c.loop-part.next c.rule_yields.new.next c.in_ok-outcome.outcome c.loop-part-test.true is
    (c.in_ok-fault.ensures c.rule_yields.new.next rest ∙ ap (λ o. going o (rest c.unite.new.all c.rule_yields.new.next)) c.in_default.is)
    ∙ c.loop-part.invariant.0 in (
      subst (λ v. union_of c.args.span c.unite.new.all (map (λ part. part (map_of c.args.view.now) v) (map (yields (program_of c.args.view.now) c.args.pick) (drop (c.loop-part.part-index + 1) c.args.rules.now))) c.rule_yields.new.next
          ≡ union_of c.args.span set.empty (map (λ part. part (map_of c.args.view.now) c.args.env.now) (map (yields (program_of c.args.view.now) c.args.pick) c.args.rules.now)) c.args.next.now)
          (sym c.in_ok-outcome.ensures.same) kept,
      c.in_ok-outcome.ensures.same ∙ c.loop-part.invariant.1,
    )

pub for_each-returns-in-Some-clause-outcome : goal.for_each-returns-in-Some-clause-outcome
for_each-returns-in-Some-clause-outcome t c =
    let env = c.loop-values.env in
    let next = c.loop-values.next in
    let m : List Value → List ℕ → Yielded = λ v. guarded (guard_of (program_of c.args.view.now) (map_of c.args.view.now) c.args.guard.now (env ++ v)) (yields (program_of c.args.view.now) c.args.pick c.args.body.now (map_of c.args.view.now) (env ++ v)) in
    let is = c.in_ok-outcome.ensures.outcome ∙ ap (λ v. m v next) c.values-item.is in
    let rest : UpdateSet → List ℕ → Yielded = λ whole last. union_of c.args.span whole (map m (drop (c.loop-values.values-index + 1) c.args.combinations.now)) last in
    union_of-stops c.args.span m c.args.combinations.now c.loop-values.values-index c.values-item.result
    c.loop-values.all next c.guarded.new.next c.in_ok-outcome.outcome c.in-Some.fault c.loop-values-test.true is
    (c.in_ok-fault.ensures c.guarded.new.next rest ∙ ap (λ o. going o (rest c.unite.new.all c.guarded.new.next)) c.in-Some.is)
    ∙ c.loop-values.invariant.0

pub for_each-loop-values-preserved : goal.for_each-loop-values-preserved
for_each-loop-values-preserved t c =
    let env = c.loop-values.env in
    let next = c.loop-values.next in
    let m : List Value → List ℕ → Yielded = λ v. guarded (guard_of (program_of c.args.view.now) (map_of c.args.view.now) c.args.guard.now (env ++ v)) (yields (program_of c.args.view.now) c.args.pick c.args.body.now (map_of c.args.view.now) (env ++ v)) in
    let is = c.in_ok-outcome.ensures.outcome ∙ ap (λ v. m v next) c.values-item.is in
    let rest : UpdateSet → List ℕ → Yielded = λ whole last. union_of c.args.span whole (map m (drop (c.loop-values.values-index + 1) c.args.combinations.now)) last in
    let kept = union_of-goes c.args.span m c.args.combinations.now c.loop-values.values-index c.values-item.result
    c.loop-values.all c.unite.new.all next c.guarded.new.next c.in_ok-outcome.outcome c.loop-values-test.true is
    (c.in_ok-fault.ensures c.guarded.new.next rest ∙ ap (λ o. going o (rest c.unite.new.all c.guarded.new.next)) c.in_default.is)
    ∙ c.loop-values.invariant.0 in (
      subst (λ v. union_of c.args.span c.unite.new.all
          (map (λ x. guarded (guard_of (program_of c.args.view.now) (map_of c.args.view.now) c.args.guard.now (v ++ x)) (yields (program_of c.args.view.now) c.args.pick c.args.body.now (map_of c.args.view.now) (v ++ x))) (drop (c.loop-values.values-index + 1) c.args.combinations.now)) c.guarded.new.next
          ≡ union_of c.args.span set.empty
          (map (λ x. guarded (guard_of (program_of c.args.view.now) (map_of c.args.view.now) c.args.guard.now (c.args.env.now ++ x)) (yields (program_of c.args.view.now) c.args.pick c.args.body.now (map_of c.args.view.now) (c.args.env.now ++ x))) c.args.combinations.now) c.args.next.now)
          (sym c.in_ok-outcome.ensures.same) kept,
      c.in_ok-outcome.ensures.same ∙ c.loop-values.invariant.1,
    )

pub one_by_one-loop-part-init : goal.one_by_one-loop-part-init
one_by_one-loop-part-init t c = record {
  rest = ap (λ all. one_by_one c.args.span all (map (yields (program_of c.args.view.now) c.args.pick) c.args.rules.now) (map_of c.args.view.now) c.args.env.now c.args.next.now) c.new-all.ensures;
  same = refl;
  consistent = subst IsConsistent (sym c.new-all.ensures) IsConsistent-empty;
  fired = c.in_ok-between.ensures.map ∙ sym (fire-empty (map_of c.args.view.now)) ∙ ap (fire (map_of c.args.view.now)) (sym c.new-all.ensures);
  program = c.in_ok-between.ensures.program;
}

pub one_by_one-returns-in-Clashes-clause-outcome : goal.one_by_one-returns-in-Clashes-clause-outcome
one_by_one-returns-in-Clashes-clause-outcome t c =
    let env = c.loop-part.env in
    let next = c.loop-part.next in
    let before = c.loop-part.invariant in
    let i = c.loop-part.part-index in
    let r = c.part-item.result in
    let is = c.in_ok-outcome.ensures.outcome
    ∙ (λ k. yields (before.program k) c.args.pick ((c.get.ensures ∙ c.part-item.is) k) (before.fired k) env next) in
    let rest : UpdateSet → List ℕ → Yielded = λ whole last. one_by_one c.args.span whole (map (yields (program_of c.args.view.now) c.args.pick) (drop (i + 1) c.args.rules.now)) (map_of c.args.view.now) env last in
    sym (one_by_one-clash (program_of c.args.view.now) c.args.pick c.args.span (map_of c.args.view.now) env (drop (i + 1) c.args.rules.now) c.follow.new.all c.rule_yields.new.next
    (c.in_ok-follow.ensures.clashes c.in-Clashes.is))
    ∙ one_by_one-step (program_of c.args.view.now) c.args.pick c.args.span (map_of c.args.view.now) env c.args.rules.now i r c.loop-part.all next c.rule_yields.new.next
    c.in_ok-outcome.outcome (rest c.follow.new.all c.rule_yields.new.next) c.loop-part-test.true before.consistent is
    (c.in_ok-follow.ensures.outcome c.rule_yields.new.next rest ∙ ap (λ o. after o (rest c.follow.new.all c.rule_yields.new.next)) c.in-Clashes.is)
    ∙ before.rest

pub one_by_one-returns-in-Stops-clause-outcome : goal.one_by_one-returns-in-Stops-clause-outcome
one_by_one-returns-in-Stops-clause-outcome t c =
    let env = c.loop-part.env in
    let next = c.loop-part.next in
    let before = c.loop-part.invariant in
    let i = c.loop-part.part-index in
    let r = c.part-item.result in
    let is = c.in_ok-outcome.ensures.outcome
    ∙ (λ k. yields (before.program k) c.args.pick ((c.get.ensures ∙ c.part-item.is) k) (before.fired k) env next) in
    let rest : UpdateSet → List ℕ → Yielded = λ whole last. one_by_one c.args.span whole (map (yields (program_of c.args.view.now) c.args.pick) (drop (i + 1) c.args.rules.now)) (map_of c.args.view.now) env last in
    one_by_one-step (program_of c.args.view.now) c.args.pick c.args.span (map_of c.args.view.now) env c.args.rules.now i r c.loop-part.all next c.rule_yields.new.next
    c.in_ok-outcome.outcome (Stops c.in-Stops.fault) c.loop-part-test.true before.consistent is
    (c.in_ok-follow.ensures.outcome c.rule_yields.new.next rest ∙ ap (λ o. after o (rest c.follow.new.all c.rule_yields.new.next)) c.in-Stops.is)
    ∙ before.rest

pub one_by_one-loop-part-preserved : goal.one_by_one-loop-part-preserved
one_by_one-loop-part-preserved t c =
    let env = c.loop-part.env in
    let next = c.loop-part.next in
    let before = c.loop-part.invariant in
    let i = c.loop-part.part-index in
    let r = c.part-item.result in
    let is = c.in_ok-outcome.ensures.outcome
    ∙ (λ k. yields (before.program k) c.args.pick ((c.get.ensures ∙ c.part-item.is) k) (before.fired k) env next) in
    let rest : UpdateSet → List ℕ → Yielded = λ whole last. one_by_one c.args.span whole (map (yields (program_of c.args.view.now) c.args.pick) (drop (i + 1) c.args.rules.now)) (map_of c.args.view.now) env last in
    let kept = one_by_one-step (program_of c.args.view.now) c.args.pick c.args.span (map_of c.args.view.now) env c.args.rules.now i r c.loop-part.all next c.rule_yields.new.next
    c.in_ok-outcome.outcome (rest c.follow.new.all c.rule_yields.new.next) c.loop-part-test.true before.consistent is
    (c.in_ok-follow.ensures.outcome c.rule_yields.new.next rest ∙ ap (λ o. after o (rest c.follow.new.all c.rule_yields.new.next)) c.in-Goes.is)
    ∙ before.rest in
    let same = c.in_ok-outcome.ensures.same in
    record {
      rest = subst (λ v. one_by_one c.args.span c.follow.new.all (map (yields (program_of c.args.view.now) c.args.pick) (drop (i + 1) c.args.rules.now)) (map_of c.args.view.now) v c.rule_yields.new.next
          ≡ one_by_one c.args.span set.empty (map (yields (program_of c.args.view.now) c.args.pick) c.args.rules.now) (map_of c.args.view.now) c.args.env.now c.args.next.now) (sym same) kept;
      same = same ∙ before.same;
      consistent = c.in_ok-follow.ensures.goes c.in-Goes.is;
      fired = c.in_ok-follow.ensures.fired c.in-Goes.is (map_of c.args.view.now) before.fired;
      program = c.in_ok-follow.ensures.program ∙ before.program;
    }

pub choose-returns-in-Fault-clause-outcome : goal.choose-returns-in-Fault-clause-outcome
choose-returns-in-Fault-clause-outcome t c =
    let body : List Value → Yielded = λ v. yields (program_of c.args.view.now) c.args.pick c.args.body.now (map_of c.args.view.now) (c.args.env.now ++ v) c.args.next.now in
    let other = otherwise (option_map (yields (program_of c.args.view.now) c.args.pick) c.args.other.now) (map_of c.args.view.now) c.args.env.now c.args.next.now in
    sym (c.in_ok-values.ensures.outcome body other ∙ ap (λ o. chosen o body other) c.in-Fault.is)

pub choose-returns-in-Nothing-clause-outcome : goal.choose-returns-in-Nothing-clause-outcome
choose-returns-in-Nothing-clause-outcome t c =
    let body : List Value → Yielded = λ v. yields (program_of c.args.view.now) c.args.pick c.args.body.now (map_of c.args.view.now) (c.args.env.now ++ v) c.args.next.now in
    let other = otherwise (option_map (yields (program_of c.args.view.now) c.args.pick) c.args.other.now) (map_of c.args.view.now) c.args.env.now c.args.next.now in
    let whole = ap (λ v. otherwise (option_map (yields (program_of c.args.view.now) c.args.pick) c.args.other.now) (map_of c.args.view.now) v c.args.next.now) c.in_ok-values.ensures.same
    ∙ sym (c.in_ok-values.ensures.outcome body other ∙ ap (λ o. chosen o body other) c.in-Nothing.is) in
    subst (λ z. IfOk c.otherwise.result (λ out. yielded out c.otherwise.new.next ≡ z)) whole c.otherwise.ensures.outcome

pub choose-returns-in-Values-clause-outcome : goal.choose-returns-in-Values-clause-outcome
choose-returns-in-Values-clause-outcome t c =
    let body : List Value → Yielded = λ v. yields (program_of c.args.view.now) c.args.pick c.args.body.now (map_of c.args.view.now) (c.args.env.now ++ v) c.args.next.now in
    let other = otherwise (option_map (yields (program_of c.args.view.now) c.args.pick) c.args.other.now) (map_of c.args.view.now) c.args.env.now c.args.next.now in
    let vs = c.in-Values.values in
    let env = c.choose_one.new.env in
    let whole = guarded-none (program_of c.args.view.now) (map_of c.args.view.now) (env ++ vs) (yields (program_of c.args.view.now) c.args.pick c.args.body.now (map_of c.args.view.now) (env ++ vs)) c.args.next.now
    ∙ ap (λ v. yields (program_of c.args.view.now) c.args.pick c.args.body.now (map_of c.args.view.now) (v ++ vs) c.args.next.now) c.in_ok-values.ensures.same
    ∙ sym (c.in_ok-values.ensures.outcome body other ∙ ap (λ o. chosen o body other) c.in-Values.is) in
    subst (λ z. IfOk c.guarded.result (λ out. yielded out c.guarded.new.next ≡ z)) whole c.guarded.ensures.outcome

pub bound-returns-in_ok-outcome-in-None-clause-outcome : goal.bound-returns-in_ok-outcome-in-None-clause-outcome
bound-returns-in_ok-outcome-in-None-clause-outcome t c =
    let go : List Value → Yielded = λ inner. yields (program_of c.args.view.now) c.args.pick c.args.body.now (map_of c.args.view.now) inner c.args.next.now in
    c.in_ok-outcome-in-None.ensures.outcome
    ∙ sym (c.in_ok-bind.ensures.bound go ∙ ap (λ o. going o (go c.bind.new.env)) c.in-None.is)

pub bound-returns-in-Some-clause-outcome : goal.bound-returns-in-Some-clause-outcome
bound-returns-in-Some-clause-outcome t c =
    let go : List Value → Yielded = λ inner. yields (program_of c.args.view.now) c.args.pick c.args.body.now (map_of c.args.view.now) inner c.args.next.now in
    sym (c.in_ok-bind.ensures.bound go ∙ ap (λ o. going o (go c.bind.new.env)) c.in-Some.is)
