-- The first definition that reaches itself is refused, or none is.
use Rattle.std.proofs.Common.{Some, subst, arith}
use Rattle.asm_calls.specs.Orders.{NoneRecursive, IsFirstRecursive}
use Rattle.asm_calls.specs.Texts.{all_defined}
use Rattle.asm_calls.proofs.TextRefusals.{none_refused, first_refused, length-call_graph}
use Rattle.asm_calls.proofs.texts.ordered.Goals as goal

pub returns-in-Some : goal.returns-in-Some
returns-in-Some c =
    let graph = c.args.graph.now in
    let ds = all_defined c.args.all.now in
    let first : IsFirstRecursive c.args.graph.now (Some c.in-Some.at) =
    subst (IsFirstRecursive c.args.graph.now) c.in-Some.is c.in_ok-at.ensures in
    let long = length-call_graph (all_defined c.args.all.now) c.args.graph.now c.requires in
    first_refused graph ds c.in-Some.at c.refusal.result first
    (omega (arith, first.0, long)) c.refusal.ensures

pub returns-in_ok-order-in-None : goal.returns-in_ok-order-in-None
returns-in_ok-order-in-None c =
    let none : NoneRecursive c.args.graph.now =
    subst (IsFirstRecursive c.args.graph.now) c.in-None.is c.in_ok-at.ensures in (
      none_refused c.args.graph.now (all_defined c.args.all.now) none,
      c.in_ok-order-in-None.ensures,
    )
