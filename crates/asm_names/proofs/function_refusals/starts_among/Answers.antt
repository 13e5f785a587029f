use Rattle.std.proofs.Common.{[], ap}
use Rattle.asm_program.specs.FunctionsPass.{definition_refused, starts_refused, is_dynamic}
use Rattle.asm_scope.proofs.Checking.{is_first-along}
use Rattle.asm_names.proofs.Passes.{starts-err}
use Rattle.asm_names.proofs.function_refusals.starts_among.Goals as goal

pub returns-in-Err : goal.returns-in-Err
returns-in-Err c =
    let s = c.loop-start.done in
    let ns = c.args.names.now in
    let fs = c.args.functions.now in
    starts-err ns fs s c.args.starts.now c.loop-start.start-index (starts_refused [] ns fs [] c.args.starts.now) c.start-item.result c.in-Err.refusal c.loop-start-test.true c.loop-start.invariant
    (is_first-along c.in-Err.refusal _ _ (ap (λ x. definition_refused [] ns fs s (λ h. is_dynamic h.kind) x.function) c.start-item.is) c.in-Err.ensures)
