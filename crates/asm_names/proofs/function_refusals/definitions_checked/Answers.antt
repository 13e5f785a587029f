use Rattle.std.proofs.Common.{[], ap}
use Rattle.asm_program.specs.FunctionsPass.{definitions_refused}
use Rattle.asm_names.specs.Passes.{definition_refused_at}
use Rattle.asm_scope.proofs.Checking.{is_first-along}
use Rattle.asm_names.proofs.Passes.{definitions-err}
use Rattle.asm_names.proofs.function_refusals.definitions_checked.Goals as goal

pub returns-in-Err : goal.returns-in-Err
returns-in-Err c =
    let s = c.loop-def.done in
    let ns = c.args.names.now in
    let fs = c.args.functions.now in
    definitions-err ns fs s c.args.defs.now c.loop-def.def-index (definitions_refused [] ns fs [] c.args.defs.now) c.def-item.result c.in-Err.refusal c.loop-def-test.true c.loop-def.invariant
    (is_first-along c.in-Err.refusal _ _ (ap (definition_refused_at [] ns fs s) c.def-item.is) c.in-Err.ensures)
