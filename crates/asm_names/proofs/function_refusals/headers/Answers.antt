use Rattle.std.proofs.Common.{ap}
use Rattle.asm_names.specs.Passes.{missing_in, missing_from}
use Rattle.asm_scope.proofs.Checking.{is_first-along}
use Rattle.asm_names.proofs.Passes.{missing-err}
use Rattle.asm_names.proofs.function_refusals.headers.Goals as goal

pub returns-in-Err : goal.returns-in-Err
returns-in-Err c =
    let ds = c.args.defined.now in
    let ns = c.args.names.now in
    missing-err ds ns c.args.decls.now c.loop-decl.decl-index (missing_from ds ns c.args.decls.now) c.decl-item.result c.in-Err.refusal c.loop-decl-test.true c.loop-decl.invariant.0
    (is_first-along c.in-Err.refusal _ _ (ap (missing_in ds ns) c.decl-item.is) c.in-Err.ensures)
