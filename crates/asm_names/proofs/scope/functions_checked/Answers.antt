use Rattle.std.proofs.Common.{rules}
use Rattle.asm_program.specs.Items.{starts_of}
use Rattle.asm_names.proofs.ScopeSteps.{functions-first, functions-second, functions-third, functions-none, functions-are}
use Rattle.asm_names.proofs.scope.functions_checked.Goals as goal

pub returns-in_err-functions : goal.returns-in_err-functions
returns-in_err-functions c =
    search (rules, functions-first c.args.defined.now c.args.defs.now c.args.names.now c.requires c.args.decls.now (starts_of c.args.init.now))

pub returns-in_err-definitions_fit : goal.returns-in_err-definitions_fit
returns-in_err-definitions_fit c =
    search (rules, functions-second c.args.defined.now c.args.defs.now c.args.names.now c.requires c.args.decls.now (starts_of c.args.init.now) c.in_ok-functions.functions c.in_ok-functions.ensures.0 c.in_ok-functions.ensures.1)

pub returns-in_err-starts_fit : goal.returns-in_err-starts_fit
returns-in_err-starts_fit c =
    search (
      rules,
      functions-third c.args.defined.now c.args.defs.now c.args.names.now c.requires c.args.decls.now (starts_of c.args.init.now) c.in_ok-functions.functions c.in_ok-functions.ensures.0 c.in_ok-functions.ensures.1
          c.in_ok-definitions_fit.ensures.0,
    )

pub returns : goal.returns
returns c = (
  functions-none c.args.defined.now c.args.defs.now c.args.names.now c.requires c.args.decls.now (starts_of c.args.init.now) c.in_ok-functions.functions c.in_ok-functions.ensures.0 c.in_ok-functions.ensures.1
      c.in_ok-definitions_fit.ensures.0 c.in_ok-starts_fit.ensures.0,
  functions-are c.args.defined.now c.args.defs.now c.args.names.now c.requires c.args.decls.now (starts_of c.args.init.now) c.in_ok-functions.functions c.in_ok-functions.ensures.1,
)
