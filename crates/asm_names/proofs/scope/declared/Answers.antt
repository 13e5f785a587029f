use Rattle.std.proofs.Common.{rules}
use Rattle.asm_names.proofs.ScopeSteps.{scope-second, scope-none, scope-is}
use Rattle.asm_names.proofs.scope.declared.Goals as goal

pub returns-in_err-functions : goal.returns-in_err-functions
returns-in_err-functions c = search (rules, scope-second c.args.tree.now c.in_ok-names.names c.in_ok-names.ensures.0 c.in_ok-names.ensures.1)

pub returns : goal.returns
returns c = (
  scope-none c.args.tree.now c.in_ok-names.names c.in_ok-names.ensures.0 c.in_ok-names.ensures.1 c.in_ok-functions.ensures.0,
  scope-is c.args.tree.now c.new-scope.result c.in_ok-names.names c.in_ok-domains.domains c.in_ok-functions.functions c.in_ok-macros.macros c.new-scope.ensures c.in_ok-names.ensures.1
      c.in_ok-domains.ensures c.in_ok-functions.ensures.1 c.in_ok-macros.ensures,
)
