use Rattle.asm_value.proofs.DomainLaws.{each_passes-lengths}
use Rattle.asm_program.specs.FunctionsPass.{same_domain}
use Rattle.asm_scope.proofs.sameness.+same.Goals as goal

pub same_domains-returns-then-right-left : goal.same_domains-returns-then-right-left
same_domains-returns-then-right-left t c = each_passes-lengths same_domain c.args.left.now c.args.right.now c.if-right-left.true
