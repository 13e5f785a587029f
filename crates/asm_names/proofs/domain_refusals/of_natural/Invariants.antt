use Rattle.std.proofs.Common.{◌≡◌, drop}
use Rattle.asm_program.specs.DomainsPass.{of_natural}
use Rattle.asm_names.proofs.domain_refusals.of_natural.Given as goal

abbrev pub invariant-loop-decl : goal.invariant-loop-decl
invariant-loop-decl l = of_natural (drop l.decl-index l.decls) l.name ≡ of_natural l.decls l.name
