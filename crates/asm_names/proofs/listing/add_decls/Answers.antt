use Rattle.asm_names.specs.Numbers.{with_names, decls_named}
use Rattle.asm_names.proofs.NameSteps.{decls-preserved}
use Rattle.asm_names.proofs.listing.add_decls.Goals as goal

pub loop-decl-preserved : goal.loop-decl-preserved
loop-decl-preserved c =
    decls-preserved c.loop-decl.names c.add_decl.new.names (with_names c.args.names.now (decls_named 0 0 c.args.decls.now)) c.loop-decl.domain c.loop-decl.function
    c.domain_after-domain.result c.function_after-function.result c.args.decls.now c.loop-decl.decl-index c.decl-item.result c.loop-decl-test.true c.decl-item.is c.in_ok-add_decl.ensures
    c.domain_after-domain.ensures c.function_after-function.ensures c.loop-decl.invariant
