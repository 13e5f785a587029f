use Rattle.asm_names.specs.Numbers.{with_names, macros_named}
use Rattle.asm_names.proofs.NameSteps.{macros-preserved}
use Rattle.asm_names.proofs.listing.add_macros.Goals as goal

pub loop-def-preserved : goal.loop-def-preserved
loop-def-preserved c =
    macros-preserved c.loop-def.names c.add_macro.new.names (with_names c.args.names.now (macros_named 0 c.args.defs.now)) c.loop-def.number c.macro_after-number.result c.args.defs.now
    c.loop-def.def-index c.def-item.result c.loop-def-test.true c.def-item.is c.in_ok-add_macro.ensures c.macro_after-number.ensures c.loop-def.invariant
