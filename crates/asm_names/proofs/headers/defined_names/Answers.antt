use Rattle.std.proofs.Common.{ap, ◌∙◌}
use Rattle.asm_names.specs.Definitions.{defined_with}
use Rattle.asm_names.proofs.Lists.{defined-step}
use Rattle.asm_names.proofs.headers.defined_names.Goals as goal

pub loop-def-preserved : goal.loop-def-preserved
loop-def-preserved c =
    defined-step c.loop-def.names c.add_defined.new.names c.args.defs.now c.loop-def.def-index c.def-item.result c.loop-def-test.true c.loop-def.invariant
    (c.in-Ok.ensures ∙ ap (defined_with c.loop-def.names) c.def-item.is)
