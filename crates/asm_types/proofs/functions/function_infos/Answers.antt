-- One more function, and one fewer is left.
use Rattle.std.proofs.Common.{◌++◌, ◌∷◌, [], sym, ◌∙◌}
use Rattle.asm_types.specs.Assembled.{info_of, infos_from}
use Rattle.asm_types.proofs.Infos.{infos-preserved}
use Rattle.asm_types.proofs.functions.function_infos.Goals as goal

pub loop-at-preserved : goal.loop-at-preserved
loop-at-preserved c =
    let w = c.loop-at.infos in
    let counts = c.args.counts.now in
    let all = infos_from counts 0 c.args.names.now c.args.headers.now c.args.bodies.items in (
      infos-preserved w c.add_function.new.infos counts c.loop-at.at c.args.names.now
          c.args.headers.now c.loop-at.bodies.items c.taken-body.new.bodies.items c.index-names-at.result
          c.index-headers-at.result c.taken-body.result all c.loop-at-test.true c.requires.headers
          c.loop-at.invariant.1 c.loop-at.invariant.0 c.taken-body.ensures.rest
          (c.in-Ok.ensures
          ∙ (λ j. w
          ++ info_of (c.index-names-at.is j) (c.index-headers-at.is j)
          (c.taken-body.ensures.body c.taken-body.result j) (c.counts_at.ensures j)
          ∷ [])),
      c.loop-at.invariant.1 ∙ sym c.taken-body.ensures.length,
    )
