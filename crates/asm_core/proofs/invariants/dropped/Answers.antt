use Rattle.asm_core.proofs.Holding.{is_without}
use Rattle.asm_core.proofs.invariants.dropped.Goals as goal

pub with_invariants-requires : goal.with_invariants-requires
with_invariants-requires c =
    is_without c.args.content.now c.args.name.now c.program.result.now c.in_ok-invs.invs c.state.result.now c.program.ensures c.state.ensures.state
    (search (c.in_ok-invs.ensures, c.as_slice.ensures, c.get.ensures, c.invs.ensures)) c.state.ensures.whole
