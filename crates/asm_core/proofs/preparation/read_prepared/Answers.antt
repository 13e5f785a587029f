use Rattle.asm_core.specs.Language.{asmeta}
use Rattle.asm_core.proofs.Standing.{if_ok, stands_read}
use Rattle.asm_core.proofs.preparation.read_prepared.Goals as goal

pub returns : goal.returns
returns c =
    if_ok c.read_made.result _ _ c.read_made.ensures (λ p is.
    stands_read asmeta c.args.board.now c.args.call.now c.in_ok-body.body p c.requires c.in_ok-body.ensures is)
