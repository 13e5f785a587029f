use Rattle.asm_board.proofs.StillStands.{still_stands, settled_is_answered}
use Rattle.asm_board.proofs.laws.still_stands.Goals as goal

pub returns : goal.returns
returns c m journal prefix p call pre is stands same =
    let now = still_stands m prefix journal p call is pre stands same in
    (now, λ seat. settled_is_answered m c.args.room journal seat p call is now)
