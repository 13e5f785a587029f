use Rattle.asm_core.proofs.Runs.{orderly}
use Rattle.asm_core.proofs.laws.world.Goals as goal

pub returns : goal.returns
returns c m = orderly m c.args.room
