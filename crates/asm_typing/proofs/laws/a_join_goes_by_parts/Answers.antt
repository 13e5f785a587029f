use Rattle.asm_typing.proofs.TypeSteps.{join-out}
use Rattle.asm_typing.proofs.laws.a_join_goes_by_parts.Goals as goal

pub returns : goal.returns
returns c = join-out
