-- Of two least locations, and of two least values, neither is greater.
use Rattle.asm_value.proofs.ClashLaws.{IsClash-alone}
use Rattle.asm_value.proofs.laws.there_is_at_most_one_clash.Goals as goal

pub returns : goal.returns
returns c = IsClash-alone
