use Rattle.asm_tables.proofs.TableLaws.{match_admits}
use Rattle.asm_tables.proofs.laws.a_match_is_admitted.Goals as goal

pub returns : goal.returns
returns c = match_admits
