use Rattle.std.proofs.Common.{refl}
use Rattle.asm_tables.specs.declared.rows.TheConstants.{OPERATORS}
use Rattle.asm_tables.proofs.TableLaws.{only_match}
use Rattle.asm_tables.proofs.laws.an_operator_has_one_row.Goals as goal

pub returns : goal.returns
returns c = λ name kinds i j p q. only_match name kinds OPERATORS i j refl p q
