use Rattle.asm_tables.proofs.TableLaws.{only_match}
use Rattle.asm_tables.proofs.laws.at_most_one_row_matches.Goals as goal

pub returns : goal.returns
returns g c = λ name kinds i j p q. only_match name kinds c.args.table.now.rows i j c.args.table.now.distinct p q
