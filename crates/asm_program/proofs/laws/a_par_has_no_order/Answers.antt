use Rattle.asm_program.proofs.OrderLaws.{book_order}
use Rattle.asm_program.proofs.laws.a_par_has_no_order.Goals as goal

-- The law as it is proved of the relation.
pub returns-clause-of_the_book : goal.returns-clause-of_the_book
returns-clause-of_the_book c = book_order
