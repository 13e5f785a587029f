use Rattle.asm_board.proofs.Legal.{tells_its_number}
use Rattle.asm_board.proofs.laws.an_answer_tells_its_number.Goals as goal

pub returns : goal.returns
returns c m journal seat call = tells_its_number m c.args.room journal seat call
