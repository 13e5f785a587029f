use Rattle.asm_io.proofs.Joined.{joined_pieces, pieces_unfed}
use Rattle.asm_io.proofs.laws.pieces_lose_nothing.Goals as goal

pub returns-clause-whole : goal.returns-clause-whole
returns-clause-whole c = joined_pieces

pub returns-clause-unfed : goal.returns-clause-unfed
returns-clause-unfed c = pieces_unfed
