-- By Euclid's quotient and what it leaves.
use Rattle.asm_operations.proofs.Division.{whole, left}
use Rattle.asm_operations.proofs.laws.quotients_are_rounded_down.Goals as goal

pub returns-clause-whole : goal.returns-clause-whole
returns-clause-whole c = whole

pub returns-clause-left : goal.returns-clause-left
returns-clause-left c = left
