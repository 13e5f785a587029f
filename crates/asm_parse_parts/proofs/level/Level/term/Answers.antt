use Rattle.std.proofs.Common.{arith}
use Rattle.asm_parse_theory.specs.Terms.{term}
use Rattle.asm_parse_parts.proofs.level.Level.term.Goals as goal

pub returns : goal.returns
unfolding term
returns g c = c.requires.nests.reads _ _ _ _ _ _ (omega arith) c.line.ensures
