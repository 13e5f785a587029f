use Rattle.asm_types.proofs.checker.program.Goals as goal

pub functions_of-requires-clause-bodies : goal.functions_of-requires-clause-bodies
functions_of-requires-clause-bodies c = c.requires.defined.bodies
