use Rattle.asm_board.specs.Shown.{defined, every_kind}
use Rattle.asm_board.proofs.Listed.{ascending_ascends, shown_is_defined, defined_is_shown}
use Rattle.asm_board.proofs.laws.a_state_shows_its_defined_functions.Goals as goal

pub returns-clause-ascend : goal.returns-clause-ascend
returns-clause-ascend c program state = ascending_ascends (defined every_kind program.domains state 0 program.functions)

pub returns-clause-defined : goal.returns-clause-defined
returns-clause-defined c program state shown h = shown_is_defined program state shown h

pub returns-clause-all : goal.returns-clause-all
returns-clause-all c program state shown differ h = defined_is_shown program state shown differ h
