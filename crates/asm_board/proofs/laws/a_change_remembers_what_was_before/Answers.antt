use Rattle.std.proofs.Common.{◌+◌}
use Rattle.asm_board.proofs.Others.{follows, remembers, begins}
use Rattle.asm_board.proofs.laws.a_change_remembers_what_was_before.Goals as goal

pub returns-clause-follows : goal.returns-clause-follows
returns-clause-follows c m board entry name = follows m board entry name

pub returns-clause-changed : goal.returns-clause-changed
returns-clause-changed c m board entry name old new was is differs =
    remembers (board.front + 1) old new _ _ was is differs (follows m board entry name)

pub returns-clause-loaded : goal.returns-clause-loaded
returns-clause-loaded c m board entry name new was is = begins (board.front + 1) new _ _ was is (follows m board entry name)
