use Rattle.std.proofs.Common.{sym, arith}
use Rattle.asm_parse.specs.declared.foreign.Next.TheVariants.{Standard, Foreign, Nothing}
use Rattle.asm_parse.proofs.ImportTurns.{turn_finds, turns_end}
use Rattle.asm_parse.proofs.foreign.foreign_among.Goals as goal

pub returns-in-Foreign : goal.returns-in-Foreign
returns-in-Foreign c =
    sym (turn_finds _ _ c.loop-turn._turn c.loop-turn.tokens c.next_import.new.tokens (Foreign c.in-Foreign.import) c.loop-turn-test.true c.loop-turn.invariant
    (rw c.in-Foreign.is at c.in_ok-next_import.ensures))

pub returns-in-Nothing : goal.returns-in-Nothing
returns-in-Nothing c =
    sym (turn_finds _ _ c.loop-turn._turn c.loop-turn.tokens c.next_import.new.tokens Nothing c.loop-turn-test.true c.loop-turn.invariant
    (rw c.in-Nothing.is at c.in_ok-next_import.ensures))

pub loop-turn-preserved : goal.loop-turn-preserved
loop-turn-preserved c =
    turn_finds _ _ c.loop-turn._turn c.loop-turn.tokens c.next_import.new.tokens Standard c.loop-turn-test.true c.loop-turn.invariant
    (rw c.in-Standard.is at c.in_ok-next_import.ensures)

pub returns : goal.returns
returns c = turns_end _ _ c.loop-turn._turn c.loop-turn.tokens (omega arith) c.loop-turn.invariant
