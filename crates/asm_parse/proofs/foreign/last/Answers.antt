use Rattle.asm_parse.proofs.ImportTurns.{last_is}
use Rattle.asm_parse.proofs.foreign.last.Goals as goal

pub returns-in-Some : goal.returns-in-Some
returns-in-Some c = last_is c.args.first.now c.args.others.now c.in-Some.token.now c.in-Some.ensures.value
