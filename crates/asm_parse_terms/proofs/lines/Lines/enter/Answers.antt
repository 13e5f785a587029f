use Rattle.asm_parse_terms.proofs.Opened.{is_open_is}
use Rattle.asm_parse_terms.proofs.lines.Lines.enter.Goals as goal

pub returns-clause-reads : goal.returns-clause-reads
returns-clause-reads g c = rw (is_open_is c.args.self.now.at.depth) c.enter.ensures
