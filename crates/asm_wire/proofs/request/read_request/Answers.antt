use Rattle.asm_wire.proofs.Asked.{reports_one}
use Rattle.asm_wire.proofs.request.read_request.Goals as goal

pub returns-clause-reported : goal.returns-clause-reported
returns-clause-reported c asked asks = reports_one c.args.line.now asked c.call_of.result c.call_of.ensures.asked c.call_of.ensures.refused asks
