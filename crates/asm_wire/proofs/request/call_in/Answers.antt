use Rattle.std.proofs.Common.{rules}
use Rattle.asm_wire.specs.Requests.{call_in}
use Rattle.asm_wire.proofs.request.call_in.Goals as goal

pub returns-then-not-is_object : goal.returns-then-not-is_object
unfolding call_in
returns-then-not-is_object c = search rules

pub returns-in_err-op : goal.returns-in_err-op
unfolding call_in
returns-in_err-op c = search rules

pub returns : goal.returns
unfolding call_in
returns c = search rules
