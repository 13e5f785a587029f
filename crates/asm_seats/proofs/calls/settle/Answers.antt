use Rattle.std.proofs.Common.{[]}
use Rattle.std.proofs.lemmas.List.{append-nil}
use Rattle.asm_seats.proofs.calls.settle.Goals as goal

pub commit-requires-clause-stands : goal.commit-requires-clause-stands
commit-requires-clause-stands g c = (c.args.token.now.history, ([], append-nil c.args.token.now.history), c.requires.stands)
