use Rattle.std.proofs.Common.{◌≡◌, ◌+◌, length, vec_len}
use Rattle.asm_book.specs.Seats.{total_length}
use Rattle.asm_book.specs.Gathered.{mines}
use Rattle.asm_book.proofs.locked.merge_all.Given as goal

abbrev pub invariant-loop-token : goal.invariant-loop-token
invariant-loop-token g l = (l.all.parts + length l.tokens.items ≡ l.initial.all.parts + length l.initial.tokens.items) × (l.all.amount + total_length (mines l.tokens.items) ≡ l.initial.all.amount + total_length (mines l.initial.tokens.items))

abbrev pub decreases-loop-token : goal.decreases-loop-token
decreases-loop-token g l = vec_len l.tokens
