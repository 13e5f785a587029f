use Rattle.std.proofs.Common.{◌≡◌, ◌+◌, [], length, replicate, vec_len}
use Rattle.asm_book.specs.Gathered.{fresh_from}
use Rattle.asm_book.proofs.opened.deal.Given as goal

abbrev pub invariant-loop-reader : goal.invariant-loop-reader
invariant-loop-reader g l = record {
  seats : l.seat + length l.readers.items ≡ g.L.Opening.seats;
  empty : l.readers.items ≡ replicate (length l.readers.items) [];
  parts : l.share.parts ≡ length l.readers.items;
  amount : l.share.amount ≡ 0;
  fresh : l.tokens.items ≡ fresh_from 0 l.seat;
}

abbrev pub decreases-loop-reader : goal.decreases-loop-reader
decreases-loop-reader g l = vec_len l.readers
