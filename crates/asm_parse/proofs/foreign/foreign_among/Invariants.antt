use Rattle.std.proofs.Common.{◌≡◌, ◌-◌, length}
use Rattle.asm_parse_theory.specs.Models.{foreign_among}
use Rattle.asm_parse.proofs.foreign.foreign_among.Given as goal

abbrev pub invariant-loop-turn : goal.invariant-loop-turn
invariant-loop-turn l = foreign_among (length l.fn.tokens) l.fn.tokens ≡ foreign_among (l._turn-end - l._turn) l.tokens
