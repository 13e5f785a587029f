-- The names of the last definitions have their numbers.
use Rattle.std.proofs.Common.{◌-◌, length, drop}
use Rattle.asm_calls.specs.Texts.{all_defined, Numbers}
use Rattle.asm_calls.proofs.texts.numbers_of.Given as goal

abbrev pub invariant-loop-past : goal.invariant-loop-past
invariant-loop-past l =
    Numbers l.rules (length l.all - l.past) (drop (length l.all - l.past) (all_defined l.all))
    l.numbers
