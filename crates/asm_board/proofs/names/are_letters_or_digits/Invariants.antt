use Rattle.std.proofs.Common.{◌≡◌, ◌||◌, drop}
use Rattle.std.specs.List.{list_all}
use Rattle.asm_board.specs.Changes.{is_letter, is_digit}
use Rattle.asm_board.proofs.names.are_letters_or_digits.Given as goal

-- what the bytes from this one on say is what all say
abbrev pub invariant-loop-byte : goal.invariant-loop-byte
invariant-loop-byte l = list_all (λ d. is_letter d || is_digit d) (drop l.byte-index l.bytes) ≡ list_all (λ d. is_letter d || is_digit d) l.bytes
