use Rattle.std.proofs.Common.{◌≡◌, drop, map}
use Rattle.asm_syntax.specs.Marks.{is_one_of, symbol}
use Rattle.asm_parse_cursor.proofs.tokens.is_one_sign.Given as goal

abbrev pub invariant-loop-sign : goal.invariant-loop-sign
invariant-loop-sign l = is_one_of (map (λ s. symbol s.now) (drop l.sign-index l.signs)) l.token ≡ is_one_of (map (λ s. symbol s.now) l.signs) l.token
