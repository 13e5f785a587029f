use Rattle.std.proofs.Common.{◌≡◌, drop, map}
use Rattle.asm_syntax.specs.Marks.{is_one_of, keyword}
use Rattle.asm_parse_cursor.proofs.tokens.is_one_word.Given as goal

abbrev pub invariant-loop-word : goal.invariant-loop-word
invariant-loop-word l = is_one_of (map (λ w. keyword w.now) (drop l.word-index l.words)) l.token ≡ is_one_of (map (λ w. keyword w.now) l.words) l.token
