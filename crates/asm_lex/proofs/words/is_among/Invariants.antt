use Rattle.std.proofs.Common.{◌≡◌, drop}
use Rattle.std.specs.Prelude.{map}
use Rattle.asm_syntax.specs.Words.{is_among}
use Rattle.asm_lex.proofs.words.is_among.Given as goal

abbrev pub invariant-loop-entry : goal.invariant-loop-entry
invariant-loop-entry l = is_among (map (λ w. w.now) (drop l.entry-index l.table)) l.word ≡ is_among (map (λ w. w.now) l.table) l.word
