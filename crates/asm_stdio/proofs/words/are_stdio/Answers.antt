use Rattle.std.proofs.Common.{arith, ◌∙◌, ap}
use Rattle.std.specs.Str.{bytes_eq}
use Rattle.std.specs.Prelude.{codes}
use Rattle.asm_stdio.proofs.CommandLine.{one_word}
use Rattle.asm_stdio.proofs.words.are_stdio.Goals as goal

pub returns-in-len1 : goal.returns-in-len1
returns-in-len1 c =
    one_word c.args.words.now c.word-item.result c.eq.result (omega arith) (omega arith) c.word-item.is
    (c.eq.ensures ∙ ap (λ s. bytes_eq s (codes "stdio")) c.as_str.ensures.value)
