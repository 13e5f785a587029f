use Rattle.std.proofs.Common.{arith, ◌∷◌, [], ◌∙◌, sym, ap, string_bytes, codes}
use Rattle.std.specs.Str.{bytes_eq}
use Rattle.std.specs.Cmp.Lexicographic.{bytes_decides}
use Rattle.asm_stdio.proofs.CommandLine.{two_words, demo_of_size}
use Rattle.asm_stdio.proofs.words.demo_in.Goals as goal

pub returns-then-eq : goal.returns-then-eq
returns-then-eq c =
    let word = string_bytes c.word-item.result in
    demo_of_size c.args.words.now word c.as_str-then-eq.result.now c.size_in.result
    (two_words c.args.words.now c.word-item.result c.size-item.result (omega arith) (omega arith) c.word-item.is c.size-item.is
    ∙ ap (λ b. word ∷ b ∷ []) (sym c.as_str-then-eq.ensures.value))
    ((bytes_decides word (codes "demo")).0 (sym (c.eq.ensures ∙ ap (λ s. bytes_eq s (codes "demo")) c.as_str.ensures.value) ∙ c.if-eq.true))
    c.size_in.ensures
