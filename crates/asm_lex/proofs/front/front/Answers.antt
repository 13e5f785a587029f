use Rattle.std.proofs.Common.{◌≡◌, ◌+◌, sym, ap, ◌∙◌, subst}
use Rattle.asm_lex_theory.proofs.Cases.{blank_here, line_here, block_at, token_at_front}
use Rattle.asm_lex_theory.specs.declared.Front.{Front}
use Rattle.asm_lex_theory.specs.declared.Front.TheVariants.{Gap}
use Rattle.std.specs.Prelude.{IfOk}
use Rattle.asm_lex.proofs.front.front.Goals as goal

pub returns-then-is_blank : goal.returns-then-is_blank
returns-then-is_blank c = blank_here c.args.text.now c.args.at c.requires (sym (rw c.as_bytes-bytes.ensures.value at c.is_blank.ensures) ∙ c.if-is_blank.true)

pub returns-then-begins : goal.returns-then-begins
returns-then-begins c =
    ap (λ n. Gap (n + 2)) (rw c.as_bytes-bytes.ensures.value at c.run-len.ensures.len)
    ∙ line_here c.args.text.now c.args.at c.requires (sym (rw c.as_bytes-bytes.ensures.value at c.is_blank.ensures) ∙ c.if-is_blank.false) (sym (rw c.as_bytes-bytes.ensures.value at c.begins.ensures.value) ∙ c.if-begins.true)

pub returns-then-begins-2 : goal.returns-then-begins-2
returns-then-begins-2 c =
    (rw c.as_bytes-bytes.ensures.value at c.comment.ensures)
    ∙ block_at c.args.text.now c.args.at c.requires (sym (rw c.as_bytes-bytes.ensures.value at c.is_blank.ensures) ∙ c.if-is_blank.false) (sym (rw c.as_bytes-bytes.ensures.value at c.begins.ensures.value) ∙ c.if-begins.false) (sym (rw c.as_bytes-bytes.ensures.value at c.begins-2.ensures.value) ∙ c.if-begins-2.true)

pub returns : goal.returns
returns c = subst (λ (x : Front). IfOk c.token.result (λ f. f ≡ x))
    (token_at_front c.args.text.now c.args.at c.requires (sym (rw c.as_bytes-bytes.ensures.value at c.is_blank.ensures) ∙ c.if-is_blank.false) (sym (rw c.as_bytes-bytes.ensures.value at c.begins.ensures.value) ∙ c.if-begins.false) (sym (rw c.as_bytes-bytes.ensures.value at c.begins-2.ensures.value) ∙ c.if-begins-2.false))
    c.token.ensures
