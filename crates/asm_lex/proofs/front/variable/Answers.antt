use Rattle.std.proofs.Common.{◌≡◌, ℕ, ◌+◌, drop, arith, sym, ap, ◌∙◌, subst}
use Rattle.std.specs.Str.{IsCharBoundary}
use Rattle.std.specs.List.{prefix_len}
use Rattle.asm_syntax.specs.Bytes.{is_word_byte}
use Rattle.asm_lex_theory.proofs.Cases.{run_cut, variable_done, no_variable_end, no_variable}
use Rattle.asm_lex.proofs.front.variable.Goals as goal

pub returns-then-at-bytes : goal.returns-then-at-bytes
returns-then-at-bytes c = no_variable_end c.args.text.now c.args.at c.requires.letter c.requires.digit c.requires.dollar (omega (arith, c.if-at-bytes.true))

pub returns-then-not-is_letter : goal.returns-then-not-is_letter
returns-then-not-is_letter c = no_variable c.args.text.now c.args.at c.requires.letter c.requires.digit c.requires.dollar (omega arith) (sym (rw c.as_bytes-bytes.ensures.value at c.is_letter.ensures) ∙ c.if-not-is_letter.true)

pub piece-requires-clause-to : goal.piece-requires-clause-to
piece-requires-clause-to c =
    let two : c.args.at + 2 ≡ c.args.at + 1 + 1 = omega arith in
    let l : c.run-len.result ≡ prefix_len is_word_byte (drop (c.args.at + 1 + 1) c.args.text.now) = (rw c.as_bytes-bytes.ensures.value at c.run-len.ensures.len) ∙ ap (λ n. prefix_len is_word_byte (drop n c.args.text.now)) two in
    let w = (rw c.as_bytes-bytes.ensures.value at c.run-len.ensures.within) in
    subst (λ (n : ℕ). IsCharBoundary c.args.text.now (c.args.at + 1 + (n + 1))) (sym l)
    (run_cut c.args.text.now (c.args.at + 1) c.utf8.text (omega arith) (sym (rw c.as_bytes-bytes.ensures.value at c.is_letter.ensures) ∙ c.if-not-is_letter.false) (omega arith))

pub returns : goal.returns
returns c = variable_done c.args.text.now c.args.at c.run-len.result c.in_ok-name.name c.requires.letter c.requires.digit c.requires.dollar (omega arith) (sym (rw c.as_bytes-bytes.ensures.value at c.is_letter.ensures) ∙ c.if-not-is_letter.false) (rw c.as_bytes-bytes.ensures.value at c.run-len.ensures.len) c.in_ok-name.ensures
