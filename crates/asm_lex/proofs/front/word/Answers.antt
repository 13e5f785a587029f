use Rattle.std.proofs.Common.{◌≡◌, ℕ, ◌+◌, drop, arith, sym, subst}
use Rattle.std.specs.Str.{IsCharBoundary}
use Rattle.std.specs.List.{prefix_len}
use Rattle.asm_syntax.specs.Bytes.{is_word_byte}
use Rattle.asm_lex_theory.proofs.Cases.{run_cut, word_done}
use Rattle.asm_lex.proofs.front.word.Goals as goal

pub piece-requires-clause-to : goal.piece-requires-clause-to
piece-requires-clause-to c =
    let l : c.run-len.result ≡ prefix_len is_word_byte (drop (c.args.at + 1) c.args.text.now) = (rw c.as_bytes.ensures.value at c.run-len.ensures.len) in
    let w = (rw c.as_bytes.ensures.value at c.run-len.ensures.within) in
    subst (λ (n : ℕ). IsCharBoundary c.args.text.now (c.args.at + (n + 1))) (sym l) (run_cut c.args.text.now c.args.at c.utf8.text c.requires.within c.requires.letter (omega arith))

pub returns : goal.returns
returns c = word_done c.args.text.now c.args.at c.run-len.result c.word_kind.result c.in_ok-name.name c.requires.within c.requires.letter (rw c.as_bytes.ensures.value at c.run-len.ensures.len) c.word_kind.ensures c.in_ok-name.ensures
