use Rattle.std.proofs.Common.{◌≡◌, ℕ, ◌<◌, ◌==◌, true, false, arith}
use Rattle.std.proofs.lemmas.Str.{IsCharBoundary-after_ascii}
use Rattle.std.proofs.lemmas.Bool.Decides.{nat_tests}
use Rattle.asm_lex_theory.proofs.Cases.{string_done, open_end, open_byte}
use Rattle.asm_lex.proofs.front.string.Goals as goal

quoted : (b : ℕ) → (b == 34) ≡ true → b < 128
quoted b h = grind (arith, nat_tests)

same_test : (b : ℕ) → b ≡ 34 → (b == 34) ≡ true
same_test b h = grind (arith, nat_tests)

other_test : (b : ℕ) → (b ≡ 34 → ⊥) → (b == 34) ≡ false
other_test b h = grind (arith, nat_tests)

pub returns-then-at-len : goal.returns-then-at-len
returns-then-at-len c = open_end c.args.text.now c.args.at c.run-len.result c.requires.letter c.requires.digit c.requires.dollar c.requires.quote (rw c.as_bytes-bytes.ensures.value at c.run-len.ensures.len) (omega arith)

pub returns-then-bytes-at-ne34 : goal.returns-then-bytes-at-ne34
returns-then-bytes-at-ne34 c =
    let w = (rw c.as_bytes-bytes.ensures.value at c.run-len.ensures.within) in
    open_byte c.args.text.now c.args.at c.run-len.result c.requires.letter c.requires.digit c.requires.dollar c.requires.quote (rw c.as_bytes-bytes.ensures.value at c.run-len.ensures.len) (omega arith) (other_test _ (rw c.as_bytes-bytes.ensures.value at c.if-bytes-at-ne34.true))

pub piece-requires-clause-from : goal.piece-requires-clause-from
piece-requires-clause-from c = IsCharBoundary-after_ascii c.args.text.now c.args.at c.utf8.text c.requires.within (quoted _ c.requires.quote)

pub returns : goal.returns
returns c =
    let w = (rw c.as_bytes-bytes.ensures.value at c.run-len.ensures.within) in
    string_done c.args.text.now c.args.at c.run-len.result c.in_ok-name.name c.requires.letter c.requires.digit c.requires.dollar c.requires.quote (rw c.as_bytes-bytes.ensures.value at c.run-len.ensures.len) (omega arith) (same_test _ (rw c.as_bytes-bytes.ensures.value at c.if-bytes-at-ne34.false)) c.in_ok-name.ensures
