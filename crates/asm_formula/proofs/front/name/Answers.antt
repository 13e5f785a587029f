use Rattle.std.proofs.Common.{◌≡◌, ℕ, ◌+◌, drop, arith, sym, subst}
use Rattle.std.specs.Str.{IsCharBoundary}
use Rattle.std.specs.List.{prefix_len}
use Rattle.asm_formula.specs.Tokens.{is_name_byte}
use Rattle.asm_formula.proofs.Places.{run_cut, name_done}
use Rattle.asm_formula.proofs.front.name.Goals as goal

pub piece-requires-clause-to : goal.piece-requires-clause-to
piece-requires-clause-to c =
    let l : c.run-len.result ≡ prefix_len is_name_byte (drop (c.args.at + 1) c.args.text.now) = (rw c.as_bytes.ensures.value at c.run-len.ensures.len) in
    let w = (rw c.as_bytes.ensures.value at c.run-len.ensures.within) in
    subst (λ (n : ℕ). IsCharBoundary c.args.text.now (c.args.at + (n + 1))) (sym l) (run_cut c.args.text.now c.args.at c.utf8.text c.requires.within c.requires.letter (omega arith))

pub returns : goal.returns
returns c = name_done c.args.text.now c.args.at c.run-len.result c.in_ok-name.name c.requires.within (rw c.as_bytes.ensures.value at c.run-len.ensures.len) c.in_ok-name.ensures
