use Rattle.std.proofs.Common.{get_or, sym, ◌∙◌}
use Rattle.asm_lex_theory.proofs.Cases.{symbol_long_done, symbol_end, symbol_short_here, symbol_one, symbol_bad, cut_after_one, cut_after_two}
use Rattle.asm_lex.proofs.front.symbol.Goals as goal
use Rattle.asm_lex.proofs.front.symbol.Goals.{then-at-bytes+else-is_symbol, else-at-bytes}

pub piece-requires-clause-to : goal.piece-requires-clause-to
piece-requires-clause-to c = cut_after_two c.args.text.now c.args.at c.utf8.text (rw c.as_bytes-bytes.ensures.value at c.if-at-bytes.true) (sym (rw c.as_bytes-bytes.ensures.value at c.is_symbol.ensures) ∙ c.if-is_symbol.true)

pub returns-then-is_symbol : goal.returns-then-is_symbol
returns-then-is_symbol c = symbol_long_done c.args.text.now c.args.at c.in_ok-name.name c.requires.letter c.requires.digit c.requires.dollar c.requires.quote (rw c.as_bytes-bytes.ensures.value at c.if-at-bytes.true) (sym (rw c.as_bytes-bytes.ensures.value at c.is_symbol.ensures) ∙ c.if-is_symbol.true) c.in_ok-name.ensures

pub piece-requires-then-is_symbol-2-clause-to : goal.piece-requires-then-is_symbol-2-clause-to
piece-requires-then-is_symbol-2-clause-to c = cut_after_one c.args.text.now c.args.at c.utf8.text c.requires.within (sym (rw c.as_bytes-bytes.ensures.value at c.is_symbol-2.ensures) ∙ c.if-is_symbol-2.true)

pub returns-then-is_symbol-2 : goal.returns-then-is_symbol-2
returns-then-is_symbol-2 c =
    symbol_one c.args.text.now c.args.at c.in_ok-name-2.name c.requires.within (sym (rw c.as_bytes-bytes.ensures.value at c.is_symbol-2.ensures) ∙ c.if-is_symbol-2.true) c.in_ok-name-2.ensures
    ∙ elim c.if-at-bytes.branch [
      | then-at-bytes+else-is_symbol w ↦ symbol_short_here c.args.text.now c.args.at c.requires.letter c.requires.digit c.requires.dollar c.requires.quote (rw c.as_bytes-bytes.ensures.value at w.if-at-bytes.true) (sym (rw c.as_bytes-bytes.ensures.value at w.is_symbol.ensures) ∙ w.if-is_symbol.false)
      | else-at-bytes w ↦ symbol_end c.args.text.now c.args.at c.requires.letter c.requires.digit c.requires.dollar c.requires.quote (rw c.as_bytes-bytes.ensures.value at w.if-at-bytes.false)
    ]

pub returns : goal.returns
returns c =
    symbol_bad (get_or c.args.text.now c.args.at 0) (sym (rw c.as_bytes-bytes.ensures.value at c.is_symbol-2.ensures) ∙ c.if-is_symbol-2.false)
    ∙ elim c.if-at-bytes.branch [
      | then-at-bytes+else-is_symbol w ↦ symbol_short_here c.args.text.now c.args.at c.requires.letter c.requires.digit c.requires.dollar c.requires.quote (rw c.as_bytes-bytes.ensures.value at w.if-at-bytes.true) (sym (rw c.as_bytes-bytes.ensures.value at w.is_symbol.ensures) ∙ w.if-is_symbol.false)
      | else-at-bytes w ↦ symbol_end c.args.text.now c.args.at c.requires.letter c.requires.digit c.requires.dollar c.requires.quote (rw c.as_bytes-bytes.ensures.value at w.if-at-bytes.false)
    ]
