use Rattle.std.proofs.Common.{◌≡◌, ◌-◌, ◌≤◌, length, drop}
use Rattle.asm_formula.specs.Scan.{lexed_from, after_tokens}
use Rattle.asm_formula.proofs.lexing.lex.Given as goal

abbrev pub invariant-loop-at : goal.invariant-loop-at
invariant-loop-at l = record {
  within : l.at ≤ length l.text;
  rest : lexed_from l.text 0 0 ≡ after_tokens l.tokens (lexed_from (drop l.at l.text) 0 l.at);
}

abbrev pub decreases-loop-at : goal.decreases-loop-at
decreases-loop-at l = length l.text - l.at
