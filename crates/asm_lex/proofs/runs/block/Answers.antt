use Rattle.std.proofs.Common.{◌+◌, ◌-◌, sym, ap, ◌∙◌, arith}
use Rattle.std.specs.Prelude.{Some}
use Rattle.std.specs.Option.{option_map}
use Rattle.asm_lex_theory.specs.Scan.{block_len}
use Rattle.asm_lex_theory.proofs.Places.{block_here, block_next, block_out, shifted}
use Rattle.asm_lex.proofs.runs.block.Goals as goal

pub returns-then-begins-clause-value : goal.returns-then-begins-clause-value
returns-then-begins-clause-value c =
    sym (c.loop-at.invariant.rest ∙ ap (option_map (λ n. n + (c.loop-at.at - c.args.from))) (block_here c.args.bytes.now c.loop-at.at c.loop-at-test.true (sym c.begins.ensures.value ∙ c.if-begins.true)) ∙ ap Some (omega arith))

pub loop-at-preserved : goal.loop-at-preserved
loop-at-preserved c = record {
  from = omega arith;
  within = omega arith;
  rest = c.loop-at.invariant.rest
      ∙ ap (option_map (λ n. n + (c.loop-at.at - c.args.from))) (block_next c.args.bytes.now c.loop-at.at c.loop-at-test.true (sym c.begins.ensures.value ∙ c.if-begins.false))
      ∙ shifted _ _ (block_len _) (omega arith);
}

pub returns-clause-value : goal.returns-clause-value
returns-clause-value c = sym (c.loop-at.invariant.rest ∙ ap (option_map (λ n. n + (c.loop-at.at - c.args.from))) (block_out c.args.bytes.now c.loop-at.at c.loop-at-test.false))
