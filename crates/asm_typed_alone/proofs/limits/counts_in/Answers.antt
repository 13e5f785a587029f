use Rattle.std.proofs.Common.{ap, map, ◌∙◌}
use Rattle.asm_typed_alone.specs.Kept.{kept_counts}
use Rattle.asm_typed_alone.proofs.LimitSteps.{term_told}
use Rattle.asm_typed_alone.proofs.limits.counts_in.Goals as goal

pub returns : goal.returns
returns c =
    term_told c.args.program.now c.as_slice-2.result.now c.term_counts.result c.args.term.now
    (c.as_slice-2.ensures ∙ c.in_ok-functions.ensures ∙ ap (map kept_counts) c.as_slice.ensures)
    c.term_counts.ensures
