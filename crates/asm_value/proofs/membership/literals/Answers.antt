-- One more index brings one more literal.
use Rattle.std.proofs.Common.{[], ◌∷◌, ◌++◌, arith, sym, ap, ◌∙◌}
use Rattle.std.proofs.lemmas.List.FromFn.{map-range_with_len_more}
use Rattle.asm_value.specs.declared.value.Value.TheVariants.{Member}
use Rattle.asm_value.proofs.membership.literals.Goals as goal

pub loop-index-preserved : goal.loop-index-preserved
loop-index-preserved c =
    let d = c.args.domain in
    let i = c.loop-index.index in
    c.in_ok-push.ensures.ok
    ∙ ap (λ list. list ++ Member d i ∷ []) c.loop-index.invariant
    ∙ sym (map-range_with_len_more (λ j. Member d j) 0 i i (omega arith))
