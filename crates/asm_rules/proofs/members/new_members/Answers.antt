-- One more index brings one more member.
use Rattle.std.proofs.Common.{◌+◌, [], ◌∷◌, ◌++◌, sym, refl, ap, ◌∙◌}
use Rattle.std.proofs.lemmas.List.FromFn.{map-range_with_len_more}
use Rattle.asm_value.specs.declared.value.Value.TheVariants.{Member}
use Rattle.asm_rules.proofs.members.new_members.Goals as goal

pub loop-index-preserved : goal.loop-index-preserved
loop-index-preserved c =
    let d = c.args.domain in
    let a = c.args.first in
    let i = c.loop-index.index in
    c.in_ok-push.ensures.ok
    ∙ ap (λ list. list ++ Member d (a + i) ∷ []) c.loop-index.invariant
    ∙ sym (map-range_with_len_more (λ j. Member d j) a i (a + i) refl)
