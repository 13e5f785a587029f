-- One more index brings one more update.
use Rattle.std.proofs.Common.{◌+◌, ℕ, map, true, sym, refl, ap, ◌∙◌}
use Rattle.std.specs.List.{range_with_len}
use Rattle.std.proofs.lemmas.List.FromFn.{map-range_with_len_more}
use Rattle.asm_value.specs.declared.value.Value.TheVariants.{Truth}
use Rattle.asm_value.specs.declared.location.Update.{Update}
use Rattle.asm_value.specs.Living.{member_location}
use Rattle.asm_value.specs.UpdateSet as set
use Rattle.asm_updates.proofs.Sets.{add_all-push}
use Rattle.asm_rules.proofs.members.memberships.Goals as goal

pub loop-index-preserved : goal.loop-index-preserved
loop-index-preserved c =
    let d = c.args.domain in
    let a = c.args.first in
    let i = c.loop-index.index in
    let member : ℕ → Update = λ j. record { location = member_location d j; value = Truth true } in
    c.in_ok-add.ensures.ok
    ∙ (λ k. set.add (c.loop-index.invariant k) (c.in_ok-membership.ensures k))
    ∙ sym (add_all-push set.empty (map member (range_with_len a i)) (member (a + i)))
    ∙ ap (set.add_all set.empty) (sym (map-range_with_len_more member a i (a + i) refl))
