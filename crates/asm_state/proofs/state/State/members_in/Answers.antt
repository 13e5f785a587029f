-- One more entry says one more member or none; and all entries are passed, and they are those of
-- the map.
use Rattle.std.proofs.Common.{◌≡◌, [], ◌++◌, map, ap, sym, ◌∙◌, rules}
use Rattle.std.specs.FinMap as finite
use Rattle.std.specs.List.{filter_map, cons_option}
use Rattle.std.specs.Map.Iter.{deref_pair}
use Rattle.std.proofs.lemmas.List.{map_push}
use Rattle.std.proofs.lemmas.Map.Iter.{iter_end}
use Rattle.asm_value.specs.declared.value.Value.{Value}
use Rattle.asm_value.specs.declared.location.Location.{Location}
use Rattle.asm_value.specs.Living.{member_said}
use Rattle.asm_state.proofs.Entries.{entries-from_entries}
use Rattle.asm_state.proofs.Members.{filter_map-push}
use Rattle.asm_state.proofs.state.State.members_in.Goals as goal

pub returns : goal.returns
returns c =
    let es = c.self.inside.entries.entries in
    let whole : map deref_pair c.loop-location.yielded ≡ es = search (rules, iter_end) in
    let same = whole ∙ sym (entries-from_entries es c.into_iter-location-iterator.ensures.into_iter_gives.5) ∙ ap finite.entries c.self.view_is in
    c.loop-location.invariant ∙ ap (filter_map (member_said c.args.domain)) same

pub loop-location-preserved : goal.loop-location-preserved
loop-location-preserved c =
    let f = member_said c.args.domain in
    let e : Location × Value = (c.in-Some.location.now, c.in-Some.value.now) in
    c.in_ok-add.ensures
    ∙ ap (λ is. is ++ cons_option c.member_said.result []) c.loop-location.invariant
    ∙ filter_map-push f (map deref_pair c.loop-location.yielded) e c.member_said.result
    c.member_said.ensures
    ∙ ap (filter_map f) (sym (map_push deref_pair c.loop-location.yielded
    (c.in-Some.location, c.in-Some.value)))
