-- The entries of a map whose functions aren't marked, inserted one after another, give the map
-- without the others.
use Rattle.std.proofs.Common.{◌≡◌, Bool, true, Some, not, map, ap, sym, ◌∙◌, rules}
use Rattle.std.specs.FinMap as finite
use Rattle.std.specs.List.{filter}
use Rattle.std.specs.Map.Iter.{deref_pair}
use Rattle.std.proofs.lemmas.List.{map_push}
use Rattle.std.proofs.lemmas.Map.Iter.{iter_end, btree_map_turn}
use Rattle.asm_value.specs.declared.location.Location.{Location}
use Rattle.asm_value.specs.TotalOrders.{location_cmp_total}
use Rattle.asm_state.specs.Functions.{is_marked}
use Rattle.asm_state.proofs.Entries.{get-entries, insert_all, passes, insert_all-passes}
use Rattle.asm_state.proofs.Entries.{insert_all-filter}
use Rattle.asm_state.proofs.state.State.without.Goals as goal

pub returns : goal.returns
returns c =
    let es = c.self.inside.entries.entries in
    let stays : Location → Bool = λ location. not (is_marked c.args.functions.now location.subject) in
    let whole : map deref_pair c.loop-location.yielded ≡ es = search (rules, iter_end) in
    c.loop-location.invariant
    ∙ ap (λ xs. insert_all finite.empty (filter (passes stays) xs)) whole
    ∙ insert_all-filter stays es c.into_iter-location-iterator.ensures.into_iter_gives.6
    ∙ ap (λ m. finite.retain_keys m stays) c.self.view_is

pub insert_copy-requires : goal.insert_copy-requires
insert_copy-requires c e =
    let es = c.self.inside.entries.entries in
    let at = btree_map_turn deref_pair c.loop-location.yielded _ _ _ _
    (c.in-Some.location, c.in-Some.value) c.loop-location.yielded_by c.in-Some.is
    c.next.ensures.steps
    location_cmp_total c.self.inside.entries
    c.into_iter-location-iterator.ensures.into_iter_gives.0
    c.into_iter-location-iterator.ensures.into_iter_gives.5 in
    c.self.invariant.1 c.in-Some.location.now
    (get-entries es c.in-Some.location.now ∙ at.1 ∙ ap (λ v. Some v) e)

pub loop-location-preserved-in-Continue-1 : goal.loop-location-preserved-in-Continue-1
loop-location-preserved-in-Continue-1 c =
    let stays : Location → Bool = λ location. not (is_marked c.args.functions.now location.subject) in
    let location = c.in-Some.location.now in
    let value = c.in-Some.value.now in
    let passed : stays location ≡ true = search rules in
    c.in_ok-insert_copy.ensures.ok
    ∙ ap (λ m. finite.insert m location value) c.loop-location.invariant
    ∙ sym (insert_all-passes stays finite.empty (map deref_pair c.loop-location.yielded)
    (location, value) passed)
    ∙ ap (λ xs. insert_all finite.empty (filter (passes stays) xs))
    (sym (map_push deref_pair c.loop-location.yielded (c.in-Some.location, c.in-Some.value)))
