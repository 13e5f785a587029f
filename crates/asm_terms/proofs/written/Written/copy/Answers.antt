-- The entries of a map, inserted one after another, give the map.
use Rattle.std.proofs.Common.{◌≡◌, map, ap, sym, ◌∙◌, rules}
use Rattle.std.specs.FinMap as finite
use Rattle.std.specs.Map.Iter.{deref_pair}
use Rattle.std.proofs.lemmas.List.{map_push}
use Rattle.std.proofs.lemmas.Map.Iter.{iter_end}
use Rattle.asm_state.proofs.Entries.{insert_all, insert_all-push, insert_all-entries}
use Rattle.asm_terms.proofs.written.Written.copy.Goals as goal

pub loop-location-preserved : goal.loop-location-preserved
loop-location-preserved c =
    c.in_ok-insert_copy.ensures.ok
    ∙ ap (λ m. finite.insert m c.in-Some.location.now c.in-Some.value.now) c.loop-location.invariant
    ∙ sym (insert_all-push finite.empty (map deref_pair c.loop-location.yielded)
    (c.in-Some.location.now, c.in-Some.value.now))
    ∙ ap (insert_all finite.empty)
    (sym (map_push deref_pair c.loop-location.yielded (c.in-Some.location, c.in-Some.value)))

pub returns : goal.returns
returns c =
    let es = c.self.inside.entries.entries in
    let whole : map deref_pair c.loop-location.yielded ≡ es = search (rules, iter_end) in
    c.loop-location.invariant
    ∙ ap (insert_all finite.empty) whole
    ∙ insert_all-entries es c.into_iter-location-iterator.ensures.into_iter_gives.6
    ∙ c.self.view_is
