-- All entries are passed, and they are those of the map.
use Rattle.std.proofs.Common.{◌≡◌, map, ap, sym, ◌∙◌, rules}
use Rattle.std.specs.FinMap as finite
use Rattle.std.specs.List.{filter}
use Rattle.std.specs.Map.Iter.{deref_pair}
use Rattle.std.proofs.lemmas.Map.Iter.{iter_end}
use Rattle.asm_state.specs.Functions.{is_of}
use Rattle.asm_state.proofs.Entries.{entries-from_entries}
use Rattle.asm_state.proofs.state.State.of_function.Goals as goal

pub returns : goal.returns
returns c =
    let es = c.self.inside.entries.entries in
    let whole : map deref_pair c.loop-location.yielded ≡ es = search (rules, iter_end) in
    let same = whole ∙ sym (entries-from_entries es c.into_iter-location-iterator.ensures.into_iter_gives.5) ∙ ap finite.entries c.self.view_is in
    c.loop-location.invariant ∙ ap (filter (λ e. is_of c.args.function e.0)) same
