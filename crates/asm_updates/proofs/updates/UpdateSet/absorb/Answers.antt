-- All updates of the other set are passed.
use Rattle.std.proofs.Common.{◌≡◌, map, ap, sym, ◌∙◌, rules}
use Rattle.std.specs.Map.Iter.{deref}
use Rattle.std.proofs.lemmas.List.{map_push}
use Rattle.std.proofs.lemmas.Map.Iter.{iter_end}
use Rattle.asm_value.specs.UpdateSet.{items, add, add_all}
use Rattle.asm_value.proofs.UpdateSetLaws.{items-add_all}
use Rattle.asm_updates.proofs.Sets.{add_all-push}
use Rattle.asm_updates.proofs.updates.UpdateSet.absorb.Goals as goal

pub loop-update-preserved : goal.loop-update-preserved
loop-update-preserved c =
    c.in_ok-add.ensures.ok
    ∙ (λ i. add (c.loop-update.invariant i) (c.in_ok-copy.ensures i))
    ∙ sym (add_all-push c.args.self.now (map deref c.loop-update.yielded) c.in-Some.update.now)
    ∙ ap (add_all c.args.self.now) (sym (map_push deref c.loop-update.yielded c.in-Some.update))

pub returns : goal.returns
returns c =
    let us = c.other.inside.items.keys in
    let whole : map deref c.loop-update.yielded ≡ us = search (rules, iter_end) in
    let same = whole ∙ sym (items-add_all us
    c.into_iter-update-iterator.ensures.into_iter_gives.4) ∙ ap items c.other.view_is in
    c.loop-update.invariant ∙ ap (add_all c.args.self.now) same
