-- What the loop has gone over is the whole set, in its order.
use Rattle.std.proofs.Common.{◌≡◌, [], ◌∷◌, ◌++◌, map, ap, sym, ◌∙◌, rules}
use Rattle.std.specs.Map.Iter.{deref}
use Rattle.std.proofs.lemmas.List.{map_push}
use Rattle.std.proofs.lemmas.Map.Iter.{iter_end}
use Rattle.asm_value.specs.UpdateSet.{items}
use Rattle.asm_value.proofs.UpdateSetLaws.{items-add_all}
use Rattle.asm_updates.proofs.updates.UpdateSet.items.Goals as goal

pub loop-update-preserved : goal.loop-update-preserved
loop-update-preserved c =
    c.in_ok-push.ensures.ok
    ∙ (λ i. c.loop-update.invariant i ++ c.in_ok-copy.ensures i ∷ [])
    ∙ sym (map_push deref c.loop-update.yielded c.in-Some.update)

pub returns : goal.returns
returns c =
    let us = c.self.inside.items.keys in
    let whole : map deref c.loop-update.yielded ≡ us = search (rules, iter_end) in
    c.loop-update.invariant ∙ whole
    ∙ sym (items-add_all us c.into_iter-update-iterator.ensures.into_iter_gives.4)
    ∙ ap items c.self.view_is
