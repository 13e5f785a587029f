use Rattle.std.proofs.Common.{◌≡◌, ◌∷◌, ◌++◌, [], List, length, drop, fold, sym, ap, ◌∙◌, subst, arith}
use Rattle.asm_book.specs.Rules.{Notice, IsOf}
use Rattle.asm_book.proofs.Rising.{rises, last_counts}
use Rattle.asm_book.proofs.published.offer.Goals as goal

pub publish_as-writer-requires : goal.publish_as-writer-requires
publish_as-writer-requires g c next is =
    let writer = c.append.new.self in
    let shown : Notice = writer.desk.shown.value in
    let before : List Notice = drop c.args.writer.behind c.args.writer.log.items in
    let pending : drop writer.behind writer.log.items ≡ before ++ c.in-Ok.operation ∷ [] = c.in-Ok-append.ensures.pending in
    let same : next ≡ c.args.next.now = is ∙ (ap (λ (xs : List Notice). fold (λ (x y : Notice). y) shown xs) pending ∙ (last_counts shown before c.in-Ok.operation ∙ c.in-Ok.ensures)) in
    let m = g.L.Opening.meanings in
    let history = g.L.Opening.history in
    let room = g.L.Opening.room in
    rises m history room _ _ shown next (omega (arith, c.requires.later, ap (λ (n : Notice). length n.log) same, ap (λ d. length d.shown.value.log) c.in-Ok-append.ensures.desk)) (λ _. subst (IsOf m history room) (sym same) c.requires.of)
