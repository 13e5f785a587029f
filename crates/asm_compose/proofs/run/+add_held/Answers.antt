-- What a formula's models held, part by part.
use Rattle.std.proofs.Common.{◌≡◌, ◌++◌, ◌∙◌, [], ◌∷◌, ap, sym, subst}
use Rattle.std.specs.Prelude.{IfOk, fold}
use Rattle.std.proofs.lemmas.List.Sums.{fold-append}
use Rattle.asm_formula.specs.Formulas.{names}
use Rattle.asm_compose.specs.Offers.{Offer, union}
use Rattle.asm_compose.specs.Runs.{Name}
use Rattle.asm_compose.proofs.FormulaParts.{names-of_Name, names-of_Join}
use Rattle.asm_compose.proofs.run.+add_held.Goals as goal

pub returns-in_ok-held-in-Name : goal.returns-in_ok-held-in-Name
returns-in_ok-held-in-Name g t c =
    let add = λ (o : Offer) (name : Name). union o ((g.L.Leaf.begins c.args.leaf.now).held name) in
    let offer = c.args.offer.now in
    let held = c.in_ok-held-in-Name.ensures in
    let all = names-of_Name c.args.formula.now c.in-Name.name c.in-Name.is in
    subst (λ whole. IfOk c.union.result (λ o. o ≡ whole)) (ap (union offer) held ∙ sym (ap (fold add offer) all))
    c.union.ensures

pub returns-in_ok-first-in-Join : goal.returns-in_ok-first-in-Join
returns-in_ok-first-in-Join g t c =
    let add = λ (o : Offer) (name : Name). union o ((g.L.Leaf.begins c.args.leaf.now).held name) in
    let offer = c.args.offer.now in
    let left = c.in-Join.left in
    let right = c.in-Join.right in
    let all = names-of_Join c.args.formula.now c.in-Join.field-0 left right c.in-Join.is in
    let first : c.in_ok-first-in-Join.first ≡ fold add offer (names left) =
    c.in_ok-first-in-Join.ensures ∙ ap (λ f. fold add offer (names f)) c.get.ensures in
    let whole : fold add c.in_ok-first-in-Join.first (names right) ≡ fold add offer (names c.args.formula.now) =
    ap (λ o. fold add o (names right)) first ∙ sym (fold-append add offer (names left) (names right))
    ∙ sym (ap (fold add offer) all) in
    subst (λ o. IfOk c.add_held-in-Join.result (λ out. out ≡ o)) whole
    (subst (λ f. IfOk c.add_held-in-Join.result (λ out. out ≡ fold add c.in_ok-first-in-Join.first (names f)))
    c.get-in-Join.ensures c.add_held-in-Join.ensures)
