-- What the tree finds is what the map has.
use Rattle.std.proofs.Common.{ap, sym, ◌∙◌}
use Rattle.std.specs.FinMap as map
use Rattle.asm_state.proofs.Entries.{get-entries}
use Rattle.asm_terms.proofs.written.Written.get.Goals as goal

pub returns-in-Some-clause-found : goal.returns-in-Some-clause-found
returns-in-Some-clause-found c =
    sym (c.in-Some.ensures.value ∙ sym
    (get-entries c.self.inside.entries.entries c.args.location.now)
    ∙ ap (λ m. map.get m c.args.location.now) c.self.view_is)

pub returns-in-None-clause-none : goal.returns-in-None-clause-none
returns-in-None-clause-none c =
    sym (c.in-None.ensures.value ∙ sym
    (get-entries c.self.inside.entries.entries c.args.location.now)
    ∙ ap (λ m. map.get m c.args.location.now) c.self.view_is)
