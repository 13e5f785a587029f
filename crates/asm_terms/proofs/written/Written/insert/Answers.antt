-- The tree after an insertion is the map with the location at its value.
use Rattle.std.proofs.Common.{ap, ◌∙◌}
use Rattle.std.specs.FinMap as map
use Rattle.asm_state.proofs.Entries.{inserted}
use Rattle.asm_terms.proofs.written.Written.insert.Goals as goal

pub returns-clause-ok : goal.returns-clause-ok
returns-clause-ok c =
    inserted c.self.inside.entries.entries c.insert.new.self.entries c.args.location
    c.args.value c.in_ok-insert.ensures.updates.0
    ∙ ap (λ m. map.insert m c.args.location c.args.value) c.self.view_is
