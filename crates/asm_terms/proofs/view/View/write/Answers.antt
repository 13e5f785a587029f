-- One more value written is one more update fired.
use Rattle.std.proofs.Common.{ap, sym, ◌∙◌}
use Rattle.asm_value.specs.Living.{live_of}
use Rattle.asm_terms.proofs.OverlayLaws.{written-fired}
use Rattle.asm_terms.proofs.view.View.write.Goals as goal

pub invariant_of-self-2 : goal.invariant_of-self-2
invariant_of-self-2 c =
    let view = c.args.self.now in
    let fired = written-fired view.state.now view.written c.insert.new.self
    c.in_ok-location.location c.in_ok-value.value c.args.update.now
    c.in_ok-insert.ensures.ok c.in_ok-location.ensures c.in_ok-value.ensures in
    record {
      lives = c.in_ok-live.ensures ∙ ap (λ m. live_of m view.program.now.domains) (sym fired);
    }

pub returns-clause-map : goal.returns-clause-map
returns-clause-map c =
    let view = c.args.self.now in
    written-fired view.state.now view.written c.insert.new.self
    c.in_ok-location.location c.in_ok-value.value c.args.update.now
    c.in_ok-insert.ensures.ok c.in_ok-location.ensures c.in_ok-value.ensures
