-- Nothing written is the state.
use Rattle.std.proofs.Common.{ap, sym, ◌∙◌}
use Rattle.asm_value.specs.Living.{live_of}
use Rattle.asm_terms.specs.Overlays.{overlay}
use Rattle.asm_terms.proofs.OverlayLaws.{overlay-empty}
use Rattle.asm_terms.proofs.view.View.new.Goals as goal

pub invariant_of-result : goal.invariant_of-result
invariant_of-result c =
    let state = c.args.state.now in
    record {
      lives = c.in_ok-live.ensures.same
          ∙ ap (λ m. live_of m c.args.program.now.domains)
          (sym (ap (overlay state) c.new.ensures ∙ overlay-empty state));
    }

pub returns-clause-map : goal.returns-clause-map
returns-clause-map c =
    let state = c.args.state.now in ap (overlay state) c.new.ensures ∙ overlay-empty state
