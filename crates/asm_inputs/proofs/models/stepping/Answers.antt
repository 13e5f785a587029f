-- The model of the name is that of the first name from here on.
use Rattle.std.proofs.Common.{◌≡◌, ◌<◌, suc, true, length, ◌∷◌, drop, drop-cons, ap, sym, ◌∙◌, arith}
use Rattle.std.specs.Str.{bytes_eq}
use Rattle.asm_board.specs.Slots.{slot_in, only}
use Rattle.asm_inputs.proofs.Among.{slot_in-only_first}
use Rattle.asm_inputs.proofs.models.stepping.Goals as goal

pub returns-then-eq : goal.returns-then-eq
returns-then-eq c =
    let models = c.args.board.now.slots in
    let names = c.args.names.now in
    let name = c.args.name.now in
    let i = c.loop-other.other-index in
    let other = c.other-item.result in
    let within : i < length names = omega arith in
    let split : drop i names ≡ other ∷ drop (suc i) names =
    drop-cons names i other within ∙ ap (λ n. n ∷ drop (suc i) names) (sym c.other-item.is) in
    let same : bytes_eq name other ≡ true =
    sym (ap (bytes_eq name) c.as_str.ensures) ∙ sym c.eq.ensures ∙ c.if-eq.true in
    c.slot.ensures
    ∙ sym (slot_in-only_first models other (drop (suc i) names) name same)
    ∙ sym (ap (λ ns. slot_in (only models ns) name) split)
    ∙ c.loop-other.invariant
