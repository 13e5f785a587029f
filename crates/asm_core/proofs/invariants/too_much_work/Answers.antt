use Rattle.asm_board.specs.Changes.{too_much_work}
use Rattle.asm_core.proofs.Sources.{reported, refused_for}
use Rattle.asm_core.proofs.invariants.too_much_work.Goals as goal

pub returns : goal.returns
returns c whole told =
    let source = c.args.text.now in
    let term = c.args.term.now in
    refused_for c.bad_text.result _ (too_much_work source term whole)
    (reported source term c.args.work whole c.within.result c.place-there.result.line c.place-there.result.column c.in_ok-from_str.field-0 c.in_ok-digits_of.field-0
    c.in_ok-from_str.ensures c.in_ok-digits_of.ensures told c.within.ensures.same c.place-there.ensures.line c.place-there.ensures.column)
    c.bad_text.ensures
