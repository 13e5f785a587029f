use Rattle.std.proofs.Common.{◌≡◌, [], ◌∷◌, refl, sym, subst}
use Rattle.asm_board.specs.declared.call.Call.{Call}
use Rattle.asm_board.specs.declared.call.Call.TheVariants.{Load}
use Rattle.asm_board.specs.Answers.{Stands}
use Rattle.asm_board.specs.Changes.{load}
use Rattle.asm_core.specs.Language.{asmeta}
use Rattle.asm_core.proofs.Standing.{if_ok, loads_new, stands_change}
use Rattle.asm_core.proofs.preparation.load_prepared.Goals as goal

pub returns : goal.returns
returns c =
    let board = c.args.board.now in
    let name = c.args.name.now in
    let source = c.args.text.now in
    let names = c.as_slice.result.now in
    let loads = c.is_new-loads.result in
    let speaks : name ∷ [] ≡ names = search (c.as_slice.ensures, c.in_ok-names.ensures) in
    let made = c.change_made.ensures (load asmeta board.slots name source) (rw c.as_str.ensures at c.load-tried.ensures) in
    if_ok c.change_made.result _ _ made (λ p is.
    subst (λ (call : Call). Stands asmeta p call board) (sym c.requires)
    (stands_change asmeta board (Load name source) names loads p speaks refl (loads_new board name source loads c.is_new-loads.ensures) (rw c.requires at is)))
