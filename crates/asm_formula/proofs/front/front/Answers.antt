use Rattle.std.proofs.Common.{◌≡◌, sym, ap, ◌∙◌, subst}
use Rattle.std.specs.Prelude.{IfOk}
use Rattle.asm_formula.specs.declared.token.Front.{Front}
use Rattle.asm_formula.specs.Tokens.{signs}
use Rattle.asm_formula.specs.Scan.{sign_of}
use Rattle.asm_formula.proofs.Places.{left_whole, space_here, name_here, sign_here}
use Rattle.asm_formula.proofs.front.front.Goals as goal

pub returns-then-is_space : goal.returns-then-is_space
returns-then-is_space c = space_here c.args.text.now c.args.at c.requires (sym (rw c.as_bytes-bytes.ensures.value at c.is_space.ensures) ∙ c.if-is_space.true)

pub returns-then-is_letter : goal.returns-then-is_letter
returns-then-is_letter c =
    subst (λ (x : Front). IfOk c.name.result (λ f. f ≡ x))
    (name_here c.args.text.now c.args.at c.requires (sym (rw c.as_bytes-bytes.ensures.value at c.is_space.ensures) ∙ c.if-is_space.false) (sym (rw c.as_bytes-bytes.ensures.value at c.is_letter.ensures) ∙ c.if-is_letter.true))
    c.name.ensures

pub returns : goal.returns
returns c =
    (rw c.as_bytes-bytes.ensures.value at c.sign.ensures)
    ∙ ap (sign_of signs) (left_whole c.args.text.now c.args.at)
    ∙ sign_here c.args.text.now c.args.at c.requires (sym (rw c.as_bytes-bytes.ensures.value at c.is_space.ensures) ∙ c.if-is_space.false) (sym (rw c.as_bytes-bytes.ensures.value at c.is_letter.ensures) ∙ c.if-is_letter.false)
