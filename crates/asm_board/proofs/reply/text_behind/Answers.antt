use Rattle.std.proofs.Common.{◌≡◌, ℕ, List, drop, IfOk, sym, ap, subst, ◌∙◌}
use Rattle.asm_portable.proofs.JsonLaws.{json_text-Fields}
use Rattle.asm_board.proofs.reply.text_behind.Goals as goal

pub returns : goal.returns
returns c =
    let behind = c.behind_brace.ensures _ (c.as_str.ensures ∙ c.in_ok-text.ensures ∙ json_text-Fields c.args.fields) in
    let whole = ap (drop 1) (json_text-Fields c.args.fields) in
    subst (λ (bytes : List ℕ). IfOk c.from_str.result (λ tail. tail ≡ bytes)) (behind ∙ sym whole) c.from_str.ensures
