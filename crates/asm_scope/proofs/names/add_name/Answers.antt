use Rattle.std.proofs.Common.{ap, ◌∙◌, is_some}
use Rattle.std.specs.HashMap.{get_by_text}
use Rattle.asm_scope.proofs.IndexSteps.{gains_by}
use Rattle.asm_scope.proofs.names.add_name.Goals as goal

pub returns : goal.returns
returns c =
    gains_by c.args.index.now (c.args.name.now, c.args.named) c.insert.new.self c.in_ok-from_str.field-0 (c.in_ok-from_str.ensures.ok ∙ c.as_str-2.ensures)
    (c.if-contains_key.ensures ∙ ap (λ b. is_some (get_by_text c.args.index.now b)) c.as_str.ensures) c.in_ok-insert.ensures.updates
