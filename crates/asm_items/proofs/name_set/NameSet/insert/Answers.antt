use Rattle.std.proofs.Common.{ap, ◌∙◌, map, reverse, string_bytes}
use Rattle.asm_items.specs.Views.{seen_with}
use Rattle.asm_items.proofs.Sets.{viewed-insert}
use Rattle.asm_items.proofs.name_set.NameSet.insert.Goals as goal

pub returns-clause-names : goal.returns-clause-names
returns-clause-names c =
    let k = c.in_ok-from_str.field-0 in
    ap (λ ks. reverse (map string_bytes ks)) c.in_ok-new.ensures.keys
    ∙ viewed-insert string_bytes k c.self.inside.names.keys
    ∙ (λ i. seen_with (c.in_ok-from_str.ensures.ok i) (c.self.view_is i))
