use Rattle.std.proofs.Common.{◌∙◌}
use Rattle.asm_typed_alone.proofs.ListingSteps.{pushed}
use Rattle.asm_typed_alone.proofs.listing.add.Goals as goal

pub returns : goal.returns
returns c =
    pushed c.args.names.now c.push.new.self c.args.name.now c.args.named c.in_ok-from_str.field-0
    c.in_ok-push.ensures.ok (c.in_ok-from_str.ensures ∙ c.as_str.ensures)
