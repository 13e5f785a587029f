-- The only argument is the member.
use Rattle.std.proofs.Common.{true, [], ◌∷◌, ◌++◌, ap, ◌∙◌}
use Rattle.asm_value.specs.declared.value.Value.TheVariants.{Truth, Member}
use Rattle.asm_value.specs.declared.location.Subject.TheVariants.{Domain}
use Rattle.asm_terms.proofs.start.membership.Goals as goal

pub returns : goal.returns
returns c =
    let args = c.in_ok-push.ensures.ok
    ∙ ap (λ xs. xs ++ Member c.args.domain c.args.index ∷ []) c.new-args.ensures in
    λ k. record {
      location = record { subject = Domain c.args.domain; args = args k };
      value = Truth true;
    }
