-- The list is that of the definition, whose laws are those of the specs.
use Rattle.std.proofs.Common.{sym, subst}
use Rattle.std.proofs.lemmas.Result.{IfOk-weaker}
use Rattle.asm_value.specs.Domain.{fits}
use Rattle.asm_value.specs.Members.{Lists}
use Rattle.asm_value.proofs.MembersLaws.{members_listed}
use Rattle.asm_value.proofs.membership.members.Goals as goal

pub returns-clause-exactly : goal.returns-clause-exactly
returns-clause-exactly c are finite =
    let domains = c.args.domains.now in
    let live = c.args.live.now in
    let domain = c.args.domain.now in
    IfOk-weaker c.listed.result _ (Lists (fits domains live domain))
    (λ list e. subst (Lists (fits domains live domain)) (sym e)
    (members_listed domains live are domain finite)) c.listed.ensures
