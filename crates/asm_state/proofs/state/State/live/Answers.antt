-- The lists are those of the definition, which have exactly the members.
use Rattle.std.proofs.Common.{sym, subst}
use Rattle.std.proofs.lemmas.Result.{IfOk-weaker}
use Rattle.asm_value.specs.Living.{ListsMembers}
use Rattle.asm_value.proofs.LivingLaws.{live_of-ListsMembers}
use Rattle.asm_state.proofs.state.State.live.Goals as goal

pub returns-clause-members : goal.returns-clause-members
returns-clause-members c =
    let state = c.args.self.now in
    let domains = c.args.domains.now in
    IfOk-weaker c.listed.result _ (ListsMembers state domains)
    (λ live e. subst (ListsMembers state domains) (sym e) (live_of-ListsMembers state domains))
    c.listed.ensures
