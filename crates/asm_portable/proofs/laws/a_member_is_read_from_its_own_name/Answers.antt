use Rattle.asm_portable.proofs.OwnNames.{literal_own, member_own}
use Rattle.asm_portable.proofs.laws.a_member_is_read_from_its_own_name.Goals as goal

pub returns-clause-literals : goal.returns-clause-literals
returns-clause-literals c = literal_own

pub returns-clause-members : goal.returns-clause-members
returns-clause-members c = member_own
