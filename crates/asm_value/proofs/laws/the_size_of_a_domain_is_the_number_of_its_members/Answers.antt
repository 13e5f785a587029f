-- The size counts what the list of members has, level by level.
use Rattle.asm_value.proofs.SizeLaws.{size-exactly, size-at_most}
use Rattle.asm_value.proofs.laws.the_size_of_a_domain_is_the_number_of_its_members.Goals as goal

pub returns-clause-exactly : goal.returns-clause-exactly
returns-clause-exactly c domains live d n are full is = size-exactly domains live are d full n is

pub returns-clause-at_most : goal.returns-clause-at_most
returns-clause-at_most c domains live d n few is = size-at_most domains live d few n is
