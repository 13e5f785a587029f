-- By the laws of sets with one more item, and of what passes a test.
use Rattle.std.proofs.Common.{not, []}
use Rattle.asm_operations.specs.Sets.{has}
use Rattle.asm_operations.specs.Operations.{are_equal}
use Rattle.asm_operations.proofs.SetLaws.{has-with_item, has-with_items, has-filter}
use Rattle.asm_operations.proofs.laws.sets_have_what_they_say.Goals as goal

pub returns-clause-union : goal.returns-clause-union
returns-clause-union c = has-with_items

pub returns-clause-intersection : goal.returns-clause-intersection
returns-clause-intersection c xs ys v = has-filter (λ x. has ys x) xs v

pub returns-clause-difference : goal.returns-clause-difference
returns-clause-difference c xs ys v = has-filter (λ x. not (has ys x)) xs v

pub returns-clause-including : goal.returns-clause-including
returns-clause-including c = has-with_item

pub returns-clause-excluding : goal.returns-clause-excluding
returns-clause-excluding c xs v w = has-filter (λ x. not (are_equal x v)) xs w

pub returns-clause-items : goal.returns-clause-items
returns-clause-items c xs v = has-with_items [] xs v
