-- Each example computes.
use Rattle.std.proofs.Common.{rules}
use Rattle.std.specs.Fmt.{digits}
use Rattle.std.specs.Str.{chars}
use Rattle.asm_value.proofs.ValueLaws.{value_steps}
use Rattle.asm_operations.proofs.laws.operations_give_what_the_examples_say.Goals as goal

pub returns-clause-arithmetic : goal.returns-clause-arithmetic
returns-clause-arithmetic c = (
  search (rules, value_steps),
  search (rules, value_steps),
  search (rules, value_steps),
  search (rules, value_steps),
  search (rules, value_steps),
  search (rules, value_steps),
  search (rules, value_steps),
  search (rules, value_steps),
  search (rules, value_steps),
  search (rules, value_steps),
  search (rules, value_steps),
  search (rules, value_steps),
  search (rules, value_steps),
  search (rules, value_steps),
  search (rules, value_steps),
  search (rules, value_steps),
  search (rules, value_steps),
  search (rules, value_steps),
  search (rules, value_steps),
  search (rules, value_steps),
  search (rules, value_steps),
)

pub returns-clause-strings : goal.returns-clause-strings
unfolding chars digits
returns-clause-strings c = (
  search (rules, value_steps),
  search (rules, value_steps),
  search (rules, value_steps),
  search (rules, value_steps),
)

pub returns-clause-sequences : goal.returns-clause-sequences
returns-clause-sequences c = (
  search (rules, value_steps),
  search (rules, value_steps),
  search (rules, value_steps),
  search (rules, value_steps),
  search (rules, value_steps),
  search (rules, value_steps),
  search (rules, value_steps),
  search (rules, value_steps),
  search (rules, value_steps),
  search (rules, value_steps),
  search (rules, value_steps),
  search (rules, value_steps),
  search (rules, value_steps),
  search (rules, value_steps),
  search (rules, value_steps),
)

pub returns-clause-sets : goal.returns-clause-sets
returns-clause-sets c = (
  search (rules, value_steps),
  search (rules, value_steps),
  search (rules, value_steps),
  search (rules, value_steps),
  search (rules, value_steps),
  search (rules, value_steps),
  search (rules, value_steps),
  search (rules, value_steps),
  search (rules, value_steps),
  search (rules, value_steps),
  search (rules, value_steps),
  search (rules, value_steps),
)
