-- What outcomes say in the words of the definitions.
use Rattle.std.specs.Prelude.{ℕ, if◌then◌else◌, Option, Some, None, List, ◌++◌}
use Rattle.asm_value.specs.declared.value.Value.{Value}
use Rattle.asm_value.specs.Living.{is_true}
use Rattle.asm_program.specs.declared.outcome.Fault.{Fault}
use Rattle.asm_program.specs.declared.outcome.Outcome.{Outcome}
use Rattle.asm_program.specs.declared.outcome.Outcome.TheVariants as of_term
use Rattle.asm_program.specs.declared.outcome.Parts.{Parts}
use Rattle.asm_program.specs.declared.outcome.Parts.TheVariants as parts
use Rattle.asm_program.specs.Meaning.{is_same}
use Rattle.asm_program.specs.Yields.{Yielded, Yields, Stops, Satisfying, Found as Finds, Faulted}
use Rattle.asm_rules.specs.declared.outcome.RuleOutcome.{RuleOutcome}
use Rattle.asm_rules.specs.declared.outcome.RuleOutcome.TheVariants as outcome
use Rattle.asm_rules.specs.declared.outcome.Progress.{Progress}
use Rattle.asm_rules.specs.declared.outcome.Progress.TheVariants as progress
use Rattle.asm_rules.specs.declared.guards.Guard.{Guard}
use Rattle.asm_rules.specs.declared.guards.Guard.TheVariants as guard
use Rattle.asm_rules.specs.declared.choices.Chosen.{Chosen}
use Rattle.asm_rules.specs.declared.choices.Chosen.TheVariants as taken
use Rattle.asm_rules.specs.declared.choices.Found.{Found}
use Rattle.asm_rules.specs.declared.choices.Found.TheVariants as found

-- the outcome, with the indexes of the next members
abbrev pub yielded : RuleOutcome → List ℕ → Yielded
yielded (outcome.Set updates) next = Yields updates next
yielded (outcome.Fault fault) next = Stops fault

-- the set or the fault alone
abbrev pub outcome_of : Yielded → RuleOutcome
outcome_of (Yields updates next) = outcome.Set updates
outcome_of (Stops fault) = outcome.Fault fault

-- the rest, unless there is a fault
abbrev pub going : Option Fault → Yielded → Yielded
going None rest = rest
going (Some fault) rest = Stops fault

-- the rest, unless a part has faulted
abbrev pub after : Progress → Yielded → Yielded
after progress.Goes rest = rest
after progress.Clashes rest = rest
after (progress.Stops fault) rest = Stops fault

-- whether a guard with this outcome holds
abbrev pub judged : Outcome → Guard
judged (of_term.Value v) = if is_true v then guard.Holds else guard.Fails
judged (of_term.Fault e) = guard.Fault e

-- whether the outcome is this value
abbrev pub compared : Value → Outcome → Guard
compared v (of_term.Value w) = if is_same v w then guard.Holds else guard.Fails
compared v (of_term.Fault e) = guard.Fault e

-- these values, and then those of the parts
abbrev pub preceded : List Value → Parts → Parts
preceded vs (parts.Values ws) = parts.Values (vs ++ ws)
preceded vs (parts.Fault e) = parts.Fault e

-- the combinations that were found
abbrev pub found_of : Found → Satisfying
found_of (found.Combinations cs) = Finds cs
found_of (found.Fault e) = Faulted e

-- these combinations, and then those that are found
abbrev pub found_before : List (List Value) → Satisfying → Satisfying
found_before cs (Finds ds) = Finds (cs ++ ds)
found_before cs (Faulted e) = Faulted e

-- what is found, unless there is a fault
abbrev pub unless_faulted : Option Fault → Satisfying → Satisfying
unless_faulted None rest = rest
unless_faulted (Some fault) rest = Faulted fault

-- the body with what is taken, or the other rule
abbrev pub chosen : Chosen → (List Value → Yielded) → Yielded → Yielded
chosen (taken.Values vs) body other = body vs
chosen taken.Nothing body other = other
chosen (taken.Fault fault) body other = Stops fault
