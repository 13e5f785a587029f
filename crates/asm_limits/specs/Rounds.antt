-- The counts of functions and macro rules, round by round: each round counts every body anew, from
-- what the last one knew of the bodies that it calls.
use Rattle.std.specs.Prelude.{ℕ, zero, suc, Option, Some, None, List, map}
use Rattle.asm_value.specs.declared.domain.DomainInfo.{DomainInfo}
use Rattle.asm_program.specs.declared.trees.Term.{Term}
use Rattle.asm_program.specs.declared.trees.Rule.{Rule}
use Rattle.asm_program.specs.declared.program.MacroInfo.{MacroInfo}
use Rattle.asm_program.specs.Forms.{of_term, of_rule}
use Rattle.asm_counts.specs.declared.counts.Counts.{Counts}
use Rattle.asm_counts.specs.CountLevels.{counts_level, rule_counts_level, term_counts, known}

-- of a term, from those that are known of functions
abbrev pub counted : List DomainInfo → List Counts → Term → Counts
counted domains functions = of_term (counts_level domains) (known functions)

-- of a rule, from those that are known of functions and macro rules
abbrev pub rule_counted : List DomainInfo → List Counts → List Counts → Rule → Counts
rule_counted domains functions macros =
    of_rule (rule_counts_level domains (term_counts domains (known functions))) (known macros)

abbrev pub none : Counts
none = record { depth = 0; work = 0 }

-- of a function's term; there are none of a function without one
unfoldable pub body_counts : List DomainInfo → List Counts → Option Term → Counts
body_counts domains functions None = none
body_counts domains functions (Some term) = counted domains functions term

unfoldable pub macro_counts : List DomainInfo → List Counts → List Counts → MacroInfo → Counts
macro_counts domains functions macros info = rule_counted domains functions macros info.body

-- ---- rounds

unfoldable pub function_round : List DomainInfo → List (Option Term) → List Counts → List Counts
function_round domains bodies functions = map (body_counts domains functions) bodies

unfoldable pub macro_round : List DomainInfo → List Counts → List MacroInfo → List Counts
    → List Counts
macro_round domains functions infos macros = map (macro_counts domains functions macros) infos

-- so many rounds
unfoldable pub iterated : ℕ → (List Counts → List Counts) → List Counts → List Counts
iterated zero round counts = counts
iterated (suc n) round counts = round (iterated n round counts)
