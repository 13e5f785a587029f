-- The values so far, and what the rest gives, are what all give.
use Rattle.std.proofs.Common.{◌≡◌, map, drop}
use Rattle.asm_program.specs.Meaning.{eval, all_of}
use Rattle.asm_terms.specs.Views.{map_of, program_of}
use Rattle.asm_rules.specs.Outcomes.{preceded}
use Rattle.asm_rules.proofs.values.all_values.Given as goal

abbrev pub invariant-loop-term : goal.invariant-loop-term
invariant-loop-term l =
    (preceded l.values (all_of (map (eval (program_of l.view) (map_of l.view)) (drop l.term-index l.terms)) l.env)
    ≡ all_of (map (eval (program_of l.view) (map_of l.view)) l.terms) l.initial.env)
    × (l.env ≡ l.initial.env)
