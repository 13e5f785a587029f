-- What is found so far, and in the rest, is what is found in all.
use Rattle.std.proofs.Common.{◌≡◌, ◌++◌, drop}
use Rattle.asm_program.specs.Yields.{guard_of, satisfying}
use Rattle.asm_terms.specs.Views.{map_of, program_of}
use Rattle.asm_rules.specs.Outcomes.{found_before}
use Rattle.asm_rules.proofs.choices.satisfying.Given as goal

abbrev pub invariant-loop-combination : goal.invariant-loop-combination
invariant-loop-combination l =
    (found_before l.found
    (satisfying (λ c. guard_of (program_of l.view) (map_of l.view) l.guard (l.env ++ c)) (drop l.combination-index l.combinations))
    ≡ satisfying (λ c. guard_of (program_of l.view) (map_of l.view) l.guard (l.initial.env ++ c)) l.combinations)
    × (l.env ≡ l.initial.env)
