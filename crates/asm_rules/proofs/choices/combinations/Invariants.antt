-- The lists so far are those of the domains passed.
use Rattle.std.proofs.Common.{◌≡◌, map, take}
use Rattle.asm_terms.specs.Views.{map_of, program_of}
use Rattle.asm_program.specs.Members as members
use Rattle.asm_rules.proofs.choices.combinations.Given as goal

abbrev pub invariant-loop-range : goal.invariant-loop-range
invariant-loop-range l =
    l.lists ≡ map (members.range (program_of l.view).domains (map_of l.view)) (take l.range-index l.ranges)
