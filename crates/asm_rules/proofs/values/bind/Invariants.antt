-- What is left to bind goes on from the variables that are bound so far.
use Rattle.std.proofs.Common.{◌≡◌, List, length, take, drop}
use Rattle.asm_value.specs.declared.value.Value.{Value}
use Rattle.asm_program.specs.Meaning.{eval}
use Rattle.asm_program.specs.Yields.{Yielded, bind_all}
use Rattle.asm_terms.specs.Views.{map_of, program_of}
use Rattle.asm_rules.proofs.values.bind.Given as goal

abbrev pub invariant-loop-term : goal.invariant-loop-term
invariant-loop-term l =
    ((go : List Value → Yielded) →
    bind_all (eval (program_of l.view) (map_of l.view)) (drop l.term-index l.terms) l.env go
    ≡ bind_all (eval (program_of l.view) (map_of l.view)) l.terms l.initial.env go)
    × (take (length l.initial.env) l.env ≡ l.initial.env)
