-- What a view shows: a program, and a state with updates fired.
use Rattle.std.specs.Prelude.{List}
use Rattle.asm_value.specs.declared.value.Value.{Value}
use Rattle.asm_value.specs.declared.domain.Domain.{Domain}
use Rattle.asm_value.specs.State.{StateMap}
use Rattle.asm_program.specs.declared.program.Program.{Program}
use Rattle.asm_program.specs.declared.trees.Term.{Term}
use Rattle.asm_program.specs.Members as members
use Rattle.asm_program.specs.Meaning as meaning
use Rattle.asm_program.specs.Meaning.{Meaning}
use Rattle.asm_terms.specs.Overlays.{overlay}
use Rattle.asm_terms.specs.declared.view.View.{View}

abbrev pub program_of : View → Program
program_of view = view.program.now

-- `A + U`: the state with the updates fired
abbrev pub map_of : View → StateMap
map_of view = overlay view.state.now view.written

-- the members of a domain
abbrev pub range : View → Domain → List Value
range view d = members.range (program_of view).domains (map_of view) d

-- what a term gives
abbrev pub gives : View → Term → Meaning
gives view t = meaning.eval (program_of view) (map_of view) t
