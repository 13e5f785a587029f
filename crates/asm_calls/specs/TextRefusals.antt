-- What is refused of a definition that reaches itself.
use Rattle.std.specs.Prelude.{ℕ, Option, Some, None, List, [], ◌∷◌, slice_get}
use Rattle.asm_syntax.specs.Marks.{text_of}
use Rattle.asm_program.specs.declared.type_refusal.TypeRefusal.{TypeRefusal}
use Rattle.asm_program.specs.declared.type_refusal.TypeRefusal.TheVariants.{Recursive}
use Rattle.asm_program.specs.Calls.{Defined}
use Rattle.asm_program.specs.Checks.{IsFirst}

abbrev pub refused_in : Option Defined → List TypeRefusal
refused_in None = []
refused_in (Some d) = Recursive (text_of d.name) d.name.span ∷ []

-- the refusal of the definition with this number, or want of memory
abbrev pub IsRefusalAt : List Defined → ℕ → TypeRefusal → Type 0
IsRefusalAt ds at why = IsFirst why (refused_in (slice_get ds at))
