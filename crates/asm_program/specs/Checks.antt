-- What a part of the checker answers: the first of its refusals, or, where it has none, a value.
use Rattle.std.specs.Prelude.{◌≡◌, Result, Ok, Err, Some, List, [], slice_get}
use Rattle.asm_program.specs.declared.type_refusal.TypeRefusal.{TypeRefusal}
use Rattle.asm_program.specs.declared.type_refusal.TypeRefusal.TheVariants.{NoMemory}

-- the refusal is the first of these; want of memory says nothing
abbrev pub IsFirst : TypeRefusal → List TypeRefusal → Type 0
IsFirst NoMemory refused = Unit {0}
IsFirst why refused = slice_get refused 0 ≡ Some why

-- nothing is refused and the value is so, or this is the first refusal
abbrev pub Checks : {A : Type 0} → Result A TypeRefusal → List TypeRefusal → (A → Type 0) → Type 0
Checks (Ok value) refused Is = (refused ≡ []) × Is value
Checks (Err why) refused Is = IsFirst why refused
