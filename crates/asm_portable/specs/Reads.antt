-- What a reading answers.
use Rattle.std.specs.Prelude.{◌≡◌, Result, Ok, Err, ⊤}
use Rattle.asm_portable.specs.declared.reading.PortableRefusal.{PortableRefusal}
use Rattle.asm_portable.specs.declared.reading.PortableRefusal.TheVariants.{Misfit, NoMemory}
use Rattle.asm_portable.specs.Reading.{Read}

-- This is why nothing is read; want of memory says nothing.
abbrev pub IsWhy : {A : Type 0} → Read A → PortableRefusal → Type 0
IsWhy read (Misfit path) = read ≡ Err path
IsWhy read NoMemory = ⊤

-- What is answered was read, or is why nothing is read.
abbrev pub Reads : {A : Type 0} → Result A PortableRefusal → Read A → Type 0
Reads (Ok x) read = read ≡ Ok x
Reads (Err why) read = IsWhy read why
