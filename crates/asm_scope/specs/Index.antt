-- An index of names.
use Rattle.std.specs.Prelude.{◌≡◌, ℕ, Option, Some, None, List, if◌then◌else◌}
use Rattle.std.specs.Str.{bytes_eq}
use Rattle.std.specs.HashMap.{HashMap, get_by_text}
use Rattle.std.specs.declared.string.String.{String}
use Rattle.asm_program.specs.declared.named.Named.{Named}
use Rattle.asm_program.specs.Signatures.{Names, find}

-- each name stands for what it stands for in the list
unfoldable pub IsIndexOf : {Y S : Type 0} → HashMap (String Y) Named S → Names → Type 0
IsIndexOf index names = (q : List ℕ) → get_by_text index q ≡ find names q

-- what is found first, or this
abbrev pub or_this : Option Named → Option Named → Option Named
or_this (Some n) other = Some n
or_this None other = other

-- what a name stands for in a list of one
abbrev pub found_in : List ℕ × Named → List ℕ → Option Named
found_in x q = if bytes_eq x.0 q then Some x.1 else None
