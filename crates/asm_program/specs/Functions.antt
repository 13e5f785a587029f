-- The functions of a program by their names.
use Rattle.std.specs.Prelude.{ℕ, ◌+◌, if◌then◌else◌, Option, Some, None, List, [], ◌∷◌}
use Rattle.std.specs.Str.{bytes_eq}
use Rattle.asm_program.specs.declared.program.FunctionInfo.{FunctionInfo}

-- the number of the first of this name, where these are numbered from f on
abbrev pub function_named : ℕ → List FunctionInfo → List ℕ → Option ℕ
function_named f [] name = None
function_named f (info ∷ infos) name =
    if bytes_eq info.name name then Some f else function_named (f + 1) infos name
