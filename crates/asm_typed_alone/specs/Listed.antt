-- The names that a program declares, part by part.
use Rattle.std.specs.Prelude.{ℕ, List, ◌++◌}
use Rattle.asm_value.specs.declared.domain.DomainInfo.{DomainInfo}
use Rattle.asm_value.specs.declared.domain.DomainKind.{DomainKind}
use Rattle.asm_program.specs.declared.program.FunctionInfo.{FunctionInfo}
use Rattle.asm_program.specs.Signatures.{Names}
use Rattle.asm_program.specs.TypedAlone.{literals_from, info_names, domain_names, function_names}

-- lists of names, one after the other
unfoldable pub with_names : Names → Names → Names
with_names old new = old ++ new

unfoldable pub literals_named : ℕ → ℕ → List (List ℕ) → Names
literals_named d i names = literals_from d i names

unfoldable pub info_named : ℕ → List ℕ → DomainKind → Names
info_named d name kind = info_names d name kind

unfoldable pub infos_named : ℕ → List DomainInfo → Names
infos_named d infos = domain_names d infos

unfoldable pub functions_named : ℕ → List FunctionInfo → Names
functions_named f infos = function_names f infos
