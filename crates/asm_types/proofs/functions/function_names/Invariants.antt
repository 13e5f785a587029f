use Rattle.std.proofs.Common.{◌≡◌, ◌++◌, drop}
use Rattle.std.specs.List.{filter_map}
use Rattle.asm_types.specs.Assembled.{function_name}
use Rattle.asm_types.proofs.functions.function_names.Given as goal

abbrev pub invariant-loop-decl : goal.invariant-loop-decl
invariant-loop-decl l =
    l.names ++ filter_map function_name (drop l.decl-index l.decls) ≡ filter_map function_name l.decls
