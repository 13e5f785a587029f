-- There are as many names as terms.
use Rattle.std.proofs.Common.{◌≡◌, ap, ◌∙◌}
use Rattle.std.specs.List.{filter_map}
use Rattle.asm_types.specs.Assembled.{function_name}
use Rattle.asm_types.proofs.Infos.{names-bodies}
use Rattle.asm_types.proofs.functions.functions_of.Goals as goal

pub function_infos-requires-clause-bodies : goal.function_infos-requires-clause-bodies
function_infos-requires-clause-bodies c =
    let named : c.as_slice-2.result.now ≡ filter_map function_name c.args.tree.now.decls =
    c.as_slice-2.ensures ∙ c.in_ok-names.ensures ∙ ap (filter_map function_name) c.as_slice.ensures in
    names-bodies c.args.tree.now c.args.scope.now c.as_slice-2.result.now c.requires.scoped named
    c.args.bodies.items c.requires.bodies
