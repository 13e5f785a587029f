-- No function and no macro rule of a text whose calls are not refused reaches itself.
use Rattle.asm_program.specs.Calls.{call_graph, definitions}
use Rattle.asm_calls.specs.TextLaws.{TextFunctionsAreRanked, TextMacrosAreRanked}
use Rattle.asm_calls.proofs.CallLaws.{calls_named, none_refused_none}
use Rattle.asm_calls.proofs.Nested.{functions_ranked, macros_ranked}

pub text_functions_ranked : TextFunctionsAreRanked
text_functions_ranked tree definition functions none names =
    functions_ranked (call_graph (definitions tree)) definition functions
    (none_refused_none tree none) (λ f g body other e d t.
    let n = names f g body other e d t in
    (calls_named tree (definition f) (definition g) n.place n.definition n.token n.is_there).0
    n.named n.first)

pub text_macros_ranked : TextMacrosAreRanked
text_macros_ranked tree definition macros none names =
    macros_ranked (call_graph (definitions tree)) definition macros
    (none_refused_none tree none) (λ m k body other e d t.
    let n = names m k body other e d t in
    (calls_named tree (definition m) (definition k) n.place n.definition n.token n.is_there).1
    n.named n.first)
