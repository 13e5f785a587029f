use Rattle.std.proofs.Common.{ap}
use Rattle.asm_syntax.specs.declared.token.Span.{Span}
use Rattle.asm_checking.proofs.Meanings.{term_typed, term_untyped}
use Rattle.asm_checking.proofs.terms.meaning_of_tree.Goals as goal

pub returns-in-Ok : goal.returns-in-Ok
returns-in-Ok c =
    term_typed c.args.program.now c.args.wanted c.args.text.now c.args.tree.now c.requires c.in-Ok.typed c.in-Ok.ensures.0 c.in-Ok.ensures.1
    c.checked.result c.span.result.start (ap (λ (s : Span). s.start) c.span.ensures) c.checked.ensures

pub returns-in_ok-untyped-in-Err : goal.returns-in_ok-untyped-in-Err
returns-in_ok-untyped-in-Err c =
    term_untyped c.args.program.now c.args.wanted c.args.text.now c.args.tree.now c.requires c.in-Err.why c.in_ok-untyped-in-Err.field-0 c.in-Err.ensures
    c.in_ok-untyped-in-Err.ensures.some c.in_ok-untyped-in-Err.ensures.told
