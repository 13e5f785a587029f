use Rattle.std.proofs.Common.{◌≡◌, [], subst}
use Rattle.asm_syntax.specs.declared.tree.TermTree.{TermTree}
use Rattle.asm_typed.specs.Answers.{IsTyped}
use Rattle.asm_typed_models.specs.Forms.{body_at}
use Rattle.asm_typed_models.proofs.Steps.{start-made}
use Rattle.asm_typed_models.proofs.starts.start_def.Goals as goal

pub returns : goal.returns
returns c =
    let body = subst
    (λ (t : TermTree). ((body_at c.args.scope.now c.args.start.now.params t).refused ≡ [])
    × IsTyped c.in_ok-typed.typed (body_at c.args.scope.now c.args.start.now.params t))
    c.get.ensures c.in_ok-typed.ensures in
    start-made c.args.scope.now c.args.start.now c.init_def.result c.in_ok-typed.typed
    c.in_ok-params_checked.ensures body.0 body.1.0
    c.in_ok-start_fits.ensures c.init_def.ensures.function c.init_def.ensures.body
    c.init_def.ensures.span
