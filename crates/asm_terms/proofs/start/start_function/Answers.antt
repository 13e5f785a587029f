-- In the bare state the view's lists of arguments are the definition's.
use Rattle.std.proofs.Common.{◌≡◌, ap, subst, slice_get, ◌∙◌}
use Rattle.std.specs.Prelude.{IfOk}
use Rattle.asm_value.specs.Ranges.{tuples}
use Rattle.asm_program.specs.Initial.{args_of}
use Rattle.asm_terms.specs.Evaluation.{ranges_in}
use Rattle.asm_terms.specs.Starts.{started, starts_after}
use Rattle.asm_terms.proofs.StartLaws.{starts-function}
use Rattle.asm_terms.proofs.start.start_function.Goals as goal

pub returns : goal.returns
returns c =
    let view = c.args.view.now in
    let init = c.args.init.now in
    let state = c.args.state.now in
    let domains = c.args_of.ensures
    ∙ ap (λ p. args_of (slice_get p.functions init.function)) c.program.ensures in
    let lists = c.as_slice.ensures ∙ c.in_ok-lists.ensures ∙ ap (ranges_in view) domains in
    subst (λ z. IfOk c.start_each.result (λ fault. started fault c.start_each.new.state ≡ z))
    ((λ i. starts_after view init (c.new-env.ensures i) (tuples (lists i)) state)
    ∙ starts-function view init c.requires state)
    c.start_each.ensures.start
