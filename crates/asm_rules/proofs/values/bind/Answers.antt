-- One more variable.
use Rattle.std.proofs.Common.{◌+◌, [], ◌∷◌, ◌++◌, take, drop, length, sym, ap, ◌∙◌}
use Rattle.asm_program.specs.Meaning.{eval}
use Rattle.asm_program.specs.Yields.{bind_all}
use Rattle.asm_terms.specs.Views.{map_of, program_of}
use Rattle.asm_rules.proofs.Binding.{bind_all-value, bind_all-fault, bind_all-end, take-push}
use Rattle.asm_rules.proofs.values.bind.Goals as goal

pub returns-in-Fault-clause-bound : goal.returns-in-Fault-clause-bound
returns-in-Fault-clause-bound c = λ go.
    let gives = eval (program_of c.args.view.now) (map_of c.args.view.now) in
    let is = sym c.in-Fault.is ∙ c.in_ok-value.ensures.outcome
    ∙ ap (λ t. gives t c.loop-term.env) (c.get.ensures ∙ c.term-item.is) in
    sym (c.loop-term.invariant.0 go)
    ∙ bind_all-fault gives c.args.terms.now c.loop-term.term-index c.term-item.result c.loop-term.env c.in-Fault.fault go c.loop-term-test.true is

pub loop-term-preserved : goal.loop-term-preserved
loop-term-preserved c =
    let gives = eval (program_of c.args.view.now) (map_of c.args.view.now) in
    let v = c.in-Value.value in
    let i = c.loop-term.term-index in
    let is = sym c.in-Value.is ∙ c.in_ok-value.ensures.outcome
    ∙ ap (λ t. gives t c.loop-term.env) (c.get.ensures ∙ c.term-item.is) in
    let pushed = c.in_ok-push-in-Value.ensures.ok ∙ ap (λ env. env ++ v ∷ []) c.in_ok-value.ensures.same in (
      λ go. ap (λ env. bind_all gives (drop (i + 1) c.args.terms.now) env go) pushed
          ∙ bind_all-value gives c.args.terms.now i c.term-item.result c.loop-term.env v go c.loop-term-test.true is
          ∙ c.loop-term.invariant.0 go,
      ap (take (length c.args.env.now)) pushed
          ∙ take-push c.args.env.now c.loop-term.env v c.loop-term.invariant.1,
    )

pub returns-clause-bound : goal.returns-clause-bound
returns-clause-bound c = λ go.
    sym (c.loop-term.invariant.0 go)
    ∙ bind_all-end (eval (program_of c.args.view.now) (map_of c.args.view.now)) c.args.terms.now c.loop-term.term-index c.loop-term.env go c.loop-term-test.false
