-- Each pass in its turn: the first refusal of the first pass that refuses, or the program.
use Rattle.std.proofs.Common.{rules}
use Rattle.asm_types.proofs.Kept.{kept, shallow}
use Rattle.asm_types.proofs.Passes.{sound-of, none-of, declared-first, calls-first, types-first, counts-first}
use Rattle.asm_types.proofs.checker.checked.Goals as goal

pub returns-in_err-scope : goal.returns-in_err-scope
returns-in_err-scope c = search (rules, declared-first c.args.text.now c.args.tree.now)

pub returns-in_err-order : goal.returns-in_err-order
returns-in_err-order c = search (rules, calls-first c.args.text.now c.args.tree.now c.in_ok-scope.ensures.0)

pub returns-in_err-definitions : goal.returns-in_err-definitions
returns-in_err-definitions c =
    search (rules, types-first c.args.text.now c.args.tree.now c.in_ok-scope.ensures.0 c.in_ok-order.ensures.0)

pub counts_of-requires-clause-sound : goal.counts_of-requires-clause-sound
counts_of-requires-clause-sound c =
    sound-of c.args.text.now c.args.tree.now c.in_ok-scope.ensures.0 c.in_ok-order.ensures.0 c.in_ok-definitions.ensures.0

pub counts_of-requires-clause-defined : goal.counts_of-requires-clause-defined
counts_of-requires-clause-defined c = (c.args.text.now, c.in_ok-definitions.ensures.1)

pub text_work-requires-clause-sound : goal.text_work-requires-clause-sound
text_work-requires-clause-sound c =
    sound-of c.args.text.now c.args.tree.now c.in_ok-scope.ensures.0 c.in_ok-order.ensures.0 c.in_ok-definitions.ensures.0

pub text_work-requires-clause-defined : goal.text_work-requires-clause-defined
text_work-requires-clause-defined c = (c.args.text.now, c.in_ok-definitions.ensures.1)

pub program-requires-clause-none : goal.program-requires-clause-none
program-requires-clause-none c =
    none-of c.args.text.now c.args.tree.now
    (sound-of c.args.text.now c.args.tree.now c.in_ok-scope.ensures.0 c.in_ok-order.ensures.0 c.in_ok-definitions.ensures.0)
    (c.in_ok-work.ensures c.args.text.now).0

pub program-requires-clause-kept : goal.program-requires-clause-kept
program-requires-clause-kept c =
    kept c.args.text.now c.args.tree.now
    (sound-of c.args.text.now c.args.tree.now c.in_ok-scope.ensures.0 c.in_ok-order.ensures.0 c.in_ok-definitions.ensures.0)

pub program-requires-clause-shallow : goal.program-requires-clause-shallow
program-requires-clause-shallow c =
    shallow c.args.text.now c.args.tree.now
    (none-of c.args.text.now c.args.tree.now
    (sound-of c.args.text.now c.args.tree.now c.in_ok-scope.ensures.0 c.in_ok-order.ensures.0 c.in_ok-definitions.ensures.0)
    (c.in_ok-work.ensures c.args.text.now).0)

pub program-requires-clause-work : goal.program-requires-clause-work
program-requires-clause-work c = (c.in_ok-work.ensures c.args.text.now).1

pub returns-in_err-work : goal.returns-in_err-work
returns-in_err-work c =
    search (
      rules,
      counts-first c.args.text.now c.args.tree.now
          (sound-of c.args.text.now c.args.tree.now c.in_ok-scope.ensures.0 c.in_ok-order.ensures.0 c.in_ok-definitions.ensures.0)
          _ (c.in_err-work.ensures c.args.text.now),
    )

pub returns : goal.returns
returns c = (
  none-of c.args.text.now c.args.tree.now
      (sound-of c.args.text.now c.args.tree.now c.in_ok-scope.ensures.0 c.in_ok-order.ensures.0 c.in_ok-definitions.ensures.0)
      (c.in_ok-work.ensures c.args.text.now).0,
  c.in_ok-program.ensures,
)
