use Rattle.asm_core.proofs.Joining.{done, is_kept, refused, clashes}
use Rattle.asm_core.proofs.formulas.ran.Goals as goal

pub returns-in-Done : goal.returns-in-Done
returns-in-Done c =
    let leaf = c.run_formula.new.leaf in
    let ends = c.in_ok-outcome.ensures in
    done c.args.board.now c.args.names.now c.args.inputs.now c.args.pick c.args.formula.now c.new.result leaf.leaves leaf.refusal c.in_ok-outcome.outcome c.in-Done.field-0
    c.new.ensures ends.makes c.in-Done.is ends.outcome

pub unwrap-requires : goal.unwrap-requires
unwrap-requires c =
    let leaf = c.run_formula.new.leaf in
    let ends = c.in_ok-outcome.ensures in
    is_kept c.args.board.now c.args.names.now c.args.inputs.now c.args.pick c.args.formula.now c.new.result leaf.leaves leaf.refusal c.in_ok-outcome.outcome c.in-Stopped.field-0
    c.new.ensures ends.makes c.in-Stopped.is ends.outcome

pub returns-in-Stopped : goal.returns-in-Stopped
returns-in-Stopped c =
    let leaf = c.run_formula.new.leaf in
    let ends = c.in_ok-outcome.ensures in
    refused c.args.board.now c.args.names.now c.args.inputs.now c.args.pick c.args.formula.now c.new.result leaf.leaves leaf.refusal c.in_ok-outcome.outcome c.in-Stopped.field-0
    c.new.ensures ends.makes c.in-Stopped.is ends.outcome c.unwrap.result c.unwrap.ensures

pub returns : goal.returns
returns c =
    clashes c.args.board.now c.args.names.now c.args.inputs.now c.args.pick c.args.formula.now c.in_ok-outcome.outcome _ _ _ _ c.clashed.result
    c.in-JoinClash.is c.in_ok-outcome.ensures.outcome c.clashed.ensures
