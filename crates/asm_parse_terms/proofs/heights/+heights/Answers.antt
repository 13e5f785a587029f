use Rattle.std.proofs.Common.{◌≡◌, ◌∙◌, sym, rules, arith}
use Rattle.asm_syntax.specs.declared.tree.TermTree.TheOpen.{TermTree-F}
use Rattle.asm_syntax.specs.declared.tree.TermTree.TheViews.{out-TermTree, the_lemmas}
use Rattle.asm_parse_terms.proofs.HeightSteps.{switch-within}
use Rattle.asm_parse_terms.proofs.heights.+heights.Goals as goal

pub is_within-returns-then-most-gt0-12 : goal.is_within-returns-then-most-gt0-12
is_within-returns-then-most-gt0-12 t c =
    let opened : out-TermTree c.args.term.now ≡ TermTree-F.Switch c.in-Switch.value c.in-Switch.cases c.in-Switch.other c.in-Switch.field-3 =
    search (rules, the_lemmas, c.in-Switch.is) in
    c.is_switch_within.ensures ∙ sym (switch-within c.args.most _ _ _ _ _ opened (omega arith))
