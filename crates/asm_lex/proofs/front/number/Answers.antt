use Rattle.std.proofs.Common.{◌≡◌, ℕ, ◌+◌, ◌<◌, ap, ◌∙◌}
use Rattle.std.specs.Prelude.{cond}
use Rattle.asm_lex_theory.proofs.Cases.{number_done, large_done}
use Rattle.asm_lex.proofs.front.number.Goals as goal
use Rattle.asm_lex.proofs.front.number.Goals.{then-marked, else-marked}
use Rattle.asm_lex_theory.proofs.Lists.{by_true, by_false}
use Rattle.std.proofs.lemmas.Int.{to_z_pos}
use Rattle.std.specs.Prelude.{ℤ, pos}
use Rattle.std.proofs.Common.{◌^◌}
use mir.Val.{to_z, of_z}
use mir.Syntax.{w128}

read_back : (z : ℤ) (n : ℕ) → z ≡ pos n → n < 2 ^ 127 → to_z w128 (of_z w128 z) ≡ pos n
read_back z n e h = ap (λ x. to_z w128 (of_z w128 x)) e ∙ to_z_pos w128 n h

pub returns-in-None : goal.returns-in-None
returns-in-None c = large_done c.args.bytes.now c.args.at c.run-len.result c.requires.within c.requires.digit c.run-len.ensures.len c.in-None.ensures

pub returns-after-marked : goal.returns-after-marked
returns-after-marked c =
    let r : c.if-marked.result ≡ cond c.marked-marked.result (c.run-len.result + 1 + 1) (c.run-len.result + 1) =
    elim c.if-marked.branch [
      | then-marked w ↦ by_true (λ (x : ℕ). c.if-marked.result ≡ x) c.marked-marked.result _ _ w.if-marked.true w.result-is
      | else-marked w ↦ by_false (λ (x : ℕ). c.if-marked.result ≡ x) c.marked-marked.result _ _ w.if-marked.false w.result-is
    ] in
    number_done c.args.bytes.now c.args.at c.run-len.result c.if-marked.result _ c.marked-marked.result c.requires.within c.requires.digit c.run-len.ensures.len (read_back _ _ c.in-Some.ensures.0 c.in-Some.ensures.1) c.in-Some.ensures.1 c.marked-marked.ensures r
