use Rattle.std.proofs.Common.{arith, ◌∙◌, length-drop}
use Rattle.std.proofs.Math.Seq.{take-add}
use Rattle.std.proofs.lemmas.List.{take_rest}
use Rattle.std.proofs.KnownBytes.{Appends-trans}
use Rattle.asm_io.proofs.writing.write_whole.Goals as goal

-- what was written before, and what this write took
pub loop-at-preserved : goal.loop-at-preserved
loop-at-preserved g c =
    let took = rw take_rest at c.in_ok-at.ensures.bound in (
      omega (arith, length-drop c.loop-at.at c.args.bytes.now),
      rw take-add (Appends-trans _ _ _ _ _ c.loop-at.invariant.1 (rw take_rest at c.in_ok-at.ensures.bytes)),
      c.in_ok-at.ensures.cause.unfailed ∙ c.loop-at.invariant.2,
    )
