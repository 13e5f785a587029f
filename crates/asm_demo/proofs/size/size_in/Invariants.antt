use Rattle.std.proofs.Common.{◌≡◌, ℕ, ◌<◌, ◌≤◌, decimal}
use Rattle.asm_demo.proofs.size.size_in.Given as goal

-- no size so far is written so
abbrev pub invariant-loop-size : goal.invariant-loop-size
invariant-loop-size l = (size : ℕ) → 1 ≤ size → size < l.size → l.word ≡ decimal size → ⊥
