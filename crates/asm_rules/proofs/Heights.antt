-- A part of a list is no higher than the list.
use Rattle.std.proofs.Common.{ℕ, zero, suc, ◌<◌, ◌≤◌, List, [], ◌∷◌, map, length, get_or, arith}
use Rattle.asm_program.specs.declared.trees.Rule.{Rule}
use Rattle.asm_program.specs.declared.trees.RuleCase.{RuleCase}
use Rattle.asm_program.specs.declared.program.MacroInfo.{MacroInfo}
use Rattle.asm_program.specs.Nesting.{greatest}
use Rattle.asm_program.specs.YieldsLaws.{height, case_height}

greatest-at : {A : Type 0} (f : A → ℕ) (xs : List A) (i : ℕ) (d : A) → i < length xs → f (get_or xs i d) ≤ greatest (map f xs)
greatest-at f [] i d h = absurd (omega arith)
greatest-at f (x ∷ xs) zero d h = omega arith
greatest-at f (x ∷ xs) (suc i) d h = let rest = greatest-at f xs i d (omega arith) in omega arith

pub height-at : (macros : List MacroInfo) (rs : List Rule) (i : ℕ) (d : Rule) → i < length rs
    → height macros (get_or rs i d) ≤ greatest (map (height macros) rs)
height-at macros rs i d h = greatest-at (height macros) rs i d h

pub case_height-at : (macros : List MacroInfo) (cs : List RuleCase) (i : ℕ) (d : RuleCase) → i < length cs
    → height macros (get_or cs i d).rule ≤ greatest (map (case_height macros) cs)
case_height-at macros cs i d h = greatest-at (case_height macros) cs i d h
