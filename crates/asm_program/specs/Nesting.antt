-- How deep calls nest: no function and no macro rule of a program reaches itself.
use Rattle.std.specs.Prelude.{ℕ, suc, ◌+◌, max, Bool, ◌==◌, List, [], ◌∷◌, length}
use Rattle.std.specs.List.{list_all, range_with_len}
use Rattle.asm_program.specs.declared.trees.Term.{Term}
use Rattle.asm_program.specs.declared.trees.Term.TheOpen.{Term-F}
use Rattle.asm_program.specs.declared.trees.Rule.TheOpen.{Rule-F}
use Rattle.asm_program.specs.declared.program.FunctionInfo.{FunctionInfo}
use Rattle.asm_program.specs.declared.program.MacroInfo.{MacroInfo}
use Rattle.asm_program.specs.Forms.{parts, called, of_function, rule_parts, rule_called, of_macro}
use Rattle.std.specs.Option.{option_map_or}

abbrev pub greatest : List ℕ → ℕ
greatest [] = 0
greatest (n ∷ ns) = max n (greatest ns)

-- the most calls within one another, where those of each function nest so deep
abbrev pub nesting_level : (ℕ → ℕ) → Term-F ℕ (ℕ × ℕ) → ℕ
nesting_level calls a =
    max (greatest (parts a)) (option_map_or (λ f. 1 + calls f) (called a) 0)

-- how deep the calls of a function's term nest, followed n deep
abbrev pub nesting : List FunctionInfo → ℕ → ℕ → ℕ
nesting = of_function nesting_level 0

-- Calls that are followed as deep as there are functions nest no deeper one call further on: so no
-- function reaches itself.
abbrev pub functions_are_ranked : List FunctionInfo → Bool
functions_are_ranked functions =
    let n = length functions in
    list_all (λ f. nesting functions n f == nesting functions (suc n) f) (range_with_len 0 n)

-- the same of macro rules
abbrev pub rule_nesting_level : (ℕ → ℕ) → Rule-F ℕ (Term × ℕ) → ℕ
rule_nesting_level calls a =
    max (greatest (rule_parts a)) (option_map_or (λ m. 1 + calls m) (rule_called a) 0)

abbrev pub rule_nesting : List MacroInfo → ℕ → ℕ → ℕ
rule_nesting = of_macro rule_nesting_level 0

abbrev pub macros_are_ranked : List MacroInfo → Bool
macros_are_ranked macros =
    let n = length macros in
    list_all (λ m. rule_nesting macros n m == rule_nesting macros (suc n) m) (range_with_len 0 n)
