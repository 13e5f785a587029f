-- The models of a formula.
use Rattle.std.specs.Prelude.{ℕ, List, [], ◌∷◌, ◌++◌}
use Rattle.asm_formula.specs.declared.formula.Formula.{Formula}
use Rattle.asm_formula.specs.declared.formula.Formula.TheOpen.{Formula-F}
use Rattle.asm_formula.specs.declared.formula.Formula.TheFolds.{fold-Formula}

abbrev pub names_level : Formula-F (List (List ℕ)) → List (List ℕ)
names_level (Formula-F.Name name) = name ∷ []
names_level (Formula-F.Join op left right) = left ++ right

-- the names of its models, in text order
unfoldable pub names : Formula → List (List ℕ)
names = fold-Formula (List (List ℕ)) names_level
