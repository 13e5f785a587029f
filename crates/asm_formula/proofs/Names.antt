-- The names of a formula, level by level.
use Rattle.std.proofs.Common.{◌≡◌, ℕ, List, ◌++◌, Result, Ok, Err, OnOk, ap, ◌∙◌, sym, append_assoc, rules}
use Rattle.asm_formula.specs.declared.formula.Operator.{Operator}
use Rattle.asm_formula.specs.declared.formula.Formula.{Formula}
use Rattle.asm_formula.specs.declared.formula.Formula.TheVariants as formulas
use Rattle.asm_formula.specs.declared.formula.Formula.TheFolds.{fold_out-Formula, map-Formula}
use Rattle.asm_formula.specs.declared.formula.Formula.TheViews.{out-Formula, the_lemmas}
use Rattle.asm_formula.specs.Formulas.{names, names_level}

pub names-out : (f : Formula)
    → names f ≡ names_level (map-Formula Formula (List (List ℕ)) names (out-Formula f))
unfolding names
names-out f = fold_out-Formula (List (List ℕ)) _ f

pub ruleset name_steps = (names-out, the_lemmas)

pub names-Join : (op : Operator) (left right : Formula)
    → names (formulas.Join op left right) ≡ names left ++ names right
names-Join op left right = search (rules, name_steps)

-- what the names of the left part are, and then those of the right
pub put_both : {E : Type 0} (result : Result (Unit {0}) E) (f left right : Formula) (op : Operator)
    → f ≡ formulas.Join op left right → (old middle new : List (List ℕ))
    → middle ≡ old ++ names left → OnOk result (new ≡ middle ++ names right)
    → OnOk result (new ≡ old ++ names f)
put_both (Ok x) f left right op e old middle new h k =
    k ∙ ap (λ (ns : List (List ℕ)). ns ++ names right) h
    ∙ append_assoc old (names left) (names right)
    ∙ ap (λ (ns : List (List ℕ)). old ++ ns) (sym (ap names e ∙ names-Join op left right))
put_both (Err e') f left right op e old middle new h k = tt
