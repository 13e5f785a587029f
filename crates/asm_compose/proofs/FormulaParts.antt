-- A formula by its parts.
use Rattle.std.proofs.Common.{◌≡◌, ℕ, ◌+◌, List, [], ◌∷◌, ◌++◌, sym, ap, ◌∙◌, rules}
use Rattle.asm_formula.specs.declared.formula.Operator.{Operator}
use Rattle.asm_formula.specs.declared.formula.Formula.{Formula}
use Rattle.asm_formula.specs.declared.formula.Formula.TheVariants as forms
use Rattle.asm_formula.specs.declared.formula.Formula.TheOpen.{Formula-F}
use Rattle.asm_formula.specs.declared.formula.Formula.TheFolds.{fold-Formula, fold_out-Formula, ind-Formula, map-Formula}
use Rattle.asm_formula.specs.declared.formula.Formula.TheViews.{out-Formula, roll-Formula, the_lemmas}
use Rattle.asm_formula.specs.Formulas.{names, names_level}

out_roll : (a : Formula-F Formula) → out-Formula (roll-Formula a) ≡ a
out_roll a = search (rules, the_lemmas)

pub out-Name : (name : List ℕ) → out-Formula (forms.Name name) ≡ Formula-F.Name name
out-Name name = search (rules, the_lemmas)

pub out-Join : (op : Operator) (left right : Formula) → out-Formula (forms.Join op left right) ≡ Formula-F.Join op left right
out-Join op left right = search (rules, the_lemmas)

-- what holds of each name, and of each join whose parts have it, holds of every formula
module _ (P : Formula → Type 0)
    (name_has : (f : Formula) (name : List ℕ) → out-Formula f ≡ Formula-F.Name name → P f)
    (join_has : (f : Formula) (op : Operator) (left right : Formula)
    → out-Formula f ≡ Formula-F.Join op left right → P left → P right → P f) where
  abbrev Held : Type 0
  Held = (f : Formula) × P f

  at_level : (y : Formula-F Held) (x : Formula-F Formula) → map-Formula Held Formula (λ h. h.0) y ≡ x
      → P (roll-Formula x)
  at_level (Formula-F.Name name) x is = name_has (roll-Formula x) name (out_roll x ∙ sym is)
  at_level (Formula-F.Join op left right) x is =
      join_has (roll-Formula x) op left.0 right.0 (out_roll x ∙ sym is) left.1 right.1

  pub by_parts : (f : Formula) → P f
  by_parts = ind-Formula P (λ x y is. at_level y x is)

-- ---- names

names-out : (f : Formula) → names f ≡ names_level (map-Formula Formula (List (List ℕ)) names (out-Formula f))
unfolding names
names-out f = fold_out-Formula (List (List ℕ)) names_level f

pub names-Name : (f : Formula) (name : List ℕ) → out-Formula f ≡ Formula-F.Name name → names f ≡ name ∷ []
names-Name f name e =
    names-out f ∙ ap (λ a. names_level (map-Formula Formula (List (List ℕ)) names a)) e

pub names-Join : (f : Formula) (op : Operator) (left right : Formula) → out-Formula f ≡ Formula-F.Join op left right
    → names f ≡ names left ++ names right
names-Join f op left right e =
    names-out f ∙ ap (λ a. names_level (map-Formula Formula (List (List ℕ)) names a)) e

pub names-of_Name : (f : Formula) (name : List ℕ) → f ≡ forms.Name name → names f ≡ name ∷ []
names-of_Name f name e = names-Name f name (ap out-Formula e ∙ out-Name name)

pub names-of_Join : (f : Formula) (op : Operator) (left right : Formula) → f ≡ forms.Join op left right
    → names f ≡ names left ++ names right
names-of_Join f op left right e = names-Join f op left right (ap out-Formula e ∙ out-Join op left right)

-- ---- the size

abbrev size_level : Formula-F ℕ → ℕ
size_level (Formula-F.Name name) = 1
size_level (Formula-F.Join op left right) = 1 + (left + right)

-- how many names and operators a formula has
unfoldable pub size : Formula → ℕ
size = fold-Formula ℕ size_level

size-out : (f : Formula) → size f ≡ size_level (map-Formula Formula ℕ size (out-Formula f))
unfolding size
size-out f = fold_out-Formula ℕ size_level f

pub size-Join : (f : Formula) (op : Operator) (left right : Formula) → f ≡ forms.Join op left right
    → size f ≡ 1 + (size left + size right)
size-Join f op left right e =
    size-out f ∙ ap (λ a. size_level (map-Formula Formula ℕ size a)) (ap out-Formula e ∙ out-Join op left right)
