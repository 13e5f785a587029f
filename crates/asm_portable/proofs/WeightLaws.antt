-- The weight of a tree, level by level.
use Rattle.std.proofs.Common.{◌≡◌, ℕ, ◌+◌, ℤ, Bool, List, ◌∷◌, ◌++◌, sum, sum_by, map, ap, ◌∙◌, rules}
use Rattle.std.proofs.lemmas.List.Sums.{sum-map, sum_by-cons, sum_by-append}
use Rattle.asm_portable.specs.declared.port.Port.{Port}
use Rattle.asm_portable.specs.declared.port.Port.TheVariants as ports
use Rattle.asm_portable.specs.declared.port.Field.{Field}
use Rattle.asm_portable.specs.declared.port.Port.TheFolds.{fold-Field, fold_out-Port, fold_out-Field, map-Port}
use Rattle.asm_portable.specs.declared.port.Port.TheViews.{out-Port, the_lemmas}
use Rattle.asm_base.specs.Weight.{text_weight}
use Rattle.asm_portable.specs.Weights.{weight_level, whole_weight, fields_weight}

-- the weight of one field
abbrev pub field_weight : Field → ℕ
field_weight f = text_weight f.key + whole_weight f.tree

folded : Field → ℕ
folded = fold-Field ℕ ℕ weight_level (λ f. text_weight f.key + f.tree)

folded-is : (f : Field) → folded f ≡ field_weight f
unfolding folded whole_weight
folded-is f = fold_out-Field ℕ ℕ weight_level (λ g. text_weight g.key + g.tree) f

-- what one level weighs, from the weights of its parts
pub whole_weight-out : (p : Port) → whole_weight p ≡ weight_level (map-Port Port Field ℕ ℕ whole_weight field_weight (out-Port p))
unfolding folded whole_weight
whole_weight-out p =
    let e : folded ≡ field_weight = λ i f. folded-is f i in
    fold_out-Port ℕ ℕ weight_level (λ g. text_weight g.key + g.tree) p ∙ ap (λ h. weight_level (map-Port Port Field ℕ ℕ whole_weight h (out-Port p))) e

pub whole_weight-Null : whole_weight ports.Null ≡ 1
whole_weight-Null = search (rules, whole_weight-out ports.Null, the_lemmas)

pub whole_weight-Bool : (b : Bool) → whole_weight (ports.Bool b) ≡ 1
whole_weight-Bool b = search (rules, whole_weight-out (ports.Bool b), the_lemmas)

pub whole_weight-Int : (n : ℤ) → whole_weight (ports.Int n) ≡ 1
whole_weight-Int n = search (rules, whole_weight-out (ports.Int n), the_lemmas)

pub whole_weight-Text : (bytes : List ℕ) → whole_weight (ports.Text bytes) ≡ text_weight bytes
whole_weight-Text bytes = search (rules, whole_weight-out (ports.Text bytes), the_lemmas)

-- a list weighs 1 and its items
summed-List : (trees : List Port) → whole_weight (ports.List trees) ≡ 1 + sum (map whole_weight trees)
summed-List trees = search (rules, whole_weight-out (ports.List trees), the_lemmas)

pub whole_weight-List : (trees : List Port) → whole_weight (ports.List trees) ≡ 1 + sum_by whole_weight trees
whole_weight-List trees = summed-List trees ∙ ap (λ n. 1 + n) (sum-map whole_weight trees)

-- fields weigh 1 and each its key and its tree
summed-Fields : (fs : List Field) → whole_weight (ports.Fields fs) ≡ 1 + sum (map field_weight fs)
summed-Fields fs = search (rules, whole_weight-out (ports.Fields fs), the_lemmas)

pub whole_weight-Fields : (fs : List Field) → whole_weight (ports.Fields fs) ≡ 1 + fields_weight fs
whole_weight-Fields fs = summed-Fields fs ∙ ap (λ n. 1 + n) (sum-map field_weight fs)

-- one more in front, and lists one behind the other
pub trees_weight-cons : (tree : Port) (trees : List Port) → sum_by whole_weight (tree ∷ trees) ≡ whole_weight tree + sum_by whole_weight trees
trees_weight-cons tree trees = sum_by-cons whole_weight tree trees

pub trees_weight-append : (trees more : List Port) → sum_by whole_weight (trees ++ more) ≡ sum_by whole_weight trees + sum_by whole_weight more
trees_weight-append trees more = sum_by-append whole_weight trees more

pub fields_weight-cons : (f : Field) (fs : List Field) → fields_weight (f ∷ fs) ≡ field_weight f + fields_weight fs
fields_weight-cons f fs = sum_by-cons field_weight f fs

pub fields_weight-append : (fs more : List Field) → fields_weight (fs ++ more) ≡ fields_weight fs + fields_weight more
fields_weight-append fs more = sum_by-append field_weight fs more

pub ruleset weight_steps = (
  whole_weight-Null,
  whole_weight-Bool,
  whole_weight-Int,
  whole_weight-Text,
  whole_weight-List,
  whole_weight-Fields,
  trees_weight-cons,
  trees_weight-append,
  fields_weight-cons,
  fields_weight-append,
  the_lemmas,
)
