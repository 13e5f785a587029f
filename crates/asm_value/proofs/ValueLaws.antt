-- What the weight and the order of a value compute, level by level.
use Rattle.std.proofs.Common.{◌≡◌, ℕ, ◌+◌, refl, ap, ◌∙◌, sum, sum_by}
use Rattle.std.proofs.lemmas.List.Sums.{sum-map}
use Rattle.asm_value.specs.declared.value.Value.{Value}
use Rattle.asm_value.specs.declared.value.Value.TheOpen.{Value-F}
use Rattle.asm_value.specs.declared.value.Value.TheFolds.{fold_out-Value, map-Value}
use Rattle.asm_value.specs.declared.value.Value.TheViews.{out-Value, the_lemmas}
use Rattle.asm_value.specs.Value.{items, parts, own_weight, whole_weight}
use Rattle.asm_value.specs.TotalOrders.{items-map, compare-parts}

own_weight-map : {A B : Type 0} (h : A → B) (a : Value-F A)
    → own_weight (map-Value A B h a) ≡ own_weight a
own_weight-map h Value-F.Undef = refl
own_weight-map h (Value-F.Truth b) = refl
own_weight-map h (Value-F.Int n) = refl
own_weight-map h (Value-F.Chars t) = refl
own_weight-map h (Value-F.Member d i) = refl
own_weight-map h (Value-F.Tuple xs) = refl
own_weight-map h (Value-F.Seq xs) = refl
own_weight-map h (Value-F.Set xs) = refl

pub whole_weight-out : (v : Value)
    → whole_weight v ≡ own_weight (out-Value v) + sum_by whole_weight (parts v)
unfolding whole_weight
whole_weight-out v =
    let a = out-Value v in
    fold_out-Value ℕ _ v ∙ (λ i. own_weight-map whole_weight a i
    + (ap sum (items-map whole_weight a) ∙ sum-map whole_weight (items a)) i)

pub ruleset value_steps = (whole_weight-out, compare-parts, the_lemmas)
