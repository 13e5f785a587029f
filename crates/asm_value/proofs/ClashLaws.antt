-- A set of updates has at most one clash.
use Rattle.std.proofs.Common.{◌≡◌, ◌≢◌, refl, sym, ap, subst, ◌∙◌}
use Rattle.std.specs.declared.cmp.Ordering.{Ordering}
use Rattle.std.specs.declared.cmp.Ordering.TheVariants.{Less, Equal, Greater}
use Rattle.std.specs.Ordering.{ordering_reverse}
use Rattle.std.proofs.lemmas.Cmp.{tied_itself}
use Rattle.asm_value.specs.declared.value.Value.{Value}
use Rattle.asm_value.specs.declared.location.Location.{Location}
use Rattle.asm_value.specs.declared.location.Update.{Update}
use Rattle.asm_value.specs.Value.{compare}
use Rattle.asm_value.specs.TotalOrders.{compare_total, compare-IsAntisymmetric}
use Rattle.asm_value.specs.Location.{location_cmp}
use Rattle.asm_value.specs.TotalOrders.{location_cmp_total, location_cmp-IsAntisymmetric}
use Rattle.asm_value.specs.UpdateSet.{UpdateSet}
use Rattle.asm_value.specs.State.{IsClash}

-- where neither of two is greater, they tie
tied : (o p : Ordering) → o ≡ ordering_reverse p → o ≢ Greater → p ≢ Greater → o ≡ Equal
tied Less Less turned h k = absurd (cc)
tied Less Equal turned h k = absurd (cc)
tied Less Greater turned h k = absurd (k refl)
tied Equal p turned h k = refl
tied Greater p turned h k = absurd (h refl)

same_location : (l m : Location) → location_cmp l m ≢ Greater → location_cmp m l ≢ Greater → l ≡ m
same_location l m h k =
    location_cmp-IsAntisymmetric l m (tied _ _ (location_cmp_total.antisymm l m) h k)

same_value : (v w : Value) → compare v w ≢ Greater → compare w v ≢ Greater → v ≡ w
same_value v w h k = compare-IsAntisymmetric v w (tied _ _ (compare_total.antisymm v w) h k)

less_apart : (v w : Value) → compare v w ≡ Less → v ≢ w
less_apart v w h e =
    let differs : Less ≡ Equal = sym h
    ∙ subst (λ z. compare v z ≡ Equal) e (tied_itself compare_total v) in cc

abbrev at : Location → Value → Update
at l v = record { location = l; value = v }

module _ (updates : UpdateSet) where
  -- the location of one clash is not after that of another
  no_later : (l m : Location) (v w x y : Value) → IsClash updates l v w → IsClash updates m x y
      → location_cmp l m ≢ Greater
  no_later l m v w x y p q =
      p.least_location (at m x) (at m y) q.has_first q.has_second refl
      (λ e. less_apart x y q.differ (ap (λ u. u.value) e))

  -- at one location the two values are determined
  one_pair : (l : Location) (v w x y : Value) → IsClash updates l v w → IsClash updates l x y
      → (v ≡ x) × (w ≡ y)
  one_pair l v w x y p q =
      let first = same_value v x (p.least_first x q.has_first) (q.least_first v p.has_first) in
      let second = same_value w y
      (p.least_second y q.has_second (λ e. less_apart x y q.differ (sym (e ∙ first))))
      (q.least_second w p.has_second (λ e. less_apart v w p.differ (first ∙ sym e))) in
      (first, second)

  pub IsClash-alone : (l m : Location) (v w x y : Value) → IsClash updates l v w
      → IsClash updates m x y → (l ≡ m) × (v ≡ x) × (w ≡ y)
  IsClash-alone l m v w x y p q =
      let here = same_location l m (no_later l m v w x y p q) (no_later m l x y v w q p) in
      let pair = one_pair l v w x y p (subst (λ k. IsClash updates k x y) (sym here) q) in
      (here, pair.0, pair.1)
