-- Each order is total, so what is equal ties, and nothing else does.
use Rattle.std.proofs.Common.{◌≡◌, subst}
use Rattle.std.specs.declared.cmp.Ordering.TheVariants.{Equal}
use Rattle.std.proofs.lemmas.Cmp.{tied_itself}
use Rattle.asm_value.specs.Value.{compare}
use Rattle.asm_value.specs.Location.{location_cmp, update_cmp}
use Rattle.asm_value.specs.TotalOrders.{compare_total, compare-IsAntisymmetric}
use Rattle.asm_value.specs.TotalOrders.{location_cmp_total, location_cmp-IsAntisymmetric}
use Rattle.asm_value.specs.TotalOrders.{update_cmp_total, update_cmp-IsAntisymmetric}
use Rattle.asm_value.proofs.laws.only_equal_values_tie.Goals as goal

pub returns-clause-values : goal.returns-clause-values
returns-clause-values c v w = (
  compare-IsAntisymmetric v w,
  λ e. subst (λ x. compare v x ≡ Equal) e (tied_itself compare_total v),
)

pub returns-clause-locations : goal.returns-clause-locations
returns-clause-locations c l m = (
  location_cmp-IsAntisymmetric l m,
  λ e. subst (λ x. location_cmp l x ≡ Equal) e (tied_itself location_cmp_total l),
)

pub returns-clause-updates : goal.returns-clause-updates
returns-clause-updates c u v = (
  update_cmp-IsAntisymmetric u v,
  λ e. subst (λ x. update_cmp u x ≡ Equal) e (tied_itself update_cmp_total u),
)
