-- Both values of the first clash are of one location, and only equal ones tie.
use Rattle.std.proofs.Common.{◌≡◌, Option, Some, None, List, [], ◌∷◌, refl, sym, ap, subst, ◌∙◌}
use Rattle.std.specs.Prelude.{if◌then◌else◌}
use Rattle.std.specs.declared.cmp.Ordering.{Ordering}
use Rattle.std.specs.declared.cmp.Ordering.TheVariants.{Less, Equal, Greater}
use Rattle.std.specs.Ordering.{nat_cmp, is_eq}
use Rattle.std.specs.Cmp.{IsTotalOrder, then_total, on_total}
use Rattle.std.specs.Cmp.Lexicographic.{slice_cmp, nat_list_cmp_total, lists_total}
use Rattle.std.specs.FinMap.{IsAntisymmetric, nat_cmp-IsAntisymmetric, slice_cmp-IsAntisymmetric}
use Rattle.asm_base.proofs.TreeOrder.{then_equal}
use Rattle.asm_portable.specs.Order.{port_cmp}
use Rattle.asm_portable.proofs.PortOrder.{port_cmp_total, port_cmp-IsAntisymmetric}
use Rattle.asm_compose.specs.declared.given.Given.{Given}
use Rattle.asm_compose.specs.Offers.{Offer, location_cmp, given_cmp, first_clash}

-- both are of one location
abbrev pub IsClash : Given × Given → Type 0
IsClash clash = (clash.0.function ≡ clash.1.function) × (clash.0.args ≡ clash.1.args)

same_location : (g h : Given) → location_cmp g h ≡ Equal → IsClash (g, h)
same_location g h e =
    let p = then_equal (slice_cmp nat_cmp g.function h.function) (slice_cmp port_cmp g.args h.args) e in (
      slice_cmp-IsAntisymmetric nat_cmp-IsAntisymmetric g.function h.function p.0,
      slice_cmp-IsAntisymmetric port_cmp-IsAntisymmetric g.args h.args p.1,
    )

clash_at : (g h : Given) (rest : Option (Given × Given)) (clash : Given × Given) (r : Ordering)
    → location_cmp g h ≡ r → (rest ≡ Some clash → IsClash clash)
    → (if is_eq r then Some (g, h) else rest) ≡ Some clash → IsClash clash
clash_at g h rest clash Less is more e = more e
clash_at g h rest clash Equal is more e =
    let same : ◌≡◌ {A = Given × Given} (g, h) clash = cc in
    subst IsClash same (same_location g h is)
clash_at g h rest clash Greater is more e = more e

pub first_clash-is : (offer : Offer) (clash : Given × Given) → first_clash offer ≡ Some clash → IsClash clash
first_clash-is [] clash e = absurd (cc)
first_clash-is (g ∷ []) clash e = absurd (cc)
first_clash-is (g ∷ h ∷ hs) clash e =
    clash_at g h (first_clash (h ∷ hs)) clash (location_cmp g h) refl (first_clash-is (h ∷ hs) clash) e

-- ---- the order of what is offered

pub location_cmp_total : IsTotalOrder location_cmp
location_cmp_total = then_total (on_total (λ g. g.function) nat_list_cmp_total)
    (on_total (λ g. g.args) (lists_total port_cmp_total))

pub given_cmp_total : IsTotalOrder given_cmp
given_cmp_total = then_total location_cmp_total (on_total (λ g. g.value) port_cmp_total)

pub given_cmp-IsAntisymmetric : IsAntisymmetric given_cmp
given_cmp-IsAntisymmetric g h e =
    let p = then_equal (location_cmp g h) (port_cmp g.value h.value) e in
    let location = same_location g h p.0 in
    let value = port_cmp-IsAntisymmetric g.value h.value p.1 in
    λ i. record { function = location.0 i; args = location.1 i; value = value i }
