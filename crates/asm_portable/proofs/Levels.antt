-- Values and trees by their one level.
use Rattle.std.proofs.Common.{◌≡◌, ℕ, ◌≤◌, ℤ, Bool, List, [], ◌∷◌, map, sum_by, refl, sym, ap, subst, ◌∙◌, rules, arith}
use Rattle.std.proofs.lemmas.List.Sums.{sum_by-cons}
use Rattle.std.specs.List.{AllByRecursion}
use Rattle.asm_value.specs.declared.value.Value.{Value}
use Rattle.asm_value.specs.declared.value.Value.TheOpen.{Value-F}
use Rattle.asm_value.specs.declared.value.Value.TheVariants.{Chars, Seq}
use Rattle.asm_value.specs.declared.value.Value.TheFolds.{every-Value, every_here-Value, every_held-Value, every_made-Value, map-Value}
use Rattle.asm_value.specs.declared.value.Value.TheViews as views
use Rattle.asm_value.specs.declared.value.Value.TheViews.{out-Value}
use Rattle.asm_value.specs.Value.{items, parts, whole_weight}
use Rattle.asm_value.specs.TotalOrders.{items-map, each_with, roll_out}
use Rattle.asm_value.proofs.ValueLaws.{whole_weight-out}
use Rattle.asm_portable.specs.declared.port.Port.{Port}
use Rattle.asm_portable.specs.declared.port.Port.TheOpen.{Port-F}
use Rattle.asm_portable.specs.declared.port.Port.TheVariants as ports
use Rattle.asm_portable.specs.declared.port.Port.TheViews.{out-Port, roll-Port, the_lemmas}

pub out_chars : (t : List ℕ) → out-Value (Chars t) ≡ Value-F.Chars t
out_chars t = search (rules, views.the_lemmas)

pub out_seq : (xs : List Value) → out-Value (Seq xs) ≡ Value-F.Seq xs
out_seq xs = search (rules, views.the_lemmas)

-- ---- trees

pub out_port_bool : (b : Bool) → out-Port (ports.Bool b) ≡ Port-F.Bool b
out_port_bool b = search (rules, the_lemmas)

pub out_port_int : (n : ℤ) → out-Port (ports.Int n) ≡ Port-F.Int n
out_port_int n = search (rules, the_lemmas)

pub out_port_text : (t : List ℕ) → out-Port (ports.Text t) ≡ Port-F.Text t
out_port_text t = search (rules, the_lemmas)

pub out_port_list : (ts : List Port) → out-Port (ports.List ts) ≡ Port-F.List ts
out_port_list ts = search (rules, the_lemmas)

pub roll_port_out : (t : Port) → roll-Port (out-Port t) ≡ t
roll_port_out t = search (rules, the_lemmas)

pub same_port : (t u : Port) → out-Port t ≡ out-Port u → t ≡ u
same_port t u e = sym (roll_port_out t) ∙ ap roll-Port e ∙ roll_port_out u

-- ---- what holds at each level of a value

module _ (Q : Value-F Value → Type 0) where
  pub every-level : (v : Value) → every-Value Q v → Q (out-Value v)
  every-level v h = every_here-Value Q v h

  pub every-parts : (v : Value) → every-Value Q v → AllByRecursion (every-Value Q) (parts v)
  every-parts v h =
      let held = every_held-Value Q v h in
      subst (AllByRecursion (every-Value Q)) (sym (items-map (λ e. e.0) held.0) ∙ ap items held.1)
      (each_with (every-Value Q) (items held.0))

  beside : (xs : List Value) → AllByRecursion (every-Value Q) xs
      → (es : List ((v : Value) × every-Value Q v)) × (map (λ e. e.0) es ≡ xs)
  beside [] h = ([], refl)
  beside (x ∷ xs) h = let more = beside xs h.1 in ((x, h.0) ∷ more.0, ap (λ ys. x ∷ ys) more.1)

  level_beside : (a : Value-F Value) → AllByRecursion (every-Value Q) (items a)
      → (b : Value-F ((v : Value) × every-Value Q v))
      × (map-Value ((v : Value) × every-Value Q v) Value (λ e. e.0) b ≡ a)
  level_beside Value-F.Undef h = (Value-F.Undef, refl)
  level_beside (Value-F.Truth b) h = (Value-F.Truth b, refl)
  level_beside (Value-F.Int n) h = (Value-F.Int n, refl)
  level_beside (Value-F.Chars t) h = (Value-F.Chars t, refl)
  level_beside (Value-F.Member d i) h = (Value-F.Member d i, refl)
  level_beside (Value-F.Tuple xs) h =
      let more = beside xs h in (Value-F.Tuple more.0, ap (λ ys. Value-F.Tuple ys) more.1)
  level_beside (Value-F.Seq xs) h =
      let more = beside xs h in (Value-F.Seq more.0, ap (λ ys. Value-F.Seq ys) more.1)
  level_beside (Value-F.Set xs) h =
      let more = beside xs h in (Value-F.Set more.0, ap (λ ys. Value-F.Set ys) more.1)

  pub every-made : (v : Value) (a : Value-F Value) → out-Value v ≡ a → Q a
      → AllByRecursion (every-Value Q) (items a) → every-Value Q v
  every-made v a e level h =
      let y = level_beside a h in
      subst (every-Value Q) (ap views.roll-Value (sym e) ∙ roll_out v)
      (every_made-Value Q a y.0 y.1 level)

-- ---- weights

sum_bounds : (xs : List Value) (n : ℕ) → sum_by whole_weight xs ≤ n
    → AllByRecursion (λ x. whole_weight x ≤ n) xs
sum_bounds [] n h = tt
sum_bounds (x ∷ xs) n h = (
  omega (arith, h, sum_by-cons whole_weight x xs),
  sum_bounds xs n (omega (arith, h, sum_by-cons whole_weight x xs)),
)

-- no part weighs more than the whole
pub parts_light : (v : Value) (n : ℕ) → whole_weight v ≤ n
    → AllByRecursion (λ x. whole_weight x ≤ n) (parts v)
parts_light v n h =
    sum_bounds (parts v) n (omega (arith, h, whole_weight-out v))
