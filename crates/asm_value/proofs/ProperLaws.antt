-- A value is proper exactly where its own level and its parts are.
use Rattle.std.proofs.Common.{◌≡◌, List, [], ◌∷◌, map, refl, sym, ap, subst, ◌∙◌}
use Rattle.std.specs.List.{AllByRecursion}
use Rattle.asm_value.specs.declared.value.Value.{Value}
use Rattle.asm_value.specs.declared.value.Value.TheOpen.{Value-F}
use Rattle.asm_value.specs.declared.value.Value.TheFolds.{every_here-Value, every_held-Value}
use Rattle.asm_value.specs.declared.value.Value.TheFolds.{every_made-Value, map-Value}
use Rattle.asm_value.specs.declared.value.Value.TheViews.{out-Value}
use Rattle.asm_value.specs.Value.{items, parts}
use Rattle.asm_value.specs.Proper.{IsProper, IsProperLevel}
use Rattle.asm_value.specs.TotalOrders.{items-map, each_with, roll_out}

pub IsProper-level : (v : Value) → IsProper v → IsProperLevel (out-Value v)
IsProper-level v h = every_here-Value IsProperLevel v h

pub IsProper-parts : (v : Value) → IsProper v → AllByRecursion IsProper (parts v)
IsProper-parts v h =
    let held = every_held-Value IsProperLevel v h in
    subst (AllByRecursion IsProper) (sym (items-map (λ e. e.0) held.0) ∙ ap items held.1)
    (each_with IsProper (items held.0))

beside : (P : Value → Type 0) (xs : List Value) → AllByRecursion P xs
    → (es : List ((v : Value) × P v)) × (map (λ e. e.0) es ≡ xs)
beside P [] h = ([], refl)
beside P (x ∷ xs) h = let more = beside P xs h.1 in ((x, h.0) ∷ more.0, ap (λ ys. x ∷ ys) more.1)

level_beside : (P : Value → Type 0) (a : Value-F Value) → AllByRecursion P (items a)
    → (b : Value-F ((v : Value) × P v)) × (map-Value ((v : Value) × P v) Value (λ e. e.0) b ≡ a)
level_beside P Value-F.Undef h = (Value-F.Undef, refl)
level_beside P (Value-F.Truth b) h = (Value-F.Truth b, refl)
level_beside P (Value-F.Int n) h = (Value-F.Int n, refl)
level_beside P (Value-F.Chars t) h = (Value-F.Chars t, refl)
level_beside P (Value-F.Member d i) h = (Value-F.Member d i, refl)
level_beside P (Value-F.Tuple xs) h =
    let more = beside P xs h in (Value-F.Tuple more.0, ap (λ ys. Value-F.Tuple ys) more.1)
level_beside P (Value-F.Seq xs) h =
    let more = beside P xs h in (Value-F.Seq more.0, ap (λ ys. Value-F.Seq ys) more.1)
level_beside P (Value-F.Set xs) h =
    let more = beside P xs h in (Value-F.Set more.0, ap (λ ys. Value-F.Set ys) more.1)

pub IsProper-made : (v : Value) → IsProperLevel (out-Value v) → AllByRecursion IsProper (parts v)
    → IsProper v
IsProper-made v level h =
    let y = level_beside IsProper (out-Value v) h in
    subst IsProper (roll_out v) (every_made-Value IsProperLevel (out-Value v) y.0 y.1 level)
