-- The last look of a gate, passed.
use Rattle.std.proofs.Common.{◌≡◌, Bool, true, false, cond, List, [], ◌∷◌, ◌++◌, Some, None, refl, sym, ap, ◌∙◌}
use Rattle.std.specs.Prelude.{option_map}
use Rattle.asm_book.specs.declared.gate.Look.{Look}
use Rattle.asm_book.specs.Looks.{last_passed, Passed}

passed_last : (looks : List Look) (look : Look) → last_passed (looks ++ look ∷ []) ≡ looks ++ record { front = look.front; passed = true } ∷ []
passed_last [] look = refl
passed_last (x ∷ []) look = refl
passed_last (x ∷ y ∷ ys) look = ap (λ (t : List Look). x ∷ t) (passed_last (y ∷ ys) look)

last_is : (items left : List Look) (look : Look) (after : List Look) → items ≡ left ++ look ∷ []
    → after ≡ left ++ record { front = look.front; passed = true } ∷ [] → after ≡ last_passed items
last_is items left look after items_is after_is = after_is ∙ sym (ap last_passed items_is ∙ passed_last left look)

-- a gate that tells has passed its last look
pub passes : (tells : Bool) (items left : List Look) (look : Look) (after : List Look) → items ≡ left ++ look ∷ []
    → after ≡ left ++ record { front = look.front; passed = true } ∷ []
    → Passed (cond tells (Some items) None) (cond tells (Some after) None)
passes true items left look after items_is after_is = (items, refl, last_is items left look after items_is after_is)
passes false items left look after items_is after_is = tt

pub tells_passed : (tells : Bool) (items left : List Look) (look : Look) (after : List Look) → items ≡ left ++ look ∷ []
    → after ≡ left ++ record { front = look.front; passed = true } ∷ []
    → cond tells (Some after) None ≡ option_map last_passed (cond tells (Some items) None)
tells_passed true items left look after items_is after_is = ap Some (last_is items left look after items_is after_is)
tells_passed false items left look after items_is after_is = refl
