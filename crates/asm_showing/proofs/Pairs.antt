-- The locations of a function with their values, where there are any.
use Rattle.std.proofs.Common.{◌≡◌, List, [], ◌∷◌, map, length, Some, refl}
use Rattle.asm_value.specs.declared.value.Value.{Value}
use Rattle.asm_value.specs.declared.location.Location.{Location}
use Rattle.asm_value.specs.declared.domain.DomainInfo.{DomainInfo}
use Rattle.asm_portable.specs.Ports.{list}
use Rattle.asm_board.specs.Shown.{pair_shown, pairs_shown}

pub some_pairs : (domains : List DomainInfo) (es : List (Location × Value)) → (length es ≡ 0 → ⊥)
    → pairs_shown domains es ≡ Some (list (map (pair_shown domains) es))
some_pairs domains [] some = absurd (some refl)
some_pairs domains (e ∷ es) some = refl
