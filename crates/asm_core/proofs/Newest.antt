-- The version of the newest pair of a trail, one pair after another.
use Rattle.std.proofs.Common.{◌≡◌, ℕ, List, [], ◌∷◌, Option, Some, None, refl}
use Rattle.std.specs.List.{last_or}
use Rattle.asm_board.specs.declared.trail.TrailPair.{TrailPair}
use Rattle.asm_board.specs.Changes.{version_of_pair}

-- the version of the last of the pairs, or this one where there are none
abbrev pub newest_from : ℕ → List TrailPair → ℕ
newest_from version [] = version
newest_from version (p ∷ ps) = newest_from p.version ps

last_from : (o : Option TrailPair) (ps : List TrailPair) → newest_from (version_of_pair o) ps ≡ version_of_pair (last_or o ps)
last_from o [] = refl
last_from o (p ∷ ps) = last_from (Some p) ps

pub last_is_newest : (ps : List TrailPair) → newest_from 0 ps ≡ version_of_pair (last_or None ps)
last_is_newest ps = last_from None ps
