-- Lists of names that have the same names.
use Rattle.std.specs.Prelude.{◌≡◌, ℕ, List}
use Rattle.std.specs.List.{list_any}
use Rattle.std.specs.Str.{bytes_eq}

abbrev pub Alike : List (List ℕ) → List (List ℕ) → Type 0
Alike a b = (q : List ℕ) → list_any (bytes_eq q) a ≡ list_any (bytes_eq q) b
