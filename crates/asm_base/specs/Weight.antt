-- The weight of a text, in this project's own units.
use Rattle.std.specs.Prelude.{ℕ, ◌+◌, ◌/◌, List, length}

-- a text of b bytes weighs 1, and 1 more for each whole 32 bytes
abbrev pub text_weight : List ℕ → ℕ
text_weight bytes = 1 + length bytes / 32
