-- A gate in memory: what it refuses, and what it tells.
use Rattle.std.specs.Prelude.{ℕ, Bool, true, ◌||◌, nat_le, List, [], ◌∷◌, ◌++◌, length, Option, Some, None, option_map}
use Rattle.asm_book.specs.declared.gate.Look.{Look}
use Rattle.asm_book.specs.Faults.{is_to_fail}
use Rattle.asm_book.specs.Looks.{unpassed}

pub record Watch : Type 0 where
  -- the looks, in order, as long as it tells them
  pub looks : Option (List Look)
  -- how many looks it can tell
  pub room : ℕ
  -- the entrances that it refuses, counted from 0
  pub refusing : List ℕ
  -- how many entrances there were, and how many of them were refused
  pub entrances : ℕ
  pub faults : ℕ

-- it has no room for one more look, or tells no more
abbrev pub is_full : Option (List Look) → ℕ → Bool
is_full None room = true
is_full (Some looks) room = nat_le room (length looks)

-- the next entrance is refused, whoever comes
abbrev pub is_shut : Watch → Bool
is_shut gate = is_full gate.looks gate.room || is_to_fail gate.refusing gate.entrances

-- one look more, which isn't passed
abbrev pub with_look : List Look → Option ℕ → List Look
with_look looks front = looks ++ unpassed front ∷ []

-- the looks with one more
abbrev pub looked : Option (List Look) → Option ℕ → Option (List Look)
looked looks front = option_map (λ told. with_look told front) looks
