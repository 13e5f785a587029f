-- What the words of the command line ask for.
use Rattle.std.specs.Prelude.{◌≡◌, ◌⊎◌, ℕ, List, [], ◌∷◌, map, codes, decimal, String, string_bytes}
use Rattle.std.specs.declared.alloc.Global.{Global}
use Rattle.asm_demo.specs.Calls.{IsSize}
use Rattle.asm_stdio.specs.declared.words.Asked.{Asked}
use Rattle.asm_stdio.specs.declared.words.Asked.TheVariants as asks

abbrev pub bytes_of : List (String Global) → List (List ℕ)
bytes_of words = map (λ word. string_bytes word) words

-- the words are this one
abbrev pub AreStdio : List (String Global) → Type 0
AreStdio words = bytes_of words ≡ codes "stdio" ∷ []

-- the words are these two: the second is a size, in decimal without leading zeros
pub record AreDemo (size : ℕ) (words : List (String Global)) : Type 0 where
  pub is_size : IsSize size
  pub are : bytes_of words ≡ codes "demo" ∷ decimal size ∷ []

-- the words ask for something that there is
abbrev pub AreKnown : List (String Global) → Type 0
AreKnown words = AreStdio words ⊎ ((size : ℕ) × AreDemo size words)

abbrev pub IsAsked : Asked → List (String Global) → Type 0
IsAsked asks.Stdio words = AreStdio words
IsAsked (asks.Demo size) words = AreDemo size words
IsAsked asks.Other words = AreKnown words → ⊥
