-- What a gate's looks gain by an entrance and by a pass.
use Rattle.std.specs.Prelude.{ℕ, ◌≡◌, List, [], ◌∷◌, ◌++◌, Option, Some, None, true, false}
use Rattle.std.specs.Arc.{arc_value}
use Rattle.std.specs.declared.sync.Arc.{Arc}
use Rattle.std.specs.declared.alloc.Global.{Global}
use Rattle.asm_board.specs.declared.board.Board.{Board}
use Rattle.asm_book.specs.declared.gate.Look.{Look}

abbrev pub front_of : Option (Arc Board Global) → Option ℕ
front_of None = None
front_of (Some board) = Some (arc_value board).front

-- a look that isn't passed, with the front of the board that was given, if one was
abbrev pub unpassed : Option ℕ → Look
unpassed front = record { front = front; passed = false }

-- a gate that tells at the return told before, and has one look more
abbrev pub Looked : Option (List Look) → Option (List Look) → Option (Arc Board Global) → Type 0
Looked before None given = Unit {0}
Looked before (Some after) given =
    (looks : List Look) × (before ≡ Some looks)
    × (after ≡ looks ++ unpassed (front_of given) ∷ [])

-- the last look, if there is one, is passed
abbrev pub last_passed : List Look → List Look
last_passed [] = []
last_passed (look ∷ []) = record { front = look.front; passed = true } ∷ []
last_passed (look ∷ next ∷ looks) = look ∷ last_passed (next ∷ looks)

-- a gate that tells at the return told before, and its last look is passed
abbrev pub Passed : Option (List Look) → Option (List Look) → Type 0
Passed before None = Unit {0}
Passed before (Some after) =
    (looks : List Look) × (before ≡ Some looks) × (after ≡ last_passed looks)
