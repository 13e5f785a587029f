-- What is kept of an input that is read line by line, and which lines are still to come.
use Rattle.std.specs.Prelude.{◌≡◌, ℕ, ◌+◌, ◌<◌, List, [], ◌∷◌, ◌++◌, length, Bool, true, false}
use Rattle.std.specs.Prelude.{if◌then◌else◌, Option}
use Rattle.std.specs.Io.KnownBytes.{Consumes}
use Rattle.asm_io.specs.Lines.{Line, too_long, later_pieces, lines, lines_of, ended_lines, ended_of}

pub record Reading : Type 0 where
  -- the line that was given last
  pub line : List ℕ
  -- the line that has begun has more than limit bytes, and those that came are let go
  pub over : Bool
  -- the bytes that were taken and belong to no line that was given
  pub kept : List ℕ
  -- the source has met its end
  pub at_end : Bool
  -- how many bytes may still be taken
  pub budget : ℕ

-- nothing was read yet
abbrev pub fresh : ℕ → Reading
fresh budget = record { line = []; over = false; kept = []; at_end = false; budget = budget }

-- the lines after the first line feed
abbrev pub lines_behind : List (List ℕ) → List Line
lines_behind [] = []
lines_behind (piece ∷ more) = lines_of piece more

abbrev pub ended_behind : List (List ℕ) → List Line
ended_behind [] = []
ended_behind (piece ∷ more) = too_long ∷ ended_of piece more

-- the lines from here on; where a line that is too long has begun before, that one is the first
abbrev pub lines_from : Bool → List ℕ → List Line
lines_from false bytes = lines bytes
lines_from true bytes = too_long ∷ lines_behind (later_pieces bytes)

-- those of them that a line feed ends
abbrev pub ended_from : Bool → List ℕ → List Line
ended_from false bytes = ended_lines bytes
ended_from true bytes = ended_behind (later_pieces bytes)

-- the lines of what is kept and of the bytes after it
abbrev pub lines_on : Reading → List ℕ → List Line
lines_on r more = lines_from r.over (r.kept ++ more)

abbrev pub ended_on : Reading → List ℕ → List Line
ended_on r more = ended_from r.over (r.kept ++ more)

-- these bytes were taken from the source, and the budget fell by their number
pub record Takes (left rest : Option (List ℕ)) (old new : Reading)
    (taken : List ℕ) : Type 0 where
  pub consumes : Consumes left rest taken
  pub budget : new.budget + length taken ≡ old.budget

-- The input goes on: whatever comes after the bytes taken, its lines are the given ones and then
-- those still to come.
pub record GoesOn (old new : Reading) (taken : List ℕ) (given : List Line) : Type 0 where
  pub lines : (more : List ℕ) → lines_on old (taken ++ more) ≡ given ++ lines_on new more
  pub ended : (more : List ℕ) → ended_on old (taken ++ more) ≡ given ++ ended_on new more

-- The input has ended: the given lines are all that were left, and nothing is kept. A read met the
-- end, so the budget wasn't spent.
pub record Ends (old new : Reading) (taken : List ℕ) (given : List Line) : Type 0 where
  pub lines : lines_on old taken ≡ given
  pub kept : new.kept ≡ []
  pub over : new.over ≡ false
  pub room : 0 < new.budget

-- the lines that a call gave, where the source's end was met or not
abbrev pub Gives : Bool → Reading → Reading → List ℕ → List Line → Type 0
Gives false old new taken given = GoesOn old new taken given
Gives true old new taken given = Ends old new taken given

-- how many lines may still be given, at most
abbrev pub fuel : Reading → ℕ
fuel r = r.budget + length r.kept + (if r.over then 1 else 0)
