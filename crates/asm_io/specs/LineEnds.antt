-- What a call of `read_line` answers.
use Rattle.std.specs.Prelude.{◌≡◌, ◌⊎◌, ℕ, ◌<◌, List, [], ◌∷◌, ◌++◌, Bool, true, false, Result}
use Rattle.std.specs.Prelude.{Ok, Err, ⊤, Option}
use Rattle.std.specs.Io.KnownBytes.{Consumes}
use Rattle.asm_io.specs.Causes.{next}
use Rattle.asm_io.specs.Lines.{Line, whole, too_long, has_feed}
use Rattle.asm_io.specs.Readings.{Reading, Takes, GoesOn, Gives}
use Rattle.asm_io.specs.declared.line_buf.LineEnd.{LineEnd}
use Rattle.asm_io.specs.declared.line_buf.LineEnd.TheVariants as ends
use Rattle.asm_io.specs.declared.line_buf.IoEnd.{IoEnd}
use Rattle.asm_io.specs.declared.line_buf.IoEnd.TheVariants as faults

-- the line that was given, if one was
abbrev pub given : LineEnd → List ℕ → List Line
given ends.Line line = whole line ∷ []
given ends.LastLine line = whole line ∷ []
given ends.TooLongLine line = too_long ∷ []
given ends.End line = []

-- whether the answer says that the source's end was met; a line that is too long may end either way
abbrev pub MeetsEnd : LineEnd → Bool → Type 0
MeetsEnd ends.Line at_end = at_end ≡ false
MeetsEnd ends.LastLine at_end = at_end ≡ true
MeetsEnd ends.TooLongLine at_end = ⊤
MeetsEnd ends.End at_end = at_end ≡ true

-- a line is lent after `Line` and `LastLine` alone
abbrev pub Lends : Result LineEnd IoEnd → List ℕ → Type 0
Lends (Ok ends.Line) line = ⊤
Lends (Ok ends.LastLine) line = ⊤
Lends (Ok ends.TooLongLine) line = line ≡ []
Lends (Ok ends.End) line = line ≡ []
Lends (Err e) line = line ≡ []

-- the lines that these answers give; after a fault what is kept holds no line feed
abbrev pub GivesLines : Result LineEnd IoEnd → Reading → Reading → List ℕ → Type 0
GivesLines (Ok e) old new taken =
    Gives new.at_end old new taken (given e new.line) × MeetsEnd e new.at_end
GivesLines (Err e) old new taken =
    GoesOn old new taken [] × (new.at_end ≡ false) × (has_feed new.kept ≡ false)

-- `Budget`: all bytes of the budget were taken, the source's end wasn't met, and no line feed came
pub record IsSpent (old new : Reading) (taken : List ℕ) : Type 0 where
  pub budget : new.budget ≡ 0
  pub unended : new.at_end ≡ false
  pub feed : has_feed (old.kept ++ taken) ≡ false

-- What a call took and gave, with the bytes that it took.
pub record ReadsLine (left rest : Option (List ℕ)) (old new : Reading)
    (result : Result LineEnd IoEnd) : Type 0 where
  pub taken : List ℕ
  pub takes : Takes left rest old new taken
  pub gives : GivesLines result old new taken
  pub spent : result ≡ Err faults.Budget → IsSpent old new taken
  pub spends : IsSpent old new taken → result ≡ Err faults.Budget

-- a source was read, and before its last read neither a byte that was kept nor one that was taken
-- was a line feed
pub record ReadsToFeed {S : Type 0} (left : S → Option (List ℕ)) (reads : S → ℕ) (old new : S)
    (kept : List ℕ) : Type 0 where
  -- the source before its last read, and what was taken till then
  pub last : S
  pub before : List ℕ
  pub consumes : Consumes (left old) (left last) before
  pub once : reads new ≡ next (reads last)
  pub unfed : has_feed (kept ++ before) ≡ false

-- No read comes after a line feed: the source wasn't read, or no feed came before its last read.
abbrev pub StopsAtFeed : {S : Type 0} → (S → Option (List ℕ)) → (S → ℕ) → S → S → List ℕ → Type 0
StopsAtFeed left reads old new kept = (new ≡ old) ⊎ ReadsToFeed left reads old new kept

abbrev pub FallsUnlessEnd : LineEnd → ℕ → ℕ → Type 0
FallsUnlessEnd ends.Line old new = new < old
FallsUnlessEnd ends.LastLine old new = new < old
FallsUnlessEnd ends.TooLongLine old new = new < old
FallsUnlessEnd ends.End old new = ⊤
