-- What the steps do that a call of `read_line` is made of.
use Rattle.std.specs.Prelude.{◌≡◌, ℕ, ◌-◌, ◌<◌, ◌≤◌, List, [], ◌∷◌, ◌++◌, length, take, slice_index}
use Rattle.std.specs.Prelude.{◌||◌, nat_lt, true, false, if◌then◌else◌, Option, Ok}
use Rattle.std.specs.Io.KnownBytes.{Consumes}
use Rattle.asm_io.specs.Lines.{limit, too_long, has_feed, line_of}
use Rattle.asm_io.specs.Readings.{Reading, lines_from, fuel}
use Rattle.asm_io.specs.LineEnds.{given, MeetsEnd, Lends, FallsUnlessEnd}
use Rattle.asm_io.specs.declared.line_buf.LineEnd.{LineEnd}

-- a line feed is there, and none before it
pub record IsFirstFeed (bytes : List ℕ) (at : ℕ) : Type 0 where
  pub within : at < length bytes
  pub feed : slice_index bytes at ≡ 10
  pub before : has_feed (take at bytes) ≡ false

-- the line up to the first line feed is given
pub record GivesNext (old new : Reading) (e : LineEnd) : Type 0 where
  pub piece : List ℕ
  pub kept : old.kept ≡ piece ++ 10 ∷ new.kept
  pub first : has_feed piece ≡ false
  pub line : given e new.line ≡ (if old.over then too_long else line_of piece) ∷ []
  pub lends : Lends (Ok e) new.line
  pub meets : MeetsEnd e false
  pub over : new.over ≡ false
  pub at_end : new.at_end ≡ old.at_end
  pub budget : new.budget ≡ old.budget

-- what is kept is given as the last line, or is none
pub record GivesLast (old new : Reading) (e : LineEnd) : Type 0 where
  pub line : given e new.line ≡ lines_from old.over old.kept
  pub lends : Lends (Ok e) new.line
  pub meets : MeetsEnd e true
  pub falls : FallsUnlessEnd e (fuel old) (fuel new)
  pub kept : new.kept ≡ []
  pub over : new.over ≡ false
  pub at_end : new.at_end ≡ true
  pub budget : new.budget ≡ old.budget

-- a line of more than limit bytes is let go
abbrev pub skipped : Reading → Reading
skipped r =
    if r.over || nat_lt limit (length r.kept) then record r { over = true; kept = [] } else r

-- the bytes that a read gave come after those kept
pub record Fills (left rest : Option (List ℕ)) (old new : Reading) (count : ℕ) : Type 0 where
  pub taken : List ℕ
  pub consumes : Consumes left rest taken
  pub number : length taken ≡ count
  pub within : count ≤ old.budget
  pub reading : new ≡ record old { kept = old.kept ++ taken; budget = old.budget - count }
