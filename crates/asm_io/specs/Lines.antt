-- The lines of a list of bytes.
use Rattle.std.specs.Prelude.{ℕ, ◌==◌, nat_le, Bool, List, [], ◌∷◌, ◌++◌, length, if◌then◌else◌}
use Rattle.std.specs.List.{list_any}

-- the most bytes that a line may have
abbrev pub limit : ℕ
limit = 1048576

-- a line by its bytes, or one of more than limit bytes
pub data Line : Type 0 where
  whole : List ℕ → Line
  too_long : Line

-- the byte is a line feed
abbrev pub is_feed : ℕ → Bool
is_feed b = b == 10

abbrev pub has_feed : List ℕ → Bool
has_feed bytes = list_any is_feed bytes

-- the bytes before the first line feed, or all where there is none
abbrev pub first_piece : List ℕ → List ℕ
first_piece [] = []
first_piece (b ∷ bs) = if is_feed b then [] else b ∷ first_piece bs

-- the pieces after the line feeds, one for each
abbrev pub later_pieces : List ℕ → List (List ℕ)
later_pieces [] = []
later_pieces (b ∷ bs) = if is_feed b then first_piece bs ∷ later_pieces bs else later_pieces bs

-- a first piece and later ones, with a line feed between each two
abbrev pub joined : List ℕ → List (List ℕ) → List ℕ
joined piece [] = piece
joined piece (next ∷ more) = piece ++ 10 ∷ joined next more

abbrev pub line_of : List ℕ → Line
line_of piece = if nat_le (length piece) limit then whole piece else too_long

-- a last piece counts where it isn't empty
abbrev pub lines_of : List ℕ → List (List ℕ) → List Line
lines_of [] [] = []
lines_of (b ∷ bs) [] = line_of (b ∷ bs) ∷ []
lines_of piece (next ∷ more) = line_of piece ∷ lines_of next more

-- The lines: a line feed belongs to none, and a last piece counts where it isn't empty.
abbrev pub lines : List ℕ → List Line
lines bytes = lines_of (first_piece bytes) (later_pieces bytes)

-- all but the last piece
abbrev pub ended_of : List ℕ → List (List ℕ) → List Line
ended_of piece [] = []
ended_of piece (next ∷ more) = line_of piece ∷ ended_of next more

-- The lines that a line feed ends.
abbrev pub ended_lines : List ℕ → List Line
ended_lines bytes = ended_of (first_piece bytes) (later_pieces bytes)
