-- Which rows of a table match a name with the kinds of some arguments.
use Rattle.std.specs.Prelude.{ℕ, Bool, true, false, not, ◌&&◌, List, [], ◌∷◌, nat_eq, ◌≡◌, Option, slice_get}
use Rattle.std.specs.Option.{option_map_or}
use Rattle.std.specs.List.{list_any, list_all, position}
use Rattle.std.specs.Cmp.Lexicographic.{pointwise}
use Rattle.asm_tables.specs.declared.table.Kind.{Kind}
use Rattle.asm_tables.specs.declared.table.Kind.TheVariants.{Truth, Int, Chars, Member, Tuple, Seq, Set, Untyped, Any}
use Rattle.asm_tables.specs.declared.table.Kinds.{Kinds}
use Rattle.asm_tables.specs.declared.table.Kinds.TheVariants.{One, Two}
use Rattle.asm_tables.specs.declared.table.Row.{Row}
use Rattle.asm_tables.specs.Names.{text_of}

-- a position of a row takes its own kind; `Any` takes every kind
abbrev pub takes : Kind → Kind → Bool
takes Any k = true
takes Truth Truth = true
takes Int Int = true
takes Chars Chars = true
takes Member Member = true
takes Tuple Tuple = true
takes Seq Seq = true
takes Set Set = true
takes Untyped Untyped = true
takes _ _ = false

-- as many kinds as the row has positions, each taken at its own
abbrev pub all_taken : Kinds → List Kind → Bool
all_taken (One j) (k ∷ []) = takes j k
all_taken (Two i j) (k ∷ l ∷ []) = takes i k && takes j l
all_taken _ _ = false

-- the row matches the name with these kinds
abbrev pub matches : List ℕ → List Kind → Row → Bool
matches name kinds row = pointwise nat_eq (text_of row.name) name && all_taken row.kinds kinds

-- the row's kind in place of an untyped one
abbrev pub filled : Kind → Kind → Kind
filled row Untyped = row
filled row k = k

abbrev pub all_filled : Kinds → List Kind → List Kind
all_filled (One j) (k ∷ []) = filled j k ∷ []
all_filled (Two i j) (k ∷ l ∷ []) = filled i k ∷ filled j l ∷ []
all_filled _ kinds = kinds

-- some row would match if each untyped kind were the row's at its position
abbrev pub admits : List Row → List ℕ → List Kind → Bool
admits rows name kinds = list_any (λ row. matches name (all_filled row.kinds kinds) row) rows

-- the number of the row that matches; where rows are distinct there is one at most
abbrev pub row_of : List Row → List ℕ → List Kind → Option ℕ
row_of rows name kinds = position (matches name kinds) rows

-- there is a row of this number, and it matches
abbrev pub matches_at : List Row → List ℕ → List Kind → ℕ → Bool
matches_at rows name kinds i = option_map_or (matches name kinds) (slice_get rows i) false

-- the row of this number matches, and no other
abbrev pub IsOnlyMatch : List Row → List ℕ → List Kind → ℕ → Type 0
IsOnlyMatch rows name kinds i =
    (matches_at rows name kinds i ≡ true) × ((j : ℕ) → matches_at rows name kinds j ≡ true → j ≡ i)

abbrev pub NoneMatches : List Row → List ℕ → List Kind → Type 0
NoneMatches rows name kinds = (i : ℕ) → matches_at rows name kinds i ≡ false

-- at most one row matches a name with some kinds
abbrev pub HaveOneMatch : List Row → Type 0
HaveOneMatch rows = (name : List ℕ) (kinds : List Kind) (i j : ℕ)
    → matches_at rows name kinds i ≡ true → matches_at rows name kinds j ≡ true → i ≡ j

-- what a row matches is admitted too
abbrev pub AdmitTheirMatches : List Row → Type 0
AdmitTheirMatches rows = (name : List ℕ) (kinds : List Kind) (i : ℕ)
    → matches_at rows name kinds i ≡ true → admits rows name kinds ≡ true

-- some kind is taken at both positions
abbrev pub meet : Kind → Kind → Bool
meet Any k = true
meet j Any = true
meet j k = takes j k

abbrev pub all_meet : Kinds → Kinds → Bool
all_meet (One j) (One k) = meet j k
all_meet (Two i j) (Two k l) = meet i k && meet j l
all_meet _ _ = false

-- no name with kinds is matched by both rows
abbrev pub are_apart : Row → Row → Bool
are_apart a b = not (pointwise nat_eq (text_of a.name) (text_of b.name) && all_meet a.kinds b.kinds)

-- no name with kinds is matched by two rows
abbrev pub are_distinct : List Row → Bool
are_distinct [] = true
are_distinct (a ∷ rows) = list_all (are_apart a) rows && are_distinct rows

abbrev pub has_untyped : Kinds → Bool
has_untyped (One Untyped) = true
has_untyped (Two Untyped j) = true
has_untyped (Two i Untyped) = true
has_untyped _ = false

-- the row asks for a value in each position, or takes all
abbrev pub asks_for_values : Row → Bool
asks_for_values row = not (has_untyped row.kinds)
