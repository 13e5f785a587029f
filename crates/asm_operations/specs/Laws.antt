-- What the laws of the operations say.
use Rattle.std.specs.Prelude.{◌≡◌, ◌≢◌, ℤ, pos, ◌+ℤ◌, ◌*ℤ◌, ◌<ℤ◌, ◌≤ℤ◌, true, not}
use Rattle.std.specs.Prelude.{◌&&◌, ◌||◌, List, length}
use Rattle.std.specs.List.{AllByRecursion}
use Rattle.asm_value.specs.declared.value.Value.{Value}
use Rattle.asm_value.specs.Proper.{IsProper}
use Rattle.asm_tables.specs.declared.rows.Operation.{Operation}
use Rattle.asm_operations.specs.declared.applied.Applied.{Applied}
use Rattle.asm_operations.specs.declared.applied.Applied.TheVariants as applied
use Rattle.asm_operations.specs.Limits.{keeps_limits}
use Rattle.asm_operations.specs.Results.{undefined}
use Rattle.asm_operations.specs.Readers.{any_undef}
use Rattle.asm_operations.specs.Numbers.{floored, rest}
use Rattle.asm_operations.specs.Sets.{set_items, with_items, with_item, common, without}
use Rattle.asm_operations.specs.Sets.{without_one}
use Rattle.asm_operations.specs.Sets.{has}
use Rattle.asm_operations.specs.Operations.{apply, arity, are_equal}

-- each value may be: its sets ascend without repeats, and no part is undef
abbrev pub AreProper : List Value → Type 0
AreProper vs = AllByRecursion IsProper vs

-- a value that may be
abbrev pub IsProperResult : Applied → Type 0
IsProperResult (applied.Value v) = IsProper v
IsProperResult applied.Overflow = Unit {0}
IsProperResult applied.TooLarge = Unit {0}

-- a value within its limits
abbrev pub IsLimited : Applied → Type 0
IsLimited (applied.Value v) = keeps_limits v ≡ true
IsLimited applied.Overflow = Unit {0}
IsLimited applied.TooLarge = Unit {0}

-- where an argument is undef, so is the result
abbrev pub IsUndefOfUndef : Operation → Type 0
IsUndefOfUndef operation =
    (args : List Value) → any_undef args ≡ true → apply operation args ≡ undefined

-- the result is a value other than undef
abbrev pub IsNeverUndef : Operation → Type 0
IsNeverUndef operation =
    (args : List Value) → length args ≡ arity operation → apply operation args ≢ undefined

-- the number is what the quotient times the divisor leaves short of it
abbrev pub IsDivided : ℤ → ℤ → Type 0
IsDivided x d = x ≡ floored x d *ℤ d +ℤ rest x d

-- what a quotient that is rounded down leaves
abbrev pub IsRest : ℤ → ℤ → Type 0
IsRest x d = (pos 0 <ℤ d → (pos 0 ≤ℤ rest x d) × (rest x d <ℤ d))
    × (d <ℤ pos 0 → (d <ℤ rest x d) × (rest x d ≤ℤ pos 0))

-- what each set has
abbrev pub HasEither : Type 0
HasEither = (xs ys : List Value) (v : Value) → has (with_items xs ys) v ≡ (has xs v || has ys v)

abbrev pub HasBoth : Type 0
HasBoth = (xs ys : List Value) (v : Value) → has (common xs ys) v ≡ (has xs v && has ys v)

abbrev pub HasFirstAlone : Type 0
HasFirstAlone =
    (xs ys : List Value) (v : Value) → has (without xs ys) v ≡ (has xs v && not (has ys v))

abbrev pub HasOneMore : Type 0
HasOneMore =
    (xs : List Value) (v w : Value) → has (with_item v xs) w ≡ (are_equal v w || has xs w)

abbrev pub HasOneLess : Type 0
HasOneLess =
    (xs : List Value) (v w : Value) → has (without_one xs v) w ≡ (has xs w && not (are_equal w v))

abbrev pub HasEachItem : Type 0
HasEachItem = (xs : List Value) (v : Value) → has (set_items xs) v ≡ has xs v
