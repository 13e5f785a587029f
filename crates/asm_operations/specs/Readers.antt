-- Arguments of the kinds that a row asks for. Of other kinds an operation is undef.
use Rattle.std.specs.Prelude.{ℕ, ℤ, Bool, true, false, ◌&&◌, Option, Some, None, if◌then◌else◌}
use Rattle.std.specs.Prelude.{List}
use Rattle.std.specs.Prelude.{slice_get, unwrap_or}
use Rattle.std.specs.List.{list_any}
use Rattle.std.specs.Option.{option_map_or}
use Rattle.asm_value.specs.declared.value.Value.{Value}
use Rattle.asm_value.specs.declared.value.Value.TheVariants.{Undef}
use Rattle.asm_value.specs.declared.value.Value.TheOpen.{Value-F}
use Rattle.asm_value.specs.declared.value.Value.TheViews.{out-Value}
use Rattle.asm_value.specs.Value.{as_int, as_truth, is_chars, bytes_of, parts}
use Rattle.asm_value.specs.State.{is_undef}
use Rattle.asm_operations.specs.declared.applied.Applied.{Applied}
use Rattle.asm_operations.specs.Results.{undefined}

module _ {A : Type 0} where
  abbrev pub is_tuple_level : Value-F A → Bool
  is_tuple_level (Value-F.Tuple xs) = true
  is_tuple_level _ = false

  abbrev pub is_seq_level : Value-F A → Bool
  is_seq_level (Value-F.Seq xs) = true
  is_seq_level _ = false

  abbrev pub is_set_level : Value-F A → Bool
  is_set_level (Value-F.Set xs) = true
  is_set_level _ = false

abbrev pub is_tuple : Value → Bool
is_tuple v = is_tuple_level (out-Value v)

abbrev pub is_seq : Value → Bool
is_seq v = is_seq_level (out-Value v)

abbrev pub is_set : Value → Bool
is_set v = is_set_level (out-Value v)

-- the item at a place from 0, undef where there is none
abbrev pub item : List Value → ℕ → Value
item xs i = unwrap_or (slice_get xs i) Undef

-- whether some value is undef
abbrev pub any_undef : List Value → Bool
any_undef vs = list_any is_undef vs

-- two values where both are there
abbrev pub both : {A : Type 0} → Option A → Option A → Option (A × A)
both (Some x) (Some y) = Some (x, y)
both (Some x) None = None
both None q = None

abbrev pub two_ints : Value → Value → Option (ℤ × ℤ)
two_ints v w = both (as_int v) (as_int w)

abbrev pub two_truths : Value → Value → Option (Bool × Bool)
two_truths v w = both (as_truth v) (as_truth w)

abbrev pub of_int : (ℤ → Applied) → Value → Applied
of_int f v = option_map_or f (as_int v) undefined

abbrev pub of_ints : (ℤ → ℤ → Applied) → Value → Value → Applied
of_ints f v w = option_map_or (λ p. f p.0 p.1) (two_ints v w) undefined

abbrev pub of_truth : (Bool → Applied) → Value → Applied
of_truth f v = option_map_or f (as_truth v) undefined

abbrev pub of_truths : (Bool → Bool → Applied) → Value → Value → Applied
of_truths f v w = option_map_or (λ p. f p.0 p.1) (two_truths v w) undefined

abbrev pub of_chars : (List ℕ → Applied) → Value → Applied
of_chars f v = if is_chars v then f (bytes_of v) else undefined

abbrev pub of_two_chars : (List ℕ → List ℕ → Applied) → Value → Value → Applied
of_two_chars f v w = if is_chars v && is_chars w then f (bytes_of v) (bytes_of w) else undefined

abbrev pub of_tuple : (List Value → Applied) → Value → Applied
of_tuple f v = if is_tuple v then f (parts v) else undefined

abbrev pub of_seq : (List Value → Applied) → Value → Applied
of_seq f v = if is_seq v then f (parts v) else undefined

abbrev pub of_two_seqs : (List Value → List Value → Applied) → Value → Value → Applied
of_two_seqs f v w = if is_seq v && is_seq w then f (parts v) (parts w) else undefined

abbrev pub of_set : (List Value → Applied) → Value → Applied
of_set f v = if is_set v then f (parts v) else undefined

abbrev pub of_two_sets : (List Value → List Value → Applied) → Value → Value → Applied
of_two_sets f v w = if is_set v && is_set w then f (parts v) (parts w) else undefined
