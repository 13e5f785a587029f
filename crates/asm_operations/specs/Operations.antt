-- What each row of the operators' table computes.
use Rattle.std.specs.Prelude.{ℕ, Bool, true, false, not, ◌&&◌, List, length, ◌==◌}
use Rattle.std.specs.Prelude.{if◌then◌else◌}
use Rattle.std.specs.Ordering.{eq_by_cmp}
use Rattle.asm_value.specs.declared.value.Value.{Value}
use Rattle.asm_value.specs.Value.{compare}
use Rattle.asm_value.specs.State.{is_undef}
use Rattle.asm_tables.specs.declared.rows.Operation.{Operation}
use Rattle.asm_tables.specs.declared.rows.Operation.TheVariants as row
use Rattle.asm_operations.specs.declared.applied.Applied.{Applied}
use Rattle.asm_operations.specs.Results.{undefined, truth}
use Rattle.asm_operations.specs.Limits.{within_limits}
use Rattle.asm_operations.specs.Readers.{item, any_undef}
use Rattle.asm_operations.specs.Numbers as numbers
use Rattle.asm_operations.specs.Texts as texts
use Rattle.asm_operations.specs.Sequences as sequences
use Rattle.asm_operations.specs.Sets as sets
pub use Rattle.asm_operations.specs.Terms.{tuple_of, sequence_of, set_of, interval_of}

-- undef equals undef alone
abbrev pub are_equal : Value → Value → Bool
are_equal v w = eq_by_cmp compare v w

-- What each row computes, in the order of the table. Of one argument it is the first; the other is
-- of no matter.
abbrev pub meaning : Operation → Value → Value → Applied
meaning row.Add v w = numbers.add v w
meaning row.Subtract v w = numbers.subtract v w
meaning row.Multiply v w = numbers.multiply v w
meaning row.Divide v w = numbers.divide v w
meaning row.Remainder v w = numbers.remainder v w
meaning row.Negate v w = numbers.negate v
meaning row.Abs v w = numbers.absolute v
meaning row.Min v w = numbers.least v w
meaning row.Max v w = numbers.greatest v w
meaning row.LessInt v w = numbers.is_less v w
meaning row.LessChars v w = texts.is_less v w
meaning row.AtMostInt v w = numbers.is_at_most v w
meaning row.AtMostChars v w = texts.is_at_most v w
meaning row.GreaterInt v w = numbers.is_greater v w
meaning row.GreaterChars v w = texts.is_greater v w
meaning row.AtLeastInt v w = numbers.is_at_least v w
meaning row.AtLeastChars v w = texts.is_at_least v w
meaning row.Not v w = numbers.negation v
meaning row.Xor v w = numbers.differ v w
meaning row.Iff v w = numbers.agree v w
meaning row.In v w = sets.is_in v w
meaning row.NotIn v w = sets.is_not_in v w
meaning row.ConcatChars v w = texts.joined v w
meaning row.CharsLength v w = texts.chars_length v
meaning row.IntToChars v w = texts.int_text v
meaning row.TruthToChars v w = texts.truth_text v
meaning row.SeqLength v w = sequences.seq_length v
meaning row.FirstItem v w = sequences.first v
meaning row.LastItem v w = sequences.last v
meaning row.Tail v w = sequences.tail v
meaning row.At v w = sequences.at v w
meaning row.Append v w = sequences.append v w
meaning row.Prepend v w = sequences.prepend v w
meaning row.ConcatSeqs v w = sequences.joined v w
meaning row.IsEmptySeq v w = sequences.is_empty v
meaning row.IsEmptySet v w = sets.is_empty v
meaning row.AsSet v w = sequences.as_set v
meaning row.AsSeq v w = sets.as_seq v
meaning row.Size v w = sets.size v
meaning row.Union v w = sets.union v w
meaning row.Intersection v w = sets.intersection v w
meaning row.Difference v w = sets.difference v w
meaning row.Including v w = sets.including v w
meaning row.Excluding v w = sets.excluding v w
meaning row.Subset v w = sets.is_within v w
meaning row.FirstPart v w = sequences.part 0 v
meaning row.SecondPart v w = sequences.part 1 v
meaning row.ThirdPart v w = sequences.part 2 v
meaning row.Equal v w = truth (are_equal v w)
meaning row.NotEqual v w = truth (not (are_equal v w))
meaning row.IsDef v w = truth (not (is_undef v))
meaning row.IsUndef v w = truth (is_undef v)

-- Whether the row is undef where an argument is. All but the last two of the language are: `=` and
-- `!=`, `isDef` and `isUndef`.
abbrev pub is_strict : Operation → Bool
is_strict row.Equal = false
is_strict row.NotEqual = false
is_strict row.IsDef = false
is_strict row.IsUndef = false
is_strict _ = true

-- how many arguments the row has
abbrev pub arity : Operation → ℕ
arity row.Negate = 1
arity row.Abs = 1
arity row.Not = 1
arity row.CharsLength = 1
arity row.IntToChars = 1
arity row.TruthToChars = 1
arity row.SeqLength = 1
arity row.FirstItem = 1
arity row.LastItem = 1
arity row.Tail = 1
arity row.IsEmptySeq = 1
arity row.IsEmptySet = 1
arity row.AsSet = 1
arity row.AsSeq = 1
arity row.Size = 1
arity row.FirstPart = 1
arity row.SecondPart = 1
arity row.ThirdPart = 1
arity row.IsDef = 1
arity row.IsUndef = 1
arity _ = 2

-- What a row gives for its arguments: undef of another number of arguments, and, where the row is
-- strict, of undef; else what it computes, TooLarge where that is past a limit.
abbrev pub apply : Operation → List Value → Applied
apply operation args =
    if length args == arity operation && not (is_strict operation && any_undef args)
    then within_limits (meaning operation (item args 0) (item args 1))
    else undefined
