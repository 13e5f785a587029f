-- Examples of each row, in the order of the table, and of the terms; worked out by hand.
use Rattle.std.specs.Prelude.{◌≡◌, ℕ, ◌-◌, ◌^◌, pos, negsuc, neg_ℤ, true, false, List, [], ◌∷◌}
use Rattle.std.specs.Prelude.{codes, replicate}
use Rattle.asm_value.specs.declared.value.Value.{Value}
use Rattle.asm_value.specs.declared.value.Value.TheVariants.{Undef, Truth, Int, Chars, Tuple, Seq}
use Rattle.asm_value.specs.declared.value.Value.TheVariants.{Set}
use Rattle.asm_tables.specs.declared.rows.Operation.{Operation}
use Rattle.asm_tables.specs.declared.rows.Operation.TheVariants as row
use Rattle.asm_operations.specs.declared.applied.Applied.{Applied}
use Rattle.asm_operations.specs.declared.applied.Applied.TheVariants as applied
use Rattle.asm_operations.specs.Results.{undefined, truth, int, count}
use Rattle.asm_operations.specs.Operations.{apply, tuple_of, sequence_of, set_of, interval_of}

-- what a row gives for one argument, and for two
abbrev One : Operation → Value → Applied → Type 0
One operation v outcome = apply operation (v ∷ []) ≡ outcome

abbrev Two : Operation → Value → Value → Applied → Type 0
Two operation v w outcome = apply operation (v ∷ w ∷ []) ≡ outcome

abbrev n : ℕ → Value
n k = Int (pos k)

abbrev minus : ℕ → Value
minus k = Int (neg_ℤ (pos k))

-- the greatest and the least integer
abbrev hi : Value
hi = Int (pos (2 ^ 127 - 1))

abbrev lo : Value
lo = Int (negsuc (2 ^ 127 - 1))

abbrev value : Value → Applied
value v = applied.Value v

-- lists of integers
abbrev one : ℕ → List Value
one a = n a ∷ []

abbrev two : ℕ → ℕ → List Value
two a b = n a ∷ n b ∷ []

abbrev three : ℕ → ℕ → ℕ → List Value
three a b c = n a ∷ n b ∷ n c ∷ []

abbrev pub Arithmetic : Type 0
Arithmetic =
    Two row.Add (n 2) (n 3) (int (pos 5))
    × Two row.Add hi (n 1) applied.Overflow
    × Two row.Subtract (n 2) (n 3) (value (minus 1))
    × Two row.Subtract lo (n 1) applied.Overflow
    × Two row.Multiply (n 4) (minus 3) (value (minus 12))
    × Two row.Multiply lo (minus 1) applied.Overflow
    × Two row.Divide (minus 7) (n 2) (value (minus 4))
    × Two row.Divide (n 7) (minus 2) (value (minus 4))
    × Two row.Divide (minus 7) (minus 2) (value (n 3))
    × Two row.Divide (n 7) (n 0) undefined
    × Two row.Divide lo (minus 1) applied.Overflow
    × Two row.Remainder (minus 7) (n 2) (value (n 1))
    × Two row.Remainder (n 7) (minus 2) (value (minus 1))
    × Two row.Remainder (n 7) (n 0) undefined
    × Two row.Remainder lo (minus 1) (value (n 0))
    × One row.Negate (n 5) (value (minus 5))
    × One row.Negate lo applied.Overflow
    × One row.Abs (minus 5) (value (n 5))
    × One row.Abs lo applied.Overflow
    × Two row.Min lo (n 0) (value lo)
    × Two row.Max lo (n 0) (value (n 0))

abbrev pub Comparisons : Type 0
Comparisons =
    Two row.LessInt (minus 1) (n 0) (truth true)
    × Two row.LessChars (Chars (codes "a")) (Chars (codes "ab")) (truth true)
    × Two row.AtMostInt (n 3) (n 3) (truth true)
    × Two row.AtMostChars (Chars (codes "b")) (Chars (codes "ab")) (truth false)
    × Two row.GreaterInt (n 3) (n 3) (truth false)
    × Two row.GreaterChars (Chars (codes "b")) (Chars (codes "ab")) (truth true)
    × Two row.AtLeastInt (n 2) (n 3) (truth false)
    × Two row.AtLeastChars (Chars (codes "ab")) (Chars (codes "ab")) (truth true)

abbrev pub Connectives : Type 0
Connectives =
    One row.Not (Truth true) (truth false)
    × Two row.Xor (Truth true) (Truth true) (truth false)
    × Two row.Iff (Truth false) (Truth false) (truth true)
    × Two row.In (n 2) (Set (two 1 3)) (truth false)
    × Two row.NotIn (n 2) (Set (two 1 3)) (truth true)

-- `é` is one character of two bytes
abbrev pub Strings : Type 0
Strings =
    Two row.ConcatChars (Chars (codes "ab")) (Chars (codes "c")) (value (Chars (codes "abc")))
    × One row.CharsLength (Chars (195 ∷ 169 ∷ [])) (count 1)
    × One row.IntToChars (minus 12) (value (Chars (codes "-12")))
    × One row.TruthToChars (Truth true) (value (Chars (codes "true")))

abbrev pub Sequences : Type 0
Sequences =
    One row.SeqLength (Seq (two 1 2)) (count 2)
    × One row.FirstItem (Seq (two 1 2)) (value (n 1))
    × One row.FirstItem (Seq []) undefined
    × One row.LastItem (Seq (two 1 2)) (value (n 2))
    × One row.LastItem (Seq []) undefined
    × One row.Tail (Seq (three 1 2 3)) (value (Seq (two 2 3)))
    × One row.Tail (Seq []) undefined
    × Two row.At (Seq (two 1 2)) (n 0) (value (n 1))
    × Two row.At (Seq (two 1 2)) (n 1) (value (n 2))
    × Two row.At (Seq (two 1 2)) (n 2) undefined
    × Two row.At (Seq (two 1 2)) (minus 1) undefined
    × Two row.Append (Seq (one 1)) (n 2) (value (Seq (two 1 2)))
    × Two row.Prepend (n 1) (Seq (one 2)) (value (Seq (two 1 2)))
    × Two row.ConcatSeqs (Seq (two 2 1)) (Seq (one 2)) (value (Seq (three 2 1 2)))
    × One row.IsEmptySeq (Seq (one 1)) (truth false)

abbrev pub Sets : Type 0
Sets =
    One row.IsEmptySet (Set []) (truth true)
    × One row.AsSet (Seq (three 2 1 2)) (value (Set (two 1 2)))
    × One row.AsSeq (Set (two 1 2)) (value (Seq (two 1 2)))
    × One row.Size (Set (two 1 2)) (count 2)
    × Two row.Union (Set (two 1 3)) (Set (two 2 3)) (value (Set (three 1 2 3)))
    × Two row.Intersection (Set (two 1 3)) (Set (two 2 3)) (value (Set (one 3)))
    × Two row.Difference (Set (two 1 3)) (Set (two 2 3)) (value (Set (one 1)))
    × Two row.Including (Set (two 1 3)) (n 2) (value (Set (three 1 2 3)))
    × Two row.Including (Set (two 1 3)) (n 3) (value (Set (two 1 3)))
    × Two row.Excluding (Set (two 1 3)) (n 3) (value (Set (one 1)))
    × Two row.Subset (Set (one 1)) (Set (two 1 2)) (truth true)
    × Two row.Subset (Set (one 1)) (Set (Truth true ∷ [])) (truth false)

abbrev pub Parts : Type 0
Parts =
    One row.FirstPart (Tuple (three 4 5 6)) (value (n 4))
    × One row.SecondPart (Tuple (three 4 5 6)) (value (n 5))
    × One row.ThirdPart (Tuple (three 4 5 6)) (value (n 6))

-- undef equals undef alone; all other rows are undef of undef
abbrev pub Undefined : Type 0
Undefined =
    Two row.Equal Undef Undef (truth true)
    × Two row.Equal Undef (n 1) (truth false)
    × Two row.Equal (Set (two 1 2)) (Set (two 1 2)) (truth true)
    × Two row.NotEqual (n 1) (n 2) (truth true)
    × One row.IsDef Undef (truth false)
    × One row.IsUndef Undef (truth true)
    × Two row.Add Undef (n 1) undefined
    × Two row.In Undef (Set []) undefined
    × Two row.Append (Seq []) Undef undefined
    × One row.Add (n 1) undefined
    × Two row.Add (n 1) (Truth true) undefined

-- the limits: 256 items, counted after equal ones are dropped
abbrev pub Limits : Type 0
Limits =
    Two row.Append (Seq (replicate 256 (n 0))) (n 0) applied.TooLarge
    × (sequence_of (replicate 257 (n 0)) ≡ applied.TooLarge)
    × (set_of (replicate 257 (n 0)) ≡ value (Set (one 0)))
    × (interval_of (n 1) (n 257) ≡ applied.TooLarge)
    × (sequence_of (Undef ∷ replicate 257 (n 0)) ≡ undefined)

abbrev pub Terms : Type 0
Terms =
    (tuple_of (two 1 2) ≡ value (Tuple (two 1 2)))
    × (tuple_of (Undef ∷ n 1 ∷ []) ≡ undefined)
    × (sequence_of (two 1 1) ≡ value (Seq (two 1 1)))
    × (set_of (three 2 1 2) ≡ value (Set (two 1 2)))
    × (interval_of (minus 1) (n 1) ≡ value (Set (minus 1 ∷ n 0 ∷ n 1 ∷ [])))
    × (interval_of (n 2) (n 1) ≡ value (Set []))
    × (interval_of Undef (n 1) ≡ undefined)
