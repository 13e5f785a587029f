-- Operations on sequences and tuples.
use Rattle.std.specs.Prelude.{ℕ, ◌-◌, ℤ, pos, negsuc, List, [], ◌∷◌, ◌++◌, length, ◌==◌}
use Rattle.asm_value.specs.declared.value.Value.{Value}
use Rattle.asm_value.specs.declared.value.Value.TheVariants.{Undef, Seq}
use Rattle.asm_operations.specs.declared.applied.Applied.{Applied}
use Rattle.asm_operations.specs.declared.applied.Applied.TheVariants as applied
use Rattle.asm_operations.specs.Results.{undefined, truth, count}
use Rattle.asm_operations.specs.Readers.{item, of_int, of_tuple, of_seq, of_two_seqs}
use Rattle.asm_operations.specs.Sets.{set_value, set_items}

abbrev pub plain : Value → Applied
plain v = applied.Value v

abbrev pub seq_value : List Value → Applied
seq_value xs = applied.Value (Seq xs)

-- the item at a position from 0, undef where there is none
abbrev pub item_at : List Value → ℤ → Value
item_at xs (pos i) = item xs i
item_at xs (negsuc i) = Undef

-- all items but the first, undef where there is none
abbrev pub tail_of : List Value → Applied
tail_of [] = undefined
tail_of (x ∷ xs) = seq_value xs

abbrev pub seq_length : Value → Applied
seq_length = of_seq (λ xs. count (length xs))

abbrev pub first : Value → Applied
first = of_seq (λ xs. plain (item xs 0))

abbrev pub last : Value → Applied
last = of_seq (λ xs. plain (item xs (length xs - 1)))

abbrev pub tail : Value → Applied
tail = of_seq tail_of

abbrev pub at : Value → Value → Applied
at v w = of_seq (λ xs. of_int (λ i. plain (item_at xs i)) w) v

abbrev pub append : Value → Value → Applied
append v w = of_seq (λ xs. seq_value (xs ++ w ∷ [])) v

abbrev pub prepend : Value → Value → Applied
prepend v w = of_seq (λ xs. seq_value (v ∷ xs)) w

abbrev pub joined : Value → Value → Applied
joined = of_two_seqs (λ xs ys. seq_value (xs ++ ys))

abbrev pub is_empty : Value → Applied
is_empty = of_seq (λ xs. truth (length xs == 0))

-- the set of the items
abbrev pub as_set : Value → Applied
as_set = of_seq (λ xs. set_value (set_items xs))

-- the part at a place from 0, undef where there is none
abbrev pub part : ℕ → Value → Applied
part i = of_tuple (λ xs. plain (item xs i))
