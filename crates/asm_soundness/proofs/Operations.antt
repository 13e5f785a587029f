-- What an operation gives is made of parts of its arguments, truth values, integers and texts: so
-- its members pass a test that those of the arguments pass.
use Rattle.std.proofs.Common.{◌≡◌, ℕ, ◌+◌, ◌-◌, ℤ, pos, negsuc, ◌+ℤ◌, ◌-ℤ◌, ◌*ℤ◌, neg_ℤ, Bool}
use Rattle.std.proofs.Common.{true, false, not, cond, ◌&&◌, List, [], ◌∷◌, ◌++◌, length, ◌==◌}
use Rattle.std.proofs.Common.{map, unsigned_abs, int_lt, filter, subst}
use Rattle.std.specs.List.{range_with_len}
use Rattle.asm_value.specs.declared.value.Value.{Value}
use Rattle.asm_value.specs.declared.value.Value.TheVariants.{Truth, Int, Chars, Tuple, Seq}
use Rattle.asm_value.specs.declared.value.Value.TheVariants.{Set}
use Rattle.asm_value.specs.Value.{is_chars, as_int, as_truth, parts}
use Rattle.asm_value.proofs.RangeLaws.{all_append}
use Rattle.asm_tables.specs.declared.rows.Operation.{Operation}
use Rattle.asm_tables.specs.declared.rows.Operation.TheVariants as row
use Rattle.asm_operations.specs.declared.applied.Applied.{Applied}
use Rattle.asm_operations.specs.declared.applied.Applied.TheVariants as applied
use Rattle.asm_operations.specs.Limits.{keeps_limits, limited, within_limits}
use Rattle.asm_operations.specs.Results.{undefined, bounded, in_range}
use Rattle.asm_operations.specs.Readers.{any_undef, item, two_ints, two_truths, of_int, of_ints}
use Rattle.asm_operations.specs.Readers.{of_truth, of_truths, of_tuple, of_seq, of_two_seqs, of_set}
use Rattle.asm_operations.specs.Readers.{of_two_sets, is_tuple, is_seq, is_set}
use Rattle.asm_operations.specs.Numbers as numbers
use Rattle.asm_operations.specs.Sequences as sequences
use Rattle.asm_operations.specs.Sets as sets
use Rattle.asm_operations.specs.Sets.{with_item, with_items, set_items}
use Rattle.asm_operations.specs.Operations as spec
use Rattle.asm_operations.specs.Terms as terms
use Rattle.asm_operations.proofs.LimitLaws.{chosen, optional}
use Rattle.asm_operations.proofs.SetLaws.{all-with_item, all-with_items, all-filter}
use Rattle.asm_soundness.specs.Sorted.{members_pass}
use Rattle.asm_soundness.proofs.Values.{AllPass, members_pass-Undef, members_pass-Truth}
use Rattle.asm_soundness.proofs.Values.{members_pass-Int, members_pass-Chars, tuple_passes}
use Rattle.asm_soundness.proofs.Values.{seq_passes, set_passes, parts_pass, item_passes}

module _ (test : ℕ → ℕ → Bool) where
  abbrev Passes : Value → Type 0
  Passes v = members_pass test v ≡ true

  -- the members in what is given pass
  abbrev pub AppliedPasses : Applied → Type 0
  AppliedPasses (applied.Value v) = members_pass test v ≡ true
  AppliedPasses applied.Overflow = Unit {0}
  AppliedPasses applied.TooLarge = Unit {0}

  -- ---- the plain results

  undef_passes : AppliedPasses undefined
  undef_passes = members_pass-Undef test

  truth_passes : (b : Bool) → Passes (Truth b)
  truth_passes b = members_pass-Truth test b

  int_passes : (n : ℤ) → Passes (Int n)
  int_passes n = members_pass-Int test n

  chars_passes : (t : List ℕ) → Passes (Chars t)
  chars_passes t = members_pass-Chars test t

  bounded_passes : (z : ℤ) → AppliedPasses (bounded z)
  bounded_passes z = chosen AppliedPasses (in_range z) _ _ (int_passes z) tt

  limited_passes : (v : Value) → Passes v → AppliedPasses (limited v)
  limited_passes v h = chosen AppliedPasses (keeps_limits v) _ _ h tt

  within_passes : (a : Applied) → AppliedPasses a → AppliedPasses (within_limits a)
  within_passes (applied.Value v) h = limited_passes v h
  within_passes applied.Overflow h = tt
  within_passes applied.TooLarge h = tt

  -- ---- arguments of each kind

  from_ints : (f : ℤ → ℤ → Applied) → ((x y : ℤ) → AppliedPasses (f x y)) → (v w : Value)
      → AppliedPasses (of_ints f v w)
  from_ints f h v w =
      optional AppliedPasses (two_ints v w) (λ p. f p.0 p.1) undefined (λ p. h p.0 p.1) undef_passes

  from_int : (f : ℤ → Applied) → ((x : ℤ) → AppliedPasses (f x)) → (v : Value)
      → AppliedPasses (of_int f v)
  from_int f h v = optional AppliedPasses (as_int v) f undefined h undef_passes

  from_truths : (f : Bool → Bool → Applied) → ((x y : Bool) → AppliedPasses (f x y))
      → (v w : Value) → AppliedPasses (of_truths f v w)
  from_truths f h v w =
      optional AppliedPasses (two_truths v w) (λ p. f p.0 p.1) undefined (λ p. h p.0 p.1)
      undef_passes

  from_truth : (f : Bool → Applied) → ((x : Bool) → AppliedPasses (f x)) → (v : Value)
      → AppliedPasses (of_truth f v)
  from_truth f h v = optional AppliedPasses (as_truth v) f undefined h undef_passes

  -- what is said of lists of such values
  abbrev OfItems : (List Value → Applied) → Type 0
  OfItems f = (xs : List Value) → AllPass test xs → AppliedPasses (f xs)

  abbrev OfTwoLists : (List Value → List Value → Applied) → Type 0
  OfTwoLists f =
      (xs ys : List Value) → AllPass test xs → AllPass test ys → AppliedPasses (f xs ys)

  from_tuple : (f : List Value → Applied) → OfItems f → (v : Value) → Passes v
      → AppliedPasses (of_tuple f v)
  from_tuple f k v p =
      chosen AppliedPasses (is_tuple v) _ _ (k (parts v) (parts_pass test v p)) undef_passes

  from_seq : (f : List Value → Applied) → OfItems f → (v : Value) → Passes v
      → AppliedPasses (of_seq f v)
  from_seq f k v p =
      chosen AppliedPasses (is_seq v) _ _ (k (parts v) (parts_pass test v p)) undef_passes

  from_set : (f : List Value → Applied) → OfItems f → (v : Value) → Passes v
      → AppliedPasses (of_set f v)
  from_set f k v p =
      chosen AppliedPasses (is_set v) _ _ (k (parts v) (parts_pass test v p)) undef_passes

  from_two_seqs : (f : List Value → List Value → Applied) → OfTwoLists f → (v w : Value)
      → Passes v → Passes w → AppliedPasses (of_two_seqs f v w)
  from_two_seqs f k v w p q =
      chosen AppliedPasses (is_seq v && is_seq w) _ _
      (k (parts v) (parts w) (parts_pass test v p) (parts_pass test w q)) undef_passes

  from_two_sets : (f : List Value → List Value → Applied) → OfTwoLists f → (v w : Value)
      → Passes v → Passes w → AppliedPasses (of_two_sets f v w)
  from_two_sets f k v w p q =
      chosen AppliedPasses (is_set v && is_set w) _ _
      (k (parts v) (parts w) (parts_pass test v p) (parts_pass test w q)) undef_passes

  -- ---- sequences and sets

  joined_passes : (xs ys : List Value) → AllPass test xs → AllPass test ys → Passes (Seq (xs ++ ys))
  joined_passes xs ys h k = seq_passes test (xs ++ ys) (all_append Passes xs ys h k)

  with_one_passes : (v : Value) (xs : List Value) → Passes v → AllPass test xs
      → Passes (Set (with_item v xs))
  with_one_passes v xs p h = set_passes test (with_item v xs) (all-with_item Passes v xs p h)

  with_more_passes : (set xs : List Value) → AllPass test set → AllPass test xs
      → Passes (Set (with_items set xs))
  with_more_passes set xs h k =
      set_passes test (with_items set xs) (all-with_items Passes set xs h k)

  filtered_passes : (keep : Value → Bool) (xs : List Value) → AllPass test xs
      → Passes (Set (filter keep xs))
  filtered_passes keep xs h = set_passes test (filter keep xs) (all-filter Passes keep xs h)

  tail_passes : (xs : List Value) → AllPass test xs → AppliedPasses (sequences.tail_of xs)
  tail_passes [] h = undef_passes
  tail_passes (x ∷ xs) h = seq_passes test xs h.1

  item_at_passes : (xs : List Value) (i : ℤ) → AllPass test xs → Passes (sequences.item_at xs i)
  item_at_passes xs (pos i) h = item_passes test xs i h
  item_at_passes xs (negsuc i) h = undef_passes

  -- ---- each row

  meaning_passes : (o : Operation) (v w : Value) → Passes v → Passes w
      → AppliedPasses (spec.meaning o v w)
  meaning_passes row.Add v w p q = from_ints _ (λ x y. bounded_passes (x +ℤ y)) v w
  meaning_passes row.Subtract v w p q = from_ints _ (λ x y. bounded_passes (x -ℤ y)) v w
  meaning_passes row.Multiply v w p q = from_ints _ (λ x y. bounded_passes (x *ℤ y)) v w
  meaning_passes row.Divide v w p q =
      from_ints _ (λ x y. chosen AppliedPasses (numbers.is_zero y) _ _ undef_passes
      (bounded_passes (numbers.floored x y))) v w
  meaning_passes row.Remainder v w p q =
      from_ints _ (λ x y. chosen AppliedPasses (numbers.is_zero y) _ _ undef_passes
      (int_passes (numbers.rest x y))) v w
  meaning_passes row.Negate v w p q = from_int _ (λ x. bounded_passes (neg_ℤ x)) v
  meaning_passes row.Abs v w p q = from_int _ (λ x. bounded_passes (pos (unsigned_abs x))) v
  meaning_passes row.Min v w p q = from_ints _ (λ x y. int_passes _) v w
  meaning_passes row.Max v w p q = from_ints _ (λ x y. int_passes _) v w
  meaning_passes row.LessInt v w p q = from_ints _ (λ x y. truth_passes _) v w
  meaning_passes row.LessChars v w p q =
      chosen AppliedPasses (is_chars v && is_chars w) _ _ (truth_passes _) undef_passes
  meaning_passes row.AtMostInt v w p q = from_ints _ (λ x y. truth_passes _) v w
  meaning_passes row.AtMostChars v w p q =
      chosen AppliedPasses (is_chars v && is_chars w) _ _ (truth_passes _) undef_passes
  meaning_passes row.GreaterInt v w p q = from_ints _ (λ x y. truth_passes _) v w
  meaning_passes row.GreaterChars v w p q =
      chosen AppliedPasses (is_chars v && is_chars w) _ _ (truth_passes _) undef_passes
  meaning_passes row.AtLeastInt v w p q = from_ints _ (λ x y. truth_passes _) v w
  meaning_passes row.AtLeastChars v w p q =
      chosen AppliedPasses (is_chars v && is_chars w) _ _ (truth_passes _) undef_passes
  meaning_passes row.Not v w p q = from_truth _ (λ x. truth_passes _) v
  meaning_passes row.Xor v w p q = from_truths _ (λ x y. truth_passes _) v w
  meaning_passes row.Iff v w p q = from_truths _ (λ x y. truth_passes _) v w
  meaning_passes row.In v w p q =
      chosen AppliedPasses (is_set w) _ _ (truth_passes _) undef_passes
  meaning_passes row.NotIn v w p q =
      chosen AppliedPasses (is_set w) _ _ (truth_passes _) undef_passes
  meaning_passes row.ConcatChars v w p q =
      chosen AppliedPasses (is_chars v && is_chars w) _ _ (chars_passes _) undef_passes
  meaning_passes row.CharsLength v w p q =
      chosen AppliedPasses (is_chars v) _ _ (int_passes _) undef_passes
  meaning_passes row.IntToChars v w p q = from_int _ (λ x. chars_passes _) v
  meaning_passes row.TruthToChars v w p q = from_truth _ (λ x. chars_passes _) v
  meaning_passes row.SeqLength v w p q =
      chosen AppliedPasses (is_seq v) _ _ (int_passes _) undef_passes
  meaning_passes row.FirstItem v w p q =
      from_seq (λ xs. sequences.plain (item xs 0)) (λ xs h. item_passes test xs 0 h) v p
  meaning_passes row.LastItem v w p q =
      from_seq (λ xs. sequences.plain (item xs (length xs - 1)))
      (λ xs h. item_passes test xs (length xs - 1) h) v p
  meaning_passes row.Tail v w p q = from_seq sequences.tail_of tail_passes v p
  meaning_passes row.At v w p q =
      from_seq (λ xs. of_int (λ i. sequences.plain (sequences.item_at xs i)) w)
      (λ xs h. from_int (λ i. sequences.plain (sequences.item_at xs i))
      (λ i. item_at_passes xs i h) w) v p
  meaning_passes row.Append v w p q =
      from_seq (λ xs. sequences.seq_value (xs ++ w ∷ []))
      (λ xs h. joined_passes xs (w ∷ []) h (q, tt)) v p
  meaning_passes row.Prepend v w p q =
      from_seq (λ xs. sequences.seq_value (v ∷ xs)) (λ xs h. seq_passes test (v ∷ xs) (p, h)) w q
  meaning_passes row.ConcatSeqs v w p q =
      from_two_seqs (λ xs ys. sequences.seq_value (xs ++ ys)) joined_passes v w p q
  meaning_passes row.IsEmptySeq v w p q =
      chosen AppliedPasses (is_seq v) _ _ (truth_passes _) undef_passes
  meaning_passes row.IsEmptySet v w p q =
      chosen AppliedPasses (is_set v) _ _ (truth_passes _) undef_passes
  meaning_passes row.AsSet v w p q =
      from_seq (λ xs. sets.set_value (set_items xs)) (λ xs h. with_more_passes [] xs tt h) v p
  meaning_passes row.AsSeq v w p q =
      from_set (λ xs. applied.Value (Seq xs)) (λ xs h. seq_passes test xs h) v p
  meaning_passes row.Size v w p q =
      chosen AppliedPasses (is_set v) _ _ (int_passes _) undef_passes
  meaning_passes row.Union v w p q =
      from_two_sets (λ xs ys. sets.set_value (with_items xs ys)) with_more_passes v w p q
  meaning_passes row.Intersection v w p q =
      from_two_sets (λ xs ys. sets.set_value (sets.common xs ys))
      (λ xs ys h k. filtered_passes (λ x. sets.has ys x) xs h) v w p q
  meaning_passes row.Difference v w p q =
      from_two_sets (λ xs ys. sets.set_value (sets.without xs ys))
      (λ xs ys h k. filtered_passes (λ x. not (sets.has ys x)) xs h) v w p q
  meaning_passes row.Including v w p q =
      from_set (λ xs. sets.set_value (with_item w xs))
      (λ xs h. with_one_passes w xs q h) v p
  meaning_passes row.Excluding v w p q =
      from_set (λ xs. sets.set_value (sets.without_one xs w))
      (λ xs h. filtered_passes (λ x. not (spec.are_equal x w)) xs h) v p
  meaning_passes row.Subset v w p q =
      chosen AppliedPasses (is_set v && is_set w) _ _ (truth_passes _) undef_passes
  meaning_passes row.FirstPart v w p q =
      from_tuple (λ xs. sequences.plain (item xs 0)) (λ xs h. item_passes test xs 0 h) v p
  meaning_passes row.SecondPart v w p q =
      from_tuple (λ xs. sequences.plain (item xs 1)) (λ xs h. item_passes test xs 1 h) v p
  meaning_passes row.ThirdPart v w p q =
      from_tuple (λ xs. sequences.plain (item xs 2)) (λ xs h. item_passes test xs 2 h) v p
  meaning_passes row.Equal v w p q = truth_passes _
  meaning_passes row.NotEqual v w p q = truth_passes _
  meaning_passes row.IsDef v w p q = truth_passes _
  meaning_passes row.IsUndef v w p q = truth_passes _

  -- ---- operations, tuples, sequences, sets and intervals

  pub apply_passes : (o : Operation) (args : List Value) → AllPass test args
      → AppliedPasses (spec.apply o args)
  apply_passes o args h =
      chosen AppliedPasses
      (length args == spec.arity o && not (spec.is_strict o && any_undef args)) _ _
      (within_passes (spec.meaning o (item args 0) (item args 1))
      (meaning_passes o (item args 0) (item args 1) (item_passes test args 0 h)
      (item_passes test args 1 h))) undef_passes

  defined_passes : (vs : List Value) (v : Value) → Passes v
      → AppliedPasses (terms.of_defined vs (limited v))
  defined_passes vs v h =
      chosen AppliedPasses (any_undef vs) _ _ undef_passes (limited_passes v h)

  pub tuple_of_passes : (vs : List Value) → AllPass test vs → AppliedPasses (terms.tuple_of vs)
  tuple_of_passes vs h = defined_passes vs (Tuple vs) (tuple_passes test vs h)

  pub sequence_of_passes : (vs : List Value) → AllPass test vs
      → AppliedPasses (terms.sequence_of vs)
  sequence_of_passes vs h = defined_passes vs (Seq vs) (seq_passes test vs h)

  pub set_of_passes : (vs : List Value) → AllPass test vs → AppliedPasses (terms.set_of vs)
  set_of_passes vs h = defined_passes vs (Set (set_items vs)) (with_more_passes [] vs tt h)

  ints_pass : (first : ℤ) (ks : List ℕ) → AllPass test (map (λ k. Int (first +ℤ pos k)) ks)
  ints_pass first [] = tt
  ints_pass first (k ∷ ks) = (int_passes (first +ℤ pos k), ints_pass first ks)

  all_chosen : (b : Bool) (xs ys : List Value) → AllPass test xs → AllPass test ys
      → AllPass test (cond b xs ys)
  all_chosen true xs ys h k = h
  all_chosen false xs ys h k = k

  pub interval_of_passes : (v w : Value) → AppliedPasses (terms.interval_of v w)
  interval_of_passes v w =
      from_ints terms.limited_interval (λ first last. limited_passes (Set
      (terms.interval first last))
      (set_passes test (terms.interval first last) (all_chosen (int_lt last first) []
      (terms.ints_from first (unsigned_abs (last -ℤ first) + 1)) tt
      (ints_pass first (range_with_len 0 (unsigned_abs (last -ℤ first) + 1)))))) v w

  -- ---- where a value is given

  pub applied_value : (a : Applied) (v : Value) → AppliedPasses a → a ≡ applied.Value v
      → members_pass test v ≡ true
  applied_value a v h e = subst AppliedPasses e h

  pub apply_gives : (o : Operation) (args : List Value) (v : Value) → AllPass test args
      → spec.apply o args ≡ applied.Value v → members_pass test v ≡ true
  apply_gives o args v h e = applied_value (spec.apply o args) v (apply_passes o args h) e
