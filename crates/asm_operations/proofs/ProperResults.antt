-- What an operation gives of values that may be is one that may be.
use Rattle.std.proofs.Common.{◌≡◌, ◌≢◌, ℕ, ◌+◌, ◌-◌, ◌<◌, ℤ, pos, ◌+ℤ◌, ◌-ℤ◌}
use Rattle.std.proofs.Common.{◌*ℤ◌, ◌<ℤ◌, Bool, true, false}
use Rattle.std.proofs.Common.{not, cond, ◌&&◌, ◌||◌, List, [], ◌∷◌, ◌++◌}
use Rattle.std.proofs.Common.{length, ◌==◌}
use Rattle.std.proofs.Common.{refl, sym, ap, ◌∙◌, arith, map, neg_ℤ}
use Rattle.std.proofs.Common.{unsigned_abs, int_lt}
use Rattle.std.proofs.lemmas.Cmp.{ranked}
use Rattle.std.proofs.lemmas.Int.{ints}
use Rattle.std.specs.List.{AllByRecursion, range_with_len}
use Rattle.std.specs.Ordering.{nat_cmp, int_cmp}
use Rattle.std.specs.declared.cmp.Ordering.TheVariants.{Less, Equal, Greater}
use Rattle.asm_value.specs.declared.value.Value.{Value}
use Rattle.asm_value.specs.declared.value.Value.TheVariants.{Undef, Int, Tuple, Seq}
use Rattle.asm_value.specs.declared.value.Value.TheVariants.{Set}
use Rattle.asm_value.specs.Value.{is_chars, compare}
use Rattle.asm_value.specs.State.{is_undef}
use Rattle.asm_value.specs.Proper.{IsProper, AreDefined}
use Rattle.asm_value.proofs.MemberLists.{int_less}
use Rattle.asm_value.proofs.Listing.{sorted_map, sorted_numbers, first_true}
use Rattle.asm_tables.specs.declared.rows.Operation.{Operation}
use Rattle.asm_tables.specs.declared.rows.Operation.TheVariants as row
use Rattle.asm_value.proofs.StateLaws.{not_undef}
use Rattle.asm_operations.specs.declared.applied.Applied.{Applied}
use Rattle.asm_operations.specs.declared.applied.Applied.TheVariants as applied
use Rattle.asm_operations.specs.Limits.{limited}
use Rattle.asm_operations.specs.Results.{undefined}
use Rattle.asm_operations.specs.Readers.{any_undef, item, of_int}
use Rattle.asm_operations.specs.Readers.{is_seq, is_set}
use Rattle.asm_operations.specs.Numbers as numbers
use Rattle.asm_operations.specs.Sequences as sequences
use Rattle.asm_operations.specs.Sets as sets
use Rattle.asm_operations.specs.Sets.{with_item, with_items}
use Rattle.asm_operations.specs.Operations as spec
use Rattle.asm_operations.specs.Terms as terms
use Rattle.asm_operations.specs.Laws.{AreProper, IsProperResult}
use Rattle.asm_operations.proofs.LimitLaws.{chosen}
use Rattle.asm_operations.proofs.ProperParts.{proper_undef, proper_truth, proper_int}
use Rattle.asm_operations.proofs.ProperParts.{proper_chars, proper_tuple, proper_seq, proper_set}
use Rattle.asm_operations.proofs.ProperParts.{proper_bounded, proper_limited, proper_within}
use Rattle.asm_operations.proofs.ProperParts.{proper_items, from_ints, from_int, from_truths}
use Rattle.asm_operations.proofs.ProperParts.{from_truth}
use Rattle.asm_operations.proofs.ProperParts.{from_tuple, from_seq}
use Rattle.asm_operations.proofs.ProperParts.{from_set, from_two_seqs, from_two_sets}
use Rattle.asm_operations.proofs.ProperParts.{joined_items, with_one_more, with_more, none_yet}
use Rattle.asm_operations.proofs.ProperParts.{filtered, proper_tail, proper_item_at}

-- ---- each row

-- both arguments are there where the row is strict and has two
abbrev AreGiven : Operation → Value → Value → Type 0
AreGiven o v w = spec.is_strict o ≡ true → spec.arity o ≡ 2 → (v ≢ Undef) × (w ≢ Undef)

proper_meaning : (o : Operation) (v w : Value) → IsProper v → IsProper w → AreGiven o v w
    → IsProperResult (spec.meaning o v w)
proper_meaning row.Add v w p q g = from_ints _ (λ x y. proper_bounded (x +ℤ y)) v w
proper_meaning row.Subtract v w p q g = from_ints _ (λ x y. proper_bounded (x -ℤ y)) v w
proper_meaning row.Multiply v w p q g = from_ints _ (λ x y. proper_bounded (x *ℤ y)) v w
proper_meaning row.Divide v w p q g =
    from_ints _ (λ x y. chosen IsProperResult (numbers.is_zero y) _ _ proper_undef
    (proper_bounded (numbers.floored x y))) v w
proper_meaning row.Remainder v w p q g =
    from_ints _ (λ x y. chosen IsProperResult (numbers.is_zero y) _ _ proper_undef
    (proper_int (numbers.rest x y))) v w
proper_meaning row.Negate v w p q g = from_int _ (λ x. proper_bounded (neg_ℤ x)) v
proper_meaning row.Abs v w p q g = from_int _ (λ x. proper_bounded (pos (unsigned_abs x))) v
proper_meaning row.Min v w p q g = from_ints _ (λ x y. proper_int _) v w
proper_meaning row.Max v w p q g = from_ints _ (λ x y. proper_int _) v w
proper_meaning row.LessInt v w p q g = from_ints _ (λ x y. proper_truth _) v w
proper_meaning row.LessChars v w p q g =
    chosen IsProperResult (is_chars v && is_chars w) _ _ (proper_truth _) proper_undef
proper_meaning row.AtMostInt v w p q g = from_ints _ (λ x y. proper_truth _) v w
proper_meaning row.AtMostChars v w p q g =
    chosen IsProperResult (is_chars v && is_chars w) _ _ (proper_truth _) proper_undef
proper_meaning row.GreaterInt v w p q g = from_ints _ (λ x y. proper_truth _) v w
proper_meaning row.GreaterChars v w p q g =
    chosen IsProperResult (is_chars v && is_chars w) _ _ (proper_truth _) proper_undef
proper_meaning row.AtLeastInt v w p q g = from_ints _ (λ x y. proper_truth _) v w
proper_meaning row.AtLeastChars v w p q g =
    chosen IsProperResult (is_chars v && is_chars w) _ _ (proper_truth _) proper_undef
proper_meaning row.Not v w p q g = from_truth _ (λ x. proper_truth _) v
proper_meaning row.Xor v w p q g = from_truths _ (λ x y. proper_truth _) v w
proper_meaning row.Iff v w p q g = from_truths _ (λ x y. proper_truth _) v w
proper_meaning row.In v w p q g =
    chosen IsProperResult (is_set w) _ _ (proper_truth _) proper_undef
proper_meaning row.NotIn v w p q g =
    chosen IsProperResult (is_set w) _ _ (proper_truth _) proper_undef
proper_meaning row.ConcatChars v w p q g =
    chosen IsProperResult (is_chars v && is_chars w) _ _ (proper_chars _) proper_undef
proper_meaning row.CharsLength v w p q g =
    chosen IsProperResult (is_chars v) _ _ (proper_int _) proper_undef
proper_meaning row.IntToChars v w p q g = from_int _ (λ x. proper_chars _) v
proper_meaning row.TruthToChars v w p q g = from_truth _ (λ x. proper_chars _) v
proper_meaning row.SeqLength v w p q g =
    chosen IsProperResult (is_seq v) _ _ (proper_int _) proper_undef
proper_meaning row.FirstItem v w p q g =
    from_seq (λ xs. sequences.plain (item xs 0)) (λ xs h. proper_items xs 0 h.1) v p
proper_meaning row.LastItem v w p q g =
    from_seq (λ xs. sequences.plain (item xs (length xs - 1)))
    (λ xs h. proper_items xs (length xs - 1) h.1) v p
proper_meaning row.Tail v w p q g = from_seq sequences.tail_of proper_tail v p
proper_meaning row.At v w p q g =
    from_seq (λ xs. of_int (λ i. sequences.plain (sequences.item_at xs i)) w)
    (λ xs h. from_int (λ i. sequences.plain (sequences.item_at xs i))
    (λ i. proper_item_at xs i h.1) w) v p
proper_meaning row.Append v w p q g =
    from_seq (λ xs. sequences.seq_value (xs ++ w ∷ []))
    (λ xs h. joined_items xs (w ∷ []) h (((g refl refl).1, tt), (q, tt))) v p
proper_meaning row.Prepend v w p q g =
    from_seq (λ xs. sequences.seq_value (v ∷ xs))
    (λ xs h. proper_seq (v ∷ xs) ((g refl refl).0, h.0) (p, h.1)) w q
proper_meaning row.ConcatSeqs v w p q g =
    from_two_seqs (λ xs ys. sequences.seq_value (xs ++ ys)) joined_items v w p q
proper_meaning row.IsEmptySeq v w p q g =
    chosen IsProperResult (is_seq v) _ _ (proper_truth _) proper_undef
proper_meaning row.IsEmptySet v w p q g =
    chosen IsProperResult (is_set v) _ _ (proper_truth _) proper_undef
proper_meaning row.AsSet v w p q g =
    from_seq (λ xs. sets.set_value (sets.set_items xs)) (λ xs h. with_more [] xs none_yet h) v p
proper_meaning row.AsSeq v w p q g =
    from_set (λ xs. applied.Value (Seq xs)) (λ xs h. proper_seq xs h.0 h.2) v p
proper_meaning row.Size v w p q g =
    chosen IsProperResult (is_set v) _ _ (proper_int _) proper_undef
proper_meaning row.Union v w p q g =
    from_two_sets (λ xs ys. sets.set_value (with_items xs ys))
    (λ xs ys h k. with_more xs ys h (k.0, k.2)) v w p q
proper_meaning row.Intersection v w p q g =
    from_two_sets (λ xs ys. sets.set_value (sets.common xs ys))
    (λ xs ys h k. filtered (λ x. sets.has ys x) xs h) v w p q
proper_meaning row.Difference v w p q g =
    from_two_sets (λ xs ys. sets.set_value (sets.without xs ys))
    (λ xs ys h k. filtered (λ x. not (sets.has ys x)) xs h) v w p q
proper_meaning row.Including v w p q g =
    from_set (λ xs. sets.set_value (with_item w xs))
    (λ xs h. with_one_more w xs (g refl refl).1 q h) v p
proper_meaning row.Excluding v w p q g =
    from_set (λ xs. sets.set_value (sets.without_one xs w))
    (λ xs h. filtered (λ x. not (spec.are_equal x w)) xs h) v p
proper_meaning row.Subset v w p q g =
    chosen IsProperResult (is_set v && is_set w) _ _ (proper_truth _) proper_undef
proper_meaning row.FirstPart v w p q g =
    from_tuple (λ xs. sequences.plain (item xs 0)) (λ xs h. proper_items xs 0 h) v p
proper_meaning row.SecondPart v w p q g =
    from_tuple (λ xs. sequences.plain (item xs 1)) (λ xs h. proper_items xs 1 h) v p
proper_meaning row.ThirdPart v w p q g =
    from_tuple (λ xs. sequences.plain (item xs 2)) (λ xs h. proper_items xs 2 h) v p
proper_meaning row.Equal v w p q g = proper_truth _
proper_meaning row.NotEqual v w p q g = proper_truth _
proper_meaning row.IsDef v w p q g = proper_truth _
proper_meaning row.IsUndef v w p q g = proper_truth _

-- ---- what is given

first_false : (a b : Bool) → (a || b) ≡ false → a ≡ false
first_false true b e = absurd (cc)
first_false false b e = refl

second_false : (a b : Bool) → (a || b) ≡ false → b ≡ false
second_false true b e = absurd (cc)
second_false false b e = e

all_defined : (vs : List Value) → any_undef vs ≡ false → AreDefined vs
all_defined [] h = tt
all_defined (v ∷ vs) h = (
  not_undef v (first_false (is_undef v) (any_undef vs) h),
  all_defined vs (second_false (is_undef v) (any_undef vs) h),
)

given_two : (vs : List Value) → length vs ≡ 2 → AreDefined vs
    → (item vs 0 ≢ Undef) × (item vs 1 ≢ Undef)
given_two [] n h = absurd (omega (arith, n))
given_two (v ∷ []) n h = absurd (omega (arith, n))
given_two (v ∷ w ∷ vs) n h = (h.0, h.1.0)

chosen_by : (P : Applied → Type 0) (b : Bool) (x y : Applied) → (b ≡ true → P x) → P y
    → P (cond b x y)
chosen_by P true x y p q = p refl
chosen_by P false x y p q = q

not_both : (a b c : Bool) → (a && not (b && c)) ≡ true → b ≡ true → c ≡ false
not_both true true true e f = absurd (cc)
not_both true true false e f = refl
not_both true false c e f = absurd (cc)
not_both false b c e f = absurd (cc)

as_many : (m n : ℕ) → (m == n) ≡ true → m ≡ n
as_many m n e = grind arith

pub proper_apply : (o : Operation) (args : List Value) → AreProper args
    → IsProperResult (spec.apply o args)
proper_apply o args h =
    chosen_by IsProperResult
    (length args == spec.arity o && not (spec.is_strict o && any_undef args))
    _ _ (λ e. proper_within (spec.meaning o (item args 0) (item args 1))
    (proper_meaning o (item args 0) (item args 1) (proper_items args 0 h) (proper_items args 1 h)
    (λ strict two. given_two args
    (as_many (length args) (spec.arity o) (first_true (length args == spec.arity o) _ e) ∙ two)
    (all_defined args (not_both (length args == spec.arity o) (spec.is_strict o) (any_undef args)
    e strict))))) proper_undef

proper_of_defined : (vs : List Value) (v : Value) → (AreDefined vs → IsProper v)
    → IsProperResult (terms.of_defined vs (limited v))
proper_of_defined vs v h = unless (any_undef vs) refl
  where
    unless : (b : Bool) → any_undef vs ≡ b → IsProperResult (cond b undefined (limited v))
    unless true e = proper_undef
    unless false e = proper_limited v (h (all_defined vs e))

pub proper_tuple_of : (vs : List Value) → AreProper vs → IsProperResult (terms.tuple_of vs)
proper_tuple_of vs h = proper_of_defined vs (Tuple vs) (λ d. proper_tuple vs d h)

pub proper_sequence_of : (vs : List Value) → AreProper vs → IsProperResult (terms.sequence_of vs)
proper_sequence_of vs h = proper_of_defined vs (Seq vs) (λ d. proper_seq vs d h)

pub proper_set_of : (vs : List Value) → AreProper vs → IsProperResult (terms.set_of vs)
proper_set_of vs h =
    proper_of_defined vs (Set (sets.set_items vs)) (λ d. with_more [] vs none_yet (d, h))

-- ---- intervals

abbrev int_at : ℤ → ℕ → Value
int_at first k = Int (first +ℤ pos k)

int_not_undef : (n : ℤ) → Int n ≢ Undef
int_not_undef n e = cc

under : (a b : ℤ) → a <ℤ b → int_lt a b ≡ true
under a b h = grind (arith, ints)

further : (first : ℤ) (i j : ℕ) → i < j → int_cmp (first +ℤ pos i) (first +ℤ pos j) ≡ Less
further first i j h =
    ap (λ b. cond b Less (cond (int_lt (first +ℤ pos j) (first +ℤ pos i)) Greater Equal))
    (under (first +ℤ pos i) (first +ℤ pos j) (omega (arith, ints, h)))

int_at_less : (first : ℤ) (i j : ℕ) → nat_cmp i j ≡ Less
    → compare (int_at first i) (int_at first j) ≡ Less
int_at_less first i j h =
    int_less (first +ℤ pos i) (first +ℤ pos j) (further first i j (ranked i j Less (sym h)))

all_numbers : (P : Value → Type 0) (f : ℕ → Value) → ((k : ℕ) → P (f k)) → (ks : List ℕ)
    → AllByRecursion P (map f ks)
all_numbers P f h [] = tt
all_numbers P f h (k ∷ ks) = (h k, all_numbers P f h ks)

proper_ints : (first : ℤ) (n : ℕ) → IsProper (Set (terms.ints_from first n))
proper_ints first n =
    proper_set (terms.ints_from first n)
    (all_numbers (λ v. v ≢ Undef) (int_at first) (λ k. int_not_undef _) (range_with_len 0 n))
    (sorted_map nat_cmp compare (int_at first) (int_at_less first) (range_with_len 0 n)
    (sorted_numbers 0 n))
    (all_numbers IsProper (int_at first) (λ k. proper_int _) (range_with_len 0 n))

proper_interval : (b : Bool) (xs ys : List Value) → IsProper (Set xs) → IsProper (Set ys)
    → IsProper (Set (cond b xs ys))
proper_interval true xs ys p q = p
proper_interval false xs ys p q = q

pub proper_interval_of : (v w : Value) → IsProperResult (terms.interval_of v w)
proper_interval_of v w =
    from_ints terms.limited_interval (λ first last. proper_limited (Set (terms.interval first last))
    (proper_interval (int_lt last first) [] _ (proper_set [] none_yet.0 none_yet.1 none_yet.2)
    (proper_ints first (unsigned_abs (last -ℤ first) + 1)))) v w
