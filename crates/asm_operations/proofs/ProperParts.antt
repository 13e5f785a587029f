-- Results, arguments of each kind, sequences and sets of values that may be.
use Rattle.std.proofs.Common.{◌≡◌, ◌≢◌, ℕ, zero, suc, ℤ, pos, negsuc}
use Rattle.std.proofs.Common.{Bool, true, false}
use Rattle.std.proofs.Common.{cond, ◌&&◌, List, [], ◌∷◌, ◌++◌}
use Rattle.std.proofs.Common.{refl, sym, subst, rules, filter}
use Rattle.std.specs.List.Sorted.{IsStrictlySortedBy}
use Rattle.asm_value.specs.declared.value.Value.{Value}
use Rattle.asm_value.specs.declared.value.Value.TheOpen.{Value-F}
use Rattle.asm_value.specs.declared.value.Value.TheVariants.{Undef, Truth, Int, Chars, Tuple, Seq}
use Rattle.asm_value.specs.declared.value.Value.TheVariants.{Set}
use Rattle.asm_value.specs.declared.value.Value.TheViews.{out-Value, the_lemmas}
use Rattle.asm_value.specs.Value.{items, parts, as_int, as_truth, compare}
use Rattle.asm_value.specs.Proper.{IsProper, IsProperLevel, AreDefined}
use Rattle.asm_value.proofs.MemberLists.{proper_as, out_undef, out_truth, out_int, out_tuple}
use Rattle.asm_value.proofs.MemberLists.{out_set}
use Rattle.asm_value.proofs.ProperLaws.{IsProper-level, IsProper-parts}
use Rattle.asm_value.proofs.RangeLaws.{all_append}
use Rattle.asm_operations.specs.declared.applied.Applied.{Applied}
use Rattle.asm_operations.specs.declared.applied.Applied.TheVariants as applied
use Rattle.asm_operations.specs.Limits.{keeps_limits, limited}
use Rattle.asm_operations.specs.Limits.{within_limits}
use Rattle.asm_operations.specs.Results.{undefined, bounded, in_range}
use Rattle.asm_operations.specs.Readers.{item, two_ints, two_truths, of_int, of_ints}
use Rattle.asm_operations.specs.Readers.{of_truth, of_truths}
use Rattle.asm_operations.specs.Readers.{of_tuple, of_seq, of_two_seqs, of_set}
use Rattle.asm_operations.specs.Readers.{of_two_sets, is_tuple_level, is_seq_level, is_set_level}
use Rattle.asm_operations.specs.Readers.{is_seq, is_set}
use Rattle.asm_operations.specs.Sequences as sequences
use Rattle.asm_operations.specs.Sets.{with_item, with_items}
use Rattle.asm_operations.proofs.SetLaws.{all-with_item, all-with_items, all-filter}
use Rattle.asm_operations.proofs.SetLaws.{sorted-with_item, sorted-with_items}
use Rattle.std.proofs.lemmas.List.Kept.{IsStrictlySortedBy-filter}
use Rattle.asm_operations.specs.Laws.{AreProper, IsProperResult}
use Rattle.asm_operations.proofs.LimitLaws.{chosen, optional}

-- ---- the plain results

pub proper_undef : IsProper Undef
proper_undef = proper_as Undef Value-F.Undef out_undef tt tt

pub proper_truth : (b : Bool) → IsProper (Truth b)
proper_truth b = proper_as (Truth b) (Value-F.Truth b) (out_truth b) tt tt

pub proper_int : (n : ℤ) → IsProper (Int n)
proper_int n = proper_as (Int n) (Value-F.Int n) (out_int n) tt tt

pub proper_chars : (t : List ℕ) → IsProper (Chars t)
proper_chars t = proper_as (Chars t) (Value-F.Chars t) (search (rules, the_lemmas)) tt tt

pub proper_tuple : (xs : List Value) → AreDefined xs → AreProper xs → IsProper (Tuple xs)
proper_tuple xs d h = proper_as (Tuple xs) (Value-F.Tuple xs) (out_tuple xs) d h

pub proper_seq : (xs : List Value) → AreDefined xs → AreProper xs → IsProper (Seq xs)
proper_seq xs d h = proper_as (Seq xs) (Value-F.Seq xs) (search (rules, the_lemmas)) d h

pub proper_set : (xs : List Value) → AreDefined xs → IsStrictlySortedBy compare xs → AreProper xs
    → IsProper (Set xs)
proper_set xs d s h = proper_as (Set xs) (Value-F.Set xs) (out_set xs) (d, s) h

pub proper_bounded : (z : ℤ) → IsProperResult (bounded z)
proper_bounded z = chosen IsProperResult (in_range z) _ _ (proper_int z) tt

pub proper_limited : (v : Value) → IsProper v → IsProperResult (limited v)
proper_limited v h = chosen IsProperResult (keeps_limits v) _ _ h tt

pub proper_within : (a : Applied) → IsProperResult a → IsProperResult (within_limits a)
proper_within (applied.Value v) h = proper_limited v h
proper_within applied.Overflow h = tt
proper_within applied.TooLarge h = tt

pub proper_items : (xs : List Value) (i : ℕ) → AreProper xs → IsProper (item xs i)
proper_items [] i h = proper_undef
proper_items (x ∷ xs) zero h = h.0
proper_items (x ∷ xs) (suc i) h = proper_items xs i h.1

-- ---- arguments of each kind

pub from_ints : (f : ℤ → ℤ → Applied) → ((x y : ℤ) → IsProperResult (f x y)) → (v w : Value)
    → IsProperResult (of_ints f v w)
from_ints f h v w =
    optional IsProperResult (two_ints v w) (λ p. f p.0 p.1) undefined (λ p. h p.0 p.1) proper_undef

pub from_int : (f : ℤ → Applied) → ((x : ℤ) → IsProperResult (f x)) → (v : Value)
    → IsProperResult (of_int f v)
from_int f h v = optional IsProperResult (as_int v) f undefined h proper_undef

pub from_truths : (f : Bool → Bool → Applied) → ((x y : Bool) → IsProperResult (f x y))
    → (v w : Value) → IsProperResult (of_truths f v w)
from_truths f h v w =
    optional IsProperResult (two_truths v w) (λ p. f p.0 p.1) undefined (λ p. h p.0 p.1)
    proper_undef

pub from_truth : (f : Bool → Applied) → ((x : Bool) → IsProperResult (f x)) → (v : Value)
    → IsProperResult (of_truth f v)
from_truth f h v = optional IsProperResult (as_truth v) f undefined h proper_undef

-- what a sequence's items are, and a set's
abbrev pub AreItems : List Value → Type 0
AreItems xs = AreDefined xs × AreProper xs

abbrev pub AreMembers : List Value → Type 0
AreMembers xs = AreDefined xs × IsStrictlySortedBy compare xs × AreProper xs

module _ (f : List Value → Applied) where
  pub tuple_level : (a : Value-F Value) → IsProperLevel a → AreProper (items a)
      → ((xs : List Value) → AreProper xs → IsProperResult (f xs))
      → IsProperResult (cond (is_tuple_level a) (f (items a)) undefined)
  tuple_level (Value-F.Tuple xs) l h k = k xs h
  tuple_level _ l h k = proper_undef

  pub seq_level : (a : Value-F Value) → IsProperLevel a → AreProper (items a)
      → ((xs : List Value) → AreItems xs → IsProperResult (f xs))
      → IsProperResult (cond (is_seq_level a) (f (items a)) undefined)
  seq_level (Value-F.Seq xs) l h k = k xs (l, h)
  seq_level _ l h k = proper_undef

  pub set_level : (a : Value-F Value) → IsProperLevel a → AreProper (items a)
      → ((xs : List Value) → AreMembers xs → IsProperResult (f xs))
      → IsProperResult (cond (is_set_level a) (f (items a)) undefined)
  set_level (Value-F.Set xs) l h k = k xs (l.0, l.1, h)
  set_level _ l h k = proper_undef

  pub from_tuple : ((xs : List Value) → AreProper xs → IsProperResult (f xs))
      → (v : Value) → IsProper v → IsProperResult (of_tuple f v)
  from_tuple k v p = tuple_level (out-Value v) (IsProper-level v p) (IsProper-parts v p) k

  pub from_seq : ((xs : List Value) → AreItems xs → IsProperResult (f xs))
      → (v : Value) → IsProper v → IsProperResult (of_seq f v)
  from_seq k v p = seq_level (out-Value v) (IsProper-level v p) (IsProper-parts v p) k

  pub from_set : ((xs : List Value) → AreMembers xs → IsProperResult (f xs))
      → (v : Value) → IsProper v → IsProperResult (of_set f v)
  from_set k v p = set_level (out-Value v) (IsProper-level v p) (IsProper-parts v p) k

pub both_cond : (a b : Bool) (x y : Applied)
    → cond (a && b) x y ≡ cond a (cond b x y) y
both_cond true b x y = refl
both_cond false b x y = refl

pub from_two_seqs : (f : List Value → List Value → Applied)
    → ((xs ys : List Value) → AreItems xs → AreItems ys → IsProperResult (f xs ys))
    → (v w : Value) → IsProper v → IsProper w → IsProperResult (of_two_seqs f v w)
from_two_seqs f k v w p q =
    subst IsProperResult (sym (both_cond (is_seq v) (is_seq w) (f (parts v) (parts w)) undefined))
    (from_seq (λ xs. cond (is_seq w) (f xs (parts w)) undefined)
    (λ xs h. from_seq (f xs) (λ ys. k xs ys h) w q) v p)

pub from_two_sets : (f : List Value → List Value → Applied)
    → ((xs ys : List Value) → AreMembers xs → AreMembers ys → IsProperResult (f xs ys))
    → (v w : Value) → IsProper v → IsProper w → IsProperResult (of_two_sets f v w)
from_two_sets f k v w p q =
    subst IsProperResult (sym (both_cond (is_set v) (is_set w) (f (parts v) (parts w)) undefined))
    (from_set (λ xs. cond (is_set w) (f xs (parts w)) undefined)
    (λ xs h. from_set (f xs) (λ ys. k xs ys h) w q) v p)

-- ---- sequences and sets

pub joined_items : (xs ys : List Value) → AreItems xs → AreItems ys → IsProper (Seq (xs ++ ys))
joined_items xs ys h k =
    proper_seq (xs ++ ys) (all_append (λ v. v ≢ Undef) xs ys h.0 k.0)
    (all_append IsProper xs ys h.1 k.1)

pub with_one_more : (v : Value) (xs : List Value) → v ≢ Undef → IsProper v → AreMembers xs
    → IsProper (Set (with_item v xs))
with_one_more v xs d p h =
    proper_set (with_item v xs) (all-with_item (λ w. w ≢ Undef) v xs d h.0)
    (sorted-with_item v xs h.1) (all-with_item IsProper v xs p h.2)

pub with_more : (set xs : List Value) → AreMembers set → AreItems xs
    → IsProper (Set (with_items set xs))
with_more set xs h k =
    proper_set (with_items set xs) (all-with_items (λ w. w ≢ Undef) set xs h.0 k.0)
    (sorted-with_items set xs h.1) (all-with_items IsProper set xs h.2 k.1)

pub none_yet : AreMembers []
unfolding IsStrictlySortedBy
none_yet = (tt, tt, tt)

pub filtered : (test : Value → Bool) (xs : List Value) → AreMembers xs
    → IsProper (Set (filter test xs))
filtered test xs h =
    proper_set (filter test xs) (all-filter (λ w. w ≢ Undef) test xs h.0)
    (IsStrictlySortedBy-filter compare test xs h.1) (all-filter IsProper test xs h.2)

pub proper_tail : (xs : List Value) → AreItems xs → IsProperResult (sequences.tail_of xs)
proper_tail [] h = proper_undef
proper_tail (x ∷ xs) h = proper_seq xs h.0.1 h.1.1

pub proper_item_at : (xs : List Value) (i : ℤ) → AreProper xs → IsProper (sequences.item_at xs i)
proper_item_at xs (pos i) h = proper_items xs i h
proper_item_at xs (negsuc i) h = proper_undef
