-- Values by their one level, and lists of what passes a test, from which the lists of a product and
-- of a powerset are made.
use Rattle.std.proofs.Common.{◌≡◌, ◌≢◌, inl, ℕ, ℤ, pos, ◌<◌, ◌==◌, Bool, true, false, Option, Some}
use Rattle.std.proofs.Common.{None, List, [], ◌∷◌, length, refl, sym, ap, subst, ◌∙◌, rules, arith}
use Rattle.std.specs.List.{AllByRecursion, list_any, list_all}
use Rattle.std.specs.List.Sorted.{IsStrictlySortedBy}
use Rattle.std.specs.declared.cmp.Ordering.TheVariants.{Less, Equal}
use Rattle.std.specs.Ordering.{ordering_then, nat_cmp, int_cmp, int_eq}
use Rattle.std.specs.Cmp.{int_cmp_total}
use Rattle.std.specs.Cmp.Lexicographic.{slice_cmp}
use Rattle.std.proofs.lemmas.Cmp.{tied_itself}
use Rattle.std.proofs.lemmas.Bool.Decides.{Decides-ltb}
use Rattle.asm_value.specs.declared.value.Value.{Value}
use Rattle.asm_value.specs.declared.value.Value.TheOpen.{Value-F}
use Rattle.asm_value.specs.declared.value.Value.TheVariants.{Undef, Truth, Int, Member, Tuple, Set}
use Rattle.asm_value.specs.declared.value.Value.TheViews as views
use Rattle.asm_value.specs.declared.value.Value.TheViews.{out-Value, roll-Value}
use Rattle.asm_value.specs.declared.domain.DomainInfo.{DomainInfo}
use Rattle.asm_value.specs.declared.domain.DomainKind.{DomainKind}
use Rattle.asm_value.specs.declared.domain.DomainKind.TheVariants as kind
use Rattle.asm_value.specs.Value.{items, head_cmp, compare}
use Rattle.asm_value.specs.TotalOrders.{roll_out, compare-parts}
use Rattle.asm_value.specs.Proper.{IsProper, IsProperLevel}
use Rattle.asm_value.proofs.ProperLaws.{IsProper-made}
use Rattle.asm_value.specs.Domain.{each_passes, has_literal, has_number}
use Rattle.asm_value.specs.Ranges.{Mem, tuples, sets_of}
use Rattle.asm_value.proofs.Listing.{first_true, second_true, both_true, mem_each_first}
use Rattle.asm_value.proofs.Listing.{all_each_first, all_sets, all_both, sets_ascend}
use Rattle.asm_value.specs.Members.{Lists, members, literals_of, numbers_of}

-- ---- one level of a value

pub out_undef : out-Value Undef ≡ Value-F.Undef
out_undef = search (rules, views.the_lemmas)

pub out_truth : (b : Bool) → out-Value (Truth b) ≡ Value-F.Truth b
out_truth b = search (rules, views.the_lemmas)

pub out_int : (n : ℤ) → out-Value (Int n) ≡ Value-F.Int n
out_int n = search (rules, views.the_lemmas)

pub out_member : (d i : ℕ) → out-Value (Member d i) ≡ Value-F.Member d i
out_member d i = search (rules, views.the_lemmas)

pub out_tuple : (xs : List Value) → out-Value (Tuple xs) ≡ Value-F.Tuple xs
out_tuple xs = search (rules, views.the_lemmas)

pub out_set : (xs : List Value) → out-Value (Set xs) ≡ Value-F.Set xs
out_set xs = search (rules, views.the_lemmas)

pub same_out : (v w : Value) → out-Value v ≡ out-Value w → v ≡ w
same_out v w e = sym (roll_out v) ∙ ap roll-Value e ∙ roll_out w

pub proper_as : (v : Value) (a : Value-F Value) → out-Value v ≡ a → IsProperLevel a
    → AllByRecursion IsProper (items a) → IsProper v
proper_as v a e level h =
    IsProper-made v (subst IsProperLevel (sym e) level)
    (subst (λ b. AllByRecursion IsProper (items b)) (sym e) h)

pub compare_as : (v w : Value) (a b : Value-F Value) → out-Value v ≡ a → out-Value w ≡ b
    → compare v w ≡ ordering_then (head_cmp a b) (slice_cmp compare (items a) (items b))
compare_as v w a b e f =
    compare-parts v w ∙ (λ i. ordering_then (head_cmp (e i) (f i))
    (slice_cmp compare (items (e i)) (items (f i))))

pub truth_less : compare (Truth false) (Truth true) ≡ Less
truth_less = compare_as _ _ _ _ (out_truth false) (out_truth true)

pub member_less : (d i j : ℕ) → nat_cmp i j ≡ Less → compare (Member d i) (Member d j) ≡ Less
member_less d i j h =
    compare_as _ _ _ _ (out_member d i) (out_member d j)
    ∙ (λ k. ordering_then (ordering_then (tied_itself int_cmp_total (pos d) k)
    (ordering_then (h k) Equal)) Equal)

pub int_less : (m n : ℤ) → int_cmp m n ≡ Less → compare (Int m) (Int n) ≡ Less
int_less m n h =
    compare_as _ _ _ _ (out_int m) (out_int n)
    ∙ (λ k. ordering_then (ordering_then (h k) Equal) Equal)

pub tuple_less : (xs ys : List Value) → slice_cmp compare xs ys ≡ Less
    → compare (Tuple xs) (Tuple ys) ≡ Less
tuple_less xs ys h = compare_as _ _ _ _ (out_tuple xs) (out_tuple ys) ∙ h

pub set_less : (xs ys : List Value) → slice_cmp compare xs ys ≡ Less
    → compare (Set xs) (Set ys) ≡ Less
set_less xs ys h = compare_as _ _ _ _ (out_set xs) (out_set ys) ∙ h

-- ---- what the declared domains have

pub kind_below : (k : DomainKind) (i : ℕ) → has_literal k i ≡ true → i < literals_of k
kind_below (kind.Enum names) i e = (Decides-ltb i (length names)).0 e
kind_below (kind.Abstract names) i e = absurd (cc)
kind_below (kind.Subset numbers) i e = absurd (cc)

pub kind_has : (k : DomainKind) (i : ℕ) → i < literals_of k → has_literal k i ≡ true
kind_has (kind.Enum names) i h = (Decides-ltb i (length names)).1 h
kind_has (kind.Abstract names) i h = absurd (omega (arith, h))
kind_has (kind.Subset numbers) i h = absurd (omega (arith, h))

pub kind_numbers : (k : DomainKind) (n : ℤ)
    → has_number k n ≡ list_any (λ m. int_eq m n) (numbers_of k)
kind_numbers (kind.Enum names) n = refl
kind_numbers (kind.Abstract names) n = refl
kind_numbers (kind.Subset numbers) n = refl

pub literal_below : (o : Option DomainInfo) (i : ℕ)
    → elim o as (λ _. Bool) [ None ↦ false | Some info ↦ has_literal info.kind i ] ≡ true
    → i < elim o as (λ _. ℕ) [ None ↦ 0 | Some info ↦ literals_of info.kind ]
literal_below None i e = absurd (cc)
literal_below (Some info) i e = kind_below info.kind i e

pub literal_is : (o : Option DomainInfo) (i : ℕ)
    → i < elim o as (λ _. ℕ) [ None ↦ 0 | Some info ↦ literals_of info.kind ]
    → elim o as (λ _. Bool) [ None ↦ false | Some info ↦ has_literal info.kind i ] ≡ true
literal_is None i h = absurd (omega (arith, h))
literal_is (Some info) i h = kind_has info.kind i h

pub number_is : (o : Option DomainInfo) (n : ℤ)
    → elim o as (λ _. Bool) [ None ↦ false | Some info ↦ has_number info.kind n ]
    ≡ list_any (λ m. int_eq m n)
    (elim o as (λ _. List ℤ) [ None ↦ [] | Some info ↦ numbers_of info.kind ])
number_is None n = refl
number_is (Some info) n = kind_numbers info.kind n

pub live_is : (o : Option (List ℕ)) (i : ℕ)
    → elim o as (λ _. Bool) [ None ↦ false | Some members ↦ list_any (λ j. j == i) members ]
    ≡ list_any (λ j. j == i) (elim o as (λ _. List ℕ) [ None ↦ [] | Some indexes ↦ indexes ])
live_is None i = refl
live_is (Some members) i = refl

-- ---- products

abbrev pub IsMember : (Value → Bool) → Value → Type 0
IsMember test v = IsProper v × (test v ≡ true)

pub defined_from : (test : Value → Bool) → test Undef ≡ false → (v : Value) → test v ≡ true
    → v ≢ Undef
defined_from test d v t e = let unlike : true ≡ false = sym t ∙ ap test e ∙ d in cc

abbrev pub EachLists : List (Value → Bool) → List (List Value) → Type 0
EachLists [] [] = Unit {0}
EachLists [] (r ∷ rs) = ⊥
EachLists (t ∷ ts) [] = ⊥
EachLists (t ∷ ts) (r ∷ rs) = Lists t r × EachLists ts rs

abbrev pub FitsEach : List (Value → Bool) → List Value → Type 0
FitsEach ts zs =
    AllByRecursion IsProper zs × (AllByRecursion (λ v. v ≢ Undef) zs × (each_passes ts zs ≡ true))

pub ranges_ascend : (ts : List (Value → Bool)) (rs : List (List Value)) → EachLists ts rs
    → AllByRecursion (IsStrictlySortedBy compare) rs
ranges_ascend [] [] h = tt
ranges_ascend [] (r ∷ rs) h = absurd h
ranges_ascend (t ∷ ts) [] h = absurd h
ranges_ascend (t ∷ ts) (r ∷ rs) h = (h.0.ascends, ranges_ascend ts rs h.1)

pub tuples_fit : (ts : List (Value → Bool)) (rs : List (List Value)) → EachLists ts rs
    → AllByRecursion (FitsEach ts) (tuples rs)
tuples_fit [] [] h = ((tt, (tt, refl)), tt)
tuples_fit [] (r ∷ rs) h = absurd h
tuples_fit (t ∷ ts) [] h = absurd h
tuples_fit (t ∷ ts) (r ∷ rs) h = all_each_first (IsMember t) (FitsEach ts) (FitsEach (t ∷ ts))
    (λ x zs q s. (
      (q.0, s.0),
      (
        (defined_from t h.0.defined x q.1, s.1.0),
        both_true (t x)
            (each_passes ts zs) q.1 s.1.1,
      ),
    ))
    r (tuples rs) h.0.fit (tuples_fit ts rs h.1)

pub tuples_complete : (ts : List (Value → Bool)) (rs : List (List Value)) → EachLists ts rs
    → (zs : List Value) → AllByRecursion IsProper zs → each_passes ts zs ≡ true → Mem zs (tuples rs)
tuples_complete [] [] h [] p e = inl refl
tuples_complete [] [] h (z ∷ zs) p e = absurd (cc)
tuples_complete [] (r ∷ rs) h zs p e = absurd h
tuples_complete (t ∷ ts) [] h zs p e = absurd h
tuples_complete (t ∷ ts) (r ∷ rs) h [] p e = absurd (cc)
tuples_complete (t ∷ ts) (r ∷ rs) h (z ∷ zs) p e =
    mem_each_first z zs r (tuples rs) (h.0.complete z p.0 (first_true (t z) _ e))
    (tuples_complete ts rs h.1 zs p.1 (second_true (t z) _ e))

-- ---- powersets

abbrev pub FitsSet : (Value → Bool) → List Value → Type 0
FitsSet t zs = IsStrictlySortedBy compare zs × AllByRecursion (IsMember t) zs

pub sets_fit : (t : Value → Bool) (vs : List Value) → Lists t vs
    → AllByRecursion (FitsSet t) (sets_of vs)
sets_fit t vs h =
    all_both (IsStrictlySortedBy compare) (λ zs. AllByRecursion (IsMember t) zs) (FitsSet t)
    (λ zs a b. (a, b)) (sets_of vs)
    (sets_ascend compare vs h.ascends) (all_sets (IsMember t) vs h.fit)

pub items_proper : (t : Value → Bool) (zs : List Value) → AllByRecursion (IsMember t) zs
    → AllByRecursion IsProper zs
items_proper t [] h = tt
items_proper t (z ∷ zs) h = (h.0.0, items_proper t zs h.1)

pub items_defined : (t : Value → Bool) → t Undef ≡ false → (zs : List Value)
    → AllByRecursion (IsMember t) zs → AllByRecursion (λ v. v ≢ Undef) zs
items_defined t d [] h = tt
items_defined t d (z ∷ zs) h = (defined_from t d z h.0.1, items_defined t d zs h.1)

pub items_pass : (t : Value → Bool) (zs : List Value) → AllByRecursion (IsMember t) zs
    → list_all t zs ≡ true
items_pass t [] h = refl
items_pass t (z ∷ zs) h = both_true (t z) (list_all t zs) h.0.1 (items_pass t zs h.1)

pub items_listed : (t : Value → Bool) (vs : List Value) → Lists t vs → (zs : List Value)
    → AllByRecursion IsProper zs → list_all t zs ≡ true → AllByRecursion (λ z. Mem z vs) zs
items_listed t vs h [] p e = tt
items_listed t vs h (z ∷ zs) p e =
    (h.complete z p.0 (first_true (t z) _ e), items_listed t vs h zs p.1 (second_true (t z) _ e))
