-- Proof terms that the ghost items `laws` and `total` of values, locations and updates need: their
-- orders are
-- total, and only equal ones tie.
use Rattle.std.proofs.Common.{◌≡◌, ℕ, true, false, List, [], ◌∷◌, map, refl, sym, ap, subst, ◌∙◌}
use Rattle.std.proofs.Common.{rules, arith}
use Rattle.std.specs.List.{AllByRecursion}
use Rattle.std.specs.declared.cmp.Ordering.{Ordering}
use Rattle.std.specs.declared.cmp.Ordering.TheVariants.{Equal}
use Rattle.std.specs.Ordering.{ordering_then, nat_cmp, int_cmp}
use Rattle.std.specs.Cmp.{IsTotalOrder, nat_cmp_total, int_cmp_total, then_total, on_total}
use Rattle.std.specs.Cmp.Lexicographic.{slice_cmp, nat_list_cmp_total, lists_total}
use Rattle.std.specs.FinMap.{IsAntisymmetric, nat_cmp-IsAntisymmetric, int_cmp-IsAntisymmetric}
use Rattle.std.specs.FinMap.{slice_cmp-IsAntisymmetric}
use Rattle.asm_base.proofs.TreeOrder.{Inducts, GoesByParts, tree_ties, tree_total, then_equal}
use Rattle.asm_value.specs.declared.value.Value.{Value}
use Rattle.asm_value.specs.declared.value.Value.TheOpen.{Value-F}
use Rattle.asm_value.specs.declared.value.Value.TheFolds.{fold_out-Value, ind-Value, map-Value}
use Rattle.asm_value.specs.declared.value.Value.TheViews.{out-Value, roll-Value, the_lemmas}
use Rattle.asm_value.specs.declared.location.Subject.{Subject}
use Rattle.asm_value.specs.declared.location.Subject.TheVariants.{Function, Domain}
use Rattle.asm_value.specs.Value.{kind, number, index, bytes, items, head_cmp, parts, compare_head}
use Rattle.asm_value.specs.Value.{compare}
use Rattle.asm_value.specs.Location.{subject_cmp, location_cmp, update_cmp}

-- ---- one level

module _ {A B : Type 0} (h : A → B) where
  pub items-map : (a : Value-F A) → items (map-Value A B h a) ≡ map h (items a)
  items-map Value-F.Undef = refl
  items-map (Value-F.Truth b) = refl
  items-map (Value-F.Int n) = refl
  items-map (Value-F.Chars t) = refl
  items-map (Value-F.Member d i) = refl
  items-map (Value-F.Tuple xs) = refl
  items-map (Value-F.Seq xs) = refl
  items-map (Value-F.Set xs) = refl

  head_cmp-map : {C : Type 0} (a : Value-F A) (b : Value-F C)
      → head_cmp (map-Value A B h a) b ≡ head_cmp a b
  head_cmp-map Value-F.Undef b = refl
  head_cmp-map (Value-F.Truth c) b = refl
  head_cmp-map (Value-F.Int n) b = refl
  head_cmp-map (Value-F.Chars t) b = refl
  head_cmp-map (Value-F.Member d i) b = refl
  head_cmp-map (Value-F.Tuple xs) b = refl
  head_cmp-map (Value-F.Seq xs) b = refl
  head_cmp-map (Value-F.Set xs) b = refl

alike : (a b : Value-F Value) → kind a ≡ kind b → number a ≡ number b → index a ≡ index b
    → bytes a ≡ bytes b → items a ≡ items b → a ≡ b
alike Value-F.Undef Value-F.Undef k n i t xs = refl
alike (Value-F.Truth true) (Value-F.Truth true) k n i t xs = refl
alike (Value-F.Truth false) (Value-F.Truth false) k n i t xs = refl
alike (Value-F.Truth true) (Value-F.Truth false) k n i t xs = absurd (cc)
alike (Value-F.Truth false) (Value-F.Truth true) k n i t xs = absurd (cc)
alike (Value-F.Int m) (Value-F.Int m') k n i t xs = ap (λ z. Value-F.Int z) n
alike (Value-F.Chars a) (Value-F.Chars b) k n i t xs = ap (λ z. Value-F.Chars z) t
alike (Value-F.Member d a) (Value-F.Member e b) k n i t xs = cc
alike (Value-F.Tuple a) (Value-F.Tuple b) k n i t xs = ap (λ z. Value-F.Tuple z) xs
alike (Value-F.Seq a) (Value-F.Seq b) k n i t xs = ap (λ z. Value-F.Seq z) xs
alike (Value-F.Set a) (Value-F.Set b) k n i t xs = ap (λ z. Value-F.Set z) xs
alike a b k n i t xs = absurd (omega arith)

-- ---- a value

pub out_roll : (a : Value-F Value) → out-Value (roll-Value a) ≡ a
out_roll a = search (rules, the_lemmas)

pub roll_out : (v : Value) → roll-Value (out-Value v) ≡ v
roll_out v = search (rules, the_lemmas)

pub each_with : (P : Value → Type 0) (es : List ((v : Value) × P v))
    → AllByRecursion P (map (λ e. e.0) es)
each_with P [] = tt
each_with P (e ∷ es) = (e.1, each_with P es)

-- Induction over values: what holds of each value whose parts have it holds of every value.
pub by_parts : Inducts parts
by_parts P step =
    ind-Value P (λ x y is. step (roll-Value x)
    (subst (AllByRecursion P) (sym
    (ap items (out_roll x) ∙ ap items (sym is) ∙ items-map (λ e. e.0) y)) (each_with P (items y))))

slice_cmp-map : (f : Value → Value → Ordering) (xs ys : List Value)
    → slice_cmp (λ g. g) (map f xs) ys ≡ slice_cmp f xs ys
slice_cmp-map f [] [] = refl
slice_cmp-map f [] (y ∷ ys) = refl
slice_cmp-map f (x ∷ xs) [] = refl
slice_cmp-map f (x ∷ xs) (y ∷ ys) = ap (ordering_then (f x y)) (slice_cmp-map f xs ys)

level_is : (f : Value → Value → Ordering) (a : Value-F Value) (w : Value)
    → ordering_then (head_cmp (map-Value Value (Value → Ordering) f a) (out-Value w))
    (slice_cmp (λ g. g) (items (map-Value Value (Value → Ordering) f a)) (parts w))
    ≡ ordering_then (head_cmp a (out-Value w)) (slice_cmp f (items a) (parts w))
level_is f a w =
    λ i. ordering_then (head_cmp-map f a (out-Value w) i)
    ((ap (λ fs. slice_cmp (λ g. g) fs (parts w)) (items-map f a)
    ∙ slice_cmp-map f (items a) (parts w)) i)

-- what `compare` computes at two values
pub compare-parts : GoesByParts parts compare_head compare
unfolding compare
compare-parts x y =
    ap (λ f. f y) (fold_out-Value (Value → Ordering) _ x) ∙ level_is compare (out-Value x) y

head_total : IsTotalOrder compare_head
head_total = then_total (on_total (λ v. kind (out-Value v)) nat_cmp_total)
    (then_total (on_total (λ v. number (out-Value v)) int_cmp_total)
    (then_total (on_total (λ v. index (out-Value v)) nat_cmp_total)
    (on_total (λ v. bytes (out-Value v)) nat_list_cmp_total)))

head_alone : (x y : Value) → head_cmp (out-Value x) (out-Value y) ≡ Equal → parts x ≡ parts y
    → x ≡ y
head_alone x y e xs =
    let a = out-Value x in
    let b = out-Value y in
    let first = then_equal (nat_cmp (kind a) (kind b)) _ e in
    let second = then_equal (int_cmp (number a) (number b)) _ first.1 in
    let third = then_equal (nat_cmp (index a) (index b)) _ second.1 in
    let same = alike a b (nat_cmp-IsAntisymmetric _ _ first.0)
    (int_cmp-IsAntisymmetric _ _ second.0) (nat_cmp-IsAntisymmetric _ _ third.0)
    (slice_cmp-IsAntisymmetric nat_cmp-IsAntisymmetric _ _ third.1) xs in
    sym (roll_out x) ∙ ap roll-Value same ∙ roll_out y

-- only equal values tie
pub compare-IsAntisymmetric : IsAntisymmetric compare
compare-IsAntisymmetric = tree_ties parts _ compare by_parts compare-parts head_total head_alone

pub compare_total : IsTotalOrder compare
compare_total = tree_total parts _ compare by_parts compare-parts head_total head_alone

-- ---- locations and updates

abbrev side : Subject → ℕ
side (Function f) = 0
side (Domain d) = 1

abbrev subject_number : Subject → ℕ
subject_number (Function f) = f
subject_number (Domain d) = d

subject_is : (p q : Subject)
    → ordering_then (nat_cmp (side p) (side q)) (nat_cmp (subject_number p) (subject_number q))
    ≡ subject_cmp p q
subject_is (Function f) (Function g) = refl
subject_is (Function f) (Domain e) = refl
subject_is (Domain d) (Function g) = refl
subject_is (Domain d) (Domain e) = refl

pub subject_cmp_total : IsTotalOrder subject_cmp
subject_cmp_total =
    subst (λ (R : Subject → Subject → Ordering). IsTotalOrder R) (λ i p q. subject_is p q i)
    (then_total (on_total side nat_cmp_total) (on_total subject_number nat_cmp_total))

pub subject_cmp-IsAntisymmetric : IsAntisymmetric subject_cmp
subject_cmp-IsAntisymmetric (Function f) (Function g) e =
    ap (λ n. Function n) (nat_cmp-IsAntisymmetric f g e)
subject_cmp-IsAntisymmetric (Function f) (Domain d) e = absurd (cc)
subject_cmp-IsAntisymmetric (Domain d) (Function g) e = absurd (cc)
subject_cmp-IsAntisymmetric (Domain d) (Domain b) e =
    ap (λ n. Domain n) (nat_cmp-IsAntisymmetric d b e)

pub location_cmp_total : IsTotalOrder location_cmp
location_cmp_total =
    then_total (on_total (λ l. l.subject) subject_cmp_total)
    (on_total (λ l. l.args) (lists_total compare_total))

pub location_cmp-IsAntisymmetric : IsAntisymmetric location_cmp
location_cmp-IsAntisymmetric l m e =
    let p = then_equal (subject_cmp l.subject m.subject) _ e in
    let subject = subject_cmp-IsAntisymmetric _ _ p.0 in
    let args = slice_cmp-IsAntisymmetric compare-IsAntisymmetric _ _ p.1 in
    λ i. record { subject = subject i; args = args i }

pub update_cmp_total : IsTotalOrder update_cmp
update_cmp_total =
    then_total (on_total (λ u. u.location) location_cmp_total)
    (on_total (λ u. u.value) compare_total)

pub update_cmp-IsAntisymmetric : IsAntisymmetric update_cmp
update_cmp-IsAntisymmetric u v e =
    let p = then_equal (location_cmp u.location v.location) _ e in
    let location = location_cmp-IsAntisymmetric _ _ p.0 in
    let value = compare-IsAntisymmetric _ _ p.1 in
    λ i. record { location = location i; value = value i }
