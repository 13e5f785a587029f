-- Two lists of one set's items are read as one value, whatever their order and their repeats.
use Rattle.std.proofs.Common.{◌≡◌, ◌||◌, Bool, true, false, cond, Ok, List, [], ◌∷◌, refl, sym, ap, subst, ◌∙◌, rules}
use Rattle.std.specs.List.{AllByRecursion}
use Rattle.std.specs.List.Sorted.{IsStrictlySortedBy}
use Rattle.std.specs.declared.cmp.Ordering.{Ordering}
use Rattle.std.specs.declared.cmp.Ordering.TheVariants.{Less, Equal, Greater}
use Rattle.std.specs.Ordering.{is_eq, eq_by_cmp, ordering_reverse}
use Rattle.std.proofs.lemmas.Cmp.{tied_itself}
use Rattle.asm_value.specs.declared.value.Value.{Value}
use Rattle.asm_value.specs.declared.value.Value.TheVariants.{Set}
use Rattle.asm_value.specs.declared.domain.Domain.{Domain}
use Rattle.asm_value.specs.declared.domain.Domain.TheVariants.{Power}
use Rattle.asm_value.specs.declared.domain.Domain.TheViews.{the_lemmas}
use Rattle.asm_value.specs.declared.domain.DomainInfo.{DomainInfo}
use Rattle.asm_value.specs.declared.domain.Live.{Live}
use Rattle.asm_value.specs.Value.{compare}
use Rattle.asm_value.specs.Proper.{AreDefined}
use Rattle.asm_value.specs.TotalOrders.{compare_total, compare-IsAntisymmetric}
use Rattle.asm_value.proofs.RangeLaws.{all_weaker}
use Rattle.asm_operations.specs.Limits.{limited}
use Rattle.asm_operations.specs.Results.{undefined}
use Rattle.asm_operations.specs.Sets.{has, set_items}
use Rattle.asm_operations.specs.Operations.{set_of}
use Rattle.asm_operations.proofs.SetLaws.{sorted-with_items, has-with_items}
use Rattle.asm_portable.specs.declared.port.Port.{Port}
use Rattle.asm_portable.specs.declared.port.Port.TheVariants as ports
use Rattle.asm_portable.specs.Ports.{list_level}
use Rattle.asm_portable.specs.Reading.{Read, on_read, kept, items_read, listed_read, set_read, value_of}
use Rattle.asm_portable.proofs.ReadingLaws.{value_of-out}
use Rattle.asm_portable.proofs.Levels.{out_port_list}
use Rattle.asm_portable.proofs.PartsBack.{all_defined}
use Rattle.asm_portable.proofs.Found.{items_from, all_good, finds_good, all_there}

-- ---- ascending lists with the same members

abbrev same : Value → Value → Bool
same = eq_by_cmp compare

above : (x v : Value) → compare x v ≡ Less → same x v ≡ false
above x v e = ap is_eq e

itself : (x : Value) → same x x ≡ true
itself x = ap is_eq (tied_itself compare_total x)

-- no value is among those above it
not_among : (v : Value) (xs : List Value) → AllByRecursion (λ x. compare v x ≡ Less) xs → has xs v ≡ false
not_among v [] h = refl
not_among v (x ∷ xs) h =
    let turned : compare x v ≡ Greater = compare_total.antisymm x v ∙ ap ordering_reverse h.0 in
    let here : same x v ≡ false = ap is_eq turned in
    let later = not_among v xs h.1 in
    cc

below_all : (v x : Value) (xs : List Value) → compare v x ≡ Less
    → AllByRecursion (λ y. compare x y ≡ Less) xs → AllByRecursion (λ y. compare v y ≡ Less) (x ∷ xs)
below_all v x xs e h = (e, all_weaker (λ y. compare x y ≡ Less) (λ y. compare v y ≡ Less) (λ y f. compare_total.trans v x y e f) xs h)

has_first : (x : Value) (xs : List Value) → has (x ∷ xs) x ≡ true
has_first x xs = let here = itself x in cc

tied : (o : Ordering) → is_eq o ≡ true → o ≡ Equal
tied Less e = absurd (cc)
tied Equal e = refl
tied Greater e = absurd (cc)

drop_first : (b p q : Bool) → (b || p) ≡ (b || q) → (b ≡ true → p ≡ q) → p ≡ q
drop_first true p q e h = h refl
drop_first false p q e h = e

-- of two equal heads, what is behind has the same members
tails : (x y : Value) (xs ys : List Value) → AllByRecursion (λ w. compare x w ≡ Less) xs
    → AllByRecursion (λ w. compare y w ≡ Less) ys
    → ((v : Value) → has (x ∷ xs) v ≡ has (y ∷ ys) v) → x ≡ y → (v : Value) → has xs v ≡ has ys v
tails x y xs ys h k e is v =
    drop_first (same x v) (has xs v) (has ys v) (e v ∙ ap (λ z. same z v || has ys v) (sym is))
    (λ t.
    let v_is : x ≡ v = compare-IsAntisymmetric x v (tied (compare x v) t) in
    subst (λ w. has xs w ≡ has ys w) v_is
    (not_among x xs h ∙ sym (not_among x ys (subst (λ z. AllByRecursion (λ w. compare z w ≡ Less) ys) (sym is) k))))

heads_tie : (x y : Value) (xs ys : List Value) → AllByRecursion (λ w. compare x w ≡ Less) xs
    → AllByRecursion (λ w. compare y w ≡ Less) ys
    → ((v : Value) → has (x ∷ xs) v ≡ has (y ∷ ys) v) → (x ≡ y → xs ≡ ys)
    → (o : Ordering) → compare x y ≡ o → x ∷ xs ≡ y ∷ ys
heads_tie x y xs ys h k e rest Less c =
    absurd (let f = e x in let g = has_first x xs in let n = not_among x (y ∷ ys) (below_all x y ys c k) in cc)
heads_tie x y xs ys h k e rest Equal c =
    let is = compare-IsAntisymmetric x y c in
    let more = rest is in
    λ i. is i ∷ more i
heads_tie x y xs ys h k e rest Greater c =
    let turned : compare y x ≡ Less = compare_total.antisymm y x ∙ ap ordering_reverse c in
    absurd (let f = e y in let g = has_first y ys in let n = not_among y (x ∷ xs) (below_all y x xs turned h) in cc)

pub same_list : (xs ys : List Value) → IsStrictlySortedBy compare xs → IsStrictlySortedBy compare ys
    → ((v : Value) → has xs v ≡ has ys v) → xs ≡ ys
unfolding IsStrictlySortedBy
same_list [] [] h k e = refl
same_list [] (y ∷ ys) h k e = absurd (let f = e y in let g = has_first y ys in cc)
same_list (x ∷ xs) [] h k e = absurd (let f = e x in let g = has_first x xs in cc)
same_list (x ∷ xs) (y ∷ ys) h k e =
    heads_tie x y xs ys h.0 k.0 e (λ is. same_list xs ys h.1 k.1 (tails x y xs ys h.0 k.0 e is)) (compare x y) refl

sorted_set : (xs : List Value) → IsStrictlySortedBy compare (set_items xs)
unfolding IsStrictlySortedBy
sorted_set xs = sorted-with_items [] xs tt

one_set : (xs ys : List Value) → ((v : Value) → has xs v ≡ has ys v) → set_items xs ≡ set_items ys
one_set xs ys e =
    same_list (set_items xs) (set_items ys) (sorted_set xs) (sorted_set ys)
    (λ v. has-with_items [] xs v ∙ e v ∙ sym (has-with_items [] ys v))

-- ---- readings

kept_set : (xs : List Value) → AreDefined xs → kept (set_of xs) ≡ kept (limited (Set (set_items xs)))
kept_set xs h = ap (λ b. kept (cond b undefined (limited (Set (set_items xs))))) (all_defined xs h)

module _ (domains : List DomainInfo) (live : Live) (d : Domain) where
  abbrev read : Port → Read Value
  read = value_of domains live d

  value_of-Power : (t : Port) → value_of domains live (Power d) t ≡ set_read read t
  value_of-Power t = search (rules, value_of-out domains live (Power d) t, the_lemmas)

  set_is : (ts : List Port) (xs : List Value) → items_read read 0 ts ≡ Ok xs
      → value_of domains live (Power d) (ports.List ts) ≡ kept (limited (Set (set_items xs)))
  set_is ts xs e =
      let go = λ (r : Read (List Value)). on_read r (λ vs. kept (set_of vs)) in
      value_of-Power (ports.List ts)
      ∙ ap (λ a. listed_read (λ trees. go (items_read read 0 trees)) (list_level a)) (out_port_list ts)
      ∙ ap go e
      ∙ kept_set xs (all_there domains live d xs (all_good domains live d (finds_good domains live d) xs (items_from read 0 ts xs e)))

  pub one_value : (ts us : List Port) (xs ys : List Value) → items_read read 0 ts ≡ Ok xs
      → items_read read 0 us ≡ Ok ys → ((v : Value) → has xs v ≡ has ys v)
      → value_of domains live (Power d) (ports.List ts) ≡ value_of domains live (Power d) (ports.List us)
  one_value ts us xs ys e f same =
      set_is ts xs e ∙ ap (λ zs. kept (limited (Set zs))) (one_set xs ys same) ∙ sym (set_is us ys f)
