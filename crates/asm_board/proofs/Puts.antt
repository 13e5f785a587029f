-- A slot that is put among models stands under its name, what is taken away stands there no more, and each other name has the slot that it had.
use Rattle.std.proofs.Common.{Bool, true, false, cond, not, ◌≡◌, ◌≢◌, ◌⊎◌, inl, inr, ⊎_elim, ℕ, List, [], ◌∷◌, ◌++◌, Some, None, Option, refl, sym, ap, subst, ◌∙◌}
use Rattle.std.specs.List.{AllByRecursion, Contains}
use Rattle.std.specs.Str.{bytes_eq}
use Rattle.std.specs.Ordering.{nat_cmp}
use Rattle.std.specs.Cmp.Lexicographic.{slice_cmp, nat_list_cmp_total}
use Rattle.std.specs.declared.cmp.Ordering.{Ordering}
use Rattle.std.specs.declared.cmp.Ordering.TheVariants.{Less, Equal, Greater}
use Rattle.std.proofs.lemmas.Cmp.{tied_itself}
use Rattle.std.proofs.lemmas.Slice.Eq.{bytes_eq-Decides}
use Rattle.asm_board.specs.declared.board.Slot.{Slot}
use Rattle.asm_board.specs.declared.board.NamedSlot.{NamedSlot}
use Rattle.std.specs.FinMap.{nat_cmp-IsAntisymmetric, slice_cmp-IsAntisymmetric}
use Rattle.asm_portable.proofs.Ascending.{Has, Has-from_Contains, Contains-from_Has}
use Rattle.asm_board.specs.Slots.{Models, named, slot_in, listed, only, put, without, at_version, changed_to}

-- ---- names

same_name : (x y : List ℕ) → slice_cmp nat_cmp x y ≡ Equal → x ≡ y
same_name = slice_cmp-IsAntisymmetric nat_cmp-IsAntisymmetric

pub one_name : (x y : List ℕ) → bytes_eq x y ≡ true → x ≡ y
one_name x y e = (bytes_eq-Decides x y).0 e

same : (x y : List ℕ) → x ≡ y → bytes_eq x y ≡ true
same x y e = (bytes_eq-Decides x y).1 e

false_by : (t : Bool) → (t ≡ true → ⊥) → t ≡ false
false_by true h = absurd (h refl)
false_by false h = refl

other : (x y : List ℕ) → x ≢ y → bytes_eq x y ≡ false
other x y differs = false_by (bytes_eq x y) (λ e. differs ((bytes_eq-Decides x y).0 e))

-- names that the test tells apart differ
pub other_name : (x y : List ℕ) → bytes_eq x y ≡ false → x ≢ y
other_name x y is e = let unlike : false ≡ true = sym is ∙ same x y e in cc

greater_other : (x y : List ℕ) → slice_cmp nat_cmp x y ≡ Greater → x ≢ y
greater_other x y is e =
    let unlike : Greater ≡ Equal = sym is ∙ subst (λ z. slice_cmp nat_cmp x z ≡ Equal) e (tied_itself nat_list_cmp_total x) in
    cc

-- ---- the model of a name

at_front : (name : List ℕ) (s : Slot) (ms : Models) → slot_in (named name s ∷ ms) name ≡ Some s
at_front name s ms = ap (λ t. cond t (Some s) (slot_in ms name)) (same name name refl)

not_at_front : (name : List ℕ) (s : Slot) (ms : Models) (q : List ℕ) → q ≢ name → slot_in (named name s ∷ ms) q ≡ slot_in ms q
not_at_front name s ms q differs = ap (λ t. cond t (Some s) (slot_in ms q)) (other q name differs)

put_here : (name : List ℕ) (s : Slot) (m : NamedSlot) (ms : Models) (o : Ordering) → slice_cmp nat_cmp name m.name ≡ o → slot_in (put name s ms) name ≡ Some s
    → slot_in (elim o as (λ _. Models) [ Less ↦ named name s ∷ m ∷ ms | Equal ↦ named name s ∷ ms | Greater ↦ m ∷ put name s ms ]) name ≡ Some s
put_here name s m ms Less is h = at_front name s (m ∷ ms)
put_here name s m ms Equal is h = at_front name s ms
put_here name s m ms Greater is h = not_at_front m.name m.slot (put name s ms) name (greater_other name m.name is) ∙ h

pub slot_in-put : (name : List ℕ) (s : Slot) (ms : Models) → slot_in (put name s ms) name ≡ Some s
slot_in-put name s [] = at_front name s []
slot_in-put name s (m ∷ ms) = put_here name s m ms (slice_cmp nat_cmp name m.name) refl (slot_in-put name s ms)

put_other : (name : List ℕ) (s : Slot) (m : NamedSlot) (ms : Models) (q : List ℕ) (o : Ordering) → slice_cmp nat_cmp name m.name ≡ o → q ≢ name → slot_in (put name s ms) q ≡ slot_in ms q
    → slot_in (elim o as (λ _. Models) [ Less ↦ named name s ∷ m ∷ ms | Equal ↦ named name s ∷ ms | Greater ↦ m ∷ put name s ms ]) q ≡ slot_in (m ∷ ms) q
put_other name s m ms q Less is differs h = not_at_front name s (m ∷ ms) q differs
put_other name s m ms q Equal is differs h =
    not_at_front name s ms q differs ∙ sym (not_at_front m.name m.slot ms q (subst (λ n. q ≢ n) (same_name name m.name is) differs))
put_other name s m ms q Greater is differs h = ap (cond (bytes_eq q m.name) (Some m.slot)) h

pub slot_in-put_other : (name : List ℕ) (s : Slot) (ms : Models) (q : List ℕ) → q ≢ name → slot_in (put name s ms) q ≡ slot_in ms q
slot_in-put_other name s [] q differs = not_at_front name s [] q differs
slot_in-put_other name s (m ∷ ms) q differs = put_other name s m ms q (slice_cmp nat_cmp name m.name) refl differs (slot_in-put_other name s ms q differs)

-- ---- a model that is taken away

gone_at : (name : List ℕ) (m : NamedSlot) (ms : Models) (t : Bool) → bytes_eq name m.name ≡ t → slot_in (without name ms) name ≡ None
    → slot_in (cond (not t) (m ∷ without name ms) (without name ms)) name ≡ None
gone_at name m ms true is h = h
gone_at name m ms false is h = ap (λ b. cond b (Some m.slot) (slot_in (without name ms) name)) is ∙ h

pub slot_in-without : (name : List ℕ) (ms : Models) → slot_in (without name ms) name ≡ None
slot_in-without name [] = refl
slot_in-without name (m ∷ ms) = gone_at name m ms (bytes_eq name m.name) refl (slot_in-without name ms)

left_at : (name : List ℕ) (m : NamedSlot) (ms : Models) (q : List ℕ) (t : Bool) → bytes_eq name m.name ≡ t → q ≢ name → slot_in (without name ms) q ≡ slot_in ms q
    → slot_in (cond (not t) (m ∷ without name ms) (without name ms)) q ≡ slot_in (m ∷ ms) q
left_at name m ms q true is differs h = h ∙ sym (not_at_front m.name m.slot ms q (subst (λ n. q ≢ n) (one_name name m.name is) differs))
left_at name m ms q false is differs h = ap (cond (bytes_eq q m.name) (Some m.slot)) h

pub slot_in-without_other : (name : List ℕ) (ms : Models) (q : List ℕ) → q ≢ name → slot_in (without name ms) q ≡ slot_in ms q
slot_in-without_other name [] q differs = refl
slot_in-without_other name (m ∷ ms) q differs = left_at name m ms q (bytes_eq name m.name) refl differs (slot_in-without_other name ms q differs)

-- ---- a model that is changed

pub slot_in-changed_to_other : (k : ℕ) (ms : Models) (name : List ℕ) (o : Option Slot) (q : List ℕ) → q ≢ name → slot_in (changed_to k ms name o) q ≡ slot_in ms q
slot_in-changed_to_other k ms name None q differs = slot_in-without_other name ms q differs
slot_in-changed_to_other k ms name (Some s) q differs = slot_in-put_other name (at_version k s) ms q differs

-- ---- the models of some names

none_listed : (n : List ℕ) (o : Option Slot) (rest : Models) (q : List ℕ) → (o ≡ None) ⊎ (q ≢ n) → slot_in rest q ≡ None → slot_in (listed n o ++ rest) q ≡ None
none_listed n None rest q apart h = h
none_listed n (Some s) rest q apart h =
    ⊎_elim (λ none. absurd (cc (none))) (λ differs. not_at_front n s rest q differs ∙ h) apart

absent_or_other : (ms : Models) (n q : List ℕ) (t : Bool) → bytes_eq q n ≡ t → slot_in ms q ≡ None → (slot_in ms n ≡ None) ⊎ (q ≢ n)
absent_or_other ms n q true is none = inl (subst (λ x. slot_in ms x ≡ None) (one_name q n is) none)
absent_or_other ms n q false is none = inr (other_name q n is)

-- a name without a model isn't among them
none_only : (ms : Models) (names : List (List ℕ)) (q : List ℕ) → slot_in ms q ≡ None → slot_in (only ms names) q ≡ None
none_only ms [] q none = refl
none_only ms (n ∷ ns) q none =
    none_listed n (slot_in ms n) (only ms ns) q (absent_or_other ms n q (bytes_eq q n) refl none) (none_only ms ns q none)

listed_first : (name : List ℕ) (o : Option Slot) (rest : Models) → (o ≡ None → slot_in rest name ≡ None) → slot_in (listed name o ++ rest) name ≡ o
listed_first name None rest none = none refl
listed_first name (Some s) rest none = at_front name s rest

listed_later : (n : List ℕ) (o : Option Slot) (rest : Models) (q : List ℕ) → q ≢ n → slot_in (listed n o ++ rest) q ≡ slot_in rest q
listed_later n None rest q differs = refl
listed_later n (Some s) rest q differs = not_at_front n s rest q differs

only_at : (ms : Models) (n : List ℕ) (ns : List (List ℕ)) (q : List ℕ) (t : Bool) → bytes_eq q n ≡ t → (q ≢ n → slot_in (only ms ns) q ≡ slot_in ms q)
    → slot_in (only ms (n ∷ ns)) q ≡ slot_in ms q
only_at ms n ns q true is rest =
    subst (λ x. slot_in (only ms (n ∷ ns)) x ≡ slot_in ms x) (sym (one_name q n is))
    (listed_first n (slot_in ms n) (only ms ns) (λ none. none_only ms ns n none))
only_at ms n ns q false is rest =
    listed_later n (slot_in ms n) (only ms ns) q (other_name q n is) ∙ rest (other_name q n is)

pub only_has : (ms : Models) (names : List (List ℕ)) (q : List ℕ) → Has names q → slot_in (only ms names) q ≡ slot_in ms q
only_has ms [] q h = absurd h
only_has ms (n ∷ ns) q h =
    only_at ms n ns q (bytes_eq q n) refl (λ differs. ⊎_elim (λ e. absurd (differs (sym e))) (λ later. only_has ms ns q later) h)

-- each of these names has the slot that it has among all models
pub slot_in-only : (ms : Models) (names : List (List ℕ)) (q : List ℕ) → Contains names q → slot_in (only ms names) q ≡ slot_in ms q
slot_in-only ms names q h = only_has ms names q (Has-from_Contains names q h)

some_listed : (ms : Models) (n : List ℕ) (ns : List (List ℕ)) (q : List ℕ) (s : Slot) (o : Option Slot) (t : Bool) → slot_in ms n ≡ o → bytes_eq q n ≡ t
    → (slot_in (only ms ns) q ≡ Some s → slot_in ms q ≡ Some s) → slot_in (listed n o ++ only ms ns) q ≡ Some s → slot_in ms q ≡ Some s
some_listed ms n ns q s None t at test rest is = rest is
some_listed ms n ns q s (Some u) true at test rest is =
    ap (slot_in ms) (one_name q n test) ∙ at ∙ sym (ap (λ b. cond b (Some u) (slot_in (only ms ns) q)) test) ∙ is
some_listed ms n ns q s (Some u) false at test rest is = rest (sym (ap (λ b. cond b (Some u) (slot_in (only ms ns) q)) test) ∙ is)

-- what is among some models is among all
pub some_only : (ms : Models) (names : List (List ℕ)) (q : List ℕ) (s : Slot) → slot_in (only ms names) q ≡ Some s → slot_in ms q ≡ Some s
some_only ms [] q s is = absurd (cc (is))
some_only ms (n ∷ ns) q s is = some_listed ms n ns q s (slot_in ms n) (bytes_eq q n) refl refl (some_only ms ns q s) is

-- ---- the models of the same names again

only_each : (ks bs : Models) (ns : List (List ℕ)) → AllByRecursion (λ n. slot_in ks n ≡ slot_in bs n) ns → only ks ns ≡ only bs ns
only_each ks bs [] same = refl
only_each ks bs (n ∷ ns) same = (λ i. listed n (same.0 i) ++ only ks ns) ∙ ap (λ ms. listed n (slot_in bs n) ++ ms) (only_each ks bs ns same.1)

has_more : (n : List ℕ) (ns qs : List (List ℕ)) → AllByRecursion (Has ns) qs → AllByRecursion (Has (n ∷ ns)) qs
has_more n ns [] all = tt
has_more n ns (q ∷ qs) all = (inr all.0, has_more n ns qs all.1)

has_each : (ns : List (List ℕ)) → AllByRecursion (Has ns) ns
has_each [] = tt
has_each (n ∷ ns) = (inl refl, has_more n ns ns (has_each ns))

same_each : (ms : Models) (ns qs : List (List ℕ)) → AllByRecursion (Has ns) qs → AllByRecursion (λ q. slot_in (only ms ns) q ≡ slot_in ms q) qs
same_each ms ns [] all = tt
same_each ms ns (q ∷ qs) all = (only_has ms ns q all.0, same_each ms ns qs all.1)

-- the models of some names among the models of these names
pub only_again : (ms : Models) (ns : List (List ℕ)) → only (only ms ns) ns ≡ only ms ns
only_again ms ns = only_each (only ms ns) ms ns (same_each ms ns ns (has_each ns))

contained : (ns qs : List (List ℕ)) → AllByRecursion (Has ns) qs → AllByRecursion (Contains ns) qs
contained ns [] all = tt
contained ns (q ∷ qs) all = (Contains-from_Has ns q all.0, contained ns qs all.1)

-- each of these names is among them
pub contains_each : (ns : List (List ℕ)) → AllByRecursion (Contains ns) ns
contains_each ns = contained ns ns (has_each ns)
