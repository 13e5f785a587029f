-- Where a list of refusals is empty, and where the tests behind it are passed.
use Rattle.std.proofs.Common.{◌≡◌, Bool, true, false, ◌&&◌, Option, Some, None, is_some, List, []}
use Rattle.std.proofs.Common.{◌∷◌, ◌++◌, map, refl, sym, ap, ◌∙◌}
use Rattle.std.proofs.lemmas.Bool.{true≢false}
use Rattle.std.specs.List.{AllByRecursion}
use Rattle.asm_value.specs.declared.domain.Domain.{Domain}
use Rattle.asm_typing.specs.declared.types.Type.{«Type» as TermType}
use Rattle.asm_typing.specs.Domains.{type_of}
use Rattle.asm_typing.specs.Fits.{fits}
use Rattle.asm_typing.specs.Joins.{join}
use Rattle.asm_program.specs.declared.type_refusal.TypeRefusal.{TypeRefusal}
use Rattle.asm_program.specs.TypedTerms.{Checked, types, or_else, unless, args_fit, join_with}
use Rattle.asm_program.specs.TypedRules.{own_refused}
use Rattle.asm_program.specs.HasType.{FitEach, HaveJoin}

-- ---- lists

pub not_nil : {A X : Type 0} (x : A) (xs : List A) → x ∷ xs ≡ [] → X
not_nil x xs h = absurd (cc)

pub both_nil : {A : Type 0} (xs ys : List A) → xs ++ ys ≡ [] → (xs ≡ []) × (ys ≡ [])
both_nil [] ys h = (refl, h)
both_nil (x ∷ xs) ys h = not_nil x (xs ++ ys) h

pub nil_both : {A : Type 0} (xs ys : List A) → xs ≡ [] → ys ≡ [] → xs ++ ys ≡ []
nil_both [] ys h k = k
nil_both (x ∷ xs) ys h k = not_nil x xs h

pub else_nil : (parts own : List TypeRefusal) → or_else parts own ≡ [] → (parts ≡ []) × (own ≡ [])
else_nil [] own h = (refl, h)
else_nil (r ∷ rs) own h = not_nil r rs h

pub nil_else : (parts own : List TypeRefusal) → parts ≡ [] → own ≡ [] → or_else parts own ≡ []
nil_else [] own h k = k
nil_else (r ∷ rs) own h k = not_nil r rs h

pub own_nil : (parts own : List TypeRefusal) → own_refused parts own ≡ [] → parts ≡ [] → own ≡ []
own_nil [] own h k = h
own_nil (r ∷ rs) own h k = not_nil r rs k

pub nil_own : (parts own : List TypeRefusal) → own ≡ [] → own_refused parts own ≡ []
nil_own [] own h = h
nil_own (r ∷ rs) own h = refl

pub unless_nil : (b : Bool) (r : TypeRefusal) → unless b r ≡ [] → b ≡ true
unless_nil true r h = refl
unless_nil false r h = not_nil r [] h

pub nil_unless : (b : Bool) (r : TypeRefusal) → b ≡ true → unless b r ≡ []
nil_unless true r h = refl
nil_unless false r h = absurd (true≢false (sym h))

-- ---- types of cases

append_map : {A B : Type 0} (f : A → B) (xs ys : List A) → map f (xs ++ ys)
    ≡ map f xs ++ map f ys
append_map f [] ys = refl
append_map f (x ∷ xs) ys = ap (λ z. f x ∷ z) (append_map f xs ys)

map_map : (cs : List (Checked × Checked)) → map (λ c. c.type) (map (λ c. c.1) cs)
    ≡ map (λ c. c.1.type) cs
map_map [] = refl
map_map (c ∷ cs) = ap (λ z. c.1.type ∷ z) (map_map cs)

pub map_types : (cs : List (Checked × Checked)) (os : List Checked)
    → map (λ c. c.1.type) cs ++ types os ≡ types (map (λ c. c.1) cs ++ os)
map_types cs os =
    ap (λ z. z ++ types os) (sym (map_map cs))
    ∙ sym (append_map (λ c. c.type) (map (λ c. c.1) cs) os)

-- ---- tests

pub both_true : (a b : Bool) → (a && b) ≡ true → (a ≡ true) × (b ≡ true)
both_true true b h = (refl, h)
both_true false b h = absurd (true≢false (sym h))

pub true_both : (a b : Bool) → a ≡ true → b ≡ true → (a && b) ≡ true
true_both true b h k = k
true_both false b h k = absurd (true≢false (sym h))

pub some_of : {A : Type 0} (o : Option A) → is_some o ≡ true → (x : A) × (o ≡ Some x)
some_of (Some x) h = (x, refl)
some_of None h = absurd (true≢false (sym h))

pub some_or_none : {A X : Type 0} (o : Option A) (x : A) → o ≡ None → o ≡ Some x → X
some_or_none o x h k = absurd (cc)

pub of_some : {A : Type 0} (o : Option A) (x : A) → o ≡ Some x → is_some o ≡ true
of_some o x e = ap is_some e

pub fit_each : (ss : List TermType) (ds : List Domain) → args_fit ss ds ≡ true → FitEach ss ds
fit_each [] [] h = tt
fit_each [] (d ∷ ds) h = absurd (true≢false (sym h))
fit_each (s ∷ ss) [] h = absurd (true≢false (sym h))
fit_each (s ∷ ss) (d ∷ ds) h =
    let both = both_true (fits s (type_of d)) (args_fit ss ds) h in
    (both.0, fit_each ss ds both.1)

pub each_fit : (ss : List TermType) (ds : List Domain) → FitEach ss ds → args_fit ss ds ≡ true
each_fit [] [] h = refl
each_fit [] (d ∷ ds) h = absurd h
each_fit (s ∷ ss) [] h = absurd h
each_fit (s ∷ ss) (d ∷ ds) h =
    true_both (fits s (type_of d)) (args_fit ss ds) h.0 (each_fit ss ds h.1)

pub have_joins : (s : TermType) (ts : List TermType) → join_with s ts ≡ true
    → AllByRecursion (HaveJoin s) ts
have_joins s [] h = tt
have_joins s (t ∷ ts) h =
    let both = both_true (is_some (join s t)) (join_with s ts) h in
    (some_of (join s t) both.0, have_joins s ts both.1)

pub joins_have : (s : TermType) (ts : List TermType) → AllByRecursion (HaveJoin s) ts
    → join_with s ts ≡ true
joins_have s [] h = refl
joins_have s (t ∷ ts) h =
    true_both (is_some (join s t)) (join_with s ts) (of_some (join s t) h.0.0 h.0.1)
    (joins_have s ts h.1)
