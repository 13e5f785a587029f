-- Calls, for anything that is said of terms level by level: what is said depends on calls of
-- functions of lower nesting alone, and following calls deeper than they nest changes nothing.
use Rattle.std.proofs.Common.{◌≡◌, ℕ, zero, suc, ◌+◌, ◌<◌, ◌≤◌, max, Bool, true, false, ◌&&◌}
use Rattle.std.proofs.Common.{Option, Some, None, List, [], ◌∷◌, ◌++◌, map, length, slice_get}
use Rattle.std.proofs.Common.{refl, sym, ap, subst, ◌∙◌, arith, rules, ◌==◌, unwrap_or}
use Rattle.std.specs.Prelude.{IsTrue}
use Rattle.std.specs.List.{list_all, range_with_len}
use Rattle.std.specs.Option.{option_map_or}
use Rattle.std.proofs.lemmas.Bool.Decides.{nat_tests}
use Rattle.asm_program.specs.declared.trees.Term.{Term}
use Rattle.asm_program.specs.declared.trees.Case.{Case}
use Rattle.asm_program.specs.declared.trees.Term.TheOpen.{Term-F, Case-F}
use Rattle.asm_program.specs.declared.trees.Term.TheFolds.{fold-Case, fold_out-Term, fold_out-Case}
use Rattle.asm_program.specs.declared.trees.Term.TheFolds.{ind-Term, map-Term, map-Case}
use Rattle.asm_program.specs.declared.trees.Term.TheViews.{out-Term, out-Case, roll-Term, roll-Case}
use Rattle.asm_program.specs.declared.trees.Term.TheViews.{the_lemmas}
use Rattle.asm_program.specs.declared.program.FunctionInfo.{FunctionInfo}
use Rattle.asm_program.specs.Forms.{of_cases, parts, called, case_pair, of_term}
use Rattle.asm_program.specs.Forms.{body_in, body_of, of_function}
use Rattle.asm_program.specs.Nesting.{greatest, nesting_level, nesting, functions_are_ranked}

-- ---- one level of what is said of a term, and of a case

module _ {X : Type 0} (level : (ℕ → X) → Term-F X (X × X) → X) (calls : ℕ → X) where
  -- what is said of both terms of a case
  unfoldable pub of_case : Case → X × X
  of_case = fold-Case X (X × X) (level calls) case_pair

  -- what is said of each part in its place
  abbrev pub mapped : Term-F Term Case → Term-F X (X × X)
  mapped a = map-Term Term Case X (X × X) (of_term level calls) of_case a

  pub of_term-out : (t : Term) → of_term level calls t ≡ level calls (mapped (out-Term t))
  unfolding of_term of_case
  of_term-out t = fold_out-Term X (X × X) (level calls) case_pair t

  pub of_case-out : (c : Case)
      → of_case c ≡ (of_term level calls (out-Case c).value, of_term level calls (out-Case c).term)
  unfolding of_term of_case
  of_case-out c = fold_out-Case X (X × X) (level calls) case_pair c

-- what is said of a term looks at the calls at the called function alone
abbrev pub LooksAtCalled : {X : Type 0} → ((ℕ → X) → Term-F X (X × X) → X) → Type 0
LooksAtCalled {X} level =
    (c d : ℕ → X) (a : Term-F X (X × X)) → ((f : ℕ) → called a ≡ Some f → c f ≡ d f)
    → level c a ≡ level d a

out_roll : (a : Term-F Term Case) → out-Term (roll-Term a) ≡ a
out_roll a = search (rules, the_lemmas)

out_roll_case : (a : Case-F Term Case) → out-Case (roll-Case a) ≡ a
out_roll_case a = search (rules, the_lemmas)

pub greatest-append : (xs ys : List ℕ) → greatest (xs ++ ys) ≡ max (greatest xs) (greatest ys)
greatest-append [] ys = omega arith
greatest-append (x ∷ xs) ys = let more = greatest-append xs ys in omega (arith, more)

some_is : (f g : ℕ) → Some f ≡ Some g → f ≡ g
some_is f g e = ap (λ o. unwrap_or o f) e

-- ---- what is said depends on calls of lower nesting alone

module _ {X : Type 0} (level : (ℕ → X) → Term-F X (X × X) → X) (looks : LooksAtCalled level)
    (nests : ℕ → ℕ) (c d : ℕ → X) (n : ℕ) (same : (f : ℕ) → nests f < n → c f ≡ d f) where
  nest : Term → ℕ
  nest = of_term nesting_level nests

  nest_case : Case → ℕ × ℕ
  nest_case = of_case nesting_level nests

  Agree : Term → Type 0
  Agree t = nest t ≤ n → of_term level c t ≡ of_term level d t

  AgreeCase : Case → Type 0
  AgreeCase k = max (nest_case k).0 (nest_case k).1 ≤ n → of_case level c k ≡ of_case level d k

  abbrev Held : Type 0
  Held = (t : Term) × Agree t

  abbrev HeldCase : Type 0
  HeldCase = (k : Case) × AgreeCase k

  abbrev of : Held → Term
  of h = h.0

  abbrev of_held : HeldCase → Case
  of_held k = k.0

  abbrev opened : Term-F Held HeldCase → Term-F Term Case
  opened y = map-Term Held HeldCase Term Case of of_held y

  abbrev nested : Term-F Held HeldCase → Term-F ℕ (ℕ × ℕ)
  nested y = map-Term Term Case ℕ (ℕ × ℕ) nest nest_case (opened y)

  abbrev at_c : Term-F Held HeldCase → Term-F X (X × X)
  at_c y = mapped level c (opened y)

  abbrev at_d : Term-F Held HeldCase → Term-F X (X × X)
  at_d y = mapped level d (opened y)

  all_same : (hs : List Held) → greatest (map nest (map of hs)) ≤ n
      → map (of_term level c) (map of hs) ≡ map (of_term level d) (map of hs)
  unfolding Agree
  all_same [] h = refl
  all_same (t ∷ ts) h = λ i. t.1 (omega arith) i ∷ all_same ts (omega arith) i

  cases_same : (ks : List HeldCase) → greatest (of_cases (map nest_case (map of_held ks))) ≤ n
      → map (of_case level c) (map of_held ks) ≡ map (of_case level d) (map of_held ks)
  unfolding AgreeCase
  cases_same [] h = refl
  cases_same (k ∷ ks) h = λ i. k.1 (omega arith) i ∷ cases_same ks (omega arith) i

  one : (h : Held) → nest h.0 ≤ n → of_term level c h.0 ≡ of_term level d h.0
  unfolding Agree
  one h low = h.1 low

  left_of : (xs ys : List ℕ) → greatest (xs ++ ys) ≤ n → greatest xs ≤ n
  left_of xs ys h = let e = greatest-append xs ys in omega (arith, e)

  right_of : (xs ys : List ℕ) → greatest (xs ++ ys) ≤ n → greatest ys ≤ n
  right_of xs ys h = let e = greatest-append xs ys in omega (arith, e)

  parts_same : (y : Term-F Held HeldCase) → greatest (parts (nested y)) ≤ n → at_c y ≡ at_d y
  parts_same (Term-F.Operator o args s) h = λ i. Term-F.Operator o (all_same args h i) s
  parts_same (Term-F.And a b) h =
      λ i. Term-F.And (one a (omega arith) i) (one b (omega arith) i)
  parts_same (Term-F.Or a b) h =
      λ i. Term-F.Or (one a (omega arith) i) (one b (omega arith) i)
  parts_same (Term-F.Implies a b) h =
      λ i. Term-F.Implies (one a (omega arith) i) (one b (omega arith) i)
  parts_same (Term-F.Constant v) h = refl
  parts_same (Term-F.Variable i) h = refl
  parts_same (Term-F.Read f args) h = λ i. Term-F.Read f (all_same args h i)
  parts_same (Term-F.Call f args) h = λ i. Term-F.Call f (all_same args h i)
  parts_same (Term-F.Tuple items s) h = λ i. Term-F.Tuple (all_same items h i) s
  parts_same (Term-F.Forall ranges b) h = λ i. Term-F.Forall ranges (one b (omega arith) i)
  parts_same (Term-F.Exist ranges b) h = λ i. Term-F.Exist ranges (one b (omega arith) i)
  parts_same (Term-F.ExistUnique ranges b) h =
      λ i. Term-F.ExistUnique ranges (one b (omega arith) i)
  parts_same (Term-F.Interval a b s) h =
      λ i. Term-F.Interval (one a (omega arith) i) (one b (omega arith) i) s
  parts_same (Term-F.Set items s) h = λ i. Term-F.Set (all_same items h i) s
  parts_same (Term-F.Seq items s) h = λ i. Term-F.Seq (all_same items h i) s
  parts_same (Term-F.If a b None) h =
      λ i. Term-F.If (one a (omega arith) i) (one b (omega arith) i) None
  parts_same (Term-F.If a b (Some o)) h =
      λ i. Term-F.If (one a (omega arith) i) (one b (omega arith) i) (Some (one o (omega arith) i))
  parts_same (Term-F.Let values b) h =
      let first = left_of (map nest (map of values)) (nest b.0 ∷ []) h in
      let last = right_of (map nest (map of values)) (nest b.0 ∷ []) h in
      λ i. Term-F.Let (all_same values first i) (one b (omega arith) i)
  parts_same (Term-F.Switch v cases None) h =
      let ks = of_cases (map nest_case (map of_held cases)) in
      let first = left_of ks [] (omega arith) in
      λ i. Term-F.Switch (one v (omega arith) i) (cases_same cases first i) None
  parts_same (Term-F.Switch v cases (Some o)) h =
      let ks = of_cases (map nest_case (map of_held cases)) in
      let first = left_of ks (nest o.0 ∷ []) (omega arith) in
      let last = right_of ks (nest o.0 ∷ []) (omega arith) in
      λ i. Term-F.Switch (one v (omega arith) i) (cases_same cases first i)
      (Some (one o (omega arith) i))

  lower : (y : Term-F Held HeldCase) (f : ℕ) → called (at_d y) ≡ Some f
      → option_map_or (λ g. 1 + nests g) (called (nested y)) 0 ≤ n → nests f < n
  lower (Term-F.Call g args) f e h = subst (λ k. nests k < n) (some_is g f e) (omega arith)
  lower y f e h = absurd (cc)

  agree_level : (y : Term-F Held HeldCase) → nesting_level nests (nested y) ≤ n
      → level c (at_c y) ≡ level d (at_d y)
  agree_level y h =
      ap (level c) (parts_same y (omega arith))
      ∙ looks c d (at_d y) (λ f e. same f (lower y f e (omega arith)))

  agree_step : (x : Term-F Term Case) (y : Term-F Held HeldCase) → opened y ≡ x
      → Agree (roll-Term x)
  unfolding Agree nest nest_case
  agree_step x y is h =
      let there = out_roll x ∙ sym is in
      let low : nesting_level nests (nested y) ≤ n = subst (λ z. z ≤ n)
      (of_term-out nesting_level nests (roll-Term x)
      ∙ ap (λ a. nesting_level nests (mapped nesting_level nests a)) there) h in
      of_term-out level c (roll-Term x) ∙ ap (λ a. level c (mapped level c a)) there
      ∙ agree_level y low
      ∙ sym (of_term-out level d (roll-Term x) ∙ ap (λ a. level d (mapped level d a)) there)

  case_step : (x : Case-F Term Case) (y : Case-F Held HeldCase)
      → map-Case Held HeldCase Term Case of of_held y ≡ x → AgreeCase (roll-Case x)
  unfolding AgreeCase Agree nest nest_case
  case_step x y is h =
      let there = out_roll_case x ∙ sym is in
      let low : max (nest y.value.0) (nest y.term.0) ≤ n = subst (λ z. max z.0 z.1 ≤ n)
      (of_case-out nesting_level nests (roll-Case x)
      ∙ ap (λ a. (nest a.value, nest a.term)) there) h in
      of_case-out level c (roll-Case x)
      ∙ ap (λ a. (of_term level c a.value, of_term level c a.term)) there
      ∙ (λ i. (y.value.1 (omega arith) i, y.term.1 (omega arith) i))
      ∙ sym (of_case-out level d (roll-Case x)
      ∙ ap (λ a. (of_term level d a.value, of_term level d a.term)) there)

  -- a term that nests no deeper has the same said of it, whatever deeper functions give
  pub agree : (t : Term) → of_term nesting_level nests t ≤ n
      → of_term level c t ≡ of_term level d t
  unfolding Agree nest
  agree t = ind-Term Agree AgreeCase agree_step case_step t

-- ---- how deep calls nest

option_same : (c d : ℕ → ℕ) (o : Option ℕ) → ((f : ℕ) → o ≡ Some f → c f ≡ d f)
    → option_map_or (λ f. 1 + c f) o 0 ≡ option_map_or (λ f. 1 + d f) o 0
option_same c d None h = refl
option_same c d (Some f) h = ap (λ k. 1 + k) (h f refl)

pub nesting_looks : LooksAtCalled nesting_level
nesting_looks c d a h = ap (λ k. max (greatest (parts a)) k) (option_same c d (called a) h)

module _ (calls : ℕ → ℕ) (b : ℕ) (low : (f : ℕ) → calls f < b) where
  Within : Term → Type 0
  Within t = of_term nesting_level calls t ≤ b

  WithinCase : Case → Type 0
  WithinCase k = max (of_case nesting_level calls k).0 (of_case nesting_level calls k).1 ≤ b

  abbrev Some_within : Type 0
  Some_within = (t : Term) × Within t

  abbrev Case_within : Type 0
  Case_within = (k : Case) × WithinCase k

  abbrev inner : Some_within → Term
  inner h = h.0

  abbrev inner_case : Case_within → Case
  inner_case k = k.0

  abbrev nested_at : Term-F Some_within Case_within → Term-F ℕ (ℕ × ℕ)
  nested_at y =
      mapped nesting_level calls (map-Term Some_within Case_within Term Case inner inner_case y)

  abbrev nests_at : List Some_within → List ℕ
  nests_at hs = map (of_term nesting_level calls) (map inner hs)

  all_within : (hs : List Some_within) → greatest (nests_at hs) ≤ b
  unfolding Within
  all_within [] = omega arith
  all_within (t ∷ ts) = let more = all_within ts in let here = t.1 in omega (arith, more, here)

  cases_within : (ks : List Case_within)
      → greatest (of_cases (map (of_case nesting_level calls) (map inner_case ks))) ≤ b
  unfolding WithinCase
  cases_within [] = omega arith
  cases_within (k ∷ ks) =
      let more = cases_within ks in let here = k.1 in omega (arith, more, here)

  one_within : (h : Some_within) → of_term nesting_level calls h.0 ≤ b
  unfolding Within
  one_within h = h.1

  two_within : (m k : ℕ) → m ≤ b → k ≤ b → greatest (m ∷ k ∷ []) ≤ b
  two_within m k p q = omega arith

  three_within : (m k l : ℕ) → m ≤ b → k ≤ b → l ≤ b → greatest (m ∷ k ∷ l ∷ []) ≤ b
  three_within m k l p q o = omega arith

  joined_within : (m : ℕ) (xs ys : List ℕ) → m ≤ b → greatest xs ≤ b → greatest ys ≤ b
      → greatest (m ∷ xs ++ ys) ≤ b
  joined_within m xs ys p q r = let e = greatest-append xs ys in omega (arith, e)

  parts_within : (y : Term-F Some_within Case_within) → greatest (parts (nested_at y)) ≤ b
  parts_within (Term-F.Operator o args s) = all_within args
  parts_within (Term-F.And x y) = two_within _ _ (one_within x) (one_within y)
  parts_within (Term-F.Or x y) = two_within _ _ (one_within x) (one_within y)
  parts_within (Term-F.Implies x y) = two_within _ _ (one_within x) (one_within y)
  parts_within (Term-F.Constant v) = omega arith
  parts_within (Term-F.Variable i) = omega arith
  parts_within (Term-F.Read f args) = all_within args
  parts_within (Term-F.Call f args) = all_within args
  parts_within (Term-F.Tuple items s) = all_within items
  parts_within (Term-F.Forall ranges x) = let p = one_within x in omega (arith, p)
  parts_within (Term-F.Exist ranges x) = let p = one_within x in omega (arith, p)
  parts_within (Term-F.ExistUnique ranges x) = let p = one_within x in omega (arith, p)
  parts_within (Term-F.Interval x y s) = two_within _ _ (one_within x) (one_within y)
  parts_within (Term-F.Set items s) = all_within items
  parts_within (Term-F.Seq items s) = all_within items
  parts_within (Term-F.If x y None) = two_within _ _ (one_within x) (one_within y)
  parts_within (Term-F.If x y (Some o)) =
      three_within _ _ _ (one_within x) (one_within y) (one_within o)
  parts_within (Term-F.Let values x) =
      let p = one_within x in let q = all_within values in
      let e = greatest-append (nests_at values) (of_term nesting_level calls x.0 ∷ []) in
      omega (arith, p, q, e)
  parts_within (Term-F.Switch v cases None) =
      joined_within _ _ [] (one_within v) (cases_within cases) (omega arith)
  parts_within (Term-F.Switch v cases (Some o)) =
      joined_within _ _ (_ ∷ []) (one_within v) (cases_within cases)
      (let p = one_within o in omega (arith, p))

  option_within : (o : Option ℕ) → option_map_or (λ f. 1 + calls f) o 0 ≤ b
  option_within None = omega arith
  option_within (Some f) = let l = low f in omega (arith, l)

  within_step : (x : Term-F Term Case) (y : Term-F Some_within Case_within)
      → map-Term Some_within Case_within Term Case inner inner_case y ≡ x → Within (roll-Term x)
  unfolding Within
  within_step x y is =
      let p = parts_within y in let q = option_within (called (nested_at y)) in
      let here : nesting_level calls (nested_at y) ≤ b = omega (arith, p, q) in
      subst (λ z. z ≤ b) (sym (of_term-out nesting_level calls (roll-Term x)
      ∙ ap (λ a. nesting_level calls (mapped nesting_level calls a)) (out_roll x ∙ sym is))) here

  within_case_step : (x : Case-F Term Case) (y : Case-F Some_within Case_within)
      → map-Case Some_within Case_within Term Case inner inner_case y ≡ x
      → WithinCase (roll-Case x)
  unfolding WithinCase Within
  within_case_step x y is =
      let p = y.value.1 in let q = y.term.1 in
      let here : max (of_term nesting_level calls y.value.0) (of_term nesting_level calls y.term.0)
      ≤ b = omega (arith, p, q) in
      subst (λ z. max z.0 z.1 ≤ b) (sym (of_case-out nesting_level calls (roll-Case x)
      ∙ ap (λ a. (of_term nesting_level calls a.value, of_term nesting_level calls a.term))
      (out_roll_case x ∙ sym is))) here

  -- calls that nest less deep than this make a term nest no deeper than this
  pub nests_within : (t : Term) → of_term nesting_level calls t ≤ b
  unfolding Within
  nests_within t = ind-Term Within WithinCase within_step within_case_step t

-- ---- functions

map_or : {X : Type 0} (none : X) (o : Option Term) (g : Term → X) (P : X → Type 0) → P none
    → ((t : Term) → P (g t)) → P (option_map_or g o none)
map_or none None g P n s = n
map_or none (Some t) g P n s = s t

-- calls followed so deep nest no deeper
pub nesting-bound : (functions : List FunctionInfo) (n f : ℕ) → nesting functions n f ≤ n
unfolding of_function
nesting-bound functions zero f = omega arith
nesting-bound functions (suc n) f =
    map_or 0 (body_of functions f) (of_term nesting_level (nesting functions n)) (λ k. k ≤ suc n)
    (omega arith)
    (nests_within (nesting functions n) (suc n)
    (λ g. let l = nesting-bound functions n g in omega (arith, l)))

module _ {X : Type 0} (level : (ℕ → X) → Term-F X (X × X) → X) (none : X) where
  pub of_function-None : (functions : List FunctionInfo) (n f : ℕ) → body_of functions f ≡ None
      → of_function level none functions n f ≡ none
  unfolding of_function
  of_function-None functions zero f e = refl
  of_function-None functions (suc n) f e =
      ap (λ o. option_map_or (of_term level (of_function level none functions n)) o none) e

  pub of_function-Some : (functions : List FunctionInfo) (n f : ℕ) (body : Term)
      → body_of functions f ≡ Some body
      → of_function level none functions (suc n) f
      ≡ of_term level (of_function level none functions n) body
  unfolding of_function
  of_function-Some functions n f body e =
      ap (λ o. option_map_or (of_term level (of_function level none functions n)) o none) e

both_left : (a b : Bool) → (a && b) ≡ true → a ≡ true
both_left true b h = refl
both_left false b h = h

both_right : (a b : Bool) → (a && b) ≡ true → b ≡ true
both_right true b h = h
both_right false b h = absurd (cc)

passes_at : (q : ℕ → Bool) (a n i : ℕ) → list_all q (range_with_len a n) ≡ true → i < n
    → q (a + i) ≡ true
passes_at q a zero i h l = absurd (omega arith)
passes_at q a (suc n) zero h l =
    subst (λ k. q k ≡ true) (omega arith) (both_left (q a) _ h)
passes_at q a (suc n) (suc i) h l =
    let there = passes_at q (a + 1) n i (both_right (q a) _ h) (omega arith) in
    subst (λ k. q k ≡ true) (omega arith) there

from_test : (m n : ℕ) → (m == n) ≡ true → m ≡ n
from_test m n h = grind (arith, nat_tests)

beyond : (functions : List FunctionInfo) (f : ℕ) → length functions ≤ f
    → slice_get functions f ≡ None
beyond [] f h = refl
beyond (g ∷ gs) zero h = absurd (omega arith)
beyond (g ∷ gs) (suc f) h = beyond gs f (omega arith)

there_or_not : (m n : ℕ) (P : Type 0) → (m < n → P) → (n ≤ m → P) → P
there_or_not m zero P l h = h (omega arith)
there_or_not zero (suc n) P l h = l (omega arith)
there_or_not (suc m) (suc n) P l h =
    there_or_not m n P (λ k. l (omega arith)) (λ k. h (omega arith))

-- no function reaches itself
module _ (functions : List FunctionInfo) (ranked : IsTrue (functions_are_ranked functions)) where
  -- how deep the calls of a function's term nest
  abbrev pub nests : ℕ → ℕ
  nests = nesting functions (length functions)

  -- calls that are followed once more nest no deeper
  pub nesting-once_more : (f : ℕ)
      → nesting functions (suc (length functions)) f ≡ nests f
  nesting-once_more f =
      there_or_not f (length functions) (nesting functions (suc (length functions)) f ≡ nests f)
      (λ l. sym (from_test _ _ (subst
      (λ g. (nests g == nesting functions (suc (length functions)) g) ≡ true) (omega arith)
      (passes_at (λ g. nests g == nesting functions (suc (length functions)) g) 0
      (length functions) f ranked l))))
      (λ h. let no = ap body_in (beyond functions f h) in
      of_function-None nesting_level 0 functions (suc (length functions)) f no
      ∙ sym (of_function-None nesting_level 0 functions (length functions) f no))

  -- a function's calls nest as deep as those of its term
  pub nests-body : (f : ℕ) (body : Term) → body_of functions f ≡ Some body
      → of_term nesting_level nests body ≡ nests f
  nests-body f body e =
      sym (of_function-Some nesting_level 0 functions (length functions) f body e)
      ∙ nesting-once_more f

  module _ {X : Type 0} (level : (ℕ → X) → Term-F X (X × X) → X) (looks : LooksAtCalled level)
      (none : X) where
    abbrev followed : ℕ → ℕ → X
    followed = of_function level none functions

    same_bodies : (n m f : ℕ) (o : Option Term)
        → ((body : Term) → o ≡ Some body
        → of_term level (followed n) body ≡ of_term level (followed m) body)
        → option_map_or (of_term level (followed n)) o none
        ≡ option_map_or (of_term level (followed m)) o none
    same_bodies n m f None h = refl
    same_bodies n m f (Some body) h = h body refl

    -- following calls deeper than they nest changes nothing
    pub of_function-deeper : (n m f : ℕ) → nests f < n → nests f < m
        → of_function level none functions n f ≡ of_function level none functions m f
    unfolding of_function
    of_function-deeper zero m f h k = absurd (omega arith)
    of_function-deeper (suc n) zero f h k = absurd (omega arith)
    of_function-deeper (suc n) (suc m) f h k = same_bodies n m f (body_of functions f)
        (λ body e. agree level looks nests (followed n) (followed m) (nests f)
        (λ g l. of_function-deeper n m g (omega arith) (omega arith)) body
        (let is = nests-body f body e in omega (arith, is)))

    -- what is said of a function is what is said of its term
    pub of_function-body : length functions ≤ 256 → (f : ℕ) (body : Term)
        → body_of functions f ≡ Some body
        → of_function level none functions 512 f
        ≡ of_term level (of_function level none functions 512) body
    of_function-body few f body e =
        of_function-Some level none functions 511 f body e
        ∙ agree level looks nests (followed 511) (followed 512) (nests f)
        (λ g l. let b = nesting-bound functions (length functions) f in
        of_function-deeper 511 512 g (omega (arith, b)) (omega (arith, b))) body
        (let is = nests-body f body e in omega (arith, is))
