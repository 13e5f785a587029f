-- What the counts that functions keep tell of a term, and what is refused of it.
use Rattle.std.proofs.Common.{◌≡◌, ℕ, zero, suc, ◌+◌, ◌^◌, ◌<◌, ◌≤◌, min, Bool, true, false, ◌&&◌, ◌==◌}
use Rattle.std.proofs.Common.{nat_lt}
use Rattle.std.specs.Prelude.{unwrap_or}
use Rattle.std.proofs.Common.{nat_le, List, [], ◌∷◌, ◌++◌, map, Option, Some, None}
use Rattle.std.proofs.Common.{refl, sym, ap, subst, ◌∙◌, arith, if◌then◌else◌}
use Rattle.std.specs.List.{slice_get}
use Rattle.std.specs.Option.{option_map, option_map_or}
use Rattle.std.proofs.lemmas.Bool.Decides.{nat_tests}
use Rattle.std.proofs.lemmas.Option.{slice_get-map}
use Rattle.asm_value.specs.declared.domain.DomainInfo.{DomainInfo}
use Rattle.asm_syntax.specs.declared.token.Span.{Span}
use Rattle.asm_program.specs.declared.trees.Term.{Term}
use Rattle.asm_program.specs.declared.trees.Term.TheOpen.{Term-F}
use Rattle.asm_program.specs.declared.program.FunctionInfo.{FunctionInfo}
use Rattle.asm_program.specs.declared.program.Program.{Program}
use Rattle.asm_program.specs.declared.type_refusal.Limited.TheVariants.{Depth}
use Rattle.asm_program.specs.declared.type_refusal.TypeRefusal.{TypeRefusal}
use Rattle.asm_program.specs.declared.type_refusal.TypeRefusal.TheVariants.{Limit, TooMuchWork}
use Rattle.asm_program.specs.Checks.{IsFirst}
use Rattle.asm_program.specs.Forms.{of_term, of_function, body_in}
use Rattle.asm_program.specs.Counts.{function_depth, function_work, term_depth, term_work}
use Rattle.asm_program.specs.Counts.{depth_level, work_level, most_count, are_counted}
use Rattle.asm_program.specs.Counts.{functions_are_counted}
use Rattle.asm_program.proofs.Refusals.{both_true}
use Rattle.asm_program.specs.Typed.{depth_refused, work_refused, work_limit}
use Rattle.asm_counts.specs.declared.counts.Counts.{Counts}
use Rattle.asm_counts.specs.CountLevels.{counts_level, known, if_any, nothing}
use Rattle.asm_counts.specs.CountLaws.{Tells, AllTell}
use Rattle.asm_counts.proofs.TermLaw.{terms-told}
use Rattle.asm_scope.proofs.Checking.{is_first-append, is_first-along, first_of_rest}
use Rattle.asm_typed_alone.specs.Kept.{kept_counts}

-- ---- numbers

capped_at : (n k : ℕ) → n ≤ k → min n k ≡ n
capped_at n k h = omega (arith, h)

pub capped : (n : ℕ) → n ≤ 2 ^ 32 → min n (2 ^ 32) ≡ n
capped n h = capped_at n (2 ^ 32) h

below : (c d k : ℕ) → c ≡ min d k → c ≤ k
below c d k e = omega (arith, e)

pub told_below : (c d : ℕ) → c ≡ min d (2 ^ 32) → c ≤ 2 ^ 32
told_below c d e = below c d (2 ^ 32) e

lt_told : (a c d k : ℕ) → a < k → c ≡ min d k → nat_lt a c ≡ nat_lt a d
lt_told a c d k h e = by (nat_lt a d) refl
  where
    by : (b : Bool) → nat_lt a d ≡ b → nat_lt a c ≡ b
    by true i = grind (arith, nat_tests, h, e, i)
    by false i = grind (arith, nat_tests, h, e, i)

le_told : (a c d k : ℕ) → a < k → c ≡ min d k → nat_le c a ≡ nat_le d a
le_told a c d k h e = by (nat_le d a) refl
  where
    by : (b : Bool) → nat_le d a ≡ b → nat_le c a ≡ b
    by true i = grind (arith, nat_tests, h, e, i)
    by false i = grind (arith, nat_tests, h, e, i)

min_told : (c d k : ℕ) → c ≡ min d k → min c k ≡ min d k
min_told c d k e = omega (arith, e)

within : (c d a k : ℕ) → a < k → c ≡ min d k → nat_le d a ≡ true → c ≡ d
within c d a k h e i =
    let small : d ≤ a = grind (arith, nat_tests, i) in
    omega (arith, e, h, small)

depth_small : 512 < 2 ^ 32
depth_small = omega arith

work_small : work_limit < 2 ^ 32
work_small = omega arith

-- ---- what is refused

pub depth_told : (c d : ℕ) (place : Span) → c ≡ min d (2 ^ 32)
    → depth_refused c place ≡ depth_refused d place
depth_told c d place e =
    λ i. if lt_told 512 c d (2 ^ 32) depth_small e i
    then Limit Depth (min_told c d (2 ^ 32) e i) place ∷ [] else []

pub work_told : (c w : ℕ) (place : Span) → c ≡ min w (2 ^ 32)
    → work_refused c place ≡ work_refused w place
work_told c w place e =
    λ i. if le_told work_limit c w (2 ^ 32) work_small e i
    then [] else TooMuchWork (min_told c w (2 ^ 32) e i) place ∷ []

if_none : (b : Bool) (r : TypeRefusal) → (if b then [] else r ∷ []) ≡ [] → b ≡ true
if_none true r h = refl
if_none false r h = absurd (cc h)

pub work_kept : (c w : ℕ) (place : Span) → c ≡ min w (2 ^ 32) → work_refused c place ≡ [] → c ≡ w
work_kept c w place e none =
    let few : nat_le c work_limit ≡ true =
    if_none (nat_le c work_limit) (TooMuchWork (min c most_count) place) none in
    within c w work_limit (2 ^ 32) work_small e
    (sym (le_told work_limit c w (2 ^ 32) work_small e) ∙ few)

module _ (c : Counts) (d w : ℕ) (place : Span) (tells : Tells c d w) where
  pub first-depth : (why : TypeRefusal) → IsFirst why (depth_refused c.depth place)
      → IsFirst why (depth_refused d place ++ work_refused w place)
  first-depth why f =
      is_first-append why (depth_refused d place) (work_refused w place)
      (is_first-along why (depth_refused c.depth place) (depth_refused d place)
      (depth_told c.depth d place tells.0) f)

  pub first-work : (why : TypeRefusal) → depth_refused c.depth place ≡ []
      → IsFirst why (work_refused c.work place)
      → IsFirst why (depth_refused d place ++ work_refused w place)
  first-work why none f =
      first_of_rest why (depth_refused d place) (work_refused w place)
      (depth_refused d place ++ work_refused w place) refl
      (sym (depth_told c.depth d place tells.0) ∙ none)
      (is_first-along why (work_refused c.work place) (work_refused w place)
      (work_told c.work w place tells.1) f)

  pub none-counts : depth_refused c.depth place ≡ [] → work_refused c.work place ≡ []
      → depth_refused d place ++ work_refused w place ≡ []
  none-counts none more =
      (λ i. (sym (depth_told c.depth d place tells.0) ∙ none) i
      ++ (sym (work_told c.work w place tells.1) ∙ more) i)

pub ruleset limit_steps = (told_below, first-depth, first-work, none-counts, work_kept)

-- ---- what functions keep

nothing_of : {X : Type 0} (level : (ℕ → X) → Term-F X (X × X) → X) (none : X)
    (functions : List FunctionInfo) (n f : ℕ) → slice_get functions f ≡ None
    → of_function level none functions n f ≡ none
unfolding of_function
nothing_of level none functions zero f e = refl
nothing_of level none functions (suc n) f e =
    ap (λ o. option_map_or (of_term level (of_function level none functions n)) (body_in o) none) e

same_nat : (m n : ℕ) → (m == n) ≡ true → m ≡ n
same_nat m n h = grind (arith, nat_tests, h)

module _ (domains : List DomainInfo) (all : List FunctionInfo) where
  abbrev Kept : Counts → ℕ → Type 0
  Kept c f = Tells c (function_depth all f) (function_work domains all f)

  kept_first : (f : ℕ) (x : FunctionInfo) (xs : List FunctionInfo)
      → are_counted domains all f (x ∷ xs) ≡ true
      → Kept (kept_counts x) f × (are_counted domains all (f + 1) xs ≡ true)
  kept_first f x xs h =
      let depth = x.depth == function_depth all f in
      let work = x.work == min (function_work domains all f) most_count in
      let parts = both_true (depth && work) (are_counted domains all (f + 1) xs) h in
      let own = both_true depth work parts.0 in (
        (
          ap (λ d. min d (2 ^ 32)) (same_nat x.depth (function_depth all f) own.0),
          same_nat x.work (min (function_work domains all f) most_count) own.1,
        ),
        parts.1,
      )

  kept_from : (f : ℕ) (infos : List FunctionInfo) → are_counted domains all f infos ≡ true
      → (n : ℕ) (info : FunctionInfo) → slice_get infos n ≡ Some info
      → Kept (kept_counts info) (f + n)
  kept_from f [] h n info e = absurd (cc e)
  kept_from f (x ∷ xs) h zero info e =
      let same : x ≡ info = ap (λ o. unwrap_or o x) e in
      let start : f ≡ f + 0 = omega arith in
      subst (λ (k : ℕ). Kept (kept_counts info) k) start
      (subst (λ (y : FunctionInfo). Kept (kept_counts y) f) same (kept_first f x xs h).0)
  kept_from f (x ∷ xs) h (suc n) info e =
      let on : f + 1 + n ≡ f + suc n = omega arith in
      subst (λ (k : ℕ). Kept (kept_counts info) k) on
      (kept_from (f + 1) xs (kept_first f x xs h).1 n info e)

nothing_told : (domains : List DomainInfo) (functions : List FunctionInfo) (n : ℕ)
    → slice_get functions n ≡ None
    → Tells nothing (function_depth functions n) (function_work domains functions n)
unfolding nothing
nothing_told domains functions n e = (
  ap (λ m. min m (2 ^ 32)) (sym (nothing_of depth_level 0 functions 512 n e)),
  ap (λ m. min m (2 ^ 32)) (sym (nothing_of (work_level domains) 0 functions 512 n e)),
)

pub all_kept : (domains : List DomainInfo) (functions : List FunctionInfo)
    → functions_are_counted domains functions ≡ true
    → AllTell (known (map kept_counts functions)) (function_depth functions)
    (function_work domains functions)
unfolding known
all_kept domains functions h n =
    subst (λ (o : Option Counts). Tells (if_any o) (function_depth functions n) (function_work domains functions n))
    (sym (slice_get-map kept_counts functions n)) (by (slice_get functions n) refl)
  where
    by : (o : Option FunctionInfo) → slice_get functions n ≡ o
        → Tells (if_any (option_map kept_counts o)) (function_depth functions n)
        (function_work domains functions n)
    by None e = nothing_told domains functions n e
    by (Some info) e =
        let start : 0 + n ≡ n = omega arith in
        subst (λ (k : ℕ). Tells (kept_counts info) (function_depth functions k) (function_work domains functions k)) start
        (kept_from domains functions 0 functions h n info e)

pub term_told : (p : Program) (cs : List Counts) (c : Counts) (t : Term)
    → cs ≡ map kept_counts p.functions → c ≡ of_term (counts_level p.domains) (known cs) t
    → Tells c (term_depth p.functions t) (term_work p.domains p.functions t)
term_told p cs c t k e =
    let calls = known (map kept_counts p.functions) in
    let same : of_term (counts_level p.domains) calls t ≡ c =
    ap (λ ds. of_term (counts_level p.domains) (known ds) t) (sym k) ∙ sym e in
    subst (λ (a : Counts). Tells a (term_depth p.functions t) (term_work p.domains p.functions t))
    same
    (terms-told p.domains calls (function_depth p.functions) (function_work p.domains p.functions)
    (all_kept p.domains p.functions p.counted) t)
