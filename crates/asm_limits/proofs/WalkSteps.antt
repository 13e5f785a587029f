-- The steps of the walk over a text.
use Rattle.std.proofs.Common.{◌≡◌, ℕ, ◌+◌, ◌<◌, ◌≤◌, Option, List, [], ◌∷◌, ◌++◌, length, drop, get_or}
use Rattle.std.proofs.Common.{Result, refl, sym, ap, subst, ◌∙◌}
use Rattle.std.proofs.lemmas.List.{drop_all, drop_more}
use Rattle.asm_value.specs.declared.domain.DomainInfo.{DomainInfo}
use Rattle.asm_syntax.specs.declared.tree.DefTree.{DefTree}
use Rattle.asm_syntax.specs.declared.tree.StartTree.{StartTree}
use Rattle.asm_syntax.specs.declared.tree.ModelTree.{ModelTree}
use Rattle.asm_program.specs.declared.type_refusal.TypeRefusal.{TypeRefusal}
use Rattle.asm_program.specs.declared.trees.Term.{Term}
use Rattle.asm_program.specs.declared.trees.Rule.{Rule}
use Rattle.asm_program.specs.declared.program.MacroInfo.{MacroInfo}
use Rattle.asm_program.specs.declared.program.InitInfo.{InitInfo}
use Rattle.asm_program.specs.declared.program.Inv.{Inv}
use Rattle.asm_program.specs.Items.{starts_of}
use Rattle.asm_program.specs.TypedTerms.{Scope}
use Rattle.asm_program.specs.Typed.{depth_refused, work_refused}
use Rattle.asm_program.specs.Checks.{IsFirst, Checks}
use Rattle.asm_scope.proofs.Checking.{is_first-append, first_of_rest, loop-err, loop-ok, loop-end}
use Rattle.asm_counts.specs.declared.counts.Counts.{Counts}
use Rattle.asm_limits.specs.Rounds.{rule_counted}
use Rattle.asm_limits.specs.Walks.{Rest, StartsRest, with_work, def_limited, def_after, defs_limited, defs_work, start_limited, start_after, starts_limited, starts_work, walk_work}

module _ (domains : List DomainInfo) (functions macros : List Counts) (scope : Scope) where
  -- ---- definitions

  module _ (bodies : List (Option Term)) where
    abbrev here : Rest → DefTree → List TypeRefusal
    here = def_limited domains functions macros scope bodies

    abbrev after : Rest → DefTree → Rest
    after = def_after domains functions macros scope bodies

    abbrev all_here : Rest → List DefTree → List TypeRefusal
    all_here = defs_limited domains functions macros scope bodies

    abbrev work_here : Rest → List DefTree → ℕ
    work_here = defs_work domains functions macros scope bodies

    defs-nil : (left : Rest) → all_here left [] ≡ []
    unfolding defs_limited
    defs-nil left = refl

    defs-cons : (left : Rest) (x : DefTree) (xs : List DefTree)
        → all_here left (x ∷ xs) ≡ here left x ++ all_here (after left x) xs
    unfolding defs_limited
    defs-cons left x xs = refl

    work-nil : (left : Rest) → work_here left [] ≡ left.work
    unfolding defs_work
    work-nil left = refl

    work-cons : (left : Rest) (x : DefTree) (xs : List DefTree)
        → work_here left (x ∷ xs) ≡ work_here (after left x) xs
    unfolding defs_work
    work-cons left x xs = refl

    module _ (left : Rest) (xs : List DefTree) (i : ℕ) where
      pub defs-err : (d : DefTree) (why : TypeRefusal) (all : List TypeRefusal) → i < length xs
          → all_here left (drop i xs) ≡ all → IsFirst why (here left (get_or xs i d))
          → IsFirst why all
      defs-err d why all h e f =
          loop-err here after all_here defs-nil defs-cons why left xs i d all h e f

      pub defs-ok : (d : DefTree) (next : Rest) (all : List TypeRefusal) → i < length xs
          → all_here left (drop i xs) ≡ all → here left (get_or xs i d) ≡ []
          → next ≡ after left (get_or xs i d) → all_here next (drop (i + 1) xs) ≡ all
      defs-ok d next all h e none f =
          loop-ok here after all_here defs-nil defs-cons left next xs i d all h e none f

      pub defs-end : (all : List TypeRefusal) → length xs ≤ i → all_here left (drop i xs) ≡ all
          → all ≡ []
      defs-end all h e = loop-end here after all_here defs-nil defs-cons left xs i all h e

      pub work-ok : (d : DefTree) (next : Rest) (work : ℕ) → i < length xs
          → work_here left (drop i xs) ≡ work → next ≡ after left (get_or xs i d)
          → work_here next (drop (i + 1) xs) ≡ work
      work-ok d next work h e f =
          ap (λ s. work_here s (drop (i + 1) xs)) f
          ∙ sym (ap (work_here left) (drop_more xs i d h)
          ∙ work-cons left (get_or xs i d) (drop (i + 1) xs))
          ∙ e

      pub work-end : (work : ℕ) → length xs ≤ i → work_here left (drop i xs) ≡ work
          → left.work ≡ work
      work-end work h e = sym (ap (work_here left) (drop_all i xs h) ∙ work-nil left) ∙ e

      pub defs-step : (d : DefTree) (next : Rest) (all : List TypeRefusal) (work : ℕ)
          → i < length xs → all_here left (drop i xs) ≡ all → work_here left (drop i xs) ≡ work
          → here left (get_or xs i d) ≡ [] → next ≡ after left (get_or xs i d)
          → (all_here next (drop (i + 1) xs) ≡ all) × (work_here next (drop (i + 1) xs) ≡ work)
      defs-step d next all work h e w none f =
          (defs-ok d next all h e none f, work-ok d next work h w f)

  -- ---- the initial state

  abbrev start_here : StartsRest → StartTree → List TypeRefusal
  start_here = start_limited domains functions macros scope

  abbrev after_start : StartsRest → StartTree → StartsRest
  after_start = start_after domains functions macros scope

  abbrev starts_here : StartsRest → List StartTree → List TypeRefusal
  starts_here = starts_limited domains functions macros scope

  abbrev starts_do : StartsRest → List StartTree → ℕ
  starts_do = starts_work domains functions macros scope

  starts-nil : (left : StartsRest) → starts_here left [] ≡ []
  unfolding starts_limited
  starts-nil left = refl

  starts-cons : (left : StartsRest) (x : StartTree) (xs : List StartTree)
      → starts_here left (x ∷ xs) ≡ start_here left x ++ starts_here (after_start left x) xs
  unfolding starts_limited
  starts-cons left x xs = refl

  do-nil : (left : StartsRest) → starts_do left [] ≡ left.work
  unfolding starts_work
  do-nil left = refl

  do-cons : (left : StartsRest) (x : StartTree) (xs : List StartTree)
      → starts_do left (x ∷ xs) ≡ starts_do (after_start left x) xs
  unfolding starts_work
  do-cons left x xs = refl

  module _ (left : StartsRest) (xs : List StartTree) (i : ℕ) where
    pub starts-err : (d : StartTree) (why : TypeRefusal) (all : List TypeRefusal) → i < length xs
        → starts_here left (drop i xs) ≡ all → IsFirst why (start_here left (get_or xs i d))
        → IsFirst why all
    starts-err d why all h e f =
        loop-err start_here after_start starts_here starts-nil starts-cons why left xs i d all h e f

    pub starts-ok : (d : StartTree) (next : StartsRest) (all : List TypeRefusal) → i < length xs
        → starts_here left (drop i xs) ≡ all → start_here left (get_or xs i d) ≡ []
        → next ≡ after_start left (get_or xs i d) → starts_here next (drop (i + 1) xs) ≡ all
    starts-ok d next all h e none f =
        loop-ok start_here after_start starts_here starts-nil starts-cons left next xs i d all h e
        none f

    pub starts-end : (all : List TypeRefusal) → length xs ≤ i → starts_here left (drop i xs) ≡ all
        → all ≡ []
    starts-end all h e =
        loop-end start_here after_start starts_here starts-nil starts-cons left xs i all h e

    pub do-ok : (d : StartTree) (next : StartsRest) (work : ℕ) → i < length xs
        → starts_do left (drop i xs) ≡ work → next ≡ after_start left (get_or xs i d)
        → starts_do next (drop (i + 1) xs) ≡ work
    do-ok d next work h e f =
        ap (λ s. starts_do s (drop (i + 1) xs)) f
        ∙ sym (ap (starts_do left) (drop_more xs i d h)
        ∙ do-cons left (get_or xs i d) (drop (i + 1) xs))
        ∙ e

    pub do-end : (work : ℕ) → length xs ≤ i → starts_do left (drop i xs) ≡ work
        → left.work ≡ work
    do-end work h e = sym (ap (starts_do left) (drop_all i xs h) ∙ do-nil left) ∙ e

    pub starts-step : (d : StartTree) (next : StartsRest) (all : List TypeRefusal) (work : ℕ)
        → i < length xs → starts_here left (drop i xs) ≡ all → starts_do left (drop i xs) ≡ work
        → start_here left (get_or xs i d) ≡ [] → next ≡ after_start left (get_or xs i d)
        → (starts_here next (drop (i + 1) xs) ≡ all) × (starts_do next (drop (i + 1) xs) ≡ work)
    starts-step d next all work h e w none f =
        (starts-ok d next all h e none f, do-ok d next work h w f)

  -- ---- a text

  module _ (bodies : List (Option Term)) (infos : List MacroInfo) (main : Rule)
      (inits : List InitInfo) (invariants : List Inv) (tree : ModelTree) where
    abbrev of_definitions : List TypeRefusal
    of_definitions =
        defs_limited domains functions macros scope bodies
        (record { macros = infos; invariants = invariants; work = 0 }) tree.defs

    abbrev of_main : List TypeRefusal
    of_main = depth_refused (rule_counted domains functions macros main).depth tree.rule_name.span

    abbrev of_starts : List TypeRefusal
    of_starts =
        starts_limited domains functions macros scope (record { inits = inits; work = 0 })
        (starts_of tree.init)

    abbrev work_of : ℕ
    work_of = walk_work domains functions macros scope bodies infos main inits invariants tree

    abbrev whole : List TypeRefusal
    whole = of_definitions ++ of_main ++ of_starts ++ work_refused work_of tree.main

    pub walk-first : (why : TypeRefusal) → IsFirst why of_definitions → IsFirst why whole
    walk-first why h =
        is_first-append why (of_definitions ++ of_main ++ of_starts)
        (work_refused work_of tree.main)
        (is_first-append why (of_definitions ++ of_main) of_starts
        (is_first-append why of_definitions of_main h))

    pub walk-second : (why : TypeRefusal) → of_definitions ≡ [] → IsFirst why of_main
        → IsFirst why whole
    walk-second why e h =
        is_first-append why (of_definitions ++ of_main ++ of_starts)
        (work_refused work_of tree.main)
        (is_first-append why (of_definitions ++ of_main) of_starts
        (first_of_rest why of_definitions of_main (of_definitions ++ of_main) refl e h))

    pub walk-third : (why : TypeRefusal) → of_definitions ≡ [] → of_main ≡ []
        → IsFirst why of_starts → IsFirst why whole
    walk-third why e f h =
        is_first-append why (of_definitions ++ of_main ++ of_starts)
        (work_refused work_of tree.main)
        (first_of_rest why (of_definitions ++ of_main) of_starts
        (of_definitions ++ of_main ++ of_starts) refl (λ i. e i ++ f i) h)

    only_work : of_definitions ≡ [] → of_main ≡ [] → of_starts ≡ []
        → work_refused work_of tree.main ≡ whole
    only_work e f g =
        λ i. sym e i ++ sym f i ++ sym g i ++ work_refused work_of tree.main

    pub walk-last : (result : Result ℕ TypeRefusal) (work defs_do starts_do : ℕ)
        → of_definitions ≡ [] → of_main ≡ [] → of_starts ≡ []
        → defs_do
        ≡ defs_work domains functions macros scope bodies
        (record { macros = infos; invariants = invariants; work = 0 }) tree.defs
        → starts_do
        ≡ starts_work domains functions macros scope (record { inits = inits; work = 0 })
        (starts_of tree.init)
        → work
        ≡ with_work (with_work (rule_counted domains functions macros main).work defs_do) starts_do
        → Checks result (work_refused work tree.main) (λ allowed. allowed ≡ work)
        → Checks result whole (λ allowed. allowed ≡ work_of)
    walk-last result work defs_do starts_do e f g d s w checks =
        subst (λ all. Checks result all (λ allowed. allowed ≡ work_of)) (only_work e f g)
        (subst (λ n. Checks result (work_refused n tree.main) (λ allowed. allowed ≡ n))
        (w ∙ (λ i. with_work (with_work (rule_counted domains functions macros main).work (d i))
        (s i))) checks)

pub ruleset definition_steps = (defs-ok, defs-end, defs-err, work-ok, work-end)

pub ruleset start_steps = (starts-step, starts-end, starts-err, do-end)

pub ruleset walk_steps = (walk-first, walk-second, walk-third, walk-last)
