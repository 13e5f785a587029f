-- The course of a formula ends as its run does, and its steps are of its models in text order.
use Rattle.std.proofs.Common.{◌≡◌, ℕ, Option, Some, None, List, [], ◌∷◌, ◌++◌, map, refl, sym, ap, subst, ◌∙◌}
use Rattle.std.proofs.lemmas.List.{map-append, append-nil, append_assoc}
use Rattle.asm_formula.specs.declared.formula.Operator.{Operator}
use Rattle.asm_formula.specs.declared.formula.Operator.TheVariants as operator
use Rattle.asm_formula.specs.declared.formula.Formula.{Formula}
use Rattle.asm_formula.specs.Formulas.{names}
use Rattle.asm_compose.specs.declared.given.Given.{Given}
use Rattle.asm_compose.specs.declared.outcome.FormulaOutcome.{FormulaOutcome}
use Rattle.asm_compose.specs.declared.outcome.FormulaOutcome.TheVariants as outcomes
use Rattle.asm_compose.specs.Offers.{Offer, union, with_partner, first_clash}
use Rattle.asm_compose.specs.Runs as runs
use Rattle.asm_compose.specs.Runs.{Name, Leaf, Ran, Beginning, leaf_runs, on_done, both, gives_last, gives_union, held_by}
use Rattle.asm_compose.specs.Steps as steps
use Rattle.asm_compose.specs.Steps.{Made, Course, left_by, leaves_of, last_of, clash_of, union_ends, joins, leaf_ends, ended, after, then_course, leaf_course, IsStopped, IsEndOf}
use Rattle.asm_compose.specs.Courses.{course_of, walk, left_of, right_of, both_of, beside_of}
use Rattle.asm_compose.specs.TextOrder.{StepsAre}
use Rattle.asm_compose.proofs.FormulaParts.{by_parts, names-Name, names-Join}
use Rattle.asm_compose.proofs.CourseLaws.{course-Name_out, course-Join_out}
use Rattle.asm_compose.proofs.RunLaws.{run_at, part, run_at-Name, run_at-Join}
use Rattle.asm_compose.proofs.ClashLaws.{IsClash, first_clash-is}

-- ---- lists of steps

module _ {R X : Type 0} where
  leaves_of-append : (ms ns : List (Made R X)) → leaves_of (ms ++ ns) ≡ leaves_of ms ++ leaves_of ns
  leaves_of-append [] ns = refl
  leaves_of-append (m ∷ ms) ns =
      ap (λ xs. left_by m.name m.came ++ xs) (leaves_of-append ms ns)
      ∙ sym (append_assoc (left_by m.name m.came) (leaves_of ms) (leaves_of ns))

  last_of-append : (ms ns : List (Made R X)) (m : Made R X) → last_of ns ≡ Some m → last_of (ms ++ ns) ≡ Some m
  last_of-append [] ns m e = e
  last_of-append (x ∷ []) [] m e = absurd (cc)
  last_of-append (x ∷ []) (n ∷ ns) m e = e
  last_of-append (x ∷ y ∷ ms) ns m e = last_of-append (y ∷ ms) ns m e

  abbrev names_of : List (Made R X) → List Name
  names_of ms = map (λ m. m.name) ms

  -- ---- the end of a course

  clash_ends : (clash : Given × Given) (ms : List (Made R X)) → IsClash clash
      → IsEndOf (clash_of clash) ms (runs.JoinClash clash.0 clash.1)
  clash_ends clash ms e =
      let other : clash.1 ≡ record { function = clash.0.function; args = clash.0.args; value = clash.1.value } =
      (λ i. record { function = sym e.0 i; args = sym e.1 i; value = clash.1.value }) in
      ap (λ g. runs.JoinClash clash.0 g) other

  unless_ends : (c : Option (Given × Given)) → ((clash : Given × Given) → c ≡ Some clash → IsClash clash)
      → (go : Course R X) (ran : Ran R X) → IsEndOf go.ends go.made ran
      → IsEndOf (steps.unless_clash c go).ends (steps.unless_clash c go).made (runs.unless_clash c ran)
  unless_ends None is go ran h = h
  unless_ends (Some clash) is go ran h = clash_ends clash [] (is clash refl)

  -- how the whole is joined, and what it gives, end alike
  abbrev EndAlike : (Offer → Offer → FormulaOutcome) → (Offer → Offer → List (Name × X) → Ran R X) → Type 0
  EndAlike J G = (o p : Offer) (ms : List (Made R X)) → IsEndOf (J o p) ms (G o p (leaves_of ms))

  union_at : (o : Offer) (c : Option (Given × Given)) → ((clash : Given × Given) → c ≡ Some clash → IsClash clash)
      → (ms : List (Made R X))
      → IsEndOf (elim c as (λ _. FormulaOutcome) [ None ↦ outcomes.Done o | Some clash ↦ clash_of clash ]) ms
      (runs.unless_clash c (runs.Done o (leaves_of ms)))
  union_at o None is ms = refl
  union_at o (Some clash) is ms = clash_ends clash ms (is clash refl)

  last_alike : EndAlike (λ o p. outcomes.Done p) gives_last
  last_alike o p ms = refl

  union_alike : EndAlike union_ends gives_union
  union_alike o p ms = union_at (union o p) (first_clash (union o p)) (first_clash-is (union o p)) ms

  module _ (J : Offer → Offer → FormulaOutcome) (G : Offer → Offer → List (Name × X) → Ran R X)
      (alike : EndAlike J G) where
    end_done : (o p : Offer) (first second : List (Made R X)) (ran : Ran R X) → ran ≡ runs.Done p (leaves_of second)
        → IsEndOf (J o p) (first ++ (second ++ [])) (on_done ran (λ q ys. G o q (leaves_of first ++ ys)))
    end_done o p first second ran e =
        let all : leaves_of (first ++ (second ++ [])) ≡ leaves_of first ++ leaves_of second =
        leaves_of-append first (second ++ [])
        ∙ ap (λ ms. leaves_of first ++ leaves_of ms) (append-nil second) in
        subst (λ r. IsEndOf (J o p) (first ++ (second ++ [])) (on_done r (λ q ys. G o q (leaves_of first ++ ys)))) (sym e)
        (subst (λ xs. IsEndOf (J o p) (first ++ (second ++ [])) (G o p xs)) all (alike o p (first ++ (second ++ []))))

    end_second : (o : Offer) (first second : List (Made R X)) (ends : FormulaOutcome) (ran : Ran R X)
        → IsEndOf ends second ran
        → IsEndOf (after second ends (λ p. ended (J o p))).ends (first ++ (after second ends (λ p. ended (J o p))).made)
        (on_done ran (λ q ys. G o q (leaves_of first ++ ys)))
    end_second o first second (outcomes.Done p) ran h = end_done o p first second ran h
    end_second o first second (outcomes.Stopped name) ran h = record {
      offered = h.offered;
      why = h.why;
      last = last_of-append first second _ h.last;
      is = ap (λ r. on_done r (λ q ys. G o q (leaves_of first ++ ys))) h.is;
    }
    end_second o first second (outcomes.JoinClash function args x y) ran h =
        ap (λ r. on_done r (λ q ys. G o q (leaves_of first ++ ys))) h

    module _ (go : Offer → Course R X) (runs_on : Offer → Ran R X)
        (h : (o : Offer) → IsEndOf (go o).ends (go o).made (runs_on o)) where
      abbrev goes : Offer → Course R X
      goes o = then_course (go o) (λ p. ended (J o p))

      end_first : (first : List (Made R X)) (ends : FormulaOutcome) (ran : Ran R X) → IsEndOf ends first ran
          → IsEndOf (after first ends goes).ends (after first ends goes).made (both ran runs_on G)
      end_first first (outcomes.Done o) ran e =
          subst (λ r. IsEndOf (goes o).ends (first ++ (goes o).made) (both r runs_on G)) (sym e)
          (end_second o first (go o).made (go o).ends (runs_on o) (h o))
      end_first first (outcomes.Stopped name) ran e = record {
        offered = e.offered;
        why = e.why;
        last = e.last;
        is = ap (λ r. both r runs_on G) e.is;
      }
      end_first first (outcomes.JoinClash function args x y) ran e = ap (λ r. both r runs_on G) e

  module _ (begins : Beginning R X) where
    abbrev Ends : Formula → Type 0
    Ends f = (offer : Offer)
        → IsEndOf (course_of begins f offer).ends (course_of begins f offer).made (run_at begins.held begins.step f offer)

    beside_ends : (f g : Formula) → Ends f → (offer : Offer)
        → IsEndOf (beside_of begins f g offer).ends (beside_of begins f g offer).made
        (runs.beside begins.held begins.step (part begins.held begins.step f) (names g) offer)
    beside_ends f g h offer =
        let held = held_by begins.held begins.step (names g) in
        unless_ends (first_clash held) (first_clash-is held) (course_of begins f (with_partner offer held))
        (run_at begins.held begins.step f (with_partner offer held)) (h (with_partner offer held))

    joined_ends : (op : Operator) (f g : Formula) → Ends f → Ends g → (offer : Offer)
        → IsEndOf (both_of begins op f g offer).ends (both_of begins op f g offer).made
        (runs.joined begins.held begins.step op (part begins.held begins.step f) (part begins.held begins.step g) offer)
    joined_ends operator.Pipe f g hf hg offer =
        end_first (λ o p. outcomes.Done p) gives_last last_alike
        (course_of begins g) (run_at begins.held begins.step g) hg
        (course_of begins f offer).made (course_of begins f offer).ends (run_at begins.held begins.step f offer) (hf offer)
    joined_ends operator.Both f g hf hg offer =
        end_first union_ends gives_union union_alike
        (λ o. course_of begins g offer) (λ o. run_at begins.held begins.step g offer) (λ o. hg offer)
        (course_of begins f offer).made (course_of begins f offer).ends (run_at begins.held begins.step f offer) (hf offer)
    joined_ends operator.Half f g hf hg offer =
        end_first union_ends gives_union union_alike
        (course_of begins g) (run_at begins.held begins.step g) hg
        (beside_of begins f g offer).made (beside_of begins f g offer).ends
        (runs.beside begins.held begins.step (part begins.held begins.step f) (names g) offer) (beside_ends f g hf offer)
    joined_ends operator.Cross f g hf hg offer =
        end_first union_ends gives_union union_alike
        (λ o. beside_of begins g f offer)
        (λ o. runs.beside begins.held begins.step (part begins.held begins.step g) (names f) offer)
        (λ o. beside_ends g f hg offer)
        (beside_of begins f g offer).made (beside_of begins f g offer).ends
        (runs.beside begins.held begins.step (part begins.held begins.step f) (names g) offer) (beside_ends f g hf offer)

    leaf_alike : (name : Name) (offer : Offer) (came : Leaf R X)
        → IsEndOf (leaf_ends name came) (record { name = name; offered = offer; came = came } ∷ []) (leaf_runs name came)
    leaf_alike name offer (runs.Steps gives leaves) = refl
    leaf_alike name offer (runs.Refuses why) = record { offered = offer; why = why; last = refl; is = refl }

    -- the course of a formula ends as its run does
    pub course-ends : (f : Formula) → Ends f
    course-ends = by_parts Ends
        (λ f name e offer.
        subst (λ c. IsEndOf c.ends c.made (run_at begins.held begins.step f offer)) (sym (course-Name_out begins f name offer e))
        (subst (λ ran. IsEndOf (leaf_course begins name offer).ends (leaf_course begins name offer).made ran)
        (sym (run_at-Name begins.held begins.step f name offer e)) (leaf_alike name offer (begins.step name offer))))
        (λ f op left right e hf hg offer.
        subst (λ c. IsEndOf c.ends c.made (run_at begins.held begins.step f offer)) (sym (course-Join_out begins f op left right offer e))
        (subst (λ ran. IsEndOf (both_of begins op left right offer).ends (both_of begins op left right offer).made ran)
        (sym (run_at-Join begins.held begins.step f op left right offer e)) (joined_ends op left right hf hg offer)))

-- ---- the models of its steps

module _ {R X : Type 0} where
  -- all models have stepped, however it ends then
  all_steps : (models : List Name) (ends : FormulaOutcome) (ms : List (Made R X)) → names_of ms ≡ models
      → StepsAre models ends ms
  all_steps models (outcomes.Done gives) ms e = e
  all_steps models (outcomes.Stopped name) ms e = ([], append-nil (names_of ms) ∙ e)
  all_steps models (outcomes.JoinClash function args x y) ms e = ([], append-nil (names_of ms) ∙ e)

  both_names : (models more others : List Name) (first second : List (Made R X)) → names_of first ≡ models
      → names_of second ++ others ≡ more → names_of (first ++ second) ++ others ≡ models ++ more
  both_names models more others first second e f =
      ap (λ ns. ns ++ others) (map-append (λ m. m.name) first second)
      ∙ append_assoc (names_of first) (names_of second) others
      ∙ (λ i. e i ++ f i)

  unless_steps : (models : List Name) (c : Option (Given × Given)) (go : Course R X) → StepsAre models go.ends go.made
      → StepsAre models (steps.unless_clash c go).ends (steps.unless_clash c go).made
  unless_steps models None go h = h
  unless_steps models (Some clash) go h = (models, refl)

  module _ (models more : List Name) (J : Offer → Offer → FormulaOutcome) where
    steps_second : (o : Offer) (first second : List (Made R X)) (ends : FormulaOutcome) → names_of first ≡ models
        → StepsAre more ends second
        → StepsAre (models ++ more) (after second ends (λ p. ended (J o p))).ends
        (first ++ (after second ends (λ p. ended (J o p))).made)
    steps_second o first second (outcomes.Done p) e h =
        all_steps (models ++ more) (J o p) (first ++ (second ++ []))
        (ap (λ ms. names_of (first ++ ms)) (append-nil second)
        ∙ map-append (λ m. m.name) first second ∙ (λ i. e i ++ h i))
    steps_second o first second (outcomes.Stopped name) e h = (h.0, both_names models more h.0 first second e h.1)
    steps_second o first second (outcomes.JoinClash function args x y) e h =
        (h.0, both_names models more h.0 first second e h.1)

    module _ (go : Offer → Course R X) (h : (o : Offer) → StepsAre more (go o).ends (go o).made) where
      abbrev on : Offer → Course R X
      on o = then_course (go o) (λ p. ended (J o p))

      steps_first : (first : List (Made R X)) (ends : FormulaOutcome) → StepsAre models ends first
          → StepsAre (models ++ more) (after first ends on).ends (after first ends on).made
      steps_first first (outcomes.Done o) e = steps_second o first (go o).made (go o).ends e (h o)
      steps_first first (outcomes.Stopped name) e =
          (e.0 ++ more, sym (append_assoc (names_of first) e.0 more) ∙ ap (λ ns. ns ++ more) e.1)
      steps_first first (outcomes.JoinClash function args x y) e =
          (e.0 ++ more, sym (append_assoc (names_of first) e.0 more) ∙ ap (λ ns. ns ++ more) e.1)

  module _ (begins : Beginning R X) where
    abbrev InOrder : Formula → Type 0
    InOrder f = (offer : Offer) → StepsAre (names f) (course_of begins f offer).ends (course_of begins f offer).made

    beside_steps : (f g : Formula) → InOrder f → (offer : Offer)
        → StepsAre (names f) (beside_of begins f g offer).ends (beside_of begins f g offer).made
    beside_steps f g h offer =
        let held = held_by begins.held begins.step (names g) in
        unless_steps (names f) (first_clash held) (course_of begins f (with_partner offer held)) (h (with_partner offer held))

    joined_steps : (op : Operator) (f g : Formula) → InOrder f → InOrder g → (offer : Offer)
        → StepsAre (names f ++ names g) (both_of begins op f g offer).ends (both_of begins op f g offer).made
    joined_steps operator.Pipe f g hf hg offer =
        steps_first (names f) (names g) (λ o p. outcomes.Done p) (course_of begins g) hg
        (course_of begins f offer).made (course_of begins f offer).ends (hf offer)
    joined_steps operator.Both f g hf hg offer =
        steps_first (names f) (names g) union_ends (λ o. course_of begins g offer) (λ o. hg offer)
        (course_of begins f offer).made (course_of begins f offer).ends (hf offer)
    joined_steps operator.Half f g hf hg offer =
        steps_first (names f) (names g) union_ends (course_of begins g) hg
        (beside_of begins f g offer).made (beside_of begins f g offer).ends (beside_steps f g hf offer)
    joined_steps operator.Cross f g hf hg offer =
        steps_first (names f) (names g) union_ends (λ o. beside_of begins g f offer) (λ o. beside_steps g f hg offer)
        (beside_of begins f g offer).made (beside_of begins f g offer).ends (beside_steps f g hf offer)

    leaf_steps : (name : Name) (offer : Offer) (ends : FormulaOutcome)
        → StepsAre (name ∷ []) ends (steps.made_of begins name offer ∷ [])
    leaf_steps name offer ends = all_steps (name ∷ []) ends (steps.made_of begins name offer ∷ []) refl

    -- its steps are of its models in text order
    pub course-steps : (f : Formula) → InOrder f
    course-steps = by_parts InOrder
        (λ f name e offer.
        subst (λ models. StepsAre models (course_of begins f offer).ends (course_of begins f offer).made) (sym (names-Name f name e))
        (subst (λ c. StepsAre (name ∷ []) c.ends c.made) (sym (course-Name_out begins f name offer e))
        (leaf_steps name offer (leaf_ends name (begins.step name offer)))))
        (λ f op left right e hf hg offer.
        subst (λ models. StepsAre models (course_of begins f offer).ends (course_of begins f offer).made) (sym (names-Join f op left right e))
        (subst (λ c. StepsAre (names left ++ names right) c.ends c.made) (sym (course-Join_out begins f op left right offer e))
        (joined_steps op left right hf hg offer)))
