-- The run of a formula, by its parts; that it depends on its models alone; and the models of what
-- it leaves.
use Rattle.std.proofs.Common.{◌≡◌, ℕ, Option, Some, None, List, [], ◌∷◌, ◌++◌, map, refl, sym, ap, subst, ◌∙◌}
use Rattle.std.specs.Prelude.{fold}
use Rattle.std.specs.List.{AllByRecursion}
use Rattle.std.proofs.lemmas.List.{map-append}
use Rattle.asm_formula.specs.declared.formula.Operator.{Operator}
use Rattle.asm_formula.specs.declared.formula.Operator.TheVariants as operator
use Rattle.asm_formula.specs.declared.formula.Formula.{Formula}
use Rattle.asm_formula.specs.declared.formula.Formula.TheOpen.{Formula-F}
use Rattle.asm_formula.specs.declared.formula.Formula.TheFolds.{fold_out-Formula, map-Formula}
use Rattle.asm_formula.specs.declared.formula.Formula.TheViews.{out-Formula}
use Rattle.asm_formula.specs.Formulas.{names}
use Rattle.asm_compose.specs.declared.given.Given.{Given}
use Rattle.asm_compose.specs.Offers.{Offer, union, with_partner, first_clash}
use Rattle.asm_compose.specs.Runs.{Name, Leaf, Steps, Refuses, Ran, Done, Stopped, JoinClash, Beginning, Part, leaf_runs, on_done, unless_clash, both, gives_last, gives_union, held_by, beside, joined, run_level, part_of, run}
use Rattle.asm_compose.specs.TextOrder.{AgreesAt, LeavesAre}
use Rattle.asm_compose.proofs.FormulaParts.{by_parts, names-Name, names-Join}

module _ {R X : Type 0} (held : Name → Offer) (step : Name → Offer → Leaf R X) where
  -- the run of a formula that is offered this
  abbrev pub run_at : Formula → Offer → Ran R X
  run_at f offer = (part_of held step f).run offer

  -- a formula as a part of another
  abbrev pub part : Formula → Part R X
  part f = record { models = names f; run = run_at f }

  abbrev level_of : Formula-F Formula → Part R X
  level_of a = run_level held step (map-Formula Formula (Part R X) (part_of held step) a)

  part_of-out : (f : Formula) → part_of held step f ≡ level_of (out-Formula f)
  unfolding part_of
  part_of-out f = fold_out-Formula (Part R X) (run_level held step) f

  models-is : (f : Formula) → (part_of held step f).models ≡ names f
  models-is = by_parts (λ f. (part_of held step f).models ≡ names f)
      (λ f name e. ap (λ w. w.models) (part_of-out f ∙ ap level_of e) ∙ sym (names-Name f name e))
      (λ f op left right e l r. ap (λ w. w.models) (part_of-out f ∙ ap level_of e)
      ∙ (λ i. l i ++ r i) ∙ sym (names-Join f op left right e))

  part_of-is : (f : Formula) → part_of held step f ≡ part f
  part_of-is f = λ i. record { models = models-is f i; run = (part_of held step f).run }

  pub run_at-Name : (f : Formula) (name : Name) (offer : Offer) → out-Formula f ≡ Formula-F.Name name
      → run_at f offer ≡ leaf_runs name (step name offer)
  run_at-Name f name offer e = ap (λ w. w.run offer) (part_of-out f ∙ ap level_of e)

  pub run_at-Join : (f : Formula) (op : Operator) (left right : Formula) (offer : Offer)
      → out-Formula f ≡ Formula-F.Join op left right → run_at f offer ≡ joined held step op (part left) (part right) offer
  run_at-Join f op left right offer e =
      ap (λ w. w.run offer) (part_of-out f ∙ ap level_of e)
      ∙ (λ i. joined held step op (part_of-is left i) (part_of-is right i) offer)

-- ---- a run depends on its models alone

all_left : {A : Type 0} (P : A → Type 0) (xs ys : List A) → AllByRecursion P (xs ++ ys) → AllByRecursion P xs
all_left P [] ys h = tt
all_left P (x ∷ xs) ys h = (h.0, all_left P xs ys h.1)

all_right : {A : Type 0} (P : A → Type 0) (xs ys : List A) → AllByRecursion P (xs ++ ys) → AllByRecursion P ys
all_right P [] ys h = h
all_right P (x ∷ xs) ys h = all_right P xs ys h.1

all_along : {A : Type 0} (P : A → Type 0) (xs ys : List A) → xs ≡ ys → AllByRecursion P xs → AllByRecursion P ys
all_along P xs ys e h = subst (λ zs. AllByRecursion P zs) e h

module _ {R X : Type 0} (begins other : Beginning R X) where
  abbrev pub Agree : List Name → Type 0
  Agree models = AllByRecursion (AgreesAt begins other) models

  held_along : (models : List Name) → Agree models → (offer : Offer)
      → fold (λ o name. union o (begins.held name)) offer models ≡ fold (λ o name. union o (other.held name)) offer models
  held_along [] h offer = refl
  held_along (name ∷ models) h offer =
      ap (λ given. fold (λ o n. union o (begins.held n)) (union offer given) models) h.0.0
      ∙ held_along models h.1 (union offer (other.held name))

  abbrev SameRuns : Formula → Type 0
  SameRuns f = Agree (names f)
      → (offer : Offer) → run_at begins.held begins.step f offer ≡ run_at other.held other.step f offer

  same_beside : (f g : Formula) → Agree (names g)
      → ((offer : Offer) → run_at begins.held begins.step f offer ≡ run_at other.held other.step f offer)
      → (offer : Offer) → beside begins.held begins.step (part begins.held begins.step f) (names g) offer
      ≡ beside other.held other.step (part other.held other.step f) (names g) offer
  same_beside f g h same offer =
      let k = held_along (names g) h [] in
      λ i. unless_clash (first_clash (k i)) (same (with_partner offer (k i)) i)

  same_joined : (op : Operator) (f g : Formula) → Agree (names f) → Agree (names g)
      → ((offer : Offer) → run_at begins.held begins.step f offer ≡ run_at other.held other.step f offer)
      → ((offer : Offer) → run_at begins.held begins.step g offer ≡ run_at other.held other.step g offer)
      → (offer : Offer)
      → joined begins.held begins.step op (part begins.held begins.step f) (part begins.held begins.step g) offer
      ≡ joined other.held other.step op (part other.held other.step f) (part other.held other.step g) offer
  same_joined operator.Pipe f g hf hg l r offer = λ i. both (l offer i) (λ o. r o i) gives_last
  same_joined operator.Both f g hf hg l r offer = λ i. both (l offer i) (λ o. r offer i) gives_union
  same_joined operator.Half f g hf hg l r offer =
      λ i. both (same_beside f g hg l offer i) (λ o. r o i) gives_union
  same_joined operator.Cross f g hf hg l r offer =
      λ i. both (same_beside f g hg l offer i) (λ o. same_beside g f hf r offer i) gives_union

  -- where what the models held and what their steps come to agree, runs are equal
  pub run_at-agree : (f : Formula) → SameRuns f
  run_at-agree = by_parts SameRuns
      (λ f name e h offer.
      let at_name = all_along (AgreesAt begins other) (names f) (name ∷ []) (names-Name f name e) h in
      run_at-Name begins.held begins.step f name offer e
      ∙ ap (leaf_runs name) (at_name.0.1 offer)
      ∙ sym (run_at-Name other.held other.step f name offer e))
      (λ f op left right e l r h offer.
      let at_both = all_along (AgreesAt begins other) (names f) (names left ++ names right) (names-Join f op left right e) h in
      let hl = all_left (AgreesAt begins other) (names left) (names right) at_both in
      let hr = all_right (AgreesAt begins other) (names left) (names right) at_both in
      run_at-Join begins.held begins.step f op left right offer e
      ∙ same_joined op left right hl hr (l hl) (r hr) offer
      ∙ sym (run_at-Join other.held other.step f op left right offer e))

  pub run-agree : (f : Formula) → Agree (names f)
      → run begins.held begins.step f ≡ run other.held other.step f
  run-agree f h = run_at-agree f h []

-- ---- what it leaves is of its models, in text order

module _ {R X : Type 0} where
  clash_leaves : (models : List Name) (c : Option (Given × Given)) (go : Ran R X) → LeavesAre models go
      → LeavesAre models (unless_clash c go)
  clash_leaves models None go h = h
  clash_leaves models (Some c) go h = tt

  last_leaves : (models more : List Name) (o : Offer) (xs : List (Name × X)) → map (λ x. x.0) xs ≡ models
      → (second : Ran R X) → LeavesAre more second
      → LeavesAre (models ++ more) (on_done second (λ p ys. gives_last o p (xs ++ ys)))
  last_leaves models more o xs h (Done p ys) k = map-append (λ x. x.0) xs ys ∙ (λ i. h i ++ k i)
  last_leaves models more o xs h (Stopped why) k = tt
  last_leaves models more o xs h (JoinClash g1 g2) k = tt

  union_leaves : (models more : List Name) (o : Offer) (xs : List (Name × X)) → map (λ x. x.0) xs ≡ models
      → (second : Ran R X) → LeavesAre more second
      → LeavesAre (models ++ more) (on_done second (λ p ys. gives_union o p (xs ++ ys)))
  union_leaves models more o xs h (Done p ys) k =
      clash_leaves (models ++ more) (first_clash (union o p)) (Done (union o p) (xs ++ ys))
      (map-append (λ x. x.0) xs ys ∙ (λ i. h i ++ k i))
  union_leaves models more o xs h (Stopped why) k = tt
  union_leaves models more o xs h (JoinClash g1 g2) k = tt

  both_last : (models more : List Name) (first : Ran R X) (second : Offer → Ran R X) → LeavesAre models first
      → ((o : Offer) → LeavesAre more (second o)) → LeavesAre (models ++ more) (both first second gives_last)
  both_last models more (Done o xs) second h k = last_leaves models more o xs h (second o) (k o)
  both_last models more (Stopped why) second h k = tt
  both_last models more (JoinClash g1 g2) second h k = tt

  both_union : (models more : List Name) (first : Ran R X) (second : Offer → Ran R X) → LeavesAre models first
      → ((o : Offer) → LeavesAre more (second o)) → LeavesAre (models ++ more) (both first second gives_union)
  both_union models more (Done o xs) second h k = union_leaves models more o xs h (second o) (k o)
  both_union models more (Stopped why) second h k = tt
  both_union models more (JoinClash g1 g2) second h k = tt

  leaf_leaves : (name : Name) (came : Leaf R X) → LeavesAre (name ∷ []) (leaf_runs name came)
  leaf_leaves name (Steps gives leaves) = refl
  leaf_leaves name (Refuses why) = tt

  module _ (held : Name → Offer) (step : Name → Offer → Leaf R X) where
    abbrev Leaves : Formula → Type 0
    Leaves f = (offer : Offer) → LeavesAre (names f) (run_at held step f offer)

    beside_leaves : (f g : Formula) → Leaves f → (offer : Offer)
        → LeavesAre (names f) (beside held step (part held step f) (names g) offer)
    beside_leaves f g l offer =
        clash_leaves (names f) (first_clash (held_by held step (names g)))
        (run_at held step f (with_partner offer (held_by held step (names g))))
        (l (with_partner offer (held_by held step (names g))))

    joined_leaves : (op : Operator) (f g : Formula) → Leaves f → Leaves g → (offer : Offer)
        → LeavesAre (names f ++ names g) (joined held step op (part held step f) (part held step g) offer)
    joined_leaves operator.Pipe f g l r offer =
        both_last (names f) (names g) (run_at held step f offer) (run_at held step g) (l offer) r
    joined_leaves operator.Both f g l r offer =
        both_union (names f) (names g) (run_at held step f offer) (λ o. run_at held step g offer) (l offer) (λ o. r offer)
    joined_leaves operator.Half f g l r offer =
        both_union (names f) (names g) (beside held step (part held step f) (names g) offer) (run_at held step g)
        (beside_leaves f g l offer) r
    joined_leaves operator.Cross f g l r offer =
        both_union (names f) (names g) (beside held step (part held step f) (names g) offer)
        (λ o. beside held step (part held step g) (names f) offer)
        (beside_leaves f g l offer) (λ o. beside_leaves g f r offer)

    pub run_at-leaves : (f : Formula) → Leaves f
    run_at-leaves = by_parts Leaves
        (λ f name e offer. subst (λ models. LeavesAre models (run_at held step f offer)) (sym (names-Name f name e))
        (subst (λ ran. LeavesAre (name ∷ []) ran) (sym (run_at-Name held step f name offer e))
        (leaf_leaves name (step name offer))))
        (λ f op left right e l r offer.
        subst (λ models. LeavesAre models (run_at held step f offer)) (sym (names-Join f op left right e))
        (subst (λ ran. LeavesAre (names left ++ names right) ran) (sym (run_at-Join held step f op left right offer e))
        (joined_leaves op left right l r offer)))
