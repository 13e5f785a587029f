-- What is so of each step that is accepted is so of each leaf of a run that is done, whose leaves are
-- the models of the formula in text order.
use Rattle.std.proofs.Common.{◌≡◌, ℕ, Option, Some, None, List, [], ◌∷◌, ◌++◌, map, refl, sym, ap, subst, ◌∙◌, rules}
use Rattle.std.specs.List.{AllByRecursion}
use Rattle.asm_formula.specs.declared.formula.Operator.{Operator}
use Rattle.asm_formula.specs.declared.formula.Operator.TheVariants as operator
use Rattle.asm_formula.specs.declared.formula.Formula.{Formula}
use Rattle.asm_formula.specs.declared.formula.Formula.TheOpen.{Formula-F}
use Rattle.asm_formula.specs.declared.formula.Formula.TheFolds.{fold-Formula, fold_out-Formula, ind-Formula, map-Formula}
use Rattle.asm_formula.specs.declared.formula.Formula.TheViews.{out-Formula, roll-Formula, the_lemmas}
use Rattle.asm_formula.specs.Formulas.{names_level, names}
use Rattle.asm_compose.specs.declared.given.Given.{Given}
use Rattle.asm_compose.specs.Offers.{Offer, union, with_partner, first_clash}
use Rattle.asm_compose.specs.Runs.{Name, Leaf, Steps, Refuses, Ran, Done, Stopped, JoinClash, Part, leaf_runs, on_done, unless_clash, both, gives_last, gives_union, held_by, beside, joined, run_level, part_of, run}

-- ---- formulas

out_roll : (a : Formula-F Formula) → out-Formula (roll-Formula a) ≡ a
out_roll a = search (rules, the_lemmas)

abbrev Named : List ℕ → Formula
Named name = roll-Formula (Formula-F.Name name)

abbrev Joined : Operator → Formula → Formula → Formula
Joined op f g = roll-Formula (Formula-F.Join op f g)

-- what is so of each name, and of a whole where it is so of its two parts, is so of each formula
module _ (P : Formula → Type 0) (named : (name : List ℕ) → P (Named name))
    (joins : (op : Operator) (f g : Formula) → P f → P g → P (Joined op f g)) where
  held : (y : Formula-F ((f : Formula) × P f)) → P (roll-Formula (map-Formula ((f : Formula) × P f) Formula (λ h. h.0) y))
  held (Formula-F.Name name) = named name
  held (Formula-F.Join op f g) = joins op f.0 g.0 f.1 g.1

  pub by_parts : (f : Formula) → P f
  by_parts = ind-Formula P (λ x y is. subst (λ z. P (roll-Formula z)) is (held y))

names_at : (a : Formula-F Formula) → names (roll-Formula a) ≡ names_level (map-Formula Formula (List (List ℕ)) names a)
unfolding names
names_at a =
    fold_out-Formula (List (List ℕ)) names_level (roll-Formula a)
    ∙ ap (λ b. names_level (map-Formula Formula (List (List ℕ)) (fold-Formula (List (List ℕ)) names_level) b)) (out_roll a)

module _ {R X : Type 0} (given : Name → Offer) (step : Name → Offer → Leaf R X) where
  part_at : (a : Formula-F Formula) → part_of given step (roll-Formula a) ≡ run_level given step (map-Formula Formula (Part R X) (part_of given step) a)
  unfolding part_of
  part_at a =
      fold_out-Formula (Part R X) (run_level given step) (roll-Formula a)
      ∙ ap (λ b. run_level given step (map-Formula Formula (Part R X) (fold-Formula (Part R X) (run_level given step)) b)) (out_roll a)

-- ---- leaves

names_appended : {X : Type 0} (xs ys : List (Name × X)) → map (λ (l : Name × X). l.0) (xs ++ ys) ≡ map (λ (l : Name × X). l.0) xs ++ map (λ (l : Name × X). l.0) ys
names_appended [] ys = refl
names_appended (x ∷ xs) ys = ap (λ ns. x.0 ∷ ns) (names_appended xs ys)

module _ {X : Type 0} (Q : Name → X → Type 0) where
  abbrev pub AllHave : List (Name × X) → Type 0
  AllHave leaves = AllByRecursion (λ l. Q l.0 l.1) leaves

  all_appended : (xs ys : List (Name × X)) → AllHave xs → AllHave ys → AllHave (xs ++ ys)
  all_appended [] ys all others = others
  all_appended (x ∷ xs) ys all others = (all.0, all_appended xs ys all.1 others)

module _ {R X : Type 0} (Q : Name → X → Type 0) where
  -- of a step that is accepted, it is so
  abbrev pub LeafHas : Name → Leaf R X → Type 0
  LeafHas name (Steps gives leaves) = Q name leaves
  LeafHas name (Refuses why) = Unit {0}

  -- of a run that is done, it is so of each leaf, and the leaves are of these names
  abbrev pub RanHas : List Name → Ran R X → Type 0
  RanHas ns (Done gives leaves) = (map (λ l. l.0) leaves ≡ ns) × AllHave Q leaves
  RanHas ns (Stopped why) = Unit {0}
  RanHas ns (JoinClash first second) = Unit {0}

  on_done_has : (ns ks : List Name) (r : Ran R X) (go : Offer → List (Name × X) → Ran R X) → RanHas ns r
      → ((o : Offer) (xs : List (Name × X)) → map (λ (l : Name × X). l.0) xs ≡ ns → AllHave Q xs → RanHas ks (go o xs)) → RanHas ks (on_done r go)
  on_done_has ns ks (Done gives leaves) go has next = next gives leaves has.0 has.1
  on_done_has ns ks (Stopped why) go has next = tt
  on_done_has ns ks (JoinClash first second) go has next = tt

  unless_clash_has : (ns : List Name) (o : Option (Given × Given)) (r : Ran R X) → RanHas ns r → RanHas ns (unless_clash o r)
  unless_clash_has ns None r has = has
  unless_clash_has ns (Some clash) r has = tt

  -- what both parts leave
  both_has : (ns ks : List Name) (first : Ran R X) (second : Offer → Ran R X) (join : Offer → Offer → List (Name × X) → Ran R X)
      → RanHas ns first → ((o : Offer) → RanHas ks (second o))
      → ((o p : Offer) (xs : List (Name × X)) → map (λ (l : Name × X). l.0) xs ≡ ns ++ ks → AllHave Q xs → RanHas (ns ++ ks) (join o p xs))
      → RanHas (ns ++ ks) (both first second join)
  both_has ns ks first second join has later joins =
      on_done_has ns (ns ++ ks) first _ has (λ o xs are all.
      on_done_has ks (ns ++ ks) (second o) _ (later o) (λ p ys others rest.
      joins o p (xs ++ ys) (names_appended xs ys ∙ ap (λ z. z ++ map (λ (l : Name × X). l.0) ys) are ∙ ap (λ z. ns ++ z) others) (all_appended Q xs ys all rest)))

  module _ (given : Name → Offer) (step : Name → Offer → Leaf R X) (each : (name : Name) (offer : Offer) → LeafHas name (step name offer)) where
    -- whatever a part is offered
    abbrev PartHas : List Name → Part R X → Type 0
    PartHas ns part = (offer : Offer) → RanHas ns (part.run offer)

    leaf_has : (name : Name) (leaf : Leaf R X) → LeafHas name leaf → RanHas (name ∷ []) (leaf_runs name leaf)
    leaf_has name (Steps gives leaves) has = (refl, (has, tt))
    leaf_has name (Refuses why) has = tt

    beside_has : (ns partner : List Name) (part : Part R X) (offer : Offer) → PartHas ns part → RanHas ns (beside given step part partner offer)
    beside_has ns partner part offer has =
        unless_clash_has ns (first_clash (held_by given step partner)) (part.run (with_partner offer (held_by given step partner)))
        (has (with_partner offer (held_by given step partner)))

    joined_has : (op : Operator) (ns ks : List Name) (f g : Part R X) → PartHas ns f → PartHas ks g → (offer : Offer) → RanHas (ns ++ ks) (joined given step op f g offer)
    joined_has operator.Pipe ns ks f g first second offer = both_has ns ks (f.run offer) g.run gives_last (first offer) second (λ o p xs are all. (are, all))
    joined_has operator.Both ns ks f g first second offer = both_has ns ks (f.run offer) (λ _. g.run offer) gives_union (first offer) (λ _. second offer)
        (λ o p xs are all. unless_clash_has (ns ++ ks) (first_clash (union o p)) (Done (union o p) xs) (are, all))
    joined_has operator.Half ns ks f g first second offer =
        both_has ns ks (beside given step f g.models offer) g.run gives_union (beside_has ns g.models f offer first) second
        (λ o p xs are all. unless_clash_has (ns ++ ks) (first_clash (union o p)) (Done (union o p) xs) (are, all))
    joined_has operator.Cross ns ks f g first second offer =
        both_has ns ks (beside given step f g.models offer) (λ _. beside given step g f.models offer) gives_union (beside_has ns g.models f offer first)
        (λ _. beside_has ks f.models g offer second)
        (λ o p xs are all. unless_clash_has (ns ++ ks) (first_clash (union o p)) (Done (union o p) xs) (are, all))

    abbrev FormulaHas : Formula → Type 0
    FormulaHas f = PartHas (names f) (part_of given step f)

    named_has : (name : Name) → FormulaHas (Named name)
    named_has name offer =
        subst (λ (p : Part R X). RanHas (names (Named name)) (p.run offer)) (sym (part_at given step (Formula-F.Name name)))
        (subst (λ ns. RanHas ns (leaf_runs name (step name offer))) (sym (names_at (Formula-F.Name name))) (leaf_has name (step name offer) (each name offer)))

    joins_have : (op : Operator) (f g : Formula) → FormulaHas f → FormulaHas g → FormulaHas (Joined op f g)
    joins_have op f g first second offer =
        subst (λ (p : Part R X). RanHas (names (Joined op f g)) (p.run offer)) (sym (part_at given step (Formula-F.Join op f g)))
        (subst (λ ns. RanHas ns (joined given step op (part_of given step f) (part_of given step g) offer)) (sym (names_at (Formula-F.Join op f g)))
        (joined_has op (names f) (names g) (part_of given step f) (part_of given step g) first second offer))

    pub run_has : (f : Formula) → RanHas (names f) (run given step f)
    run_has f = by_parts FormulaHas named_has joins_have f []
