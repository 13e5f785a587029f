-- The course of a formula, by its parts.
use Rattle.std.proofs.Common.{◌≡◌, ℕ, List, [], ◌∷◌, ◌++◌, sym, ap, ◌∙◌}
use Rattle.asm_formula.specs.declared.formula.Operator.{Operator}
use Rattle.asm_formula.specs.declared.formula.Formula.{Formula}
use Rattle.asm_formula.specs.declared.formula.Formula.TheVariants as forms
use Rattle.asm_formula.specs.declared.formula.Formula.TheOpen.{Formula-F}
use Rattle.asm_formula.specs.declared.formula.Formula.TheFolds.{fold_out-Formula, map-Formula}
use Rattle.asm_formula.specs.declared.formula.Formula.TheViews.{out-Formula}
use Rattle.asm_formula.specs.Formulas.{names}
use Rattle.asm_compose.specs.Offers.{Offer}
use Rattle.asm_compose.specs.Runs.{Name, Beginning}
use Rattle.asm_compose.specs.Steps.{Course, Walk, leaf_course, joined, walk_level, walk_of, course}
use Rattle.asm_compose.specs.Courses.{walk, both_of}
use Rattle.asm_compose.proofs.FormulaParts.{by_parts, out-Name, out-Join, names-Name, names-Join}

module _ {R X : Type 0} (begins : Beginning R X) where
  abbrev level_of : Formula-F Formula → Walk R X
  level_of a = walk_level begins (map-Formula Formula (Walk R X) (walk_of begins) a)

  walk_of-out : (f : Formula) → walk_of begins f ≡ level_of (out-Formula f)
  unfolding walk_of
  walk_of-out f = fold_out-Formula (Walk R X) (walk_level begins) f

  models-is : (f : Formula) → (walk_of begins f).models ≡ names f
  models-is = by_parts (λ f. (walk_of begins f).models ≡ names f)
      (λ f name e. ap (λ w. w.models) (walk_of-out f ∙ ap level_of e) ∙ sym (names-Name f name e))
      (λ f op left right e l r. ap (λ w. w.models) (walk_of-out f ∙ ap level_of e)
      ∙ (λ i. l i ++ r i) ∙ sym (names-Join f op left right e))

  walk_of-is : (f : Formula) → walk_of begins f ≡ walk begins f
  walk_of-is f = λ i. record { models = models-is f i; course = (walk_of begins f).course }

  pub course-Name_out : (f : Formula) (name : Name) (offer : Offer) → out-Formula f ≡ Formula-F.Name name
      → course begins f offer ≡ leaf_course begins name offer
  course-Name_out f name offer e = ap (λ w. w.course offer) (walk_of-out f ∙ ap level_of e)

  pub course-Join_out : (f : Formula) (op : Operator) (left right : Formula) (offer : Offer)
      → out-Formula f ≡ Formula-F.Join op left right → course begins f offer ≡ both_of begins op left right offer
  course-Join_out f op left right offer e =
      ap (λ w. w.course offer) (walk_of-out f ∙ ap level_of e)
      ∙ (λ i. joined begins op (walk_of-is left i) (walk_of-is right i) offer)

  pub course-Name : (f : Formula) (name : Name) (offer : Offer) → f ≡ forms.Name name
      → course begins f offer ≡ leaf_course begins name offer
  course-Name f name offer e = course-Name_out f name offer (ap out-Formula e ∙ out-Name name)

  pub course-Join : (f : Formula) (op : Operator) (left right : Formula) (offer : Offer)
      → f ≡ forms.Join op left right → course begins f offer ≡ both_of begins op left right offer
  course-Join f op left right offer e =
      course-Join_out f op left right offer (ap out-Formula e ∙ out-Join op left right)
