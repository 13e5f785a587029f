-- Following one course after another.
use Rattle.std.proofs.Common.{◌≡◌, ℕ, List, [], ◌∷◌, ◌++◌, refl, sym, ap, subst, ◌∙◌}
use Rattle.std.specs.declared.result.Result.{Result}
use Rattle.std.specs.declared.result.Result.TheVariants.{Ok, Err}
use Rattle.std.proofs.lemmas.List.{append-nil, append_assoc}
use Rattle.asm_compose.specs.declared.outcome.FormulaOutcome.{FormulaOutcome}
use Rattle.asm_compose.specs.declared.outcome.FormulaOutcome.TheVariants as outcomes
use Rattle.asm_compose.specs.Offers.{Offer}
use Rattle.asm_compose.specs.Steps.{Made, Makes, MakesNone, MakesPart, Course, ended, after, then_course}
use Rattle.asm_compose.specs.Courses.{Follows}

module _ {R X S : Type 0} (has_made : S → List (Made R X) → Type 0) where
  pub makes_none : (s : S) → Makes has_made s s []
  makes_none s before h = subst (has_made s) (sym (append-nil before)) h

  makes_then : (old mid new : S) (first second : List (Made R X)) → Makes has_made old mid first
      → Makes has_made mid new second → Makes has_made old new (first ++ second)
  makes_then old mid new first second f g before h =
      subst (has_made new) (append_assoc before first second) (g (before ++ first) (f before h))

  -- no step of these was made
  pub part_none : (old new : S) (ms : List (Made R X)) → MakesNone has_made old new → MakesPart has_made old new ms
  part_none old new ms f = record {
    front = [];
    rest = ms;
    all = refl;
    makes = λ before h. subst (has_made new) (sym (append-nil before)) (f before h);
  }

  -- and where the leaf hasn't changed at all
  pub part_same : (s : S) (ms : List (Made R X)) → MakesPart has_made s s ms
  part_same s ms = part_none s s ms (λ before h. h)

  pub part_all : (old new : S) (ms : List (Made R X)) → Makes has_made old new ms → MakesPart has_made old new ms
  part_all old new ms f = record { front = ms; rest = []; all = append-nil ms; makes = f }

  part_more : (old new : S) (first second : List (Made R X)) → MakesPart has_made old new first
      → MakesPart has_made old new (first ++ second)
  part_more old new first second p = record {
    front = p.front;
    rest = p.rest ++ second;
    all = sym (append_assoc p.front p.rest second) ∙ ap (λ ms. ms ++ second) p.all;
    makes = p.makes;
  }

  part_then : (old mid new : S) (first second : List (Made R X)) → Makes has_made old mid first
      → MakesPart has_made mid new second → MakesPart has_made old new (first ++ second)
  part_then old mid new first second f p = record {
    front = first ++ p.front;
    rest = p.rest;
    all = append_assoc first p.front p.rest ∙ ap (λ ms. first ++ ms) p.all;
    makes = makes_then old mid new first p.front f p.makes;
  }

  -- ---- courses

  -- the first part couldn't be followed to its end
  pub failed_at : (old new : S) (made : List (Made R X)) (ends : FormulaOutcome) (go : Offer → Course R X)
      → MakesPart has_made old new made → MakesPart has_made old new (after made ends go).made
  failed_at old new made (outcomes.Done gives) go p = part_more old new made (go gives).made p
  failed_at old new made (outcomes.Stopped name) go p = p
  failed_at old new made (outcomes.JoinClash function args x y) go p = p

  -- it goes on with what the first part gives
  on_at : {E : Type 0} (old mid new : S) (made : List (Made R X)) (second : Course R X) (r : Result FormulaOutcome E)
      → Makes has_made old mid made → Follows has_made mid new second r
      → Follows has_made old new (record { made = made ++ second.made; ends = second.ends }) r
  on_at old mid new made second (Ok outcome) f p = (p.0, makes_then old mid new made second.made f p.1)
  on_at old mid new made second (Err e) f p = part_then old mid new made second.made f p

  pub follows_on : {E : Type 0} (old mid new : S) (first : Course R X) (go : Offer → Course R X) (gives : Offer)
      (r : Result FormulaOutcome E) → Follows has_made old mid {E = E} first (Ok (outcomes.Done gives))
      → Follows has_made mid new (go gives) r → Follows has_made old new (then_course first go) r
  follows_on old mid new first go gives r p q =
      subst (λ out. Follows has_made old new (after first.made out go) r) p.0
      (on_at old mid new first.made (go gives) r p.1 q)
