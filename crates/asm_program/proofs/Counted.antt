-- Functions that get their depth and their work carry them: both look at the functions' terms alone.
use Rattle.std.proofs.Common.{◌≡◌, ℕ, zero, suc, ◌+◌, min, Bool, true, ◌&&◌, ◌==◌}
use Rattle.std.proofs.Common.{Option, Some, None, List, [], ◌∷◌, length, slice_get, refl, sym, ap, subst, ◌∙◌, arith}
use Rattle.std.specs.Option.{option_map_or}
use Rattle.std.proofs.lemmas.Bool.{and_from}
use Rattle.std.proofs.lemmas.Bool.Decides.{nat_tests}
use Rattle.asm_value.specs.declared.domain.DomainInfo.{DomainInfo}
use Rattle.asm_program.specs.declared.trees.Term.{Term}
use Rattle.asm_program.specs.declared.trees.Term.TheOpen.{Term-F}
use Rattle.asm_program.specs.declared.program.FunctionInfo.{FunctionInfo}
use Rattle.asm_program.specs.Forms.{of_term, body_in, body_of, of_function}
use Rattle.asm_program.specs.Counts.{depth_level, work_level, function_depth, function_work, most_count, are_counted, functions_are_counted}
use Rattle.asm_program.specs.Typed.{counted_from}

-- what is said of functions looks at their terms alone
module _ {X : Type 0} (level : (ℕ → X) → Term-F X (X × X) → X) (none : X)
    (fs gs : List FunctionInfo) (same : (f : ℕ) → body_of fs f ≡ body_of gs f) where
  pub of_bodies : (n f : ℕ) → of_function level none fs n f ≡ of_function level none gs n f
  unfolding of_function
  of_bodies zero f = refl
  of_bodies (suc n) f =
      λ i. option_map_or (of_term level (λ g. of_bodies n g i)) (same f i) none

-- counts leave the terms as they are
module _ (domains : List DomainInfo) (all : List FunctionInfo) where
  pub counted_bodies : (n : ℕ) (infos : List FunctionInfo) (f : ℕ)
      → body_of (counted_from domains all n infos) f ≡ body_of infos f
  counted_bodies n [] f = refl
  counted_bodies n (info ∷ infos) zero = refl
  counted_bodies n (info ∷ infos) (suc f) = counted_bodies (n + 1) infos f

  counted-is : (others : List FunctionInfo)
      → ((f : ℕ) → function_depth others f ≡ function_depth all f)
      → ((f : ℕ) → function_work domains others f ≡ function_work domains all f)
      → (n : ℕ) (infos : List FunctionInfo)
      → are_counted domains others n (counted_from domains all n infos) ≡ true
  counted-is others depths works n [] = refl
  counted-is others depths works n (info ∷ infos) =
      and_from _ _
      (and_from _ _
      (subst (λ d. (function_depth all n == d) ≡ true) (sym (depths n)) (same_nat (function_depth all n)))
      (subst (λ w. (min (function_work domains all n) most_count == min w most_count) ≡ true) (sym (works n))
      (same_nat (min (function_work domains all n) most_count))))
      (counted-is others depths works (n + 1) infos)
    where
      same_nat : (n : ℕ) → (n == n) ≡ true
      same_nat n = grind (arith, nat_tests)

  pub counted_functions : functions_are_counted domains (counted_from domains all 0 all) ≡ true
  counted_functions =
      let counted = counted_from domains all 0 all in
      let bodies = counted_bodies 0 all in
      counted-is counted
      (of_bodies depth_level 0 counted all bodies 512)
      (of_bodies (work_level domains) 0 counted all bodies 512)
      0 all
