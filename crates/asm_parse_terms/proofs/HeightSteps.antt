-- What the heights of terms compute.
use Rattle.std.proofs.Common.{◌≡◌, ◌∙◌, ℕ, zero, suc, ◌+◌, ◌-◌, ◌<◌, Bool, true, false, ◌&&◌, List, [], ◌∷◌, map, length, drop, get_or, Option, None, Some, nat_le, nat_lt, refl, ap, sym, arith, cond}
use Rattle.std.specs.List.{list_all}
use Rattle.std.proofs.lemmas.List.{drop_more}
use Rattle.asm_syntax.specs.declared.tree.TermTree.{TermTree}
use Rattle.asm_syntax.specs.declared.tree.TermTree.TheOpen.{TermTree-F}
use Rattle.asm_syntax.specs.declared.tree.TermTree.TheFolds.{fold_out-TermTree, fold_out-TermsTree, fold_out-BindTree, fold_out-BindsTree, fold_out-CaseTree, map-TermTree, map-TermsTree, map-BindTree, map-BindsTree, map-CaseTree}
use Rattle.asm_syntax.specs.declared.tree.TermTree.TheViews.{out-TermTree, out-TermsTree, out-BindTree, out-BindsTree, out-CaseTree, the_lemmas}
use Rattle.asm_syntax.specs.declared.tree.TermsTree.{TermsTree}
use Rattle.asm_syntax.specs.declared.tree.BindTree.{BindTree}
use Rattle.asm_syntax.specs.declared.tree.BindsTree.{BindsTree}
use Rattle.asm_syntax.specs.declared.tree.CaseTree.{CaseTree}
use Rattle.std.specs.Option.{option_map}
use Rattle.asm_syntax.specs.declared.token.Span.{Span}
use Rattle.asm_syntax.specs.Heights.{height, fits, or_zero, term_step, bind_step, binds_step, case_step, terms_step, greater, greatest}
use Rattle.asm_parse_terms.specs.HeightParts.{bind_height, binds_height, case_height, terms_height}

pub height-out : (t : TermTree) → height t ≡ term_step (map-TermTree TermTree BindTree BindsTree CaseTree TermsTree ℕ ℕ ℕ ℕ ℕ height bind_height binds_height case_height terms_height (out-TermTree t))
unfolding height bind_height binds_height case_height terms_height
height-out t = fold_out-TermTree ℕ ℕ ℕ ℕ ℕ term_step bind_step binds_step case_step terms_step t

pub terms_height-out : (t : TermsTree) → terms_height t ≡ terms_step (map-TermsTree TermTree BindTree BindsTree CaseTree TermsTree ℕ ℕ ℕ ℕ ℕ height bind_height binds_height case_height terms_height (out-TermsTree t))
unfolding height bind_height binds_height case_height terms_height
terms_height-out t = fold_out-TermsTree ℕ ℕ ℕ ℕ ℕ term_step bind_step binds_step case_step terms_step t

pub bind_height-out : (t : BindTree) → bind_height t ≡ bind_step (map-BindTree TermTree BindTree BindsTree CaseTree TermsTree ℕ ℕ ℕ ℕ ℕ height bind_height binds_height case_height terms_height (out-BindTree t))
unfolding height bind_height binds_height case_height terms_height
bind_height-out t = fold_out-BindTree ℕ ℕ ℕ ℕ ℕ term_step bind_step binds_step case_step terms_step t

pub binds_height-out : (t : BindsTree) → binds_height t ≡ binds_step (map-BindsTree TermTree BindTree BindsTree CaseTree TermsTree ℕ ℕ ℕ ℕ ℕ height bind_height binds_height case_height terms_height (out-BindsTree t))
unfolding height bind_height binds_height case_height terms_height
binds_height-out t = fold_out-BindsTree ℕ ℕ ℕ ℕ ℕ term_step bind_step binds_step case_step terms_step t

pub case_height-out : (t : CaseTree) → case_height t ≡ case_step (map-CaseTree TermTree BindTree BindsTree CaseTree TermsTree ℕ ℕ ℕ ℕ ℕ height bind_height binds_height case_height terms_height (out-CaseTree t))
unfolding height bind_height binds_height case_height terms_height
case_height-out t = fold_out-CaseTree ℕ ℕ ℕ ℕ ℕ term_step bind_step binds_step case_step terms_step t

-- ---- what is at most so great

pub le-suc : (n m : ℕ) → 0 < m → nat_le (suc n) m ≡ nat_le n (m - 1)
le-suc n m h = grind arith

pub le-zero : (n m : ℕ) → (0 < m → ⊥) → nat_le (suc n) m ≡ false
le-zero n m h = grind arith

le-both : (a b m : ℕ) (x : Bool) → nat_le a b ≡ x → nat_le (cond x b a) m ≡ (nat_le a m && nat_le b m)
le-both a b m true e = grind arith
le-both a b m false e = grind arith

pub le-greater : (a b m : ℕ) → nat_le (greater a b) m ≡ (nat_le a m && nat_le b m)
le-greater a b m = le-both a b m (nat_le a b) refl

pub le-greatest : {A : Type 0} (f : A → ℕ) (m : ℕ) (xs : List A) → nat_le (greatest (map f xs)) m ≡ list_all (λ x. nat_le (f x) m) xs
le-greatest f m [] = grind arith
le-greatest f m (x ∷ xs) = le-greater (f x) (greatest (map f xs)) m ∙ ap (λ b. nat_le (f x) m && b) (le-greatest f m xs)

module _ (m : ℕ) where
  pub terms-within : (t : TermsTree) → nat_le (terms_height t) m ≡ (nat_le (height (out-TermsTree t).first) m && list_all (λ x. nat_le (height x) m) (out-TermsTree t).others)
  terms-within t =
      ap (λ n. nat_le n m) (terms_height-out t) ∙ le-greater _ _ m ∙ ap (λ b. nat_le (height (out-TermsTree t).first) m && b) (le-greatest height m (out-TermsTree t).others)

  pub binds-within : (t : BindsTree) → nat_le (binds_height t) m ≡ (nat_le (bind_height (out-BindsTree t).first) m && list_all (λ x. nat_le (bind_height x) m) (out-BindsTree t).others)
  binds-within t =
      ap (λ n. nat_le n m) (binds_height-out t) ∙ le-greater _ _ m ∙ ap (λ b. nat_le (bind_height (out-BindsTree t).first) m && b) (le-greatest bind_height m (out-BindsTree t).others)

  -- one below the height of a term with cases
  pub le_cases : (n o : ℕ) (cases : List CaseTree) → nat_le (greater n (greater (greatest (map case_height cases)) o)) m
      ≡ (nat_le n m && (list_all (λ c. nat_le (case_height c) m) cases && nat_le o m))
  le_cases n o cases =
      le-greater n _ m ∙ ap (λ b. nat_le n m && b) (le-greater _ o m ∙ ap (λ b. b && nat_le o m) (le-greatest case_height m cases))

pub switch-within : (m : ℕ) (t value : TermTree) (cases : List CaseTree) (other : Option TermTree) (span : Span) → out-TermTree t ≡ TermTree-F.Switch value cases other span
    → 0 < m → nat_le (height t) m ≡ nat_le (greater (height value) (greater (greatest (map case_height cases)) (or_zero (option_map height other)))) (m - 1)
switch-within m t value cases None span e h =
    ap (λ n. nat_le n m) (height-out t ∙ ap (λ x. term_step (map-TermTree TermTree BindTree BindsTree CaseTree TermsTree ℕ ℕ ℕ ℕ ℕ height bind_height binds_height case_height terms_height x)) e) ∙ le-suc _ m h
switch-within m t value cases (Some other) span e h =
    ap (λ n. nat_le n m) (height-out t ∙ ap (λ x. term_step (map-TermTree TermTree BindTree BindsTree CaseTree TermsTree ℕ ℕ ℕ ℕ ℕ height bind_height binds_height case_height terms_height x)) e) ∙ le-suc _ m h

pub fits_is : (t : TermTree) → fits t ≡ nat_le (height t) 63
unfolding fits
fits_is t = grind arith

pub ruleset height_steps = (height-out, bind_height-out, case_height-out, le-suc, le-zero, le-greater, terms-within, binds-within, le_cases, the_lemmas)
