-- What is so of each term is shown from what is so of its parts, and what is said of a term by its
-- form.
use Rattle.std.proofs.Common.{◌≡◌, ℕ, Some, None, List, [], ◌∷◌, ◌++◌, map, refl, sym, ap}
use Rattle.std.proofs.Common.{subst, ◌∙◌, rules}
use Rattle.std.specs.List.{AllByRecursion}
use Rattle.asm_program.specs.declared.trees.Term.{Term}
use Rattle.asm_program.specs.declared.trees.Case.{Case}
use Rattle.asm_program.specs.declared.trees.Term.TheOpen.{Term-F, Case-F}
use Rattle.asm_program.specs.declared.trees.Term.TheFolds.{fold-Case, fold_out-Term, fold_out-Case}
use Rattle.asm_program.specs.declared.trees.Term.TheFolds.{ind-Term, map-Term}
use Rattle.asm_program.specs.declared.trees.Term.TheViews.{out-Term, out-Case, roll-Term, roll-Case}
use Rattle.asm_program.specs.declared.trees.Term.TheViews.{the_lemmas}
use Rattle.asm_program.specs.Forms.{optional, of_cases, parts, called, of_term, case_pair}

-- ---- parts

abbrev pub case_value : Case → Term
case_value c = (out-Case c).value

abbrev pub case_term : Case → Term
case_term c = (out-Case c).term

abbrev pub case_terms : List Case → List Term
case_terms [] = []
case_terms (c ∷ cs) = case_value c ∷ case_term c ∷ case_terms cs

-- the terms that a term is made of
abbrev pub sub_terms : Term-F Term Case → List Term
sub_terms (Term-F.Operator operation args span) = args
sub_terms (Term-F.And left right) = left ∷ right ∷ []
sub_terms (Term-F.Or left right) = left ∷ right ∷ []
sub_terms (Term-F.Implies left right) = left ∷ right ∷ []
sub_terms (Term-F.Constant v) = []
sub_terms (Term-F.Variable i) = []
sub_terms (Term-F.Read f args) = args
sub_terms (Term-F.Call f args) = args
sub_terms (Term-F.Tuple items span) = items
sub_terms (Term-F.Forall ranges body) = body ∷ []
sub_terms (Term-F.Exist ranges body) = body ∷ []
sub_terms (Term-F.ExistUnique ranges body) = body ∷ []
sub_terms (Term-F.Interval from to span) = from ∷ to ∷ []
sub_terms (Term-F.Set items span) = items
sub_terms (Term-F.Seq items span) = items
sub_terms (Term-F.If guard first other) = guard ∷ first ∷ optional other
sub_terms (Term-F.Let values body) = values ++ body ∷ []
sub_terms (Term-F.Switch v cases other) = v ∷ case_terms cases ++ optional other

out_roll : (a : Term-F Term Case) → out-Term (roll-Term a) ≡ a
out_roll a = search (rules, the_lemmas)

out_roll_case : (a : Case-F Term Case) → out-Case (roll-Case a) ≡ a
out_roll_case a = search (rules, the_lemmas)

module _ (P : Term → Type 0) where
  abbrev OfCase : Case → Type 0
  OfCase c = P (case_value c) × P (case_term c)

  abbrev Held : Type 0
  Held = (t : Term) × P t

  abbrev HeldCase : Type 0
  HeldCase = (c : Case) × OfCase c

  all_held : (hs : List Held) → AllByRecursion P (map (λ h. h.0) hs)
  all_held [] = tt
  all_held (h ∷ hs) = (h.1, all_held hs)

  held_before : (hs : List Held) (o : List Term) → AllByRecursion P o
      → AllByRecursion P (map (λ h. h.0) hs ++ o)
  held_before [] o k = k
  held_before (h ∷ hs) o k = (h.1, held_before hs o k)

  cases_held : (hs : List HeldCase) (o : List Term) → AllByRecursion P o
      → AllByRecursion P (case_terms (map (λ h. h.0) hs) ++ o)
  cases_held [] o k = k
  cases_held (h ∷ hs) o k = (h.1.0, (h.1.1, cases_held hs o k))

  parts_held : (y : Term-F Held HeldCase) → AllByRecursion P
      (sub_terms (map-Term Held HeldCase Term Case (λ h. h.0) (λ h. h.0) y))
  parts_held (Term-F.Operator operation args span) = all_held args
  parts_held (Term-F.And left right) = (left.1, (right.1, tt))
  parts_held (Term-F.Or left right) = (left.1, (right.1, tt))
  parts_held (Term-F.Implies left right) = (left.1, (right.1, tt))
  parts_held (Term-F.Constant v) = tt
  parts_held (Term-F.Variable i) = tt
  parts_held (Term-F.Read f args) = all_held args
  parts_held (Term-F.Call f args) = all_held args
  parts_held (Term-F.Tuple items span) = all_held items
  parts_held (Term-F.Forall ranges body) = (body.1, tt)
  parts_held (Term-F.Exist ranges body) = (body.1, tt)
  parts_held (Term-F.ExistUnique ranges body) = (body.1, tt)
  parts_held (Term-F.Interval from to span) = (from.1, (to.1, tt))
  parts_held (Term-F.Set items span) = all_held items
  parts_held (Term-F.Seq items span) = all_held items
  parts_held (Term-F.If guard first None) = (guard.1, (first.1, tt))
  parts_held (Term-F.If guard first (Some other)) = (guard.1, (first.1, (other.1, tt)))
  parts_held (Term-F.Let values body) = held_before values (body.0 ∷ []) (body.1, tt)
  parts_held (Term-F.Switch v cases None) = (v.1, cases_held cases [] tt)
  parts_held (Term-F.Switch v cases (Some other)) =
      (v.1, cases_held cases (other.0 ∷ []) (other.1, tt))

  pub by_parts : ((t : Term) (a : Term-F Term Case) → out-Term t ≡ a
      → AllByRecursion P (sub_terms a) → P t) → (t : Term) → P t
  by_parts step t = ind-Term P OfCase
      (λ x y is. step (roll-Term x) x (out_roll x) (subst (λ z. AllByRecursion P (sub_terms z)) is
      (parts_held y)))
      (λ x y is. (
        subst (λ z. P z.value) (is ∙ sym (out_roll_case x)) y.value.1,
        subst (λ z. P z.term) (is ∙ sym (out_roll_case x)) y.term.1,
      ))
      t

-- ---- what is said of a term, by its form

module _ {X : Type 0} (level : (ℕ → X) → Term-F X (X × X) → X) (calls : ℕ → X) where
  abbrev pub both_of : Case → X × X
  both_of c = (of_term level calls (case_value c), of_term level calls (case_term c))

  -- a form with what is said of each part in its place
  abbrev pub said : Term-F Term Case → Term-F X (X × X)
  said a = map-Term Term Case X (X × X) (of_term level calls) both_of a

  case_out : (c : Case) → fold-Case X (X × X) (level calls) case_pair c ≡ both_of c
  unfolding of_term
  case_out c = fold_out-Case X (X × X) (level calls) case_pair c

  pub of_term-out : (t : Term) (a : Term-F Term Case) → out-Term t ≡ a
      → of_term level calls t ≡ level calls (said a)
  unfolding of_term
  of_term-out t a e =
      fold_out-Term X (X × X) (level calls) case_pair t
      ∙ (λ i. level calls (map-Term Term Case X (X × X) (of_term level calls) (λ c. case_out c i)
      (e i)))

  -- ---- its parts are said of those of the term

  before_map : (ts : List Term) (t : Term) → map (of_term level calls) ts
      ++ of_term level calls t ∷ [] ≡ map (of_term level calls) (ts ++ t ∷ [])
  before_map [] t = refl
  before_map (u ∷ us) t = ap (λ xs. of_term level calls u ∷ xs) (before_map us t)

  cases_map : (cases : List Case) (others : List Term)
      → of_cases (map both_of cases) ++ map (of_term level calls) others
      ≡ map (of_term level calls) (case_terms cases ++ others)
  cases_map [] others = refl
  cases_map (c ∷ cases) others =
      ap (λ xs. of_term level calls (case_value c) ∷ of_term level calls (case_term c) ∷ xs)
      (cases_map cases others)

  pub parts-said : (a : Term-F Term Case) → parts (said a) ≡ map (of_term level calls) (sub_terms a)
  parts-said (Term-F.Operator operation args span) = refl
  parts-said (Term-F.And left right) = refl
  parts-said (Term-F.Or left right) = refl
  parts-said (Term-F.Implies left right) = refl
  parts-said (Term-F.Constant v) = refl
  parts-said (Term-F.Variable i) = refl
  parts-said (Term-F.Read f args) = refl
  parts-said (Term-F.Call f args) = refl
  parts-said (Term-F.Tuple items span) = refl
  parts-said (Term-F.Forall ranges body) = refl
  parts-said (Term-F.Exist ranges body) = refl
  parts-said (Term-F.ExistUnique ranges body) = refl
  parts-said (Term-F.Interval from to span) = refl
  parts-said (Term-F.Set items span) = refl
  parts-said (Term-F.Seq items span) = refl
  parts-said (Term-F.If guard first None) = refl
  parts-said (Term-F.If guard first (Some other)) = refl
  parts-said (Term-F.Let values body) = before_map values body
  parts-said (Term-F.Switch v cases None) =
      ap (λ xs. of_term level calls v ∷ xs) (cases_map cases [])
  parts-said (Term-F.Switch v cases (Some other)) =
      ap (λ xs. of_term level calls v ∷ xs) (cases_map cases (other ∷ []))

  pub called-said : (a : Term-F Term Case) → called (said a) ≡ called a
  called-said (Term-F.Operator operation args span) = refl
  called-said (Term-F.And left right) = refl
  called-said (Term-F.Or left right) = refl
  called-said (Term-F.Implies left right) = refl
  called-said (Term-F.Constant v) = refl
  called-said (Term-F.Variable i) = refl
  called-said (Term-F.Read f args) = refl
  called-said (Term-F.Call f args) = refl
  called-said (Term-F.Tuple items span) = refl
  called-said (Term-F.Forall ranges body) = refl
  called-said (Term-F.Exist ranges body) = refl
  called-said (Term-F.ExistUnique ranges body) = refl
  called-said (Term-F.Interval from to span) = refl
  called-said (Term-F.Set items span) = refl
  called-said (Term-F.Seq items span) = refl
  called-said (Term-F.If guard first other) = refl
  called-said (Term-F.Let values body) = refl
  called-said (Term-F.Switch v cases other) = refl
