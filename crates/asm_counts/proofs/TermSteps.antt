-- The counts of terms, form by form.
use Rattle.std.proofs.Common.{◌≡◌, ℕ, ◌+◌, ◌<◌, Some, None, List, [], ◌∷◌, length, get_or, take}
use Rattle.std.proofs.Common.{map, refl, ap, ◌∙◌}
use Rattle.asm_value.specs.declared.domain.DomainInfo.{DomainInfo}
use Rattle.asm_program.specs.declared.trees.Term.{Term}
use Rattle.asm_program.specs.declared.trees.Case.{Case}
use Rattle.asm_program.specs.declared.trees.Term.TheOpen.{Term-F}
use Rattle.asm_program.specs.declared.trees.Term.TheFolds.{fold-Case, fold_out-Term, fold_out-Case}
use Rattle.asm_program.specs.declared.trees.Term.TheFolds.{map-Term}
use Rattle.asm_program.specs.declared.trees.Term.TheViews.{out-Term, out-Case, the_lemmas}
use Rattle.asm_program.specs.Forms.{of_term, case_pair}
use Rattle.asm_counts.specs.declared.counts.Counts.{Counts}
use Rattle.asm_counts.specs.CountLevels.{nothing, node, both, times, together, pair_counts}
use Rattle.asm_counts.specs.CountLevels.{combinations, counts_level, term_counts, terms_counts}
use Rattle.asm_counts.specs.CountLevels.{other_counts, case_counts, cases_counts}
use Rattle.asm_counts.proofs.Sums.{together-more}

module _ (domains : List DomainInfo) (calls : ℕ → Counts) where
  abbrev said : Term → Counts
  said = term_counts domains calls

  abbrev said_case : Case → Counts × Counts
  said_case c = (said (out-Case c).value, said (out-Case c).term)

  case_out : (c : Case)
      → fold-Case Counts (Counts × Counts) (counts_level domains calls) case_pair c ≡ said_case c
  unfolding term_counts of_term
  case_out c = fold_out-Case Counts (Counts × Counts) (counts_level domains calls) case_pair c

  abbrev mapped : Term-F Term Case → Term-F Counts (Counts × Counts)
  mapped a = map-Term Term Case Counts (Counts × Counts) said said_case a

  at_level : (t : Term) → said t ≡ counts_level domains calls (mapped (out-Term t))
  unfolding term_counts of_term
  at_level t =
      fold_out-Term Counts (Counts × Counts) (counts_level domains calls) case_pair t
      ∙ (λ i. counts_level domains calls (map-Term Term Case Counts (Counts × Counts) said
      (λ c. case_out c i) (out-Term t)))

  pairs-are : (cs : List Case)
      → together (map pair_counts (map said_case cs)) ≡ together
      (map (case_counts domains calls) cs)
  unfolding case_counts
  pairs-are [] = refl
  pairs-are (c ∷ cs) = ap (both (pair_counts (said_case c))) (pairs-are cs)

  -- the counts of a form, in the words of those of its parts
  abbrev pub form_counts : Term-F Term Case → Counts
  form_counts (Term-F.Operator operation args span) = node (terms_counts domains calls args)
  form_counts (Term-F.And left right) = node (both (said left) (said right))
  form_counts (Term-F.Or left right) = node (both (said left) (said right))
  form_counts (Term-F.Implies left right) = node (both (said left) (said right))
  form_counts (Term-F.Constant v) = node nothing
  form_counts (Term-F.Variable n) = node nothing
  form_counts (Term-F.Read f args) = node (terms_counts domains calls args)
  form_counts (Term-F.Call f args) = both (node (terms_counts domains calls args)) (calls f)
  form_counts (Term-F.Tuple items span) = node (terms_counts domains calls items)
  form_counts (Term-F.Forall ranges body) = node (times (combinations domains ranges) (said body))
  form_counts (Term-F.Exist ranges body) = node (times (combinations domains ranges) (said body))
  form_counts (Term-F.ExistUnique ranges body) =
      node (times (combinations domains ranges) (said body))
  form_counts (Term-F.Interval from to span) = node (both (said from) (said to))
  form_counts (Term-F.Set items span) = node (terms_counts domains calls items)
  form_counts (Term-F.Seq items span) = node (terms_counts domains calls items)
  form_counts (Term-F.If guard first other) =
      node (both (both (said guard) (said first)) (other_counts domains calls other))
  form_counts (Term-F.Let values body) = node (both (terms_counts domains calls values) (said body))
  form_counts (Term-F.Switch v cases other) =
      node (both (both (said v) (cases_counts domains calls cases))
      (other_counts domains calls other))

  same_form : (a : Term-F Term Case) → counts_level domains calls (mapped a) ≡ form_counts a
  unfolding terms_counts other_counts cases_counts
  same_form (Term-F.Operator operation args span) = refl
  same_form (Term-F.And left right) = refl
  same_form (Term-F.Or left right) = refl
  same_form (Term-F.Implies left right) = refl
  same_form (Term-F.Constant v) = refl
  same_form (Term-F.Variable n) = refl
  same_form (Term-F.Read f args) = refl
  same_form (Term-F.Call f args) = refl
  same_form (Term-F.Tuple items span) = refl
  same_form (Term-F.Forall ranges body) = refl
  same_form (Term-F.Exist ranges body) = refl
  same_form (Term-F.ExistUnique ranges body) = refl
  same_form (Term-F.Interval from to span) = refl
  same_form (Term-F.Set items span) = refl
  same_form (Term-F.Seq items span) = refl
  same_form (Term-F.If guard first None) = refl
  same_form (Term-F.If guard first (Some other)) = refl
  same_form (Term-F.Let values body) = refl
  same_form (Term-F.Switch v cases None) =
      ap (λ c. node (both (both (said v) c) nothing)) (pairs-are cases)
  same_form (Term-F.Switch v cases (Some other)) =
      ap (λ c. node (both (both (said v) c) (said other))) (pairs-are cases)

  pub term-out : (t : Term) → term_counts domains calls t ≡ form_counts (out-Term t)
  term-out t = at_level t ∙ same_form (out-Term t)

  pub terms-none : terms_counts domains calls [] ≡ nothing
  unfolding terms_counts
  terms-none = refl

  pub terms-more : (ts : List Term) (i : ℕ) (d : Term) → i < length ts
      → both (terms_counts domains calls (take i ts)) (term_counts domains calls (get_or ts i d))
      ≡ terms_counts domains calls (take (i + 1) ts)
  unfolding terms_counts
  terms-more ts i d h = together-more (term_counts domains calls) ts i d h

  pub cases-none : cases_counts domains calls [] ≡ nothing
  unfolding cases_counts
  cases-none = refl

  pub cases-more : (cs : List Case) (i : ℕ) (d : Case) → i < length cs
      → both (cases_counts domains calls (take i cs)) (case_counts domains calls (get_or cs i d))
      ≡ cases_counts domains calls (take (i + 1) cs)
  unfolding cases_counts
  cases-more cs i d h = together-more (case_counts domains calls) cs i d h

  pub case-is : (c : Case) → case_counts domains calls c
      ≡ both (term_counts domains calls (out-Case c).value)
      (term_counts domains calls (out-Case c).term)
  unfolding case_counts
  case-is c = refl

  pub other-none : other_counts domains calls None ≡ nothing
  unfolding other_counts
  other-none = refl

  pub other-some : (t : Term) → other_counts domains calls (Some t) ≡ term_counts domains calls t
  unfolding other_counts
  other-some t = refl

pub ruleset all_steps = (terms-none, terms-more)

pub ruleset cases_steps = (cases-none, cases-more)

pub ruleset case_steps = (case-is, the_lemmas)

pub ruleset other_steps = (other-none, other-some)

pub ruleset term_steps = (term-out, the_lemmas)
