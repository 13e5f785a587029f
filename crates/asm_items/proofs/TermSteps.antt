-- The items of terms, step by step.
use Rattle.std.proofs.Common.{◌≡◌, ℕ, ◌+◌, ◌<◌, ◌≤◌, Option, Some, None, List, [], ◌∷◌, ◌++◌, length, map, drop, get_or, refl, ap, ◌∙◌, arith}
use Rattle.std.proofs.lemmas.List.{drop_all, drop_more}
use Rattle.asm_syntax.specs.declared.token.Token.{Token}
use Rattle.asm_syntax.specs.declared.tree.RangesTree.{RangesTree}
use Rattle.asm_syntax.specs.declared.tree.TermTree.{TermTree}
use Rattle.asm_syntax.specs.declared.tree.TermTree.TheOpen.{TermTree-F}
use Rattle.asm_syntax.specs.declared.tree.TermTree.TheFolds.{fold-TermsTree, fold-BindTree, fold-BindsTree, fold-CaseTree, fold_out-TermTree, fold_out-TermsTree, fold_out-BindTree, fold_out-BindsTree, fold_out-CaseTree, map-TermTree}
use Rattle.asm_syntax.specs.declared.tree.TermTree.TheViews.{out-TermTree, out-TermsTree, out-BindTree, out-BindsTree, out-CaseTree, the_lemmas}
use Rattle.asm_syntax.specs.declared.tree.TermsTree.{TermsTree}
use Rattle.asm_syntax.specs.declared.tree.BindTree.{BindTree}
use Rattle.asm_syntax.specs.declared.tree.BindsTree.{BindsTree}
use Rattle.asm_syntax.specs.declared.tree.CaseTree.{CaseTree}
use Rattle.asm_syntax.specs.Marks.{text_of}
use Rattle.asm_syntax.specs.Extents.{extent, span_among}
use Rattle.asm_program.specs.Items.{Items, Part, Level, NamesFunction, ninth, numbered, numbered_from, all_items, cases_items, repeated, term_level, bind_level, binds_level, case_level, terms_level, term_part, term_items, binds_of, bind_part, binds_from, listed_terms}
use Rattle.asm_items.specs.Views.{seen_with, with_items}
use Rattle.asm_items.specs.Parts.{all_ranges, terms_from, numbered_terms, args_of, named, more_terms, listed_of, quantified, maybe_term, cases_of, more_binds, all_binds}
use Rattle.asm_items.proofs.Sets.{Alike, alike-cons, alike-seen}
use Rattle.asm_items.proofs.Steps.{with_items-append, with_items-none}
use Rattle.asm_items.proofs.RangeSteps.{repeated-alike}

abbrev Form : Type 0
Form = TermTree-F TermTree BindTree BindsTree CaseTree TermsTree

-- ---- what holds terms, folded

abbrev folded_terms : TermsTree → List Part
folded_terms = fold-TermsTree Part (Token × Part) (List (Token × Part)) (Part × Part) (List Part) term_level bind_level binds_level case_level terms_level

abbrev folded_bind : BindTree → Token × Part
folded_bind = fold-BindTree Part (Token × Part) (List (Token × Part)) (Part × Part) (List Part) term_level bind_level binds_level case_level terms_level

abbrev folded_binds : BindsTree → List (Token × Part)
folded_binds = fold-BindsTree Part (Token × Part) (List (Token × Part)) (Part × Part) (List Part) term_level bind_level binds_level case_level terms_level

abbrev folded_case : CaseTree → Part × Part
folded_case = fold-CaseTree Part (Token × Part) (List (Token × Part)) (Part × Part) (List Part) term_level bind_level binds_level case_level terms_level

terms-are : (t : TermsTree) → folded_terms t ≡ map term_part (listed_terms t)
unfolding term_part
terms-are t = fold_out-TermsTree Part (Token × Part) (List (Token × Part)) (Part × Part) (List Part) term_level bind_level binds_level case_level terms_level t

bind-is : (b : BindTree) → folded_bind b ≡ bind_part b
unfolding term_part
bind-is b = fold_out-BindTree Part (Token × Part) (List (Token × Part)) (Part × Part) (List Part) term_level bind_level binds_level case_level terms_level b

map-binds : (bs : List BindTree) → map folded_bind bs ≡ map bind_part bs
map-binds [] = refl
map-binds (b ∷ bs) = λ i. bind-is b i ∷ map-binds bs i

binds-are : (b : BindsTree) → folded_binds b ≡ map bind_part (binds_of b)
binds-are b =
    fold_out-BindsTree Part (Token × Part) (List (Token × Part)) (Part × Part) (List Part) term_level bind_level binds_level case_level terms_level b
    ∙ (λ i. bind-is (out-BindsTree b).first i ∷ map-binds (out-BindsTree b).others i)

case-is : (c : CaseTree) → folded_case c ≡ (term_part (out-CaseTree c).value, term_part (out-CaseTree c).term)
unfolding term_part
case-is c = fold_out-CaseTree Part (Token × Part) (List (Token × Part)) (Part × Part) (List Part) term_level bind_level binds_level case_level terms_level c

cases-are : (cs : List CaseTree) → cases_items (map folded_case cs) ≡ cases_of cs
unfolding cases_of
cases-are [] = refl
cases-are (c ∷ cs) = λ i. (case-is c i).0.1 ++ (case-is c i).1.1 ++ cases-are cs i

-- ---- forms

abbrev pub term_form : Form → Items
term_form (TermTree-F.Prefix op t span) = term_items t
term_form (TermTree-F.Binary left op right span) = term_items left ++ term_items right
term_form (TermTree-F.Number t span) = []
term_form (TermTree-F.Chars t span) = []
term_form (TermTree-F.True span) = []
term_form (TermTree-F.False span) = []
term_form (TermTree-F.Undef span) = []
term_form (TermTree-F.Var t span) = []
term_form (TermTree-F.Name t args span) = named t args
term_form (TermTree-F.Tuple items span) = numbered_terms items
term_form (TermTree-F.Forall ranges body span) = quantified ranges body
term_form (TermTree-F.Exist unique ranges body span) = quantified ranges body
term_form (TermTree-F.Interval from to span) = term_items from ++ term_items to
term_form (TermTree-F.Set items span) = listed_of items
term_form (TermTree-F.Seq items span) = listed_of items
term_form (TermTree-F.If guard first other span) = term_items guard ++ term_items first ++ maybe_term other
term_form (TermTree-F.Let binds body span) = all_binds binds ++ term_items body
term_form (TermTree-F.Switch t cases other span) = term_items t ++ cases_of cases ++ maybe_term other

abbrev mapped : Form → Level
mapped f = map-TermTree TermTree BindTree BindsTree CaseTree TermsTree Part (Token × Part) (List (Token × Part)) (Part × Part) (List Part) term_part folded_bind folded_binds folded_case folded_terms f

same_form : (f : Form) → (term_level (mapped f)).1 ≡ term_form f
unfolding all_ranges numbered_terms args_of named more_terms listed_of quantified maybe_term all_binds
same_form (TermTree-F.Prefix op t span) = refl
same_form (TermTree-F.Binary left op right span) = refl
same_form (TermTree-F.Number t span) = refl
same_form (TermTree-F.Chars t span) = refl
same_form (TermTree-F.True span) = refl
same_form (TermTree-F.False span) = refl
same_form (TermTree-F.Undef span) = refl
same_form (TermTree-F.Var t span) = refl
same_form (TermTree-F.Name t None span) = refl
same_form (TermTree-F.Name t (Some args) span) = ap (λ ps. NamesFunction t ∷ numbered ps) (terms-are args)
same_form (TermTree-F.Tuple items span) = ap numbered (terms-are items)
same_form (TermTree-F.Forall ranges body span) = refl
same_form (TermTree-F.Exist unique ranges body span) = refl
same_form (TermTree-F.Interval from to span) = refl
same_form (TermTree-F.Set None span) = refl
same_form (TermTree-F.Set (Some items) span) = ap all_items (terms-are items)
same_form (TermTree-F.Seq None span) = refl
same_form (TermTree-F.Seq (Some items) span) = ap all_items (terms-are items)
same_form (TermTree-F.If guard first None span) = refl
same_form (TermTree-F.If guard first (Some other) span) = refl
same_form (TermTree-F.Let binds body span) = ap (λ bs. binds_from [] bs ++ term_items body) (binds-are binds)
same_form (TermTree-F.Switch t cases None span) = ap (λ is. term_items t ++ is ++ []) (cases-are cases)
same_form (TermTree-F.Switch t cases (Some other) span) = ap (λ is. term_items t ++ is ++ term_items other) (cases-are cases)

same_span : (f : Form) → (term_level (mapped f)).0 ≡ span_among f
same_span (TermTree-F.Prefix op t span) = refl
same_span (TermTree-F.Binary left op right span) = refl
same_span (TermTree-F.Number t span) = refl
same_span (TermTree-F.Chars t span) = refl
same_span (TermTree-F.True span) = refl
same_span (TermTree-F.False span) = refl
same_span (TermTree-F.Undef span) = refl
same_span (TermTree-F.Var t span) = refl
same_span (TermTree-F.Name t args span) = refl
same_span (TermTree-F.Tuple items span) = refl
same_span (TermTree-F.Forall ranges body span) = refl
same_span (TermTree-F.Exist unique ranges body span) = refl
same_span (TermTree-F.Interval from to span) = refl
same_span (TermTree-F.Set items span) = refl
same_span (TermTree-F.Seq items span) = refl
same_span (TermTree-F.If guard first other span) = refl
same_span (TermTree-F.Let binds body span) = refl
same_span (TermTree-F.Switch t cases other span) = refl

term_part-out : (t : TermTree) → term_part t ≡ term_level (mapped (out-TermTree t))
unfolding term_part
term_part-out t = fold_out-TermTree Part (Token × Part) (List (Token × Part)) (Part × Part) (List Part) term_level bind_level binds_level case_level terms_level t

pub term_items-out : (t : TermTree) → term_items t ≡ term_form (out-TermTree t)
term_items-out t = ap (λ p. p.1) (term_part-out t) ∙ same_form (out-TermTree t)

pub term_part-span : (t : TermTree) → (term_part t).0 ≡ extent t
unfolding extent
term_part-span t = ap (λ p. p.0) (term_part-out t) ∙ same_span (out-TermTree t)

-- ---- steps

binds-alike : (a b : List (List ℕ)) (bs : List (Token × Part)) → Alike a b → binds_from a bs ≡ binds_from b bs
binds-alike a b [] h = refl
binds-alike a b (c ∷ cs) h =
    λ i. repeated-alike a b c.0 h i ++ c.1.1 ++ binds-alike (text_of c.0 ∷ a) (text_of c.0 ∷ b) cs (alike-cons (text_of c.0) a b h) i

module _ (w : Items) where
  pub adds_two : (left right : TermTree) → with_items w (term_items left ++ term_items right) ≡ with_items (with_items w (term_items left)) (term_items right)
  adds_two left right = with_items-append w (term_items left) (term_items right)

  pub adds_if : (guard first : TermTree) (other : Option TermTree)
      → with_items w (term_items guard ++ term_items first ++ maybe_term other) ≡ with_items (with_items (with_items w (term_items guard)) (term_items first)) (maybe_term other)
  adds_if guard first other = simp with_items-append

  pub adds_let : (binds : BindsTree) (body : TermTree) → with_items w (all_binds binds ++ term_items body) ≡ with_items (with_items w (all_binds binds)) (term_items body)
  adds_let binds body = with_items-append w (all_binds binds) (term_items body)

  pub adds_switch : (t : TermTree) (cases : List CaseTree) (other : Option TermTree)
      → with_items w (term_items t ++ cases_of cases ++ maybe_term other) ≡ with_items (with_items (with_items w (term_items t)) (cases_of cases)) (maybe_term other)
  adds_switch t cases other = simp with_items-append

  pub adds_name : (t : Token) (args : Option TermsTree) → with_items w (named t args) ≡ with_items (with_items w (NamesFunction t ∷ [])) (args_of args)
  unfolding named
  adds_name t args = with_items-append w (NamesFunction t ∷ []) (args_of args)

  pub adds_no_args : with_items w (args_of None) ≡ w
  unfolding args_of
  adds_no_args = with_items-none w

  pub adds_args : (args : TermsTree) → with_items w (args_of (Some args)) ≡ with_items w (numbered_terms args)
  unfolding args_of numbered_terms
  adds_args args = refl

  pub adds_numbered : (ts : TermsTree) → with_items w (numbered_terms ts) ≡ with_items (with_items w (term_items (out-TermsTree ts).first)) (terms_from 2 (out-TermsTree ts).others)
  unfolding numbered_terms terms_from
  adds_numbered ts = with_items-append w (term_items (out-TermsTree ts).first) (numbered_from 2 (map term_part (out-TermsTree ts).others))

  pub terms_from-drop : (n : ℕ) (ts : List TermTree) (i : ℕ) (d : TermTree) → i < length ts
      → with_items w (terms_from (i + n) (drop i ts))
      ≡ with_items (with_items (with_items w (ninth (i + n) (extent (get_or ts i d)))) (term_items (get_or ts i d))) (terms_from (i + 1 + n) (drop (i + 1) ts))
  unfolding terms_from
  terms_from-drop n ts i d h =
      let e = get_or ts i d in
      let rest = map term_part (drop (i + 1) ts) in
      let next : i + n + 1 ≡ i + 1 + n = omega arith in
      ap (λ es. with_items w (numbered_from (i + n) (map term_part es))) (drop_more ts i d h)
      ∙ ap (λ m. with_items w (ninth (i + n) (term_part e).0 ++ term_items e ++ numbered_from m rest)) next
      ∙ ap (λ s. with_items w (ninth (i + n) s ++ term_items e ++ numbered_from (i + 1 + n) rest)) (term_part-span e)
      ∙ simp with_items-append

  pub terms_from-end : (n : ℕ) (ts : List TermTree) (i : ℕ) → length ts ≤ i → with_items w (terms_from (i + n) (drop i ts)) ≡ w
  unfolding terms_from
  terms_from-end n ts i h = ap (λ es. with_items w (numbered_from (i + n) (map term_part es))) (drop_all i ts h) ∙ with_items-none w

  pub adds_no_listed : with_items w (listed_of None) ≡ w
  unfolding listed_of more_terms
  adds_no_listed = with_items-none w

  pub adds_listed : (ts : TermsTree) → with_items w (listed_of (Some ts)) ≡ with_items (with_items w (term_items (out-TermsTree ts).first)) (more_terms (out-TermsTree ts).others)
  unfolding listed_of more_terms
  adds_listed ts = with_items-append w (term_items (out-TermsTree ts).first) (all_items (map term_part (out-TermsTree ts).others))

  pub more_terms-drop : (ts : List TermTree) (i : ℕ) (d : TermTree) → i < length ts
      → with_items w (more_terms (drop i ts)) ≡ with_items (with_items w (term_items (get_or ts i d))) (more_terms (drop (i + 1) ts))
  unfolding more_terms
  more_terms-drop ts i d h =
      ap (λ es. with_items w (all_items (map term_part es))) (drop_more ts i d h)
      ∙ with_items-append w (term_items (get_or ts i d)) (all_items (map term_part (drop (i + 1) ts)))

  pub more_terms-end : (ts : List TermTree) (i : ℕ) → length ts ≤ i → with_items w (more_terms (drop i ts)) ≡ w
  unfolding more_terms
  more_terms-end ts i h = ap (λ es. with_items w (all_items (map term_part es))) (drop_all i ts h) ∙ with_items-none w

  pub adds_quantified : (ranges : RangesTree) (body : TermTree) → with_items w (quantified ranges body) ≡ with_items (with_items w (all_ranges ranges)) (term_items body)
  unfolding quantified
  adds_quantified ranges body = with_items-append w (all_ranges ranges) (term_items body)

  pub adds_no_term : with_items w (maybe_term None) ≡ w
  unfolding maybe_term
  adds_no_term = with_items-none w

  pub adds_term : (t : TermTree) → with_items w (maybe_term (Some t)) ≡ with_items w (term_items t)
  unfolding maybe_term
  adds_term t = refl

  pub cases-drop : (cs : List CaseTree) (i : ℕ) (d : CaseTree) → i < length cs
      → with_items w (cases_of (drop i cs))
      ≡ with_items (with_items (with_items w (term_items (out-CaseTree (get_or cs i d)).value)) (term_items (out-CaseTree (get_or cs i d)).term)) (cases_of (drop (i + 1) cs))
  unfolding cases_of
  cases-drop cs i d h = ap (λ es. with_items w (cases_of es)) (drop_more cs i d h) ∙ simp with_items-append

  pub cases-end : (cs : List CaseTree) (i : ℕ) → length cs ≤ i → with_items w (cases_of (drop i cs)) ≡ w
  unfolding cases_of
  cases-end cs i h = ap (λ es. with_items w (cases_of es)) (drop_all i cs h) ∙ with_items-none w

  binds-next : (seen : List (List ℕ)) (b : BindTree) (bs : List BindTree)
      → with_items w (binds_from seen (map bind_part (b ∷ bs)))
      ≡ with_items (with_items (with_items w (repeated seen (out-BindTree b).variable)) (term_items (out-BindTree b).value)) (more_binds (seen_with (text_of (out-BindTree b).variable) seen) bs)
  unfolding more_binds
  binds-next seen b bs =
      let v = (out-BindTree b).variable in
      ap (λ is. with_items w (repeated seen v ++ term_items (out-BindTree b).value ++ is))
      (binds-alike (text_of v ∷ seen) (seen_with (text_of v) seen) (map bind_part bs) (alike-seen (text_of v) seen))
      ∙ simp with_items-append

  pub binds-drop : (seen : List (List ℕ)) (bs : List BindTree) (i : ℕ) (d : BindTree) → i < length bs
      → with_items w (more_binds seen (drop i bs))
      ≡ with_items (with_items (with_items w (repeated seen (out-BindTree (get_or bs i d)).variable)) (term_items (out-BindTree (get_or bs i d)).value))
      (more_binds (seen_with (text_of (out-BindTree (get_or bs i d)).variable) seen) (drop (i + 1) bs))
  unfolding more_binds
  binds-drop seen bs i d h = ap (λ es. with_items w (binds_from seen (map bind_part es))) (drop_more bs i d h) ∙ binds-next seen (get_or bs i d) (drop (i + 1) bs)

  pub binds-end : (seen : List (List ℕ)) (bs : List BindTree) (i : ℕ) → length bs ≤ i → with_items w (more_binds seen (drop i bs)) ≡ w
  unfolding more_binds
  binds-end seen bs i h = ap (λ es. with_items w (binds_from seen (map bind_part es))) (drop_all i bs h) ∙ with_items-none w

  pub adds_binds : (b : BindsTree)
      → with_items w (all_binds b)
      ≡ with_items (with_items (with_items w (repeated [] (out-BindTree (out-BindsTree b).first).variable)) (term_items (out-BindTree (out-BindsTree b).first).value))
      (more_binds (seen_with (text_of (out-BindTree (out-BindsTree b).first).variable) []) (out-BindsTree b).others)
  unfolding all_binds
  adds_binds b = binds-next [] (out-BindsTree b).first (out-BindsTree b).others

pub ruleset term_steps = (term_items-out, adds_two, adds_if, adds_let, adds_switch, with_items-none, the_lemmas)

pub ruleset name_steps = (adds_name, the_lemmas)

pub ruleset args_steps = (adds_no_args, adds_args, the_lemmas)

pub ruleset numbered_steps = (adds_numbered, the_lemmas)

pub ruleset more_numbered_steps = (terms_from-drop, terms_from-end, the_lemmas)

pub ruleset listed_steps = (adds_no_listed, adds_listed, the_lemmas)

pub ruleset more_listed_steps = (more_terms-drop, more_terms-end, the_lemmas)

pub ruleset quantified_steps = (adds_quantified, the_lemmas)

pub ruleset maybe_steps = (adds_no_term, adds_term, the_lemmas)

pub ruleset cases_steps = (cases-drop, cases-end, the_lemmas)

pub ruleset binds_steps = (adds_binds, the_lemmas)

pub ruleset more_binds_steps = (binds-drop, binds-end, the_lemmas)
