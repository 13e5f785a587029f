-- What is so of each term of a text is shown from what is so of its parts, and what the checker
-- tells of a term by its form.
use Rattle.std.proofs.Common.{◌≡◌, Some, None, List, [], ◌∷◌, map, sym, subst, ◌∙◌, rules}
use Rattle.std.specs.List.{AllByRecursion}
use Rattle.asm_syntax.specs.declared.token.Token.{Token}
use Rattle.asm_syntax.specs.declared.tree.BindTree.{BindTree}
use Rattle.asm_syntax.specs.declared.tree.BindsTree.{BindsTree}
use Rattle.asm_syntax.specs.declared.tree.CaseTree.{CaseTree}
use Rattle.asm_syntax.specs.declared.tree.TermsTree.{TermsTree}
use Rattle.asm_syntax.specs.declared.tree.TermTree.{TermTree}
use Rattle.asm_syntax.specs.declared.tree.TermTree.TheOpen.{TermTree-F, BindTree-F, BindsTree-F}
use Rattle.asm_syntax.specs.declared.tree.TermTree.TheOpen.{CaseTree-F, TermsTree-F}
use Rattle.asm_syntax.specs.declared.tree.TermTree.TheFolds.{fold-BindTree, fold-BindsTree}
use Rattle.asm_syntax.specs.declared.tree.TermTree.TheFolds.{fold-CaseTree, fold-TermsTree}
use Rattle.asm_syntax.specs.declared.tree.TermTree.TheFolds.{fold_out-TermTree, fold_out-BindTree}
use Rattle.asm_syntax.specs.declared.tree.TermTree.TheFolds.{fold_out-BindsTree, fold_out-CaseTree}
use Rattle.asm_syntax.specs.declared.tree.TermTree.TheFolds.{fold_out-TermsTree, ind-TermTree}
use Rattle.asm_syntax.specs.declared.tree.TermTree.TheFolds.{map-TermTree}
use Rattle.asm_syntax.specs.declared.tree.TermTree.TheViews.{out-TermTree, out-BindTree}
use Rattle.asm_syntax.specs.declared.tree.TermTree.TheViews.{out-BindsTree, out-CaseTree}
use Rattle.asm_syntax.specs.declared.tree.TermTree.TheViews.{out-TermsTree, roll-TermTree}
use Rattle.asm_syntax.specs.declared.tree.TermTree.TheViews.{roll-BindTree, roll-BindsTree}
use Rattle.asm_syntax.specs.declared.tree.TermTree.TheViews.{roll-CaseTree, roll-TermsTree}
use Rattle.asm_syntax.specs.declared.tree.TermTree.TheViews.{the_lemmas}
use Rattle.asm_program.specs.Forms.{optional}
use Rattle.asm_program.specs.Items.{bind_of, binds_of, listed_terms, terms_of, bind_level}
use Rattle.asm_program.specs.Items.{binds_level, case_level, terms_level}
use Rattle.asm_program.specs.TypedTerms.{Scope, Typing, TermLevel, check_level, checked}

-- one level of a term
abbrev pub Form : Type 0
Form = TermTree-F TermTree BindTree BindsTree CaseTree TermsTree

-- ---- induction

out_roll : (a : Form) → out-TermTree (roll-TermTree a) ≡ a
out_roll a = search (rules, the_lemmas)

out_roll_bind : (a : BindTree-F TermTree BindTree BindsTree CaseTree TermsTree)
    → out-BindTree (roll-BindTree a) ≡ a
out_roll_bind a = search (rules, the_lemmas)

out_roll_binds : (a : BindsTree-F TermTree BindTree BindsTree CaseTree TermsTree)
    → out-BindsTree (roll-BindsTree a) ≡ a
out_roll_binds a = search (rules, the_lemmas)

out_roll_case : (a : CaseTree-F TermTree BindTree BindsTree CaseTree TermsTree)
    → out-CaseTree (roll-CaseTree a) ≡ a
out_roll_case a = search (rules, the_lemmas)

out_roll_terms : (a : TermsTree-F TermTree BindTree BindsTree CaseTree TermsTree)
    → out-TermsTree (roll-TermsTree a) ≡ a
out_roll_terms a = search (rules, the_lemmas)

pub all_held : {A : Type 0} (Q : A → Type 0) (hs : List ((x : A) × Q x))
    → AllByRecursion Q (map (λ h. h.0) hs)
all_held Q [] = tt
all_held Q (h ∷ hs) = (h.1, all_held Q hs)

module _ (P : TermTree → Type 0) where
  abbrev pub OfBind : BindTree → Type 0
  OfBind b = P (bind_of b).1

  abbrev pub OfBinds : BindsTree → Type 0
  OfBinds b = AllByRecursion OfBind (binds_of b)

  abbrev pub OfCase : CaseTree → Type 0
  OfCase c = P (out-CaseTree c).value × P (out-CaseTree c).term

  abbrev pub OfTerms : TermsTree → Type 0
  OfTerms ts = AllByRecursion P (listed_terms ts)

  -- of each part of the form
  abbrev pub OfParts : Form → Type 0
  OfParts (TermTree-F.Prefix op t span) = P t
  OfParts (TermTree-F.Binary left op right span) = P left × P right
  OfParts (TermTree-F.Number t span) = Unit {0}
  OfParts (TermTree-F.Chars t span) = Unit {0}
  OfParts (TermTree-F.True span) = Unit {0}
  OfParts (TermTree-F.False span) = Unit {0}
  OfParts (TermTree-F.Undef span) = Unit {0}
  OfParts (TermTree-F.Var t span) = Unit {0}
  OfParts (TermTree-F.Name t args span) = AllByRecursion P (terms_of args)
  OfParts (TermTree-F.Tuple items span) = OfTerms items
  OfParts (TermTree-F.Forall ranges body span) = P body
  OfParts (TermTree-F.Exist unique ranges body span) = P body
  OfParts (TermTree-F.Interval from to span) = P from × P to
  OfParts (TermTree-F.Set items span) = AllByRecursion P (terms_of items)
  OfParts (TermTree-F.Seq items span) = AllByRecursion P (terms_of items)
  OfParts (TermTree-F.If guard first other span) =
      P guard × P first × AllByRecursion P (optional other)
  OfParts (TermTree-F.Let binds body span) = OfBinds binds × P body
  OfParts (TermTree-F.Switch t cases other span) =
      P t × AllByRecursion OfCase cases × AllByRecursion P (optional other)

  abbrev Held : Type 0
  Held = (t : TermTree) × P t

  abbrev HeldBind : Type 0
  HeldBind = (b : BindTree) × OfBind b

  abbrev HeldBinds : Type 0
  HeldBinds = (b : BindsTree) × OfBinds b

  abbrev HeldCase : Type 0
  HeldCase = (c : CaseTree) × OfCase c

  abbrev HeldTerms : Type 0
  HeldTerms = (ts : TermsTree) × OfTerms ts

  abbrev forgotten : TermTree-F Held HeldBind HeldBinds HeldCase HeldTerms → Form
  forgotten =
      map-TermTree Held HeldBind HeldBinds HeldCase HeldTerms TermTree BindTree BindsTree CaseTree
      TermsTree (λ h. h.0) (λ h. h.0) (λ h. h.0) (λ h. h.0) (λ h. h.0)

  parts_held : (y : TermTree-F Held HeldBind HeldBinds HeldCase HeldTerms) → OfParts (forgotten y)
  parts_held (TermTree-F.Prefix op t span) = t.1
  parts_held (TermTree-F.Binary left op right span) = (left.1, right.1)
  parts_held (TermTree-F.Number t span) = tt
  parts_held (TermTree-F.Chars t span) = tt
  parts_held (TermTree-F.True span) = tt
  parts_held (TermTree-F.False span) = tt
  parts_held (TermTree-F.Undef span) = tt
  parts_held (TermTree-F.Var t span) = tt
  parts_held (TermTree-F.Name t None span) = tt
  parts_held (TermTree-F.Name t (Some args) span) = args.1
  parts_held (TermTree-F.Tuple items span) = items.1
  parts_held (TermTree-F.Forall ranges body span) = body.1
  parts_held (TermTree-F.Exist unique ranges body span) = body.1
  parts_held (TermTree-F.Interval from to span) = (from.1, to.1)
  parts_held (TermTree-F.Set None span) = tt
  parts_held (TermTree-F.Set (Some items) span) = items.1
  parts_held (TermTree-F.Seq None span) = tt
  parts_held (TermTree-F.Seq (Some items) span) = items.1
  parts_held (TermTree-F.If guard first None span) = (guard.1, first.1, tt)
  parts_held (TermTree-F.If guard first (Some other) span) =
      (guard.1, first.1, (other.1, tt))
  parts_held (TermTree-F.Let binds body span) = (binds.1, body.1)
  parts_held (TermTree-F.Switch t cases None span) = (t.1, all_held OfCase cases, tt)
  parts_held (TermTree-F.Switch t cases (Some other) span) =
      (t.1, all_held OfCase cases, (other.1, tt))

  pub by_parts : ((t : TermTree) (a : Form) → out-TermTree t ≡ a → OfParts a → P t)
      → (t : TermTree) → P t
  by_parts step t = ind-TermTree P OfBind OfBinds OfCase OfTerms
      (λ x y is. step (roll-TermTree x) x (out_roll x) (subst OfParts is (parts_held y)))
      (λ x y is. subst (λ z. P z.value) (is ∙ sym (out_roll_bind x)) y.value.1)
      (λ x y is. subst (λ z. AllByRecursion OfBind (binds_level z)) (is ∙ sym (out_roll_binds x))
      (y.first.1, all_held OfBind y.others))
      (λ x y is. subst (λ z. P z.value × P z.term) (is ∙ sym (out_roll_case x))
      (y.value.1, y.term.1))
      (λ x y is. subst (λ z. AllByRecursion P (terms_level z)) (is ∙ sym (out_roll_terms x))
      (y.first.1, all_held P y.others))
      t

-- ---- what the checker tells, by the form

module _ (scope : Scope) where
  abbrev pub bind_typing : BindTree → Token × Typing
  bind_typing b = ((bind_of b).0, checked scope (bind_of b).1)

  abbrev pub binds_typing : BindsTree → List (Token × Typing)
  binds_typing b = map bind_typing (binds_of b)

  abbrev pub case_typing : CaseTree → Typing × Typing
  case_typing c = (checked scope (out-CaseTree c).value, checked scope (out-CaseTree c).term)

  abbrev pub terms_typing : TermsTree → List Typing
  terms_typing ts = map (checked scope) (listed_terms ts)

  -- one level, with what the checker tells of each part in its place
  abbrev pub told : Form → TermLevel
  told a =
      map-TermTree TermTree BindTree BindsTree CaseTree TermsTree Typing (Token × Typing)
      (List (Token × Typing)) (Typing × Typing) (List Typing) (checked scope) bind_typing
      binds_typing case_typing terms_typing a

  bind_out : (b : BindTree)
      → fold-BindTree Typing (Token × Typing) (List (Token × Typing)) (Typing × Typing)
      (List Typing) (check_level scope) bind_level binds_level case_level terms_level b
      ≡ bind_typing b
  unfolding checked
  bind_out b =
      fold_out-BindTree Typing (Token × Typing) (List (Token × Typing)) (Typing × Typing)
      (List Typing) (check_level scope) bind_level binds_level case_level terms_level b

  case_out : (c : CaseTree)
      → fold-CaseTree Typing (Token × Typing) (List (Token × Typing)) (Typing × Typing)
      (List Typing) (check_level scope) bind_level binds_level case_level terms_level c
      ≡ case_typing c
  unfolding checked
  case_out c =
      fold_out-CaseTree Typing (Token × Typing) (List (Token × Typing)) (Typing × Typing)
      (List Typing) (check_level scope) bind_level binds_level case_level terms_level c

  terms_out : (ts : TermsTree)
      → fold-TermsTree Typing (Token × Typing) (List (Token × Typing)) (Typing × Typing)
      (List Typing) (check_level scope) bind_level binds_level case_level terms_level ts
      ≡ terms_typing ts
  unfolding checked
  terms_out ts =
      fold_out-TermsTree Typing (Token × Typing) (List (Token × Typing)) (Typing × Typing)
      (List Typing) (check_level scope) bind_level binds_level case_level terms_level ts

  binds_out : (b : BindsTree)
      → fold-BindsTree Typing (Token × Typing) (List (Token × Typing)) (Typing × Typing)
      (List Typing) (check_level scope) bind_level binds_level case_level terms_level b
      ≡ binds_typing b
  unfolding checked
  binds_out b =
      fold_out-BindsTree Typing (Token × Typing) (List (Token × Typing)) (Typing × Typing)
      (List Typing) (check_level scope) bind_level binds_level case_level terms_level b
      ∙ (λ i. map (λ c. bind_out c i) (binds_of b))

  pub checked-out : (t : TermTree) (a : Form) → out-TermTree t ≡ a
      → checked scope t ≡ check_level scope (told a)
  unfolding checked
  checked-out t a e =
      fold_out-TermTree Typing (Token × Typing) (List (Token × Typing)) (Typing × Typing)
      (List Typing) (check_level scope) bind_level binds_level case_level terms_level t
      ∙ (λ i. check_level scope (map-TermTree TermTree BindTree BindsTree CaseTree TermsTree Typing
      (Token × Typing) (List (Token × Typing)) (Typing × Typing) (List Typing) (checked scope)
      (λ b. bind_out b i) (λ b. binds_out b i) (λ c. case_out c i) (λ ts. terms_out ts i) (e i)))
