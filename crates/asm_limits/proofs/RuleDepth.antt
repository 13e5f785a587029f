-- How deep a rule is doesn't depend on how many `choose` words are before it.
use Rattle.std.proofs.Common.{◌≡◌, ℕ, ◌+◌, max, Option, Some, None, List, [], ◌∷◌, map, length, slice_get, refl, sym, ap, ◌∙◌, rules}
use Rattle.std.specs.Option.{option_map, option_map_or}
use Rattle.std.specs.List.{AllByRecursion}
use Rattle.asm_value.specs.declared.domain.Domain.{Domain}
use Rattle.asm_syntax.specs.declared.token.Span.{Span}
use Rattle.asm_syntax.specs.declared.token.Token.{Token}
use Rattle.asm_syntax.specs.declared.tree.RuleTree.{RuleTree}
use Rattle.asm_syntax.specs.declared.tree.RuleCaseTree.{RuleCaseTree}
use Rattle.asm_syntax.specs.declared.tree.RuleTree.TheOpen.{RuleTree-F}
use Rattle.asm_syntax.specs.declared.tree.RuleTree.TheViews.{out-RuleCaseTree}
use Rattle.asm_syntax.specs.Marks.{text_of}
use Rattle.asm_program.specs.declared.named.Named.{Named}
use Rattle.asm_program.specs.declared.named.Named.TheVariants as named
use Rattle.asm_program.specs.declared.trees.Term.{Term}
use Rattle.asm_program.specs.declared.trees.Rule.{Rule}
use Rattle.asm_program.specs.declared.trees.RuleCase.{RuleCase}
use Rattle.asm_program.specs.declared.trees.Rule.TheOpen.{Rule-F}
use Rattle.asm_program.specs.declared.trees.Rule.TheVariants as rules_
use Rattle.asm_program.specs.declared.trees.Rule.TheViews.{out-Rule, out-RuleCase, roll-RuleCase, the_lemmas}
use Rattle.asm_program.specs.Forms.{optional, of_rule}
use Rattle.asm_program.specs.Counts.{rule_depth_level, deepest, deepest_case}
use Rattle.asm_program.specs.Nesting.{greatest}
use Rattle.asm_program.specs.Signatures.{Header, find}
use Rattle.asm_typing.specs.declared.types.Type.{«Type» as TermType}
use Rattle.asm_typing.specs.declared.types.Type.TheVariants as type
use Rattle.asm_program.specs.TypedTerms.{Scope, Variables, Checked, with_ranges, checked, some_term, bound, range_domains}
use Rattle.asm_program.specs.TypedRules.{CheckedRule, all_chooses, numbered, numbered_cases, rule_called, macro_called, simple, named_updated, function_updated, extended, check_rule_level, checked_rule, case_rules, with_members, binds_typing, terms_at, option_term}
use Rattle.asm_program.specs.Items.{list_of_ranges, terms_of}
use Rattle.asm_program.proofs.RuleParts.{case_rule, case_term, level_of, of_rule-out}
use Rattle.asm_program.proofs.RuleTreeParts.{Form, OfParts, OfCase, by_parts, told, rules_at, cases_of, checked_rule-out}

module _ (scope : Scope) (term : Term → ℕ) (calls : ℕ → ℕ) where
  abbrev depth : Rule → ℕ
  depth = of_rule (rule_depth_level term) calls

  -- ---- depth by forms

  abbrev level : Rule-F Rule RuleCase → ℕ
  level = level_of (rule_depth_level term) calls

  depth-at : (r : Rule) (a : Rule-F Rule RuleCase) → out-Rule r ≡ a → depth r ≡ level a
  depth-at r a e = of_rule-out (rule_depth_level term) calls r a e

  -- ---- what is as deep whatever is before it

  abbrev Steady : (ℕ → Rule) → Type 0
  Steady rule = (n m : ℕ) → depth (rule n) ≡ depth (rule m)

  abbrev IsSteady : RuleTree → Type 0
  IsSteady r = (variables : Variables) → Steady (checked_rule scope r variables).rule

  all-steady : (variables : Variables) (rs : List RuleTree) → AllByRecursion IsSteady rs
      → (n m : ℕ)
      → map depth (numbered (rules_at scope variables rs) n)
      ≡ map depth (numbered (rules_at scope variables rs) m)
  all-steady variables [] h n m = refl
  all-steady variables (r ∷ rs) h n m =
      let k = (checked_rule scope r variables).chooses in
      λ i. h.0 variables n m i ∷ all-steady variables rs h.1 (n + k) (m + k) i

  abbrev pair_of : RuleCase → Term × ℕ
  pair_of c = (case_term c, depth (case_rule c))

  abbrev cases_deep : List RuleCase → List ℕ
  cases_deep cs = map (deepest_case term) (map pair_of cs)

  case-out : (c : Checked) (r : Rule)
      → out-RuleCase (roll-RuleCase (record { value = c.term; rule = r }))
      ≡ record { value = c.term; rule = r }
  case-out c r = search (rules, the_lemmas)

  one-case : (c : Checked) (r : Rule)
      → deepest_case term (pair_of (roll-RuleCase (record { value = c.term; rule = r })))
      ≡ max (term c.term) (depth r)
  one-case c r = λ i. max (term (case-out c r i).value) (depth (case-out c r i).rule)

  cases-steady : (variables : Variables) (cs : List RuleCaseTree)
      → AllByRecursion (OfCase IsSteady) cs → (n m : ℕ)
      → cases_deep (numbered_cases (cases_of scope variables cs) n)
      ≡ cases_deep (numbered_cases (cases_of scope variables cs) m)
  cases-steady variables [] h n m = refl
  cases-steady variables (c ∷ cs) h n m =
      let value = checked scope (out-RuleCaseTree c).value variables in
      let rule = checked_rule scope (out-RuleCaseTree c).rule variables in
      let here =
      one-case value (rule.rule n) ∙ ap (max (term value.term)) (h.0 variables n m)
      ∙ sym (one-case value (rule.rule m)) in
      λ i. here i ∷ cases-steady variables cs h.1 (n + rule.chooses) (m + rule.chooses) i

  -- ---- the forms that have no rule in them

  called-steady : (o : Option Named) (name : Token) (args : List Checked) (span : Span)
      → Steady (rule_called scope o name args span).rule
  called-steady None name args span n m = refl
  called-steady (Some (named.Enum d)) name args span n m = refl
  called-steady (Some (named.Abstract d)) name args span n m = refl
  called-steady (Some (named.Subset d)) name args span n m = refl
  called-steady (Some (named.Literal d i)) name args span n m = refl
  called-steady (Some (named.Function f)) name args span n m = refl
  called-steady (Some (named.Macro k)) name args span n m = by (slice_get scope.macros k)
    where
      by : (o : Option (List Domain))
          → depth ((option_map_or (λ params. macro_called scope k params args span) o
          (simple [] rules_.Skip)).rule n)
          ≡ depth ((option_map_or (λ params. macro_called scope k params args span) o
          (simple [] rules_.Skip)).rule m)
      by None = refl
      by (Some params) = refl
  called-steady (Some named.Main) name args span n m = refl

  updated-steady : (o : Option Named) (name : Token) (args : List Checked) (value : Checked)
      (span : Span) → Steady (named_updated scope o name args value span).rule
  updated-steady None name args value span n m = refl
  updated-steady (Some (named.Enum d)) name args value span n m = refl
  updated-steady (Some (named.Abstract d)) name args value span n m = refl
  updated-steady (Some (named.Subset d)) name args value span n m = refl
  updated-steady (Some (named.Literal d i)) name args value span n m = refl
  updated-steady (Some (named.Macro k)) name args value span n m = refl
  updated-steady (Some named.Main) name args value span n m = refl
  updated-steady (Some (named.Function f)) name args value span n m =
      by (slice_get scope.functions f)
    where
      by : (o : Option Header)
          → depth ((function_updated scope f o args value span).rule n)
          ≡ depth ((function_updated scope f o args value span).rule m)
      by None = refl
      by (Some h) = refl

  -- ---- the forms with rules in them, from what is so of these

  par-steady : (rs : List Rule) (qs : List Rule) (s : Span) → map depth rs ≡ map depth qs
      → depth (rules_.Par rs s) ≡ depth (rules_.Par qs s)
  par-steady rs qs s e =
      depth-at (rules_.Par rs s) (Rule-F.Par rs s) (search (rules, the_lemmas))
      ∙ ap (λ ns. 1 + greatest ns) e
      ∙ sym (depth-at (rules_.Par qs s) (Rule-F.Par qs s) (search (rules, the_lemmas)))

  seq-steady : (rs : List Rule) (qs : List Rule) (s : Span) → map depth rs ≡ map depth qs
      → depth (rules_.Seq rs s) ≡ depth (rules_.Seq qs s)
  seq-steady rs qs s e =
      depth-at (rules_.Seq rs s) (Rule-F.Seq rs s) (search (rules, the_lemmas))
      ∙ ap (λ ns. 1 + greatest ns) e
      ∙ sym (depth-at (rules_.Seq qs s) (Rule-F.Seq qs s) (search (rules, the_lemmas)))

  abbrev other_deep : Option Rule → ℕ
  other_deep o = greatest (optional (option_map depth o))

  if-steady : (guard : Term) (a b : Rule) (o p : Option Rule) → depth a ≡ depth b
      → other_deep o ≡ other_deep p
      → depth (rules_.If guard a o) ≡ depth (rules_.If guard b p)
  if-steady guard a b None None e f =
      depth-at (rules_.If guard a None) (Rule-F.If guard a None) (search (rules, the_lemmas))
      ∙ (λ i. 1 + max (term guard) (max (e i) (f i)))
      ∙ sym (depth-at (rules_.If guard b None) (Rule-F.If guard b None) (search (rules, the_lemmas)))
  if-steady guard a b None (Some d) e f =
      depth-at (rules_.If guard a None) (Rule-F.If guard a None) (search (rules, the_lemmas))
      ∙ (λ i. 1 + max (term guard) (max (e i) (f i)))
      ∙ sym (depth-at (rules_.If guard b (Some d)) (Rule-F.If guard b (Some d)) (search (rules, the_lemmas)))
  if-steady guard a b (Some c) None e f =
      depth-at (rules_.If guard a (Some c)) (Rule-F.If guard a (Some c)) (search (rules, the_lemmas))
      ∙ (λ i. 1 + max (term guard) (max (e i) (f i)))
      ∙ sym (depth-at (rules_.If guard b None) (Rule-F.If guard b None) (search (rules, the_lemmas)))
  if-steady guard a b (Some c) (Some d) e f =
      depth-at (rules_.If guard a (Some c)) (Rule-F.If guard a (Some c)) (search (rules, the_lemmas))
      ∙ (λ i. 1 + max (term guard) (max (e i) (f i)))
      ∙ sym (depth-at (rules_.If guard b (Some d)) (Rule-F.If guard b (Some d)) (search (rules, the_lemmas)))

  forall-steady : (ds : List Domain) (guard : Option Term) (a b : Rule) (s : Span)
      → depth a ≡ depth b
      → depth (rules_.Forall ds guard a s) ≡ depth (rules_.Forall ds guard b s)
  forall-steady ds guard a b s e =
      depth-at (rules_.Forall ds guard a s) (Rule-F.Forall ds guard a s) (search (rules, the_lemmas))
      ∙ ap (λ k. 1 + max (deepest term (optional guard)) k) e
      ∙ sym (depth-at (rules_.Forall ds guard b s) (Rule-F.Forall ds guard b s)
      (search (rules, the_lemmas)))

  choose-steady : (ds : List Domain) (guard : Option Term) (a b : Rule) (o p : Option Rule)
      (n m : ℕ) → depth a ≡ depth b → other_deep o ≡ other_deep p
      → depth (rules_.Choose ds guard a o n) ≡ depth (rules_.Choose ds guard b p m)
  choose-steady ds guard a b None None n m e f =
      depth-at (rules_.Choose ds guard a None n) (Rule-F.Choose ds guard a None n)
      (search (rules, the_lemmas))
      ∙ (λ i. 1 + max (deepest term (optional guard)) (max (e i) (f i)))
      ∙ sym (depth-at (rules_.Choose ds guard b None m) (Rule-F.Choose ds guard b None m)
      (search (rules, the_lemmas)))
  choose-steady ds guard a b None (Some k) n m e f =
      depth-at (rules_.Choose ds guard a None n) (Rule-F.Choose ds guard a None n)
      (search (rules, the_lemmas))
      ∙ (λ i. 1 + max (deepest term (optional guard)) (max (e i) (f i)))
      ∙ sym (depth-at (rules_.Choose ds guard b (Some k) m) (Rule-F.Choose ds guard b (Some k) m)
      (search (rules, the_lemmas)))
  choose-steady ds guard a b (Some c) None n m e f =
      depth-at (rules_.Choose ds guard a (Some c) n) (Rule-F.Choose ds guard a (Some c) n)
      (search (rules, the_lemmas))
      ∙ (λ i. 1 + max (deepest term (optional guard)) (max (e i) (f i)))
      ∙ sym (depth-at (rules_.Choose ds guard b None m) (Rule-F.Choose ds guard b None m)
      (search (rules, the_lemmas)))
  choose-steady ds guard a b (Some c) (Some k) n m e f =
      depth-at (rules_.Choose ds guard a (Some c) n) (Rule-F.Choose ds guard a (Some c) n)
      (search (rules, the_lemmas))
      ∙ (λ i. 1 + max (deepest term (optional guard)) (max (e i) (f i)))
      ∙ sym (depth-at (rules_.Choose ds guard b (Some k) m) (Rule-F.Choose ds guard b (Some k) m)
      (search (rules, the_lemmas)))

  let-steady : (values : List Term) (a b : Rule) → depth a ≡ depth b
      → depth (rules_.Let values a) ≡ depth (rules_.Let values b)
  let-steady values a b e =
      depth-at (rules_.Let values a) (Rule-F.Let values a) (search (rules, the_lemmas))
      ∙ ap (λ k. 1 + max (deepest term values) k) e
      ∙ sym (depth-at (rules_.Let values b) (Rule-F.Let values b) (search (rules, the_lemmas)))

  switch-steady : (v : Term) (cs ds : List RuleCase) (o p : Option Rule)
      → cases_deep cs ≡ cases_deep ds → other_deep o ≡ other_deep p
      → depth (rules_.Switch v cs o) ≡ depth (rules_.Switch v ds p)
  switch-steady v cs ds None None e f =
      depth-at (rules_.Switch v cs None) (Rule-F.Switch v cs None) (search (rules, the_lemmas))
      ∙ (λ i. 1 + max (term v) (max (greatest (e i)) (f i)))
      ∙ sym (depth-at (rules_.Switch v ds None) (Rule-F.Switch v ds None)
      (search (rules, the_lemmas)))
  switch-steady v cs ds None (Some d) e f =
      depth-at (rules_.Switch v cs None) (Rule-F.Switch v cs None) (search (rules, the_lemmas))
      ∙ (λ i. 1 + max (term v) (max (greatest (e i)) (f i)))
      ∙ sym (depth-at (rules_.Switch v ds (Some d)) (Rule-F.Switch v ds (Some d))
      (search (rules, the_lemmas)))
  switch-steady v cs ds (Some c) None e f =
      depth-at (rules_.Switch v cs (Some c)) (Rule-F.Switch v cs (Some c)) (search (rules, the_lemmas))
      ∙ (λ i. 1 + max (term v) (max (greatest (e i)) (f i)))
      ∙ sym (depth-at (rules_.Switch v ds None) (Rule-F.Switch v ds None)
      (search (rules, the_lemmas)))
  switch-steady v cs ds (Some c) (Some d) e f =
      depth-at (rules_.Switch v cs (Some c)) (Rule-F.Switch v cs (Some c)) (search (rules, the_lemmas))
      ∙ (λ i. 1 + max (term v) (max (greatest (e i)) (f i)))
      ∙ sym (depth-at (rules_.Switch v ds (Some d)) (Rule-F.Switch v ds (Some d))
      (search (rules, the_lemmas)))

  extend-steady : (d k : ℕ) (a b : Rule) (s : Span) → depth a ≡ depth b
      → depth (rules_.Extend d k a s) ≡ depth (rules_.Extend d k b s)
  extend-steady d k a b s e =
      depth-at (rules_.Extend d k a s) (Rule-F.Extend d k a s) (search (rules, the_lemmas))
      ∙ ap (λ j. 1 + j) e
      ∙ sym (depth-at (rules_.Extend d k b s) (Rule-F.Extend d k b s) (search (rules, the_lemmas)))

  extended-steady : (o : Option Named) (name : Token) (ts : List Token)
      (body : TermType → CheckedRule) (span : Span)
      → ((t : TermType) → Steady (body t).rule) → Steady (extended o name ts body span).rule
  extended-steady None name ts body span h n m =
      extend-steady 0 (length ts) ((body type.Untyped).rule n) ((body type.Untyped).rule m) span
      (h type.Untyped n m)
  extended-steady (Some (named.Abstract d)) name ts body span h n m =
      extend-steady d (length ts) ((body (type.Abstract d)).rule n)
      ((body (type.Abstract d)).rule m) span (h (type.Abstract d) n m)
  extended-steady (Some (named.Enum d)) name ts body span h n m =
      extend-steady 0 (length ts) ((body type.Untyped).rule n) ((body type.Untyped).rule m) span
      (h type.Untyped n m)
  extended-steady (Some (named.Subset d)) name ts body span h n m =
      extend-steady 0 (length ts) ((body type.Untyped).rule n) ((body type.Untyped).rule m) span
      (h type.Untyped n m)
  extended-steady (Some (named.Literal d i)) name ts body span h n m =
      extend-steady 0 (length ts) ((body type.Untyped).rule n) ((body type.Untyped).rule m) span
      (h type.Untyped n m)
  extended-steady (Some (named.Function f)) name ts body span h n m =
      extend-steady 0 (length ts) ((body type.Untyped).rule n) ((body type.Untyped).rule m) span
      (h type.Untyped n m)
  extended-steady (Some (named.Macro k)) name ts body span h n m =
      extend-steady 0 (length ts) ((body type.Untyped).rule n) ((body type.Untyped).rule m) span
      (h type.Untyped n m)
  extended-steady (Some named.Main) name ts body span h n m =
      extend-steady 0 (length ts) ((body type.Untyped).rule n) ((body type.Untyped).rule m) span
      (h type.Untyped n m)

  -- ---- every rule

  at-steady : (a : Form) → OfParts IsSteady a → (variables : Variables)
      → Steady (check_rule_level scope (told scope a) variables).rule
  at-steady (RuleTree-F.Skip span) h v n m = refl
  at-steady (RuleTree-F.Call name args span) h v n m =
      called-steady (find scope.names (text_of name)) name (terms_at scope v (terms_of args)) span
      n m
  at-steady (RuleTree-F.Update name args value span) h v n m =
      updated-steady (find scope.names (text_of name)) name (terms_at scope v (terms_of args))
      (checked scope value v) span n m
  at-steady (RuleTree-F.Par first others span) h v n m =
      par-steady (numbered (rules_at scope v (first ∷ others)) n)
      (numbered (rules_at scope v (first ∷ others)) m) span
      (all-steady v (first ∷ others) h n m)
  at-steady (RuleTree-F.Seq first others span) h v n m =
      seq-steady (numbered (rules_at scope v (first ∷ others)) n)
      (numbered (rules_at scope v (first ∷ others)) m) span
      (all-steady v (first ∷ others) h n m)
  at-steady (RuleTree-F.If guard first None span) h v n m =
      let r = checked_rule scope first v in
      if-steady (checked scope guard v).term (r.rule n) (r.rule m) None None (h.0 v n m) refl
  at-steady (RuleTree-F.If guard first (Some other) span) h v n m =
      let r = checked_rule scope first v in
      let o = checked_rule scope other v in
      if-steady (checked scope guard v).term (r.rule n) (r.rule m)
      (Some (o.rule (n + r.chooses))) (Some (o.rule (m + r.chooses))) (h.0 v n m)
      (λ i. greatest (h.1.0 v (n + r.chooses) (m + r.chooses) i ∷ []))
  at-steady (RuleTree-F.Forall ranges guard body span) h v n m =
      let all = list_of_ranges ranges in
      let inner = with_ranges scope v all in
      let r = checked_rule scope body inner in
      forall-steady (range_domains scope all) (some_term (option_term scope inner guard))
      (r.rule n) (r.rule m) span (h inner n m)
  at-steady (RuleTree-F.Choose ranges guard body None span) h v n m =
      let all = list_of_ranges ranges in
      let inner = with_ranges scope v all in
      let r = checked_rule scope body inner in
      choose-steady (range_domains scope all) (some_term (option_term scope inner guard))
      (r.rule (n + 1)) (r.rule (m + 1)) None None n m (h.0 inner (n + 1) (m + 1)) refl
  at-steady (RuleTree-F.Choose ranges guard body (Some other) span) h v n m =
      let all = list_of_ranges ranges in
      let inner = with_ranges scope v all in
      let r = checked_rule scope body inner in
      let o = checked_rule scope other v in
      choose-steady (range_domains scope all) (some_term (option_term scope inner guard))
      (r.rule (n + 1)) (r.rule (m + 1)) (Some (o.rule (n + 1 + r.chooses)))
      (Some (o.rule (m + 1 + r.chooses))) n m (h.0 inner (n + 1) (m + 1))
      (λ i. greatest (h.1.0 v (n + 1 + r.chooses) (m + 1 + r.chooses) i ∷ []))
  at-steady (RuleTree-F.Let binds body span) h v n m =
      let b = bound v (binds_typing scope binds) in
      let r = checked_rule scope body b.variables in
      let-steady b.terms (r.rule n) (r.rule m) (h b.variables n m)
  at-steady (RuleTree-F.Switch t cases None span) h v n m =
      let cs = cases_of scope v cases in
      switch-steady (checked scope t v).term (numbered_cases cs n) (numbered_cases cs m) None None
      (cases-steady v cases h.0 n m) refl
  at-steady (RuleTree-F.Switch t cases (Some other) span) h v n m =
      let cs = cases_of scope v cases in
      let k = all_chooses (case_rules cs) in
      let o = checked_rule scope other v in
      switch-steady (checked scope t v).term (numbered_cases cs n) (numbered_cases cs m)
      (Some (o.rule (n + k))) (Some (o.rule (m + k))) (cases-steady v cases h.0 n m)
      (λ i. greatest (h.1.0 v (n + k) (m + k) i ∷ []))
  at-steady (RuleTree-F.Extend name first others body span) h v n m =
      extended-steady (find scope.names (text_of name)) name (first ∷ others)
      (λ t. checked_rule scope body (with_members v (first ∷ others) t)) span
      (λ t. h (with_members v (first ∷ others) t)) n m

  -- however many `choose` words are before it, the rule is as deep
  pub rule-steady : (r : RuleTree) (variables : Variables) (n m : ℕ)
      → depth ((checked_rule scope r variables).rule n)
      ≡ depth ((checked_rule scope r variables).rule m)
  rule-steady = by_parts IsSteady (λ r a e h v n m.
      (λ i. depth ((checked_rule-out scope r a e i v).rule n))
      ∙ at-steady a h v n m
      ∙ sym (λ i. depth ((checked_rule-out scope r a e i v).rule m)))
