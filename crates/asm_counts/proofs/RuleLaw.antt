-- The counts of a rule tell its depth and its work.
use Rattle.std.proofs.Common.{◌≡◌, ℕ, ◌+◌, ◌*◌, max, Option, Some, None, List, [], ◌∷◌, map, sum}
use Rattle.std.proofs.Common.{refl, sym, ◌∙◌, subst, rules, arith}
use Rattle.std.specs.Option.{option_map}
use Rattle.asm_value.specs.declared.domain.Domain.{Domain}
use Rattle.asm_value.specs.declared.domain.DomainInfo.{DomainInfo}
use Rattle.asm_program.specs.declared.trees.Term.{Term}
use Rattle.asm_program.specs.declared.trees.Rule.{Rule}
use Rattle.asm_program.specs.declared.trees.RuleCase.{RuleCase}
use Rattle.asm_program.specs.declared.trees.Rule.TheOpen.{Rule-F, RuleCase-F}
use Rattle.asm_program.specs.declared.trees.Rule.TheFolds.{fold-RuleCase, fold_out-Rule}
use Rattle.asm_program.specs.declared.trees.Rule.TheFolds.{fold_out-RuleCase, ind-Rule, map-Rule}
use Rattle.asm_program.specs.declared.trees.Rule.TheViews.{out-Rule, out-RuleCase, roll-Rule}
use Rattle.asm_program.specs.declared.trees.Rule.TheViews.{roll-RuleCase, the_lemmas}
use Rattle.asm_program.specs.Forms.{of_rule, rule_case_pair, optional}
use Rattle.asm_program.specs.Counts.{sizes, deepest, all_work, deepest_case, case_work}
use Rattle.asm_program.specs.Counts.{rule_depth_level, rule_work_level}
use Rattle.asm_program.specs.Nesting.{greatest}
use Rattle.asm_counts.specs.declared.counts.Counts.{Counts}
use Rattle.asm_counts.specs.CountLevels.{nothing, node, both, together, if_any, rule_pair_counts}
use Rattle.asm_counts.specs.CountLevels.{each_rule, rule_counts_level}
use Rattle.asm_counts.specs.CountLaws.{Tells, AllTell, RulesAreTold}
use Rattle.asm_counts.proofs.Told.{nothing-tells, node-tells, both-tells, times-tells, tells-as}
use Rattle.asm_counts.proofs.Told.{tells-of, sum-cons}

out_roll : (a : Rule-F Rule RuleCase) → out-Rule (roll-Rule a) ≡ a
out_roll a = search (rules, the_lemmas)

out_roll_case : (a : RuleCase-F Rule RuleCase) → out-RuleCase (roll-RuleCase a) ≡ a
out_roll_case a = search (rules, the_lemmas)

-- ---- what is said of a rule, by its form

module _ {X : Type 0} (level : (ℕ → X) → Rule-F X (Term × X) → X) (calls : ℕ → X) where
  abbrev with_rule : RuleCase → Term × X
  with_rule c = ((out-RuleCase c).value, of_rule level calls (out-RuleCase c).rule)

  abbrev said : Rule-F Rule RuleCase → Rule-F X (Term × X)
  said a = map-Rule Rule RuleCase X (Term × X) (of_rule level calls) with_rule a

  case_out : (c : RuleCase) → fold-RuleCase X (Term × X) (level calls) rule_case_pair c ≡ with_rule
      c
  unfolding of_rule
  case_out c = fold_out-RuleCase X (Term × X) (level calls) rule_case_pair c

  said-out : (r : Rule) (a : Rule-F Rule RuleCase) → out-Rule r ≡ a
      → of_rule level calls r ≡ level calls (said a)
  unfolding of_rule
  said-out r a e =
      fold_out-Rule X (Term × X) (level calls) rule_case_pair r
      ∙ (λ i. level calls (map-Rule Rule RuleCase X (Term × X) (of_rule level calls)
      (λ c. case_out c i) (e i)))

-- ---- sums of few

some-deep : (a b : ℕ) → max a b ≡ max a (max b 0)
some-deep a b = omega arith

some-work : (a b : ℕ) → a + b ≡ a + (0 + b)
some-work a b = omega arith

if-deep : (a b c : ℕ) → 1 + max (max a b) c ≡ 1 + max a (max b c)
if-deep a b c = omega arith

if-work : (a b c : ℕ) → 1 + (a + b + c) ≡ 1 + a + b + c
if-work a b c = omega arith

with-work : (a b : ℕ) → 1 + (a + b) ≡ 1 + a + b
with-work a b = omega arith

zero-first : (a : ℕ) → a ≡ max a 0
zero-first a = omega arith

one-work : (a : ℕ) → a ≡ 0 + a
one-work a = omega arith

-- ---- the law

module _ (domains : List DomainInfo) (term : Term → Counts) (deep work : Term → ℕ)
    (of_terms : (t : Term) → Tells (term t) (deep t) (work t)) (calls : ℕ → Counts)
    (depths works : ℕ → ℕ) (all : AllTell calls depths works) where
  abbrev counts : Rule → Counts
  counts = of_rule (rule_counts_level domains term) calls

  abbrev rule_deep : Rule → ℕ
  rule_deep = of_rule (rule_depth_level deep) depths

  abbrev rule_work : Rule → ℕ
  rule_work = of_rule (rule_work_level domains work) works

  abbrev IsTold : Rule → Type 0
  IsTold r = Tells (counts r) (rule_deep r) (rule_work r)

  abbrev OfCase : RuleCase → Type 0
  OfCase c = IsTold (out-RuleCase c).rule

  abbrev Held : Type 0
  Held = (r : Rule) × IsTold r

  abbrev HeldCase : Type 0
  HeldCase = (c : RuleCase) × OfCase c

  abbrev rules_of : List Held → List Rule
  rules_of hs = map (λ h. h.0) hs

  abbrev other_of : Option Held → Option Rule
  other_of o = option_map (λ h. h.0) o

  terms-tell : (ts : List Term) → Tells (together (map term ts)) (deepest deep ts)
      (all_work domains work ts)
  terms-tell [] = nothing-tells
  terms-tell (t ∷ ts) =
      let c = together (map term ts) in
      let d = deepest deep ts in
      let ws = map work ts in
      tells-as (both (term t) c) (max (deep t) d) (max (deep t) d) (work t + sum ws)
      (sum (work t ∷ ws))
      (both-tells (term t) c (deep t) (work t) d (sum ws) (of_terms t) (terms-tell ts)) refl
      (sym (sum-cons (work t) ws))

  rules-tell : (hs : List Held) → Tells (together (map counts (rules_of hs)))
      (greatest (map rule_deep (rules_of hs))) (sum (map rule_work (rules_of hs)))
  rules-tell [] = nothing-tells
  rules-tell (h ∷ hs) =
      let c = together (map counts (rules_of hs)) in
      let d = greatest (map rule_deep (rules_of hs)) in
      let ws = map rule_work (rules_of hs) in
      tells-as (both (counts h.0) c) (max (rule_deep h.0) d) (max (rule_deep h.0) d)
      (rule_work h.0 + sum ws) (sum (rule_work h.0 ∷ ws))
      (both-tells (counts h.0) c (rule_deep h.0) (rule_work h.0) d (sum ws) h.1 (rules-tell hs))
      refl (sym (sum-cons (rule_work h.0) ws))

  abbrev cases_said : List HeldCase → List (Term × Counts)
  cases_said hs = map (with_rule (rule_counts_level domains term) calls) (map (λ h. h.0) hs)

  abbrev cases_deep : List HeldCase → List (Term × ℕ)
  cases_deep hs = map (with_rule (rule_depth_level deep) depths) (map (λ h. h.0) hs)

  abbrev cases_work : List HeldCase → List (Term × ℕ)
  cases_work hs = map (with_rule (rule_work_level domains work) works) (map (λ h. h.0) hs)

  cases-tell : (hs : List HeldCase) → Tells (together (map (rule_pair_counts domains term)
      (cases_said hs))) (greatest (map (deepest_case deep) (cases_deep hs)))
      (sum (map (case_work domains work) (cases_work hs)))
  cases-tell [] = nothing-tells
  cases-tell (h ∷ hs) =
      let t = (out-RuleCase h.0).value in
      let r = (out-RuleCase h.0).rule in
      let c = together (map (rule_pair_counts domains term) (cases_said hs)) in
      let d = greatest (map (deepest_case deep) (cases_deep hs)) in
      let ws = map (case_work domains work) (cases_work hs) in
      let first = both-tells (term t) (counts r) (deep t) (work t) (rule_deep r) (rule_work r)
      (of_terms t) h.1 in
      tells-as (both (both (term t) (counts r)) c) (max (max (deep t) (rule_deep r)) d)
      (max (max (deep t) (rule_deep r)) d)
      (work t + rule_work r + sum ws) (sum ((work t + rule_work r) ∷ ws))
      (both-tells (both (term t) (counts r)) c (max (deep t) (rule_deep r)) (work t + rule_work r) d
      (sum ws) first (cases-tell hs))
      refl (sym (sum-cons (work t + rule_work r) ws))

  guard-tells : (g : Option Term) → Tells (if_any (option_map term g)) (deepest deep (optional g))
      (all_work domains work (optional g))
  guard-tells None = nothing-tells
  guard-tells (Some t) =
      tells-as (term t) (deep t) (max (deep t) 0) (work t) (0 + work t) (of_terms t)
      (zero-first (deep t)) (one-work (work t))

  other-tells : (o : Option Held) → Tells (if_any (option_map counts (other_of o)))
      (greatest (optional (option_map rule_deep (other_of o))))
      (sum (optional (option_map rule_work (other_of o))))
  other-tells None = nothing-tells
  other-tells (Some h) =
      tells-as (counts h.0) (rule_deep h.0) (max (rule_deep h.0) 0) (rule_work h.0)
      (0 + rule_work h.0) h.1 (zero-first (rule_deep h.0)) (one-work (rule_work h.0))

  node-of : (c : Counts) (d e w v : ℕ) → Tells c d w → 1 + d ≡ e → 1 + w ≡ v → Tells (node c) e v
  node-of c d e w v h i j = tells-as (node c) (1 + d) e (1 + w) v (node-tells c d w h) i j

  each-tells : (ranges : List Domain) (g : Option Term) (b : Held) → Tells
      (each_rule domains term ranges g (counts b.0)) (max (deepest deep (optional g))
      (rule_deep b.0)) (sizes domains ranges * (all_work domains work (optional g) + rule_work b.0))
  each-tells ranges g b =
      let d = deepest deep (optional g) in
      let w = all_work domains work (optional g) in
      times-tells domains ranges (both (if_any (option_map term g)) (counts b.0))
      (max d (rule_deep b.0)) (w + rule_work b.0)
      (both-tells (if_any (option_map term g)) (counts b.0) d w (rule_deep b.0) (rule_work b.0)
      (guard-tells g) b.1)

  abbrev plain : Rule-F Held HeldCase → Rule-F Rule RuleCase
  plain y = map-Rule Held HeldCase Rule RuleCase (λ h. h.0) (λ h. h.0) y

  abbrev FormTold : Rule-F Held HeldCase → Type 0
  FormTold y =
      Tells (rule_counts_level domains term calls (said (rule_counts_level domains term) calls
      (plain y)))
      (rule_depth_level deep depths (said (rule_depth_level deep) depths (plain y)))
      (rule_work_level domains work works (said (rule_work_level domains work) works (plain y)))

  if-told : (guard : Term) (first : Held) (other : Option Held) → Tells
      (node (both (both (term guard) (counts first.0)) (if_any
      (option_map counts (other_of other))))) (1 + max (deep guard)
      (max (rule_deep first.0) (greatest (optional (option_map rule_deep (other_of other))))))
      (1 + work guard + rule_work first.0 + sum (optional (option_map rule_work (other_of other))))
  if-told guard first other =
      let c = both (term guard) (counts first.0) in
      let o = if_any (option_map counts (other_of other)) in
      let e = greatest (optional (option_map rule_deep (other_of other))) in
      let v = sum (optional (option_map rule_work (other_of other))) in
      let d = max (deep guard) (rule_deep first.0) in
      let w = work guard + rule_work first.0 in
      node-of (both c o) (max d e) (1 + max (deep guard) (max (rule_deep first.0) e)) (w + v)
      (1 + work guard + rule_work first.0 + v)
      (both-tells c o d w e v (both-tells (term guard) (counts first.0) (deep guard) (work guard)
      (rule_deep first.0) (rule_work first.0) (of_terms guard) first.1) (other-tells other))
      (if-deep (deep guard) (rule_deep first.0) e) (if-work (work guard) (rule_work first.0) v)

  choose-told : (ranges : List Domain) (guard : Option Term) (body : Held) (other : Option Held)
      → Tells (node (both (each_rule domains term ranges guard (counts body.0))
      (if_any (option_map counts (other_of other))))) (1 + max (deepest deep (optional guard))
      (max (rule_deep body.0) (greatest (optional (option_map rule_deep (other_of other))))))
      (1 + sizes domains ranges * (all_work domains work (optional guard) + rule_work body.0) + sum
      (optional (option_map rule_work (other_of other))))
  choose-told ranges guard body other =
      let c = each_rule domains term ranges guard (counts body.0) in
      let o = if_any (option_map counts (other_of other)) in
      let e = greatest (optional (option_map rule_deep (other_of other))) in
      let v = sum (optional (option_map rule_work (other_of other))) in
      let g = deepest deep (optional guard) in
      let w = sizes domains ranges * (all_work domains work (optional guard) + rule_work body.0) in
      node-of (both c o) (max (max g (rule_deep body.0)) e) (1 + max g (max (rule_deep body.0) e))
      (w + v) (1 + w + v)
      (both-tells c o (max g (rule_deep body.0)) w e v (each-tells ranges guard body)
      (other-tells other))
      (if-deep g (rule_deep body.0) e) (with-work w v)

  switch-told : (t : Term) (cs : List HeldCase) (other : Option Held) → Tells
      (node (both (both (term t) (together (map (rule_pair_counts domains term) (cases_said cs))))
      (if_any (option_map counts (other_of other))))) (1 + max (deep t)
      (max (greatest (map (deepest_case deep) (cases_deep cs)))
      (greatest (optional (option_map rule_deep (other_of other))))))
      (1 + work t + sum (map (case_work domains work) (cases_work cs)) + sum
      (optional (option_map rule_work (other_of other))))
  switch-told t cs other =
      let l = together (map (rule_pair_counts domains term) (cases_said cs)) in
      let ld = greatest (map (deepest_case deep) (cases_deep cs)) in
      let lw = sum (map (case_work domains work) (cases_work cs)) in
      let o = if_any (option_map counts (other_of other)) in
      let e = greatest (optional (option_map rule_deep (other_of other))) in
      let v = sum (optional (option_map rule_work (other_of other))) in
      node-of (both (both (term t) l) o) (max (max (deep t) ld) e) (1 + max (deep t) (max ld e))
      (work t + lw + v) (1 + work t + lw + v)
      (both-tells (both (term t) l) o (max (deep t) ld) (work t + lw) e v
      (both-tells (term t) l (deep t) (work t) ld lw (of_terms t) (cases-tell cs))
      (other-tells other))
      (if-deep (deep t) ld e) (if-work (work t) lw v)

  form-told : (y : Rule-F Held HeldCase) → FormTold y
  form-told Rule-F.Skip = node-tells nothing 0 0 nothing-tells
  form-told (Rule-F.Call m args) =
      let d = deepest deep args in
      let w = all_work domains work args in
      both-tells (node (together (map term args))) (calls m) (1 + d) (1 + w) (depths m) (works m)
      (node-tells (together (map term args)) d w (terms-tell args)) (all m)
  form-told (Rule-F.Update f args value span) =
      let d = deepest deep args in
      let w = all_work domains work args in
      node-of (both (together (map term args)) (term value)) (max d (deep value))
      (1 + max d (deep value)) (w + work value) (1 + w + work value)
      (both-tells (together (map term args)) (term value) d w (deep value) (work value)
      (terms-tell args) (of_terms value)) refl (with-work w (work value))
  form-told (Rule-F.Par hs span) =
      node-tells (together (map counts (rules_of hs))) (greatest (map rule_deep (rules_of hs)))
      (sum (map rule_work (rules_of hs))) (rules-tell hs)
  form-told (Rule-F.Seq hs span) =
      node-tells (together (map counts (rules_of hs))) (greatest (map rule_deep (rules_of hs)))
      (sum (map rule_work (rules_of hs))) (rules-tell hs)
  form-told (Rule-F.If guard first None) = if-told guard first None
  form-told (Rule-F.If guard first (Some o)) = if-told guard first (Some o)
  form-told (Rule-F.Forall ranges guard body span) =
      node-tells (each_rule domains term ranges guard (counts body.0))
      (max (deepest deep (optional guard)) (rule_deep body.0))
      (sizes domains ranges * (all_work domains work (optional guard) + rule_work body.0))
      (each-tells ranges guard body)
  form-told (Rule-F.Choose ranges guard body None place) = choose-told ranges guard body None
  form-told (Rule-F.Choose ranges guard body (Some o) place) =
      choose-told ranges guard body (Some o)
  form-told (Rule-F.Let values body) =
      let d = deepest deep values in
      let w = all_work domains work values in
      node-of (both (together (map term values)) (counts body.0)) (max d (rule_deep body.0))
      (1 + max d (rule_deep body.0)) (w + rule_work body.0) (1 + w + rule_work body.0)
      (both-tells (together (map term values)) (counts body.0) d w (rule_deep body.0)
      (rule_work body.0) (terms-tell values) body.1) refl (with-work w (rule_work body.0))
  form-told (Rule-F.Switch t cs None) = switch-told t cs None
  form-told (Rule-F.Switch t cs (Some o)) = switch-told t cs (Some o)
  form-told (Rule-F.Extend d count body span) =
      node-tells (counts body.0) (rule_deep body.0) (rule_work body.0) body.1

  rolled : (x : Rule-F Rule RuleCase) (y : Rule-F Held HeldCase) → plain y ≡ x → IsTold
      (roll-Rule x)
  rolled x y is =
      let a = plain y in
      let r = roll-Rule x in
      let e = out_roll x ∙ sym is in
      tells-of (rule_counts_level domains term calls (said (rule_counts_level domains term) calls
      a)) (counts r)
      (rule_depth_level deep depths (said (rule_depth_level deep) depths a)) (rule_deep r)
      (rule_work_level domains work works (said (rule_work_level domains work) works a))
      (rule_work r)
      (sym (said-out (rule_counts_level domains term) calls r a e))
      (sym (said-out (rule_depth_level deep) depths r a e))
      (sym (said-out (rule_work_level domains work) works r a e))
      (form-told y)

  told : (r : Rule) → IsTold r
  told r =
      ind-Rule IsTold OfCase (λ x y is. rolled x y is)
      (λ x y is. subst (λ z. IsTold z.rule) (is ∙ sym (out_roll_case x)) y.rule.1)
      r

pub rules-told : RulesAreTold
rules-told domains term deep work of_terms calls depths works all r =
    told domains term deep work of_terms calls depths works all r
