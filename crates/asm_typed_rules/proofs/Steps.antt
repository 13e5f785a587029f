-- Typing of rules, form by form.
use Rattle.std.proofs.Common.{◌≡◌, ℕ, ◌+◌, Bool, true, false, Option, Some, None, List, [], ◌∷◌, ◌++◌, length, map, refl, sym, ap, ◌∙◌}
use Rattle.std.specs.List.{slice_get}
use Rattle.std.specs.Option.{option_map_or}
use Rattle.std.proofs.lemmas.List.{append-nil}
use Rattle.asm_value.specs.declared.domain.Domain.{Domain}
use Rattle.asm_syntax.specs.declared.token.Span.{Span}
use Rattle.asm_syntax.specs.declared.token.Token.{Token}
use Rattle.asm_syntax.specs.declared.tree.RuleTree.{RuleTree}
use Rattle.asm_syntax.specs.declared.tree.RuleCaseTree.{RuleCaseTree}
use Rattle.asm_syntax.specs.declared.tree.TermTree.{TermTree}
use Rattle.asm_syntax.specs.declared.tree.RuleTree.TheOpen.{RuleTree-F}
use Rattle.asm_syntax.specs.declared.tree.RuleTree.TheFolds.{fold-RuleCaseTree, fold_out-RuleTree, fold_out-RuleCaseTree, map-RuleTree}
use Rattle.asm_syntax.specs.declared.tree.RuleTree.TheViews.{out-RuleTree, out-RuleCaseTree, the_lemmas}
use Rattle.asm_program.specs.declared.trees.Rule.TheVariants as rules
use Rattle.asm_program.specs.Items.{list_of_ranges}
use Rattle.asm_program.specs.TypedTerms.{Scope, Variables, Checked, checked, all_refused, types, call_refused, args_fit, join_with, or_else, unless, some_term}
use Rattle.asm_program.specs.TypedRules as typed
use Rattle.asm_program.specs.TypedRules.{CheckedRule, RuleTyping, checked_rule}
use Rattle.asm_typed.specs.Sizes.{ranges_refused, with_ranges, range_domains}
use Rattle.asm_typed.specs.Forms.{args_at, terms_at, all_bound, bound_at}
use Rattle.asm_program.specs.declared.type_refusal.TypeRefusal.{TypeRefusal}
use Rattle.asm_program.specs.declared.type_refusal.TypeRefusal.TheVariants.{Duplicate, Unknown, Mismatch, Recursive, NotEnumerable, Missing, Limit, TooMuchWork, NoMemory}
use Rattle.asm_program.specs.Signatures.{Header, find}
use Rattle.asm_program.specs.declared.named.Named.{Named}
use Rattle.asm_program.specs.declared.named.Named.TheVariants as named
use Rattle.asm_syntax.specs.Marks.{text_of}
use Rattle.asm_typed.specs.Answers.{settled}
use Rattle.asm_typed.specs.Own.{args_refused, joins_refused}
use Rattle.asm_typed.proofs.Refusals.{refusal_steps, settled-memory, settled-first}
use Rattle.asm_typed.proofs.InRanges.{take-ranges, kept-all, kept-pushed}
use Rattle.asm_typed.proofs.Steps.{take-bound}
use Rattle.asm_typed_rules.proofs.Counts.{members-cons, members-drop, members-end, take-members, values_steps, parts-first, parts-rest, parts-numbered, parts-chooses}
use Rattle.asm_typed_rules.specs.Forms.{updated, called, is_memory, rules_at, other_at, guard_at, cases_at, update, call, par, seq, conditional, forall_rule, choose_rule, let_in, switched, extended, extended_by, all_case_refused, case_chooses, numbered_cases, other_refused, other_chooses, other_rule, values_at, values_refused, all_rules_refused, all_chooses, numbered, guard_refused, guards_refused}

abbrev RC : Type 0
RC = TermTree × RuleTyping

module _ (scope : Scope) where
  abbrev folded_case : RuleCaseTree → RC
  folded_case = fold-RuleCaseTree RuleTyping RC (typed.check_rule_level scope) (typed.rule_case scope)

  case-is : (c : RuleCaseTree) → folded_case c ≡ ((out-RuleCaseTree c).value, checked_rule scope (out-RuleCaseTree c).rule)
  unfolding checked_rule
  case-is c = fold_out-RuleCaseTree RuleTyping RC (typed.check_rule_level scope) (typed.rule_case scope) c

  module _ (vs : Variables) where
    rules-at : (rs : List RuleTree) → map (λ (r : RuleTyping). r vs) (map (checked_rule scope) rs) ≡ rules_at scope vs rs
    unfolding rules_at
    rules-at [] = refl
    rules-at (r ∷ rs) = ap (λ cs. checked_rule scope r vs ∷ cs) (rules-at rs)

    cases-at : (cs : List RuleCaseTree) → typed.cases_at scope vs (map folded_case cs) ≡ cases_at scope vs cs
    unfolding cases_at
    cases-at [] = refl
    cases-at (c ∷ cs) = λ i. (checked scope (case-is c i).0 vs, (case-is c i).1 vs) ∷ cases-at cs i

    abbrev pub rule_form : RuleTree-F RuleTree RuleCaseTree → CheckedRule
    rule_form (RuleTree-F.Skip span) = typed.simple [] rules.Skip
    rule_form (RuleTree-F.Call name args span) = call scope name (args_at scope vs args) span
    rule_form (RuleTree-F.Update name args value span) = update scope name (args_at scope vs args) (checked scope value vs) span
    rule_form (RuleTree-F.Par first others span) = par (rules_at scope vs (first ∷ others)) span
    rule_form (RuleTree-F.Seq first others span) = seq (rules_at scope vs (first ∷ others)) span
    rule_form (RuleTree-F.If guard first other span) = conditional (checked scope guard vs) (checked_rule scope first vs) (other_at scope vs other)
    rule_form (RuleTree-F.Forall ranges guard body span) =
        forall_rule (ranges_refused scope (list_of_ranges ranges)) (range_domains scope (list_of_ranges ranges))
        (guard_at scope (with_ranges scope vs (list_of_ranges ranges)) guard)
        (checked_rule scope body (with_ranges scope vs (list_of_ranges ranges))) span
    rule_form (RuleTree-F.Choose ranges guard body other span) =
        choose_rule (ranges_refused scope (list_of_ranges ranges)) (range_domains scope (list_of_ranges ranges))
        (guard_at scope (with_ranges scope vs (list_of_ranges ranges)) guard)
        (checked_rule scope body (with_ranges scope vs (list_of_ranges ranges))) (other_at scope vs other)
    rule_form (RuleTree-F.Let binds body span) = let_in (all_bound scope vs binds) (checked_rule scope body (all_bound scope vs binds).variables)
    rule_form (RuleTree-F.Switch t cases other span) = switched (checked scope t vs) (cases_at scope vs cases) (other_at scope vs other) span
    rule_form (RuleTree-F.Extend name first others body span) = extended scope vs name (first ∷ others) body span

    abbrev mapped : RuleTree-F RuleTree RuleCaseTree → RuleTree-F RuleTyping RC
    mapped f = map-RuleTree RuleTree RuleCaseTree RuleTyping RC (checked_rule scope) folded_case f

    same_form : (f : RuleTree-F RuleTree RuleCaseTree) → typed.check_rule_level scope (mapped f) vs ≡ rule_form f
    unfolding call update args_at terms_at par seq conditional forall_rule choose_rule ranges_refused range_domains with_ranges guard_at other_at let_in all_bound bound_at switched extended extended_by rules_at
    same_form (RuleTree-F.Skip span) = refl
    same_form (RuleTree-F.Call name args span) = refl
    same_form (RuleTree-F.Update name args value span) = refl
    same_form (RuleTree-F.Par first others span) = ap (λ cs. typed.many rules.Par cs span) (rules-at (first ∷ others))
    same_form (RuleTree-F.Seq first others span) = ap (λ cs. typed.many rules.Seq cs span) (rules-at (first ∷ others))
    same_form (RuleTree-F.If guard first None span) = refl
    same_form (RuleTree-F.If guard first (Some other) span) = refl
    same_form (RuleTree-F.Forall ranges None body span) = refl
    same_form (RuleTree-F.Forall ranges (Some guard) body span) = refl
    same_form (RuleTree-F.Choose ranges None body None span) = refl
    same_form (RuleTree-F.Choose ranges None body (Some other) span) = refl
    same_form (RuleTree-F.Choose ranges (Some guard) body None span) = refl
    same_form (RuleTree-F.Choose ranges (Some guard) body (Some other) span) = refl
    same_form (RuleTree-F.Let binds body span) = refl
    same_form (RuleTree-F.Switch t cases None span) = ap (λ cs. typed.switch_checked (checked scope t vs) cs None span) (cases-at cases)
    same_form (RuleTree-F.Switch t cases (Some other) span) =
        ap (λ cs. typed.switch_checked (checked scope t vs) cs (Some (checked_rule scope other vs)) span) (cases-at cases)
    same_form (RuleTree-F.Extend name first others body span) = refl

    out-level : (t : RuleTree) → checked_rule scope t vs ≡ typed.check_rule_level scope (mapped (out-RuleTree t)) vs
    unfolding checked_rule
    out-level t = ap (λ f. f vs) (fold_out-RuleTree RuleTyping RC (typed.check_rule_level scope) (typed.rule_case scope) t)

    pub checked_rule-out : (t : RuleTree) → checked_rule scope t vs ≡ rule_form (out-RuleTree t)
    checked_rule-out t = out-level t ∙ same_form (out-RuleTree t)

pub ruleset refusals = (refusal_steps)

pub ruleset tree_steps = (refusal_steps, append-nil, the_lemmas)

pub ruleset ranged_steps = (refusal_steps, take-ranges)

pub ruleset let_steps = (refusal_steps, take-bound)

pub ruleset members_steps = (kept-all, kept-pushed, members-drop, members-end)

pub ruleset all_members_steps = (kept-all, kept-pushed, members-cons)

-- ---- updates and calls

pub updated-at : (scope : Scope) (f : ℕ) (h : Header) (cs : List Checked) (v : Checked) (span : Span) → Some h ≡ slice_get scope.functions f
    → updated scope f h cs v span ≡ typed.function_updated scope f (slice_get scope.functions f) cs v span
unfolding updated
updated-at scope f h cs v span k = ap (λ o. typed.function_updated scope f o cs v span) k

-- where the first of some is told, so it is of more
pub settled-one : (why r : TypeRefusal) (rs : List TypeRefusal) → settled why (r ∷ []) ≡ why → settled why (r ∷ rs) ≡ why
settled-one why r rs h = settled-first why (r ∷ []) rs h

function-chooses : (scope : Scope) (f : ℕ) (o : Option Header) (cs : List Checked) (v : Checked) (span : Span)
    → (typed.function_updated scope f o cs v span).chooses ≡ 0
function-chooses scope f None cs v span = refl
function-chooses scope f (Some h) cs v span = refl

named-chooses : (scope : Scope) (meant : Option Named) (name : Token) (cs : List Checked) (v : Checked) (span : Span)
    → (typed.named_updated scope meant name cs v span).chooses ≡ 0
named-chooses scope None name cs v span = refl
named-chooses scope (Some (named.Enum d)) name cs v span = refl
named-chooses scope (Some (named.Abstract d)) name cs v span = refl
named-chooses scope (Some (named.Subset d)) name cs v span = refl
named-chooses scope (Some (named.Literal d i)) name cs v span = refl
named-chooses scope (Some (named.Function f)) name cs v span = function-chooses scope f (slice_get scope.functions f) cs v span
named-chooses scope (Some (named.Macro m)) name cs v span = refl
named-chooses scope (Some named.Main) name cs v span = refl

pub update-chooses : (scope : Scope) (name : Token) (cs : List Checked) (v : Checked) (span : Span) → (update scope name cs v span).chooses ≡ 0
unfolding update
update-chooses scope name cs v span = named-chooses scope (find scope.names (text_of name)) name cs v span

pub ruleset update_steps = (refusal_steps, settled-one, updated-at)

pub called-own : (m : ℕ) (cs : List Checked) (ds : List Domain) (span : Span) → all_refused cs ≡ []
    → call_refused cs ds span ≡ args_refused (types cs) ds span
unfolding args_refused
called-own m cs ds span h = ap (λ rs. or_else rs (unless (args_fit (types cs) ds) (Mismatch span))) h

pub ruleset called_steps = (refusal_steps, called-own)

pub macro-at : (scope : Scope) (m : ℕ) (params : List Domain) (cs : List Checked) (span : Span) → Some params ≡ slice_get scope.macros m
    → called scope m params cs span
    ≡ option_map_or (λ ps. typed.macro_called scope m ps cs span) (slice_get scope.macros m) (typed.simple [] rules.Skip)
unfolding called
macro-at scope m params cs span k = ap (λ o. option_map_or (λ ps. typed.macro_called scope m ps cs span) o (typed.simple [] rules.Skip)) k

macro-chooses : (scope : Scope) (m : ℕ) (o : Option (List Domain)) (cs : List Checked) (span : Span)
    → (option_map_or (λ ps. typed.macro_called scope m ps cs span) o (typed.simple [] rules.Skip)).chooses ≡ 0
macro-chooses scope m None cs span = refl
macro-chooses scope m (Some ps) cs span = refl

rule-chooses : (scope : Scope) (meant : Option Named) (name : Token) (cs : List Checked) (span : Span)
    → (typed.rule_called scope meant name cs span).chooses ≡ 0
rule-chooses scope None name cs span = refl
rule-chooses scope (Some (named.Enum d)) name cs span = refl
rule-chooses scope (Some (named.Abstract d)) name cs span = refl
rule-chooses scope (Some (named.Subset d)) name cs span = refl
rule-chooses scope (Some (named.Literal d i)) name cs span = refl
rule-chooses scope (Some (named.Function f)) name cs span = refl
rule-chooses scope (Some (named.Macro m)) name cs span = macro-chooses scope m (slice_get scope.macros m) cs span
rule-chooses scope (Some named.Main) name cs span = refl

pub call-chooses : (scope : Scope) (name : Token) (cs : List Checked) (span : Span) → (call scope name cs span).chooses ≡ 0
unfolding call
call-chooses scope name cs span = rule-chooses scope (find scope.names (text_of name)) name cs span

pub ruleset call_steps = (refusal_steps, settled-one, macro-at)

-- ---- switches

pub refused-by : (why : TypeRefusal) (rs own : List TypeRefusal) → is_memory why ≡ false → settled why rs ≡ why → typed.own_refused rs own ≡ []
unfolding settled
refused-by (Duplicate name span) [] own h e = absurd (cc)
refused-by (Unknown name span) [] own h e = absurd (cc)
refused-by (Mismatch span) [] own h e = absurd (cc)
refused-by (Recursive name span) [] own h e = absurd (cc)
refused-by (NotEnumerable span) [] own h e = absurd (cc)
refused-by (Missing name span) [] own h e = absurd (cc)
refused-by (Limit kind n span) [] own h e = absurd (cc)
refused-by (TooMuchWork n span) [] own h e = absurd (cc)
refused-by NoMemory [] own h e = absurd (cc)
refused-by why (r ∷ rs) own h e = refl

pub ruleset types_steps = (values_steps, refused-by)

pub ruleset joined_steps = (refusal_steps)

own_first : (why : TypeRefusal) (a rest own more other : List TypeRefusal) → settled why a ≡ why
    → settled why (((typed.own_refused (a ++ rest) own ++ a) ++ more) ++ other) ≡ why
own_first why [] rest own more other h = settled-first why [] (((typed.own_refused rest own ++ []) ++ more) ++ other) h
own_first why (r ∷ rs) rest own more other h = settled-first why ((r ∷ rs) ++ more) other (settled-first why (r ∷ rs) more h)

pub none_other : other_refused None ≡ []
unfolding other_refused
none_other = refl

pub none_chooses : other_chooses None ≡ 0
unfolding other_chooses
none_chooses = refl

pub switched-more : (v : Checked) (cs : List (Checked × CheckedRule)) (o : Option CheckedRule) (span : Span)
    → (switched v cs o span).refused ≡ (switched v cs None span).refused ++ other_refused o
unfolding switched other_refused
switched-more v cs o span =
    let own = typed.own_refused (all_refused (v ∷ typed.case_values cs)) (unless (join_with v.type (types (typed.case_values cs))) (Mismatch span)) in
    sym (ap (λ xs. xs ++ typed.rules_refused (typed.other_rules o)) (append-nil ((own ++ v.refused) ++ typed.case_refused cs)))

module _ (scope : Scope) (vs : Variables) where
  values-are : (cs : List RuleCaseTree) → typed.case_values (cases_at scope vs cs) ≡ values_at scope vs cs
  unfolding cases_at values_at
  values-are [] = refl
  values-are (c ∷ cs) = ap (λ xs. checked scope (out-RuleCaseTree c).value vs ∷ xs) (values-are cs)

  module _ (v : Checked) (cs : List RuleCaseTree) (o : Option CheckedRule) (span : Span) where
    abbrev cases : List (Checked × CheckedRule)
    cases = cases_at scope vs cs

    abbrev head_refused : List TypeRefusal → List Checked → List TypeRefusal
    head_refused rs us = typed.own_refused (rs ++ all_refused us) (unless (join_with v.type (types us)) (Mismatch span))

    abbrev of_cases : List TypeRefusal
    of_cases = typed.case_refused cases

    abbrev of_other : List TypeRefusal
    of_other = typed.rules_refused (typed.other_rules o)

    abbrev of_head : List TypeRefusal
    of_head = head_refused v.refused (typed.case_values cases)

    head-is : v.refused ≡ [] → head_refused v.refused (typed.case_values cases) ≡ values_refused v.type (values_at scope vs cs) span
    unfolding values_refused joins_refused
    head-is none =
        ap (λ rs. head_refused rs (typed.case_values cases)) none ∙ ap (head_refused []) (values-are cs)

    pub switched-value : (why : TypeRefusal) → settled why v.refused ≡ why → settled why (switched v cases o span).refused ≡ why
    unfolding switched
    switched-value why h =
        own_first why v.refused (all_refused (typed.case_values cases)) (unless (join_with v.type (types (typed.case_values cases))) (Mismatch span)) of_cases of_other h

    pub switched-values : (why : TypeRefusal) → v.refused ≡ [] → settled why (values_refused v.type (values_at scope vs cs) span) ≡ why
        → settled why (switched v cases o span).refused ≡ why
    unfolding switched
    switched-values why none h =
        settled-first why ((of_head ++ v.refused) ++ of_cases) of_other
        (settled-first why (of_head ++ v.refused) of_cases (settled-first why of_head v.refused (ap (settled why) (head-is none) ∙ h)))

    pub switched-rest : v.refused ≡ [] → values_refused v.type (values_at scope vs cs) span ≡ []
        → (switched v cases o span).refused ≡ all_case_refused cases ++ other_refused o
    unfolding switched all_case_refused other_refused
    switched-rest none h =
        ap (λ xs. ((xs ++ v.refused) ++ of_cases) ++ of_other) (head-is none ∙ h) ∙ ap (λ xs. (xs ++ of_cases) ++ of_other) none

    pub switched-rule : (n : ℕ) → (switched v cases o span).rule n ≡ rules.Switch v.term (numbered_cases cases n) (other_rule o (n + case_chooses cases))
    unfolding switched numbered_cases other_rule case_chooses
    switched-rule n = refl

    pub switched-chooses : (switched v cases o span).chooses ≡ case_chooses cases + other_chooses o
    unfolding switched case_chooses other_chooses
    switched-chooses = refl

pub ruleset switch_steps = (refusal_steps, append-nil, none_other, none_chooses, switched-value, switched-values, switched-rest, switched-rule, switched-chooses)

pub ruleset extend_steps = (refusal_steps, take-members)

pub ruleset named_steps = (refusal_steps, settled-one)

-- ---- rules

module _ (rs : List CheckedRule) (span : Span) where
  pub par-refused : (par rs span).refused ≡ all_rules_refused rs
  unfolding par all_rules_refused
  par-refused = refl

  pub par-rule : (n : ℕ) → (par rs span).rule n ≡ rules.Par (numbered rs n) span
  unfolding par numbered
  par-rule n = refl

  pub par-chooses : (par rs span).chooses ≡ all_chooses rs
  unfolding par all_chooses
  par-chooses = refl

  pub seq-refused : (seq rs span).refused ≡ all_rules_refused rs
  unfolding seq all_rules_refused
  seq-refused = refl

  pub seq-rule : (n : ℕ) → (seq rs span).rule n ≡ rules.Seq (numbered rs n) span
  unfolding seq numbered
  seq-rule n = refl

  pub seq-chooses : (seq rs span).chooses ≡ all_chooses rs
  unfolding seq all_chooses
  seq-chooses = refl

module _ (g : Checked) (c : CheckedRule) (o : Option CheckedRule) where
  pub if-refused : (conditional g c o).refused ≡ (guard_refused g ++ c.refused) ++ other_refused o
  unfolding conditional guard_refused other_refused
  if-refused = refl

  pub if-rule : (n : ℕ) → (conditional g c o).rule n ≡ rules.If g.term (c.rule n) (other_rule o (n + c.chooses))
  unfolding conditional other_rule
  if-rule n = refl

  pub if-chooses : (conditional g c o).chooses ≡ c.chooses + other_chooses o
  unfolding conditional other_chooses
  if-chooses = refl

module _ (rs : List TypeRefusal) (ds : List Domain) (g : Option Checked) (c : CheckedRule) (o : Option CheckedRule) where
  pub choose-refused : (choose_rule rs ds g c o).refused ≡ ((rs ++ guards_refused g) ++ c.refused) ++ other_refused o
  unfolding choose_rule guards_refused other_refused
  choose-refused = refl

  pub choose-rule : (n : ℕ) → (choose_rule rs ds g c o).rule n ≡ rules.Choose ds (some_term g) (c.rule (n + 1)) (other_rule o (n + 1 + c.chooses)) n
  unfolding choose_rule other_rule
  choose-rule n = refl

  pub choose-chooses : (choose_rule rs ds g c o).chooses ≡ 1 + c.chooses + other_chooses o
  unfolding choose_rule other_chooses
  choose-chooses = refl

pub ruleset rule_steps =
    (refusal_steps, checked_rule-out, update-chooses, call-chooses, parts-first, parts-rest, parts-numbered, parts-chooses, par-refused, par-rule, par-chooses, seq-refused, seq-rule, seq-chooses, if-refused, if-rule, if-chooses, choose-refused, choose-rule, choose-chooses, switched-more, switched-rule, switched-chooses, the_lemmas)
