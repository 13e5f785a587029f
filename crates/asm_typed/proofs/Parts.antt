-- Forms of parts of which nothing is refused.
use Rattle.std.proofs.Common.{◌≡◌, ℕ, ◌+◌, ◌<◌, ◌≤◌, Bool, true, false, ◌&&◌, if◌then◌else◌, Option, Some, None, is_some, List, [], ◌∷◌, ◌++◌, length, map, drop, get_or, refl, sym, ap, ◌∙◌, codes}
use Rattle.std.specs.Option.{option_map}
use Rattle.std.specs.Str.{bytes_eq}
use Rattle.std.specs.List.{list_all}
use Rattle.std.proofs.lemmas.List.{map-append, drop_all, drop_more, append-nil}
use Rattle.asm_value.specs.declared.domain.Domain.{Domain}
use Rattle.asm_syntax.specs.declared.token.Span.{Span}
use Rattle.asm_syntax.specs.declared.token.Token.{Token}
use Rattle.asm_typing.specs.declared.types.Type.{«Type» as TermType}
use Rattle.asm_typing.specs.Joins.{join, join_all}
use Rattle.asm_typing.specs.Operators.{operator_type}
use Rattle.asm_program.specs.declared.trees.Term.{Term}
use Rattle.asm_program.specs.declared.trees.Term.TheVariants as terms
use Rattle.asm_program.specs.declared.type_refusal.TypeRefusal.{TypeRefusal}
use Rattle.asm_program.specs.declared.type_refusal.TypeRefusal.TheVariants.{Mismatch}
use Rattle.asm_program.specs.Signatures.{Header}
use Rattle.asm_program.specs.TypedTerms as typed
use Rattle.asm_program.specs.TypedTerms.{Scope, Checked, Bound, or_else, unless, all_refused, types, checked_terms, some_checked, join_with, call_refused}
use Rattle.asm_typed.specs.declared.forms.Connective.{Connective}
use Rattle.asm_typed.specs.declared.forms.Connective.TheVariants as connectives
use Rattle.asm_typed.specs.Answers.{settled, done, finished}
use Rattle.asm_typed.specs.Own.{args_refused, operator_own, function_own, literal_own, join_refused, joined, set_own, sequence_own, tuple_own, joins_refused, both_refused, conditional_own, switch_own}
use Rattle.asm_typed.specs.Forms.{other_refused, connective, connection, connected, operated, binary, called, literal, tuple, set, sequence, interval, quantified, conditional, let_in, switched, case_values, case_terms, all_cases, all_case_refused, one_case_refused}
use Rattle.asm_typed.proofs.Refusals.{settled-first, settled-rest, settled-parts, settled-own, settled-memory, settled-head, none-append, refusal_steps}

-- ---- connectives

module _ (op : List ℕ) (l r : Checked) (span : Span) where
  by_tests : (a b d : Bool) (k : Connective)
      → (if a then Some connectives.And else (if b then Some connectives.Or else (if d then Some connectives.Implies else None))) ≡ Some k
      → (if a then typed.connected terms.And l r span else (if b then typed.connected terms.Or l r span else (if d then typed.connected terms.Implies l r span else typed.operator_checked op (l ∷ r ∷ []) span)))
      ≡ typed.connected (connection k) l r span
  by_tests true b d k h = let is : connectives.And ≡ k = cc in ap (λ j. typed.connected (connection j) l r span) is
  by_tests false true d k h = let is : connectives.Or ≡ k = cc in ap (λ j. typed.connected (connection j) l r span) is
  by_tests false false true k h = let is : connectives.Implies ≡ k = cc in ap (λ j. typed.connected (connection j) l r span) is
  by_tests false false false k h = absurd (cc)

  none_of : (a b d : Bool)
      → (if a then Some connectives.And else (if b then Some connectives.Or else (if d then Some connectives.Implies else None))) ≡ None
      → (if a then typed.connected terms.And l r span else (if b then typed.connected terms.Or l r span else (if d then typed.connected terms.Implies l r span else typed.operator_checked op (l ∷ r ∷ []) span)))
      ≡ typed.operator_checked op (l ∷ r ∷ []) span
  none_of true b d h = absurd (cc)
  none_of false true d h = absurd (cc)
  none_of false false true h = absurd (cc)
  none_of false false false h = refl

  pub binary-connected : (k : Connective) → connective op ≡ Some k → binary op l r span ≡ connected (connection k) l r span
  unfolding binary connected
  binary-connected k h = by_tests (bytes_eq op (codes "and")) (bytes_eq op (codes "or")) (bytes_eq op (codes "implies")) k h

  pub binary-operated : connective op ≡ None → binary op l r span ≡ operated op (l ∷ r ∷ []) span
  unfolding binary operated
  binary-operated h = none_of (bytes_eq op (codes "and")) (bytes_eq op (codes "or")) (bytes_eq op (codes "implies")) h

  -- what is refused of the whole
  abbrev truths : List TypeRefusal
  truths = typed.truth_refused l ++ typed.truth_refused r

  abbrev no_row : List TypeRefusal
  no_row = unless (is_some (operator_type op (types (l ∷ r ∷ [])))) (Mismatch span)

  abbrev no_ints : List TypeRefusal
  no_ints = unless (typed.is_int l.type && typed.is_int r.type) (Mismatch span)

  -- the parts come first
  parts-left : (why : TypeRefusal) (own : List TypeRefusal) → settled why l.refused ≡ why → settled why (or_else (l.refused ++ r.refused) own) ≡ why
  parts-left why own h = settled-parts why (l.refused ++ r.refused) own (settled-first why l.refused r.refused h)

  parts-right : (why : TypeRefusal) (own : List TypeRefusal) → l.refused ≡ [] → settled why r.refused ≡ why → settled why (or_else (l.refused ++ r.refused) own) ≡ why
  parts-right why own none h = settled-parts why (l.refused ++ r.refused) own (settled-rest why l.refused r.refused none h)

  left_by_tests : (why : TypeRefusal) (a b d : Bool) → settled why l.refused ≡ why
      → settled why (if a then typed.connected terms.And l r span else (if b then typed.connected terms.Or l r span else (if d then typed.connected terms.Implies l r span else typed.operator_checked op (l ∷ r ∷ []) span))).refused ≡ why
  left_by_tests why true b d h = parts-left why truths h
  left_by_tests why false true d h = parts-left why truths h
  left_by_tests why false false true h = parts-left why truths h
  left_by_tests why false false false h =
      settled-parts why (l.refused ++ (r.refused ++ [])) no_row (settled-first why l.refused (r.refused ++ []) h)

  right_by_tests : (why : TypeRefusal) (a b d : Bool) → l.refused ≡ [] → settled why r.refused ≡ why
      → settled why (if a then typed.connected terms.And l r span else (if b then typed.connected terms.Or l r span else (if d then typed.connected terms.Implies l r span else typed.operator_checked op (l ∷ r ∷ []) span))).refused ≡ why
  right_by_tests why true b d none h = parts-right why truths none h
  right_by_tests why false true d none h = parts-right why truths none h
  right_by_tests why false false true none h = parts-right why truths none h
  right_by_tests why false false false none h =
      settled-parts why (l.refused ++ (r.refused ++ [])) no_row (settled-rest why l.refused (r.refused ++ []) none (settled-first why r.refused [] h))

  pub binary-left : (why : TypeRefusal) → settled why l.refused ≡ why → settled why (binary op l r span).refused ≡ why
  unfolding binary
  binary-left why h = left_by_tests why (bytes_eq op (codes "and")) (bytes_eq op (codes "or")) (bytes_eq op (codes "implies")) h

  pub binary-right : (why : TypeRefusal) → l.refused ≡ [] → settled why r.refused ≡ why → settled why (binary op l r span).refused ≡ why
  unfolding binary
  binary-right why none h = right_by_tests why (bytes_eq op (codes "and")) (bytes_eq op (codes "or")) (bytes_eq op (codes "implies")) none h

  pub interval-left : (why : TypeRefusal) → settled why l.refused ≡ why → settled why (interval l r span).refused ≡ why
  unfolding interval
  interval-left why h = parts-left why no_ints h

  pub interval-right : (why : TypeRefusal) → l.refused ≡ [] → settled why r.refused ≡ why → settled why (interval l r span).refused ≡ why
  unfolding interval
  interval-right why none h = parts-right why no_ints none h

-- ---- what has a list of parts

abbrev with_refused : List TypeRefusal → Checked → Checked
with_refused rs c = record { refused = rs; type = c.type; term = c.term; span = c.span }

abbrev with_parts : List TypeRefusal → Checked → Checked
with_parts rs c = with_refused (or_else rs c.refused) c

with_none : (rs : List TypeRefusal) (c : Checked) → rs ≡ [] → with_parts rs c ≡ c
with_none rs c h = ap (λ xs. with_parts xs c) h

module _ (cs : List Checked) (span : Span) where
  pub operated-args : (why : TypeRefusal) (name : List ℕ) → settled why (all_refused cs) ≡ why → settled why (operated name cs span).refused ≡ why
  unfolding operated
  operated-args why name h = settled-parts why (all_refused cs) (unless (is_some (operator_type name (types cs))) (Mismatch span)) h

  pub operated-own : (name : List ℕ) → all_refused cs ≡ [] → operated name cs span ≡ operator_own name (types cs) (checked_terms cs) span
  unfolding operated operator_own
  operated-own name h = with_none (all_refused cs) (operator_own name (types cs) (checked_terms cs) span) h

  pub called-args : (why : TypeRefusal) (scope : Scope) (f : ℕ) (h : Header) → settled why (all_refused cs) ≡ why → settled why (called scope f h cs span).refused ≡ why
  unfolding called
  called-args why scope f h e = settled-parts why (all_refused cs) (unless (typed.args_fit (types cs) h.args) (Mismatch span)) e

  pub called-own : (scope : Scope) (f : ℕ) (h : Header) → all_refused cs ≡ [] → called scope f h cs span ≡ function_own scope.functions f h (types cs) (checked_terms cs) span
  unfolding called function_own args_refused
  called-own scope f h e = with_none (all_refused cs) (function_own scope.functions f h (types cs) (checked_terms cs) span) e

  pub literal-args : (why : TypeRefusal) (scope : Scope) (d i : ℕ) → settled why (all_refused cs) ≡ why → settled why (literal scope d i cs span).refused ≡ why
  unfolding literal
  literal-args why scope d i e = settled-parts why (all_refused cs) (unless (typed.args_fit (types cs) []) (Mismatch span)) e

  pub literal-own : (scope : Scope) (d i : ℕ) → all_refused cs ≡ [] → literal scope d i cs span ≡ literal_own d i (types cs) span
  unfolding literal literal_own args_refused
  literal-own scope d i e = with_none (all_refused cs) (literal_own d i (types cs) span) e

  pub tuple-args : (why : TypeRefusal) → settled why (all_refused cs) ≡ why → settled why (tuple cs span).refused ≡ why
  unfolding tuple
  tuple-args why h = h

  pub tuple-own : all_refused cs ≡ [] → tuple cs span ≡ tuple_own (types cs) (checked_terms cs) span
  unfolding tuple tuple_own
  tuple-own h = ap (λ rs. with_refused rs (tuple_own (types cs) (checked_terms cs) span)) h

  pub set-args : (why : TypeRefusal) → settled why (all_refused cs) ≡ why → settled why (set cs span).refused ≡ why
  unfolding set
  set-args why h = settled-parts why (all_refused cs) (unless (is_some (join_all (types cs))) (Mismatch span)) h

  pub set-own : all_refused cs ≡ [] → set cs span ≡ set_own (types cs) (checked_terms cs) span
  unfolding set set_own join_refused joined
  set-own h = with_none (all_refused cs) (set_own (types cs) (checked_terms cs) span) h

  pub sequence-args : (why : TypeRefusal) → settled why (all_refused cs) ≡ why → settled why (sequence cs span).refused ≡ why
  unfolding sequence
  sequence-args why h = settled-parts why (all_refused cs) (unless (is_some (join_all (types cs))) (Mismatch span)) h

  pub sequence-own : all_refused cs ≡ [] → sequence cs span ≡ sequence_own (types cs) (checked_terms cs) span
  unfolding sequence sequence_own join_refused joined
  sequence-own h = with_none (all_refused cs) (sequence_own (types cs) (checked_terms cs) span) h

-- ---- quantifiers

module _ (form : List Domain → Term → Term) (rs : List TypeRefusal) (ds : List Domain) (c : Checked) (span : Span) where
  pub quantified-ranges : (why : TypeRefusal) → settled why rs ≡ why → settled why (quantified form rs ds c span).refused ≡ why
  unfolding quantified
  quantified-ranges why h = settled-parts why (rs ++ c.refused) (typed.truth_refused c) (settled-first why rs c.refused h)

  pub quantified-body : (why : TypeRefusal) → rs ≡ [] → settled why c.refused ≡ why → settled why (quantified form rs ds c span).refused ≡ why
  unfolding quantified
  quantified-body why none h = settled-parts why (rs ++ c.refused) (typed.truth_refused c) (settled-rest why rs c.refused none h)

  pub quantified-none : rs ≡ [] → quantified form rs ds c span ≡ quantified form [] ds c span
  quantified-none none = ap (λ xs. quantified form xs ds c span) none

-- ---- conditional terms

none_of_three : (a b c : List TypeRefusal) → a ≡ [] → b ≡ [] → c ≡ [] → a ++ (b ++ c) ≡ []
none_of_three a b c x y z = ap (λ xs. xs ++ (b ++ c)) x ∙ ap (λ xs. xs ++ c) y ∙ z

none_of_all : (a b c : List TypeRefusal) → a ≡ [] → b ≡ [] → c ≡ [] → (a ++ b) ++ c ≡ []
none_of_all a b c x y z = ap (λ xs. (xs ++ b) ++ c) x ∙ ap (λ xs. xs ++ c) y ∙ z

module _ (g f : Checked) (o : Option Checked) (span : Span) where
  abbrev of_parts : List TypeRefusal
  of_parts = f.refused ++ all_refused (some_checked o)

  abbrev of_whole : List TypeRefusal
  of_whole = unless (is_some (join_all (types (f ∷ some_checked o)))) (Mismatch span) ++ typed.truth_refused g

  pub conditional-guard : (why : TypeRefusal) → settled why g.refused ≡ why → settled why (conditional g f o span).refused ≡ why
  unfolding conditional
  conditional-guard why h = settled-parts why (g.refused ++ of_parts) of_whole (settled-first why g.refused of_parts h)

  pub conditional-first : (why : TypeRefusal) → g.refused ≡ [] → settled why f.refused ≡ why → settled why (conditional g f o span).refused ≡ why
  unfolding conditional
  conditional-first why a h =
      settled-parts why (g.refused ++ of_parts) of_whole
      (settled-rest why g.refused of_parts a (settled-first why f.refused (all_refused (some_checked o)) h))

  pub conditional-other : (why : TypeRefusal) → g.refused ≡ [] → f.refused ≡ [] → settled why (other_refused o) ≡ why
      → settled why (conditional g f o span).refused ≡ why
  unfolding conditional other_refused
  conditional-other why a b h =
      settled-parts why (g.refused ++ of_parts) of_whole
      (settled-rest why g.refused of_parts a (settled-rest why f.refused (all_refused (some_checked o)) b h))

  pub conditional-own : g.refused ≡ [] → f.refused ≡ [] → other_refused o ≡ [] → conditional g f o span ≡ conditional_own g f o span
  unfolding conditional conditional_own other_refused join_refused joined
  conditional-own a b c =
      with_none (g.refused ++ (f.refused ++ all_refused (some_checked o))) (conditional_own g f o span) (none_of_three g.refused f.refused (all_refused (some_checked o)) a b c)

-- ---- bound variables

module _ (b : Bound) (c : Checked) (span : Span) where
  pub let-bound : (why : TypeRefusal) → settled why b.refused ≡ why → settled why (let_in b c span).refused ≡ why
  unfolding let_in
  let-bound why h = settled-first why b.refused c.refused h

  pub let-body : (why : TypeRefusal) → b.refused ≡ [] → settled why c.refused ≡ why → settled why (let_in b c span).refused ≡ why
  unfolding let_in
  let-body why a h = settled-rest why b.refused c.refused a h

  pub let-none : b.refused ≡ [] → c.refused ≡ [] → (let_in b c span).refused ≡ []
  unfolding let_in
  let-none x y = ap (λ xs. xs ++ c.refused) x ∙ y

  pub let-done : b.refused ≡ [] → c.refused ≡ [] → let_in b c span ≡ finished c.type (terms.Let b.terms c.term) span
  unfolding let_in
  let-done x y = ap (λ rs. with_refused rs (finished c.type (terms.Let b.terms c.term) span)) (ap (λ xs. xs ++ c.refused) x ∙ y)

-- ---- switches

both_left : (why r : TypeRefusal) (a b : Bool) → settled why (unless a r) ≡ why → settled why (unless (a && b) r) ≡ why
both_left why r true b h = settled-rest why [] (unless b r) refl (settled-first why [] (unless b r) h)
both_left why r false b h = h

both_right : (why r : TypeRefusal) (a b : Bool) → unless a r ≡ [] → settled why (unless b r) ≡ why → settled why (unless (a && b) r) ≡ why
both_right why r true b none h = h
both_right why r false b none h = absurd (cc)

both_none : (r : TypeRefusal) (a b : Bool) → unless a r ≡ [] → unless b r ≡ [] → unless (a && b) r ≡ []
both_none r true b none h = h
both_none r false b none h = absurd (cc)

module _ (t : TermType) (values ts : List TermType) (span : Span) where
  pub both-values : (why : TypeRefusal) → settled why (joins_refused t values span) ≡ why → settled why (both_refused t values ts span) ≡ why
  unfolding joins_refused both_refused
  both-values why h = both_left why (Mismatch span) (join_with t values) (is_some (join_all ts)) h

  pub both-parts : (why : TypeRefusal) → joins_refused t values span ≡ [] → settled why (join_refused ts span) ≡ why → settled why (both_refused t values ts span) ≡ why
  unfolding joins_refused both_refused join_refused
  both-parts why none h = both_right why (Mismatch span) (join_with t values) (is_some (join_all ts)) none h

  pub both-none : joins_refused t values span ≡ [] → join_refused ts span ≡ [] → both_refused t values ts span ≡ []
  unfolding joins_refused both_refused join_refused
  both-none none h = both_none (Mismatch span) (join_with t values) (is_some (join_all ts)) none h

both_maps : (cs : List (Checked × Checked)) → types (map (λ (c : Checked × Checked). c.1) cs) ≡ map (λ (c : Checked × Checked). c.1.type) cs
both_maps [] = refl
both_maps (c ∷ cs) = ap (λ ts. c.1.type ∷ ts) (both_maps cs)

module _ (v : Checked) (cs : List (Checked × Checked)) (o : Option Checked) (span : Span) where
  -- the switch with these types of its parts
  abbrev switch_of : List TermType → Checked
  switch_of ts = record {
    refused = or_else ((v.refused ++ typed.case_refused cs) ++ all_refused (some_checked o))
        (unless (join_with v.type (map (λ (c : Checked × Checked). c.0.type) cs) && is_some (join_all ts)) (Mismatch span));
    type = typed.type_or (join_all ts);
    term = terms.Switch v.term (map typed.case_of cs) (typed.some_term o);
    span = span;
  }

  abbrev of_first : List TypeRefusal
  of_first = v.refused ++ typed.case_refused cs

  abbrev of_other : List TypeRefusal
  of_other = all_refused (some_checked o)

  abbrev of_switch : List TypeRefusal
  of_switch =
      unless (join_with v.type (map (λ (c : Checked × Checked). c.0.type) cs) && is_some (join_all (types (map (λ (c : Checked × Checked). c.1) cs ++ some_checked o))))
      (Mismatch span)

  pub switched-value : (why : TypeRefusal) → settled why v.refused ≡ why → settled why (switched v cs o span).refused ≡ why
  unfolding switched
  switched-value why h =
      settled-parts why (of_first ++ of_other) of_switch
      (settled-first why of_first of_other (settled-first why v.refused (typed.case_refused cs) h))

  pub switched-cases : (why : TypeRefusal) → v.refused ≡ [] → settled why (all_case_refused cs) ≡ why → settled why (switched v cs o span).refused ≡ why
  unfolding switched all_case_refused
  switched-cases why a h =
      settled-parts why (of_first ++ of_other) of_switch
      (settled-first why of_first of_other (settled-rest why v.refused (typed.case_refused cs) a h))

  pub switched-other : (why : TypeRefusal) → v.refused ≡ [] → all_case_refused cs ≡ [] → settled why (other_refused o) ≡ why
      → settled why (switched v cs o span).refused ≡ why
  unfolding switched all_case_refused other_refused
  switched-other why a b h =
      settled-parts why (of_first ++ of_other) of_switch
      (settled-rest why of_first of_other (none-append v.refused (typed.case_refused cs) a b) h)

  joined_types : types (map (λ (c : Checked × Checked). c.1) cs ++ some_checked o) ≡ map (λ (c : Checked × Checked). c.1.type) cs ++ types (some_checked o)
  joined_types =
      map-append (λ (c : Checked). c.type) (map (λ (c : Checked × Checked). c.1) cs) (some_checked o)
      ∙ ap (λ ts. ts ++ types (some_checked o)) (both_maps cs)

  pub switched-own : v.refused ≡ [] → all_case_refused cs ≡ [] → other_refused o ≡ []
      → switched v cs o span ≡ switch_own v (case_values cs) (case_terms cs) (all_cases cs) o span
  unfolding switched switch_own all_case_refused other_refused case_values case_terms all_cases joined both_refused
  switched-own a b c =
      ap (λ ts. switch_of ts) joined_types
      ∙ with_none ((v.refused ++ typed.case_refused cs) ++ all_refused (some_checked o)) (switch_own v (case_values cs) (case_terms cs) (all_cases cs) o span)
      (none_of_all v.refused (typed.case_refused cs) (all_refused (some_checked o)) a b c)

pub ruleset connected_steps = (refusal_steps)

pub ruleset operated_steps = (refusal_steps, operated-own)

pub ruleset binary_steps = (binary-connected, binary-operated)

pub ruleset conditional_steps = (refusal_steps)

-- ---- joins of values

pub joins-next : (t : TermType) (ts : List TermType) (span : Span) (i : ℕ) (d : TermType) → i < length ts
    → is_some (join t (get_or ts i d)) ≡ true
    → joins_refused t (drop (i + 1) ts) span ≡ joins_refused t (drop i ts) span
unfolding joins_refused
joins-next t ts span i d h some =
    let rest = drop (i + 1) ts in
    sym (ap (λ us. unless (join_with t us) (Mismatch span)) (drop_more ts i d h)
    ∙ ap (λ b. unless (b && join_with t rest) (Mismatch span)) some)

pub joins-stop : (t : TermType) (ts : List TermType) (span : Span) (i : ℕ) (d : TermType) → i < length ts
    → is_some (join t (get_or ts i d)) ≡ false
    → joins_refused t (drop i ts) span ≡ Mismatch span ∷ []
unfolding joins_refused
joins-stop t ts span i d h none =
    let rest = drop (i + 1) ts in
    ap (λ us. unless (join_with t us) (Mismatch span)) (drop_more ts i d h)
    ∙ ap (λ b. unless (b && join_with t rest) (Mismatch span)) none

pub joins-end : (t : TermType) (ts : List TermType) (span : Span) (i : ℕ) → length ts ≤ i → joins_refused t (drop i ts) span ≡ []
unfolding joins_refused
joins-end t ts span i h = ap (λ us. unless (join_with t us) (Mismatch span)) (drop_all i ts h)

pub ruleset all_join_steps = (settled-memory, settled-head, joins-next, joins-stop, joins-end)

pub ruleset switch_steps = (settled-memory, both-values, both-parts, both-none)
