-- Ranges one after the other.
use Rattle.std.proofs.Common.{◌≡◌, ℕ, ◌+◌, ◌<◌, ◌≤◌, Option, Some, None, List, [], ◌∷◌, ◌++◌, length, map, drop, get_or, take, Result, Ok, Err, refl, sym, ap, ◌∙◌, arith, append_assoc}
use Rattle.std.proofs.lemmas.List.{drop_all, drop_more, append-nil, take-append-le, length-take}
use Rattle.std.proofs.Math.Seq.{take-append_seam, take-length}
use Rattle.asm_value.specs.declared.domain.Domain.{Domain}
use Rattle.asm_value.specs.declared.domain.Domain.TheOpen.{Domain-F}
use Rattle.asm_value.specs.declared.domain.Domain.TheViews.{the_lemmas}
use Rattle.asm_value.specs.declared.domain.DomainInfo.{DomainInfo}
use Rattle.asm_value.specs.Enumerable.{size, product}
use Rattle.asm_syntax.specs.declared.token.Span.{Span}
use Rattle.asm_syntax.specs.declared.tree.RangeTree.{RangeTree}
use Rattle.asm_syntax.specs.Marks.{text_of}
use Rattle.asm_typing.specs.declared.types.Type.{«Type» as TermType}
use Rattle.asm_typing.specs.Domains.{type_of}
use Rattle.asm_program.specs.declared.type_refusal.Limited.TheVariants.{Product, Powerset}
use Rattle.asm_program.specs.declared.type_refusal.TypeRefusal.{TypeRefusal}
use Rattle.asm_program.specs.declared.type_refusal.TypeRefusal.TheVariants.{Limit}
use Rattle.asm_program.specs.Checks.{Checks}
use Rattle.asm_program.specs.Signatures.{range_domain}
use Rattle.asm_program.specs.TypedTerms as typed
use Rattle.asm_program.specs.TypedTerms.{Scope, Variables, innumerable, or_not_enumerable, with_variable}
use Rattle.asm_typed.specs.Answers.{settled, Passes}
use Rattle.asm_typed.specs.Sizes.{told, limited, range_refused, ranges_refused, with_ranges, range_domains}
use Rattle.asm_typed.proofs.Refusals.{settled-first, settled-rest, settled-memory, is_first}
use Rattle.asm_typed.proofs.Products.{limited-told, all_sizes-product}

-- ---- domains that are not enumerable

pub innumerable-prod : (domains : List DomainInfo) (span : Span) (parts : List Domain)
    → innumerable domains span (Domain-F.Prod parts) ≡ limited Product span (told (product (map (size domains) parts)))
innumerable-prod domains span parts =
    ap (λ n. or_not_enumerable (λ m. Limit Product m span) span n) (all_sizes-product (map (size domains) parts))
    ∙ sym (limited-told Product span (product (map (size domains) parts)))

pub innumerable-power : (domains : List DomainInfo) (span : Span) (part : Domain)
    → innumerable domains span (Domain-F.Power part) ≡ limited Powerset span (told (size domains part))
innumerable-power domains span part = sym (limited-told Powerset span (size domains part))

pub ruleset innumerable_steps = (innumerable-prod, innumerable-power, the_lemmas)

-- ---- refusals

pub ranges-cons : (scope : Scope) (r : RangeTree) (rs : List RangeTree)
    → ranges_refused scope (r ∷ rs) ≡ range_refused scope r ++ ranges_refused scope rs
unfolding ranges_refused range_refused
ranges-cons scope r rs = refl

pub ranges-none : (scope : Scope) → ranges_refused scope [] ≡ []
unfolding ranges_refused
ranges-none scope = refl

module _ (scope : Scope) (rs : List RangeTree) (i : ℕ) (d : RangeTree) where
  pub ranges-next : i < length rs → range_refused scope (get_or rs i d) ≡ []
      → ranges_refused scope (drop (i + 1) rs) ≡ ranges_refused scope (drop i rs)
  ranges-next h none =
      let rest = ranges_refused scope (drop (i + 1) rs) in
      sym (ap (ranges_refused scope) (drop_more rs i d h)
      ∙ ranges-cons scope (get_or rs i d) (drop (i + 1) rs)
      ∙ ap (λ xs. xs ++ rest) none)

  pub ranges-stop : (why : TypeRefusal) → i < length rs → settled why (range_refused scope (get_or rs i d)) ≡ why
      → settled why (ranges_refused scope (drop i rs)) ≡ why
  ranges-stop why h first =
      ap (λ xs. settled why (ranges_refused scope xs)) (drop_more rs i d h)
      ∙ ap (settled why) (ranges-cons scope (get_or rs i d) (drop (i + 1) rs))
      ∙ settled-first why (range_refused scope (get_or rs i d)) (ranges_refused scope (drop (i + 1) rs)) first

pub ranges-end : (scope : Scope) (rs : List RangeTree) (i : ℕ) → length rs ≤ i → ranges_refused scope (drop i rs) ≡ []
ranges-end scope rs i h = ap (ranges_refused scope) (drop_all i rs h) ∙ ranges-none scope

pub first-range : (scope : Scope) (r : RangeTree) (rs : List RangeTree) (why : TypeRefusal)
    → settled why (range_refused scope r) ≡ why → settled why (ranges_refused scope (r ∷ rs)) ≡ why
first-range scope r rs why h =
    ap (settled why) (ranges-cons scope r rs) ∙ settled-first why (range_refused scope r) (ranges_refused scope rs) h

pub rest-ranges : (scope : Scope) (r : RangeTree) (rs : List RangeTree) → range_refused scope r ≡ []
    → ranges_refused scope (r ∷ rs) ≡ ranges_refused scope rs
rest-ranges scope r rs h = ranges-cons scope r rs ∙ ap (λ xs. xs ++ ranges_refused scope rs) h

pub ruleset all_steps = (settled-memory, ranges-next, ranges-stop, ranges-end)

pub ruleset ranges_steps = (settled-memory, first-range, rest-ranges)

-- ---- variables

pub with-cons : (scope : Scope) (vs : Variables) (r : RangeTree) (rs : List RangeTree)
    → with_ranges scope vs (r ∷ rs) ≡ with_ranges scope (with_variable vs r.variable (type_of (range_domain scope.names r))) rs
unfolding with_ranges
with-cons scope vs r rs = refl

pub with-none : (scope : Scope) (vs : Variables) → with_ranges scope vs [] ≡ vs
unfolding with_ranges
with-none scope vs = refl

pub domains-cons : (scope : Scope) (r : RangeTree) (rs : List RangeTree)
    → range_domains scope (r ∷ rs) ≡ range_domain scope.names r ∷ range_domains scope rs
unfolding range_domains
domains-cons scope r rs = refl

pub domains-none : (scope : Scope) → range_domains scope [] ≡ []
unfolding range_domains
domains-none scope = refl

module _ (scope : Scope) (rs : List RangeTree) (i : ℕ) (d : RangeTree) where
  pub with-drop : (vs : Variables) → i < length rs
      → with_ranges scope vs (drop i rs)
      ≡ with_ranges scope (with_variable vs (get_or rs i d).variable (type_of (range_domain scope.names (get_or rs i d)))) (drop (i + 1) rs)
  with-drop vs h = ap (with_ranges scope vs) (drop_more rs i d h) ∙ with-cons scope vs (get_or rs i d) (drop (i + 1) rs)

  pub domains-drop : (ds : List Domain) → i < length rs
      → ds ++ range_domains scope (drop i rs)
      ≡ (ds ++ range_domain scope.names (get_or rs i d) ∷ []) ++ range_domains scope (drop (i + 1) rs)
  domains-drop ds h =
      let e = range_domain scope.names (get_or rs i d) in
      ap (λ xs. ds ++ range_domains scope xs) (drop_more rs i d h)
      ∙ ap (λ xs. ds ++ xs) (domains-cons scope (get_or rs i d) (drop (i + 1) rs))
      ∙ sym (append_assoc ds (e ∷ []) (range_domains scope (drop (i + 1) rs)))

pub with-end : (scope : Scope) (rs : List RangeTree) (i : ℕ) (vs : Variables) → length rs ≤ i → with_ranges scope vs (drop i rs) ≡ vs
with-end scope rs i vs h = ap (with_ranges scope vs) (drop_all i rs h) ∙ with-none scope vs

pub domains-end : (scope : Scope) (rs : List RangeTree) (i : ℕ) (ds : List Domain) → length rs ≤ i → ds ++ range_domains scope (drop i rs) ≡ ds
domains-end scope rs i ds h =
    ap (λ xs. ds ++ range_domains scope xs) (drop_all i rs h) ∙ ap (λ xs. ds ++ xs) (domains-none scope) ∙ append-nil ds

-- ---- the variables before them stay

pub kept-all : (vs : Variables) → take (length vs) vs ≡ vs
kept-all vs = take-length vs

-- those of before are kept where one more comes into scope
pub kept-pushed : (a b : Variables) (v : List ℕ × TermType) → take (length a) b ≡ a → take (length a) (b ++ v ∷ []) ≡ a
kept-pushed a b v h =
    let short : length a ≤ length b = omega (arith, ap length (sym h), length-take (length a) b) in
    take-append-le (length a) b (v ∷ []) short ∙ h

pub ruleset more_steps = (kept-all, kept-pushed, with-drop, domains-drop, with-end, domains-end)

pub ruleset added_steps = (kept-all, kept-pushed, with-cons, domains-cons)

pub ranges-checked : (result : Result (Unit {0}) TypeRefusal) (scope : Scope) (rs : List RangeTree)
    → Passes result (ranges_refused scope rs) → Checks result (typed.ranges_refused scope rs) (λ u. Unit {0})
unfolding ranges_refused
ranges-checked (Ok u) scope rs h = (h, tt)
ranges-checked (Err why) scope rs h = is_first why (typed.ranges_refused scope rs) h

pub ruleset params_steps = (ranges-none, with-none)

-- ---- all ranges

more : Scope → List RangeTree → Variables
more scope = map (λ r. (text_of r.variable, type_of (range_domain scope.names r)))

with-more : (scope : Scope) (vs : Variables) (rs : List RangeTree) → with_ranges scope vs rs ≡ vs ++ more scope rs
unfolding with_ranges more
with-more scope vs [] = sym (append-nil vs)
with-more scope vs (r ∷ rs) =
    let v : List ℕ × TermType = (text_of r.variable, type_of (range_domain scope.names r)) in
    with-more scope (vs ++ v ∷ []) rs ∙ append_assoc vs (v ∷ []) (more scope rs)

pub take-ranges : (scope : Scope) (vs : Variables) (rs : List RangeTree) → take (length vs) (with_ranges scope vs rs) ≡ vs
take-ranges scope vs rs = ap (take (length vs)) (with-more scope vs rs) ∙ take-append_seam vs (more scope rs)
