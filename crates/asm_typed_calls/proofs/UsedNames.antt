-- Where no name is refused, none is declared twice.
use Rattle.std.proofs.Common.{◌≡◌, ℕ, ◌||◌, Bool, true, false, if◌then◌else◌, List, [], ◌∷◌}
use Rattle.std.proofs.Common.{◌++◌, refl, sym, ◌∙◌}
use Rattle.std.specs.List.{list_any}
use Rattle.std.specs.Str.{bytes_eq}
use Rattle.std.proofs.lemmas.Bool.{true≢false}
use Rattle.std.proofs.lemmas.Slice.Eq.{bytes_eq-Decides}
use Rattle.asm_syntax.specs.declared.token.Span.{Span}
use Rattle.asm_program.specs.declared.type_refusal.Limited.{Limited}
use Rattle.asm_program.specs.declared.type_refusal.Limited.TheVariants as limited
use Rattle.asm_program.specs.declared.type_refusal.TypeRefusal.TheVariants.{Duplicate}
use Rattle.asm_program.specs.Items.{Item, Items, Counts, Declares, DeclaresInvariant, Exceeds}
use Rattle.asm_program.specs.Items.{Repeats, NamesDomain, NeedsIntegers, GivesInterval}
use Rattle.asm_program.specs.Items.{GivesIntegers, NamesFunction, NamesMacro}
use Rattle.asm_program.specs.NamesPass.{Seen, with_one, used, refused_at, seen_after}
use Rattle.asm_program.specs.NamesPass.{names_refused_from}
use Rattle.asm_program.proofs.Refusals.{both_nil, nil_both}

-- the name is none of these
abbrev pub IsNew : List ℕ → List (List ℕ) → Type 0
IsNew q names = list_any (bytes_eq q) names ≡ false

pub new_unused : (name : List ℕ) (span : Span) (names : List (List ℕ))
    → used name span names ≡ [] → IsNew name names
new_unused name span names e = by_test (list_any (bytes_eq name) names) refl e
  where
    by_test : (b : Bool) → list_any (bytes_eq name) names ≡ b
        → (if b then Duplicate name span ∷ [] else []) ≡ [] → IsNew name names
    by_test true same h = absurd (cc)
    by_test false same h = same

neither : (a b : Bool) → (a || b) ≡ false → (a ≡ false) × (b ≡ false)
neither true b h = absurd (true≢false h)
neither false b h = (refl, h)

other_way : (a b : List ℕ) → bytes_eq a b ≡ false → bytes_eq b a ≡ false
other_way a b h = by_test (bytes_eq b a) refl
  where
    by_test : (t : Bool) → bytes_eq b a ≡ t → t ≡ false
    by_test true same =
        absurd (true≢false (sym ((bytes_eq-Decides a b).1 (sym ((bytes_eq-Decides b a).0 same))) ∙ h))
    by_test false same = refl

-- a name that is new behind another one differs from it
pub new_first : (q name : List ℕ) (names : List (List ℕ)) → IsNew q (name ∷ names)
    → bytes_eq name q ≡ false
new_first q name names h =
    other_way q name (neither (bytes_eq q name) (list_any (bytes_eq q) names) h).0

pub new_rest : (q name : List ℕ) (names : List (List ℕ)) → IsNew q (name ∷ names) → IsNew q names
new_rest q name names h = (neither (bytes_eq q name) (list_any (bytes_eq q) names) h).1

-- ---- what is seen after some items

abbrev pub after : Seen → Items → Seen
after seen [] = seen
after seen (x ∷ xs) = after (seen_after seen x) xs

pub unrefused_before : (xs ys : Items) (seen : Seen) → names_refused_from seen (xs ++ ys) ≡ []
    → names_refused_from seen xs ≡ []
unrefused_before [] ys seen e = refl
unrefused_before (x ∷ xs) ys seen e =
    let both = both_nil (refused_at seen x) (names_refused_from (seen_after seen x) (xs ++ ys)) e in
    nil_both (refused_at seen x) (names_refused_from (seen_after seen x) xs) both.0
    (unrefused_before xs ys (seen_after seen x) both.1)

pub unrefused_after : (xs ys : Items) (seen : Seen) → names_refused_from seen (xs ++ ys) ≡ []
    → names_refused_from (after seen xs) ys ≡ []
unrefused_after [] ys seen e = e
unrefused_after (x ∷ xs) ys seen e =
    unrefused_after xs ys (seen_after seen x)
    (both_nil (refused_at seen x) (names_refused_from (seen_after seen x) (xs ++ ys)) e).1

new_counted : (kind : Limited) (q : List ℕ) (seen : Seen) → IsNew q (with_one kind seen).names
    → IsNew q seen.names
new_counted limited.Domains q seen h = h
new_counted limited.Functions q seen h = h
new_counted limited.Macros q seen h = h
new_counted limited.Invariants q seen h = h
new_counted limited.Parts q seen h = h
new_counted limited.Members q seen h = h
new_counted limited.Chars q seen h = h
new_counted limited.Product q seen h = h
new_counted limited.Powerset q seen h = h
new_counted limited.Depth q seen h = h

new_one : (x : Item) (q : List ℕ) (seen : Seen) → IsNew q (seen_after seen x).names
    → IsNew q seen.names
new_one (Counts kind span) q seen h = new_counted kind q seen h
new_one (Declares name span) q seen h = new_rest q name seen.names h
new_one (DeclaresInvariant name span) q seen h = h
new_one (Exceeds kind n span) q seen h = h
new_one (Repeats t) q seen h = h
new_one (NamesDomain t) q seen h = h
new_one (NeedsIntegers t span) q seen h = h
new_one (GivesInterval t low high) q seen h = h
new_one (GivesIntegers t numbers) q seen h = h
new_one (NamesFunction t) q seen h = h
new_one (NamesMacro t) q seen h = h

-- a name that is new after the items was new before them
pub new_before : (xs : Items) (q : List ℕ) (seen : Seen) → IsNew q (after seen xs).names
    → IsNew q seen.names
new_before [] q seen h = h
new_before (x ∷ xs) q seen h = new_one x q seen (new_before xs q (seen_after seen x) h)
