-- Lists that are built in loops.
use Rattle.std.proofs.Common.{◌≡◌, ℕ, ◌+◌, ◌<◌, ◌≤◌, Bool, true, false, ◌||◌, List, [], ◌∷◌, ◌++◌, length, map, drop, get_or, Option, Some, None, refl, sym, ap, ◌∙◌, if◌then◌else◌, bytes_eq}
use Rattle.std.specs.List.{filter_map, list_any}
use Rattle.std.proofs.lemmas.List.{append-nil, append_assoc, drop_all, drop_more}
use Rattle.std.proofs.lemmas.List.Elements.{filter_map-append}
use Rattle.asm_value.specs.declared.domain.DomainInfo.{DomainInfo}
use Rattle.asm_value.specs.declared.domain.DomainKind.{DomainKind}
use Rattle.asm_syntax.specs.declared.token.Token.{Token}
use Rattle.asm_syntax.specs.declared.tree.DeclTree.{DeclTree}
use Rattle.asm_syntax.specs.declared.tree.DefTree.{DefTree}
use Rattle.asm_syntax.specs.declared.tree.DefTree.TheVariants as defs
use Rattle.asm_syntax.specs.Marks.{text_of}
use Rattle.asm_program.specs.Items.{Item, Items, Counts, Declares, DeclaresInvariant, Exceeds, Repeats, NamesDomain, NeedsIntegers, GivesInterval, GivesIntegers, NamesFunction, NamesMacro}
use Rattle.asm_program.specs.Signatures.{has_definition}
use Rattle.asm_program.specs.DomainsPass.{given}
use Rattle.asm_items.specs.Views.{seen_with}
use Rattle.asm_items.proofs.Sets.{alike-seen}
use Rattle.asm_names.specs.Alike.{Alike}
use Rattle.asm_names.specs.Definitions.{AreDefined, defined_with}
use Rattle.asm_names.specs.Numbers.{domain_after}
use Rattle.asm_names.proofs.NameSteps.{few-infos, domains-next}
use Rattle.asm_names.specs.Passes.{constant_if, constants_in, kind_among, info_with, infos_among, given_with}

pub filtered-drop : {A B : Type 0} (w : List B) (f : A → Option B) (xs : List A) (i : ℕ) (d : A) → i < length xs
    → w ++ filter_map f (drop i xs) ≡ (w ++ filter_map f (get_or xs i d ∷ [])) ++ filter_map f (drop (i + 1) xs)
filtered-drop w f xs i d h =
    ap (λ ys. w ++ filter_map f ys) (drop_more xs i d h)
    ∙ ap (λ ys. w ++ ys) (filter_map-append f (get_or xs i d ∷ []) (drop (i + 1) xs))
    ∙ sym (append_assoc w (filter_map f (get_or xs i d ∷ [])) (filter_map f (drop (i + 1) xs)))

pub filtered-end : {A B : Type 0} (w : List B) (f : A → Option B) (xs : List A) (i : ℕ) → length xs ≤ i → w ++ filter_map f (drop i xs) ≡ w
filtered-end w f xs i h = ap (λ ys. w ++ filter_map f ys) (drop_all i xs h) ∙ append-nil w

pub ruleset filter_steps = (filtered-drop, filtered-end)

pub constants-drop : (w : List (List ℕ)) (n : ℕ) (cs : List (List ℕ × ℕ)) (i : ℕ) (d : List ℕ × ℕ) → i < length cs
    → w ++ constants_in (drop i cs) n ≡ (w ++ constant_if (get_or cs i d) n) ++ constants_in (drop (i + 1) cs) n
constants-drop w n cs i d h =
    ap (λ ys. w ++ constants_in ys n) (drop_more cs i d h) ∙ sym (append_assoc w (constant_if (get_or cs i d) n) (constants_in (drop (i + 1) cs) n))

pub constants-end : (w : List (List ℕ)) (n : ℕ) (cs : List (List ℕ × ℕ)) (i : ℕ) → length cs ≤ i → w ++ constants_in (drop i cs) n ≡ w
constants-end w n cs i h = ap (λ ys. w ++ constants_in ys n) (drop_all i cs h) ∙ append-nil w

pub ruleset constants_steps = (constants-drop, constants-end)

-- ---- the declared domains

info_with-append : (w : List DomainInfo) (decl : DeclTree) (k : Option DomainKind) (rest : List DomainInfo)
    → w ++ info_with decl k rest ≡ (w ++ info_with decl k []) ++ rest
info_with-append w decl None rest = ap (λ v. v ++ rest) (sym (append-nil w))
info_with-append w decl (Some k) rest = sym (append_assoc w (info_with decl (Some k) []) rest)

pub infos-drop : (w : List DomainInfo) (cs : List (List ℕ × ℕ)) (ds : List DefTree) (n : ℕ) (xs : List DeclTree) (i : ℕ) (d : DeclTree) → i < length xs
    → w ++ infos_among cs ds n (drop i xs)
    ≡ (w ++ info_with (get_or xs i d) (kind_among cs ds n (get_or xs i d)) []) ++ infos_among cs ds (domain_after n (get_or xs i d)) (drop (i + 1) xs)
unfolding infos_among
infos-drop w cs ds n xs i d h =
    let x = get_or xs i d in
    ap (λ ys. w ++ infos_among cs ds n ys) (drop_more xs i d h)
    ∙ info_with-append w x (kind_among cs ds n x) (infos_among cs ds (domain_after n x) (drop (i + 1) xs))

pub infos-end : (w : List DomainInfo) (cs : List (List ℕ × ℕ)) (ds : List DefTree) (n : ℕ) (xs : List DeclTree) (i : ℕ) → length xs ≤ i
    → w ++ infos_among cs ds n (drop i xs) ≡ w
unfolding infos_among
infos-end w cs ds n xs i h = ap (λ ys. w ++ infos_among cs ds n ys) (drop_all i xs h) ∙ append-nil w

pub ruleset infos_steps = (infos-drop, infos-end, few-infos, domains-next)

-- ---- sets of names

-- the functions of these names and of the definitions that are left
abbrev pub DefinedFrom : List (List ℕ) → List DefTree → List DefTree → Type 0
DefinedFrom names rest all = (q : List ℕ) → (if list_any (bytes_eq q) names then true else has_definition rest q) ≡ has_definition all q

or_later : (x y z : Bool) → (if (x || y) then true else z) ≡ (if y then true else (if x then true else z))
or_later true true z = refl
or_later true false z = refl
or_later false true z = refl
or_later false false z = refl

pub defined-next : (names : List (List ℕ)) (d : DefTree) (rest : List DefTree) (q : List ℕ)
    → (if list_any (bytes_eq q) (defined_with names d) then true else has_definition rest q)
    ≡ (if list_any (bytes_eq q) names then true else has_definition (d ∷ rest) q)
defined-next names (defs.Interval name from to span) rest q = refl
defined-next names (defs.Integers name first others span) rest q = refl
defined-next names (defs.Function name params term span) rest q =
    ap (λ b. if b then true else has_definition rest q) (sym (alike-seen (text_of name) names q))
    ∙ or_later (bytes_eq q (text_of name)) (list_any (bytes_eq q) names) (has_definition rest q)
defined-next names (defs.Rule name params body span) rest q = refl
defined-next names (defs.Invariant name first others term span) rest q = refl

pub defined-step : (names new : List (List ℕ)) (xs : List DefTree) (i : ℕ) (d : DefTree) → i < length xs → DefinedFrom names (drop i xs) xs
    → new ≡ defined_with names (get_or xs i d) → DefinedFrom new (drop (i + 1) xs) xs
defined-step names new xs i d h e n q =
    ap (λ ns. if list_any (bytes_eq q) ns then true else has_definition (drop (i + 1) xs) q) n
    ∙ defined-next names (get_or xs i d) (drop (i + 1) xs) q
    ∙ ap (λ ys. if list_any (bytes_eq q) names then true else has_definition ys q) (sym (drop_more xs i d h))
    ∙ e q

if_false : (b : Bool) → (if b then true else false) ≡ b
if_false true = refl
if_false false = refl

pub defined-end : (names : List (List ℕ)) (xs : List DefTree) (i : ℕ) → length xs ≤ i → DefinedFrom names (drop i xs) xs → AreDefined names xs
defined-end names xs i h e q =
    sym (if_false (list_any (bytes_eq q) names))
    ∙ ap (λ ys. if list_any (bytes_eq q) names then true else has_definition ys q) (sym (drop_all i xs h))
    ∙ e q

-- the subsets of these names and of the items that are left
abbrev pub GivenFrom : List (List ℕ) → Items → Items → Type 0
GivenFrom names rest all = (q : List ℕ) → (list_any (bytes_eq q) names || list_any (bytes_eq q) (given rest)) ≡ list_any (bytes_eq q) (given all)

or_moved : (x y z : Bool) → ((x || y) || z) ≡ (y || (x || z))
or_moved true true z = refl
or_moved true false z = refl
or_moved false true z = refl
or_moved false false z = refl

given-one : (names : List (List ℕ)) (t : Token) (rest : Items) (q : List ℕ)
    → (list_any (bytes_eq q) (seen_with (text_of t) names) || list_any (bytes_eq q) (given rest))
    ≡ (list_any (bytes_eq q) names || (bytes_eq q (text_of t) || list_any (bytes_eq q) (given rest)))
given-one names t rest q =
    ap (λ b. b || list_any (bytes_eq q) (given rest)) (sym (alike-seen (text_of t) names q))
    ∙ or_moved (bytes_eq q (text_of t)) (list_any (bytes_eq q) names) (list_any (bytes_eq q) (given rest))

pub given-next : (names : List (List ℕ)) (x : Item) (rest : Items) (q : List ℕ)
    → (list_any (bytes_eq q) (given_with names x) || list_any (bytes_eq q) (given rest)) ≡ (list_any (bytes_eq q) names || list_any (bytes_eq q) (given (x ∷ rest)))
given-next names (Counts kind span) rest q = refl
given-next names (Declares name span) rest q = refl
given-next names (DeclaresInvariant name span) rest q = refl
given-next names (Exceeds kind n span) rest q = refl
given-next names (Repeats t) rest q = refl
given-next names (NamesDomain t) rest q = refl
given-next names (NeedsIntegers t span) rest q = refl
given-next names (GivesInterval t from to) rest q = given-one names t rest q
given-next names (GivesIntegers t is) rest q = given-one names t rest q
given-next names (NamesFunction t) rest q = refl
given-next names (NamesMacro t) rest q = refl

module _ {X : Type 0} (f : X → Item) where
  pub given-step : (names new : List (List ℕ)) (xs : List X) (i : ℕ) (d : X) → i < length xs → GivenFrom names (map f (drop i xs)) (map f xs)
      → new ≡ given_with names (f (get_or xs i d)) → GivenFrom new (map f (drop (i + 1) xs)) (map f xs)
  given-step names new xs i d h e n q =
      let rest = map f (drop (i + 1) xs) in
      ap (λ ns. list_any (bytes_eq q) ns || list_any (bytes_eq q) (given rest)) n
      ∙ given-next names (f (get_or xs i d)) rest q
      ∙ ap (λ ys. list_any (bytes_eq q) names || list_any (bytes_eq q) (given (map f ys))) (sym (drop_more xs i d h))
      ∙ e q

  or_none : (b : Bool) → (b || false) ≡ b
  or_none true = refl
  or_none false = refl

  pub given-end : (names : List (List ℕ)) (xs : List X) (i : ℕ) → length xs ≤ i → GivenFrom names (map f (drop i xs)) (map f xs) → Alike names (given (map f xs))
  given-end names xs i h e q =
      sym (or_none (list_any (bytes_eq q) names))
      ∙ ap (λ ys. list_any (bytes_eq q) names || list_any (bytes_eq q) (given (map f ys))) (sym (drop_all i xs h))
      ∙ e q
