-- Of a text that the first pass takes, no two declarations have one name.
use Rattle.std.proofs.Common.{◌≡◌, ℕ, Bool, true, false, ◌||◌, List, [], ◌∷◌, ◌++◌, map, refl, sym, ap, ◌∙◌, if◌then◌else◌, bytes_eq}
use Rattle.std.specs.List.{list_any}
use Rattle.std.proofs.lemmas.List.{append_assoc}
use Rattle.std.proofs.lemmas.Slice.Eq.{bytes_eq-Decides}
use Rattle.asm_syntax.specs.declared.token.Span.{Span}
use Rattle.asm_syntax.specs.declared.token.Token.{Token}
use Rattle.asm_syntax.specs.declared.tree.DeclTree.{DeclTree}
use Rattle.asm_syntax.specs.declared.tree.DeclTree.TheVariants as decls
use Rattle.asm_syntax.specs.declared.tree.ModelTree.{ModelTree}
use Rattle.asm_syntax.specs.Marks.{text_of}
use Rattle.asm_program.specs.declared.type_refusal.Limited.{Limited}
use Rattle.asm_program.specs.declared.type_refusal.Limited.TheVariants as limited
use Rattle.asm_program.specs.declared.type_refusal.TypeRefusal.{TypeRefusal}
use Rattle.asm_program.specs.declared.type_refusal.TypeRefusal.TheVariants.{Duplicate}
use Rattle.asm_program.specs.Items.{Item, Items, Counts, Declares, DeclaresInvariant, Exceeds, Repeats, NamesDomain, NeedsIntegers, GivesInterval, GivesIntegers, NamesFunction, NamesMacro, declares, literal_items, decl_items, defs_items, next_items, domain_items, rule_items, start_items, starts_of, joined, model_items}
use Rattle.asm_program.specs.NamesPass.{Seen, nothing_seen, with_one, used, counted, number_of, refused_at, seen_after, names_refused_from, names_refused}
use Rattle.asm_program.specs.TypedModels.{declared_name}

-- ---- items one after the other

abbrev seen_all : Seen → Items → Seen
seen_all s [] = s
seen_all s (x ∷ xs) = seen_all (seen_after s x) xs

pub first_none : (xs ys : List TypeRefusal) → xs ++ ys ≡ [] → xs ≡ []
first_none [] ys h = refl
first_none (x ∷ xs) ys h = absurd (cc h)

pub last_none : (xs ys : List TypeRefusal) → xs ++ ys ≡ [] → ys ≡ []
last_none [] ys h = h
last_none (x ∷ xs) ys h = absurd (cc h)

refused-append : (s : Seen) (xs ys : Items) → names_refused_from s (xs ++ ys) ≡ names_refused_from s xs ++ names_refused_from (seen_all s xs) ys
refused-append s [] ys = refl
refused-append s (x ∷ xs) ys =
    ap (λ zs. refused_at s x ++ zs) (refused-append (seen_after s x) xs ys)
    ∙ sym (append_assoc (refused_at s x) (names_refused_from (seen_after s x) xs) (names_refused_from (seen_all (seen_after s x) xs) ys))

first_taken : (s : Seen) (xs ys : Items) → names_refused_from s (xs ++ ys) ≡ [] → names_refused_from s xs ≡ []
first_taken s xs ys h = first_none (names_refused_from s xs) (names_refused_from (seen_all s xs) ys) (sym (refused-append s xs ys) ∙ h)

last_taken : (s : Seen) (xs ys : Items) → names_refused_from s (xs ++ ys) ≡ [] → names_refused_from (seen_all s xs) ys ≡ []
last_taken s xs ys h = last_none (names_refused_from s xs) (names_refused_from (seen_all s xs) ys) (sym (refused-append s xs ys) ∙ h)

-- ---- a name that was declared stays so

abbrev Among : List ℕ → Seen → Type 0
Among n s = list_any (bytes_eq n) s.names ≡ true

counted-keeps : (k : Limited) (s : Seen) → s.names ≡ (with_one k s).names
counted-keeps limited.Domains s = refl
counted-keeps limited.Functions s = refl
counted-keeps limited.Macros s = refl
counted-keeps limited.Invariants s = refl
counted-keeps limited.Parts s = refl
counted-keeps limited.Members s = refl
counted-keeps limited.Chars s = refl
counted-keeps limited.Product s = refl
counted-keeps limited.Powerset s = refl
counted-keeps limited.Depth s = refl

or_right : (a b : Bool) → b ≡ true → (a || b) ≡ true
or_right true b h = refl
or_right false b h = h

or_left : (a b : Bool) → a ≡ true → (a || b) ≡ true
or_left true b h = refl
or_left false b h = absurd (cc h)

after-keeps : (n : List ℕ) (s : Seen) (x : Item) → Among n s → Among n (seen_after s x)
after-keeps n s (Counts kind span) h = ap (list_any (bytes_eq n)) (sym (counted-keeps kind s)) ∙ h
after-keeps n s (Declares name span) h = or_right (bytes_eq n name) (list_any (bytes_eq n) s.names) h
after-keeps n s (DeclaresInvariant name span) h = h
after-keeps n s (Exceeds kind k span) h = h
after-keeps n s (Repeats t) h = h
after-keeps n s (NamesDomain t) h = h
after-keeps n s (NeedsIntegers t span) h = h
after-keeps n s (GivesInterval t from to) h = h
after-keeps n s (GivesIntegers t is) h = h
after-keeps n s (NamesFunction t) h = h
after-keeps n s (NamesMacro t) h = h

all-keep : (n : List ℕ) (s : Seen) (xs : Items) → Among n s → Among n (seen_all s xs)
all-keep n s [] h = h
all-keep n s (x ∷ xs) h = all-keep n (seen_after s x) xs (after-keeps n s x h)

-- ---- a name that is declared was not before

not-used : (name : List ℕ) (span : Span) (names : List (List ℕ)) → used name span names ≡ [] → list_any (bytes_eq name) names ≡ false
not-used name span names h = by (list_any (bytes_eq name) names) refl
  where
    by : (b : Bool) → list_any (bytes_eq name) names ≡ b → b ≡ false
    by true e = absurd (cc (ap (λ (c : Bool). if c then Duplicate name span ∷ [] else []) (sym e) ∙ h))
    by false e = refl

other-name : (n : List ℕ) (s : Seen) (name : List ℕ) (span : Span) → Among n s → used name span s.names ≡ [] → bytes_eq n name ≡ false
other-name n s name span a h = by (bytes_eq n name) refl
  where
    by : (b : Bool) → bytes_eq n name ≡ b → b ≡ false
    by true e =
        let same : n ≡ name = (bytes_eq-Decides n name).0 e in
        let there : list_any (bytes_eq name) s.names ≡ true = ap (λ q. list_any (bytes_eq q) s.names) (sym same) ∙ a in
        absurd (cc (sym there ∙ not-used name span s.names h))
    by false e = refl

abbrev one_kind : Limited → Span → Seen → List TypeRefusal
one_kind kind span s = counted kind (number_of kind s) span

-- what is counted, and then declared
declared-other : (n : List ℕ) (s : Seen) (kind : Limited) (span : Span) (t : Token) (xs : Items) → Among n s
    → names_refused_from s (Counts kind span ∷ declares t ∷ xs) ≡ [] → bytes_eq n (text_of t) ≡ false
declared-other n s kind span t xs a h =
    let u = with_one kind s in
    let more = last_none (one_kind kind span s) (names_refused_from u (declares t ∷ xs)) h in
    other-name n u (text_of t) t.span (after-keeps n s (Counts kind span) a)
    (first_none (used (text_of t) t.span u.names) (names_refused_from (seen_after u (declares t)) xs) more)

subset-other : (n : List ℕ) (s : Seen) (span : Span) (t : Token) (xs : Items) → Among n s
    → names_refused_from s (Counts limited.Domains span ∷ NeedsIntegers t span ∷ declares t ∷ xs) ≡ [] → bytes_eq n (text_of t) ≡ false
subset-other n s span t xs a h =
    let u = with_one limited.Domains s in
    let more : names_refused_from u (declares t ∷ xs) ≡ [] = last_none (one_kind limited.Domains span s) (names_refused_from u (declares t ∷ xs)) h in
    other-name n u (text_of t) t.span (after-keeps n s (Counts limited.Domains span) a)
    (first_none (used (text_of t) t.span u.names) (names_refused_from (seen_after u (declares t)) xs) more)

decl-other : (n : List ℕ) (s : Seen) (d : DeclTree) → Among n s → names_refused_from s (decl_items d) ≡ [] → bytes_eq n (declared_name d) ≡ false
decl-other n s (decls.Enum name first others span) a h = declared-other n s limited.Domains span name (literal_items 1 (first ∷ others)) a h
decl-other n s (decls.Abstract name span) a h = declared-other n s limited.Domains span name [] a h
decl-other n s (decls.Subset name base span) a h = subset-other n s span name [] a h
decl-other n s (decls.Defined word name first next span) a h = declared-other n s limited.Functions span name (domain_items first ++ next_items next) a h
decl-other n s (decls.Dynamic word name first next span) a h = declared-other n s limited.Functions span name (domain_items first ++ next_items next) a h

-- ---- the names of declarations

same-bytes : (n : List ℕ) → bytes_eq n n ≡ true
same-bytes n = (bytes_eq-Decides n n).1 refl

among-first : (s : Seen) (t : Token) → Among (text_of t) (seen_after s (declares t))
among-first s t = or_left (bytes_eq (text_of t) (text_of t)) (list_any (bytes_eq (text_of t)) s.names) (same-bytes (text_of t))

decl-among : (s : Seen) (d : DeclTree) → Among (declared_name d) (seen_all s (decl_items d))
decl-among s (decls.Enum name first others span) =
    let u = with_one limited.Domains s in
    all-keep (text_of name) (seen_after u (declares name)) (literal_items 1 (first ∷ others)) (among-first u name)
decl-among s (decls.Abstract name span) = among-first (with_one limited.Domains s) name
decl-among s (decls.Subset name base span) = among-first (with_one limited.Domains s) name
decl-among s (decls.Defined word name first next span) =
    let u = with_one limited.Functions s in
    all-keep (text_of name) (seen_after u (declares name)) (domain_items first ++ next_items next) (among-first u name)
decl-among s (decls.Dynamic word name first next span) =
    let u = with_one limited.Functions s in
    all-keep (text_of name) (seen_after u (declares name)) (domain_items first ++ next_items next) (among-first u name)

-- none of the declarations has this name
abbrev pub Apart : List ℕ → List DeclTree → Type 0
Apart n [] = Unit {0}
Apart n (d ∷ ds) = (bytes_eq n (declared_name d) ≡ false) × Apart n ds

-- no two of the declarations have one name
abbrev pub Distinct : List DeclTree → Type 0
Distinct [] = Unit {0}
Distinct (d ∷ ds) = Apart (declared_name d) ds × Distinct ds

abbrev items_of : List DeclTree → Items
items_of ds = joined (map decl_items ds)

apart : (n : List ℕ) (s : Seen) (ds : List DeclTree) → Among n s → names_refused_from s (items_of ds) ≡ [] → Apart n ds
apart n s [] a h = tt
apart n s (d ∷ ds) a h = (
  decl-other n s d a (first_taken s (decl_items d) (items_of ds) h),
  apart n (seen_all s (decl_items d)) ds (all-keep n s (decl_items d) a) (last_taken s (decl_items d) (items_of ds) h),
)

distinct : (s : Seen) (ds : List DeclTree) → names_refused_from s (items_of ds) ≡ [] → Distinct ds
distinct s [] h = tt
distinct s (d ∷ ds) h =
    let rest = last_taken s (decl_items d) (items_of ds) h in
    (apart (declared_name d) (seen_all s (decl_items d)) ds (decl-among s d) rest, distinct (seen_all s (decl_items d)) ds rest)

pub distinct-model : (tree : ModelTree) → names_refused (model_items tree) ≡ [] → Distinct tree.decls
distinct-model tree e =
    let ds = items_of tree.decls in
    let es = defs_items 1 tree.defs in
    let main = Counts limited.Macros tree.main ∷ declares tree.rule_name ∷ rule_items tree.rule in
    distinct nothing_seen tree.decls
    (first_taken nothing_seen ds es
    (first_taken nothing_seen (ds ++ es) main
    (first_taken nothing_seen (ds ++ es ++ main) (start_items (starts_of tree.init)) e)))
