-- The first name that is there a second time, and a step of the search for it.
use Rattle.std.proofs.Common.{◌≡◌, ℕ, zero, suc, ◌+◌, ◌<◌, ◌≤◌, Bool, true, false, List, [], ◌∷◌, ◌++◌, length, take, drop, get_or, Option, Some, None, inl, inr, ◌⊎◌, ◌||◌, Contains, slice_index_or, sym, refl, ap, ◌∙◌, subst, arith, append_assoc, append-nil}
use Rattle.std.proofs.lemmas.List.{take_more, drop_more}
use Rattle.std.proofs.lemmas.List.{append_cancel_left}
use Rattle.std.proofs.lemmas.Map.Views.{Contains-from_any}
use Rattle.std.proofs.lemmas.Slice.Eq.{bytes_eq-Decides}
use Rattle.std.specs.Str.{bytes_eq}
use Rattle.asm_grammar.proofs.Fronts.{two_fronts}
use Rattle.asm_formula.specs.Reading.{is_among, repeated_after, first_repeated}
use Rattle.asm_formula.specs.Texts.{AreDistinct, IsFirstRepeated}
use Rattle.asm_formula.proofs.Lists.{by_cond, by_true, by_false}

module _ (names : List (List ℕ)) (at : ℕ) (name : List ℕ) (h : at < length names) (is : name ≡ get_or names at name) where
  left : drop at names ≡ name ∷ drop (at + 1) names
  left = drop_more names at name h ∙ ap (λ (x : List ℕ). x ∷ drop (at + 1) names) (sym is)

  seen_next : take (at + 1) names ≡ take at names ++ name ∷ []
  seen_next = take_more names at name h ∙ ap (λ (x : List ℕ). take at names ++ x ∷ []) (sym is)

  pub repeated_here : is_among (take at names) name ≡ true → repeated_after (take at names) (drop at names) ≡ Some name
  repeated_here e =
      ap (λ (x : List (List ℕ)). repeated_after (take at names) x) left
      ∙ by_true (λ (o : Option (List ℕ)). o ≡ Some name) (is_among (take at names) name) _ _ e refl

  pub repeated_next : is_among (take at names) name ≡ false
      → repeated_after (take at names) (drop at names) ≡ repeated_after (take (at + 1) names) (drop (at + 1) names)
  repeated_next e =
      ap (λ (x : List (List ℕ)). repeated_after (take at names) x) left
      ∙ by_false (λ (o : Option (List ℕ)). o ≡ repeated_after (take (at + 1) names) (drop (at + 1) names)) (is_among (take at names) name) _ _ e
      (ap (λ (x : List (List ℕ)). repeated_after x (drop (at + 1) names)) (sym seen_next))

drop_out : (names : List (List ℕ)) (at : ℕ) → length names ≤ at → drop at names ≡ []
drop_out [] zero h = refl
drop_out [] (suc i) h = refl
drop_out (b ∷ bs) zero h = absurd (omega arith)
drop_out (b ∷ bs) (suc i) h = drop_out bs i (omega arith)

pub repeated_end : (names : List (List ℕ)) (at : ℕ) → length names ≤ at → repeated_after (take at names) (drop at names) ≡ None
repeated_end names at h = ap (λ (x : List (List ℕ)). repeated_after (take at names) x) (drop_out names at h)

-- ---- names among others

abbrev Name : Type 0
Name = List ℕ

or_right : (v w : Bool) → w ≡ true → (v || w) ≡ true
or_right true w e = refl
or_right false w e = e

or_left : (v w : Bool) → v ≡ true → (v || w) ≡ true
or_left true w e = refl
or_left false w e = absurd (cc e)

is_there : (names : List Name) (name : Name) → is_among names name ≡ true → Contains names name
is_there names name e = Contains-from_any (λ x y. (bytes_eq-Decides x y).0) name names e

among_from : (names : List Name) (name : Name) (k : ℕ) → k < length names → slice_index_or names k name ≡ name → is_among names name ≡ true
among_from [] name k h e = absurd (omega arith)
among_from (x ∷ names) name zero h e = or_left (bytes_eq name x) (is_among names name) ((bytes_eq-Decides name x).1 (sym e))
among_from (x ∷ names) name (suc k) h e = or_right (bytes_eq name x) (is_among names name) (among_from names name k (omega arith) e)

not_there : (names : List Name) (name : Name) → is_among names name ≡ false → Contains names name → ⊥
not_there names name e c = let there = among_from names name c.0 c.1 c.2 in absurd (cc (e, there))

-- ---- what the search finds

no_split : (b a : List Name) (n : Name) → [] ≡ b ++ n ∷ a → ⊥
no_split [] a n e = absurd (cc e)
no_split (x ∷ b) a n e = absurd (cc e)

-- none of these names is among those before it or those seen
abbrev AllNew : List Name → List Name → Type 0
AllNew seen names = (b a : List Name) (n : Name) → names ≡ b ++ n ∷ a → is_among (seen ++ b) n ≡ false

abbrev Says : List Name → List Name → Option Name → Type 0
Says seen names None = AllNew seen names
Says seen names (Some n) = (b a : List Name) × (names ≡ b ++ n ∷ a) × (is_among (seen ++ b) n ≡ true) × AllNew seen b

one_new : (seen : List Name) (m : Name) (more : List Name) → is_among seen m ≡ false → AllNew (seen ++ m ∷ []) more → AllNew seen (m ∷ more)
one_new seen m more h s [] a n e =
    let same : m ≡ n = cc e in
    subst (λ (x : List Name). is_among x n ≡ false) (sym (append-nil seen)) (subst (λ (x : Name). is_among seen x ≡ false) same h)
one_new seen m more h s (x ∷ b) a n e =
    let same : m ≡ x = cc e in
    let rest : more ≡ b ++ n ∷ a = cc e in
    subst (λ (y : Name). is_among (seen ++ y ∷ b) n ≡ false) same
    (subst (λ (z : List Name). is_among z n ≡ false) (append_assoc seen (m ∷ []) b) (s b a n rest))

says_on : (seen : List Name) (m : Name) (more : List Name) → is_among seen m ≡ false → (o : Option Name) → Says (seen ++ m ∷ []) more o → Says seen (m ∷ more) o
says_on seen m more h None s = one_new seen m more h s
says_on seen m more h (Some n) s = (
  m ∷ s.0,
  s.1,
  ap (λ (z : List Name). m ∷ z) s.2,
  subst (λ (z : List Name). is_among z n ≡ true) (append_assoc seen (m ∷ []) s.0) s.3,
  one_new seen m s.0 h s.4,
)

says : (seen names : List Name) → Says seen names (repeated_after seen names)
says seen [] = λ b a n e. absurd (no_split b a n e)
says seen (m ∷ more) =
    by_cond (Says seen (m ∷ more)) (is_among seen m) _ _
    (λ h. ([], more, refl, subst (λ (z : List Name). is_among z m ≡ true) (sym (append-nil seen)) h, λ b a n e. absurd (no_split b a n e)))
    (λ h. says_on seen m more h (repeated_after (seen ++ m ∷ []) more) (says (seen ++ m ∷ []) more))

distinct_of : (names : List Name) → AllNew [] names → AreDistinct names
distinct_of names s = λ b a n e c. not_there b n (s b a n e) c

pub none_repeated : (names : List Name) → first_repeated names ≡ None → AreDistinct names
none_repeated names e = distinct_of names (subst (λ (o : Option Name). Says [] names o) e (says [] names))

pub one_repeated : (names : List Name) (name : Name) → first_repeated names ≡ Some name → IsFirstRepeated names name
one_repeated names name e =
    let s = subst (λ (o : Option Name). Says [] names o) e (says [] names) in
    record { before = s.0; after = s.1; split = s.2; again = is_there s.0 name s.3; first = distinct_of s.0 s.4 }

-- ---- and no other

pub distinct_none : (names : List Name) → AreDistinct names → first_repeated names ≡ None
distinct_none names d = go (first_repeated names) refl
  where
    go : (o : Option Name) → first_repeated names ≡ o → first_repeated names ≡ None
    go None e = e
    go (Some name) e = let r = one_repeated names name e in absurd (d r.before r.after name r.split r.again)

-- of two names that are there a second time, with none before them, neither is before the other
same_name : (names : List Name) (n m : Name) → IsFirstRepeated names n → IsFirstRepeated names m → m ≡ n
same_name names n m r s = go (two_fronts r.before (n ∷ r.after) s.before (m ∷ s.after) both)
  where
    both : r.before ++ n ∷ r.after ≡ s.before ++ m ∷ s.after
    both = sym r.split ∙ s.split

    behind : (c : List Name) → s.before ≡ r.before ++ c → n ∷ r.after ≡ c ++ m ∷ s.after → m ≡ n
    behind [] e f = let same : n ≡ m = cc f in sym same
    behind (x ∷ c) e f =
        let same : n ≡ x = cc f in
        absurd (s.first r.before c n (e ∙ ap (λ (y : Name). r.before ++ y ∷ c) (sym same)) r.again)

    before : (c : List Name) → r.before ≡ s.before ++ c → m ∷ s.after ≡ c ++ n ∷ r.after → m ≡ n
    before [] e f = cc f
    before (x ∷ c) e f =
        let same : m ≡ x = cc f in
        absurd (r.first s.before c m (e ∙ ap (λ (y : Name). s.before ++ y ∷ c) (sym same)) s.again)

    go : ((c : List Name) × (s.before ≡ r.before ++ c)) ⊎ ((c : List Name) × (r.before ≡ s.before ++ c) × (m ∷ s.after ≡ c ++ n ∷ r.after)) → m ≡ n
    go (inl h) =
        behind h.0 h.1
        (append_cancel_left r.before (n ∷ r.after) (h.0 ++ m ∷ s.after)
        (both ∙ ap (λ (z : List Name). z ++ m ∷ s.after) h.1 ∙ append_assoc r.before h.0 (m ∷ s.after)))
    go (inr h) = before h.0 h.1 h.2

pub repeated_one : (names : List Name) (name : Name) → IsFirstRepeated names name → first_repeated names ≡ Some name
repeated_one names name r = go (first_repeated names) refl
  where
    go : (o : Option Name) → first_repeated names ≡ o → first_repeated names ≡ Some name
    go None e = absurd (none_repeated names e r.before r.after name r.split r.again)
    go (Some other) e = e ∙ ap (λ (x : Name). Some x) (same_name names name other r (one_repeated names other e))
