-- The size of an enumerable domain and the number of its members: what holds of both at the
-- declared domains
-- holds of products and of powersets.
use Rattle.std.proofs.Common.{◌≡◌, ◌≤◌, ℕ, suc, ◌+◌, ◌*◌, ◌^◌, min, nat_le, Bool, true, false}
use Rattle.std.proofs.Common.{cond, inl, inr, Option, Some, None, List, [], ◌∷◌, map}
use Rattle.std.proofs.Common.{length, unwrap_or, refl, sym, ap, subst, ◌∙◌, arith}
use Rattle.std.proofs.Math.Nat.{suc-mul, pow-succ', min-le_left, min-eq_left, pow-le-pow_right}
use Rattle.std.proofs.lemmas.Nat.{mul-le}
use Rattle.std.proofs.lemmas.List.{length-append, length-map}
use Rattle.std.proofs.lemmas.List.FromFn.{length-map-range_with_len}
use Rattle.std.proofs.lemmas.Bool.Decides.{Decides-eqb, leb_tells}
use Rattle.std.proofs.lemmas.Bool.{true≢false}
use Rattle.std.specs.List.{list_all}
use Rattle.asm_value.specs.declared.value.Value.{Value}
use Rattle.asm_value.specs.declared.value.Value.TheVariants.{Int, Member, Tuple, Set}
use Rattle.asm_value.specs.declared.domain.Domain.{Domain}
use Rattle.asm_value.specs.declared.domain.Domain.TheOpen.{Domain-F}
use Rattle.asm_value.specs.declared.domain.Domain.TheFolds.{fold_out-Domain, map-Domain, ind-Domain}
use Rattle.asm_value.specs.declared.domain.Domain.TheViews.{roll-Domain}
use Rattle.asm_value.specs.declared.domain.DomainInfo.{DomainInfo}
use Rattle.asm_value.specs.declared.domain.Live.{Live}
use Rattle.asm_value.specs.Ranges.{put_first, each_first, tuples, some_of, sets_of}
use Rattle.asm_value.specs.Members.{AreListed, members, members_level, literal_count}
use Rattle.asm_value.specs.Members.{subset_numbers, live_indexes}
use Rattle.asm_value.specs.Enumerable.{times, product, at_most, sets_over, size, size_level}
use Rattle.asm_value.specs.Enumerable.{each_abstract, each_abstract_level, has_256, has_at_most_256}
use Rattle.asm_value.proofs.Listing.{first_true, second_true}
use Rattle.asm_value.proofs.MembersLaws.{members-out, out_roll_domain}
use Rattle.asm_value.proofs.EnumerableLaws.{sizes_of, size-roll}

-- ---- how many tuples and sets there are

twice : (a b c d : ℕ) → a ≡ b + c → b ≡ suc c → suc c ≡ d → suc a ≡ 2 * d
twice a b c d e f g = omega (arith, e, f, g)

module _ {K : Type 0} where
  length-each_first : (xs : List K) (zss : List (List K))
      → length (each_first xs zss) ≡ length xs * length zss
  length-each_first [] zss = omega arith
  length-each_first (x ∷ xs) zss =
      length-append (put_first x zss) (each_first xs zss)
      ∙ (λ i. length-map zss (λ zs. x ∷ zs) i + length-each_first xs zss i)
      ∙ omega (arith, suc-mul (length xs) (length zss))

  length-sets_of : (xs : List K) → length (sets_of xs) ≡ 2 ^ length xs
  length-sets_of [] = refl
  length-sets_of (x ∷ xs) =
      twice _ _ (length (some_of xs)) (2 ^ length xs)
      (length-append (put_first x (sets_of xs)) (some_of xs))
      (length-map (sets_of xs) (λ zs. x ∷ zs)) (length-sets_of xs)
      ∙ sym (pow-succ' 2 (length xs))

-- ---- where a size is there

some_is : (m n : ℕ) → ◌≡◌ {A = Option ℕ} (Some m) (Some n) → m ≡ n
some_is m n e = ap (λ o. unwrap_or o 0) e

times_some : (s t : Option ℕ) (n : ℕ) → times s t ≡ Some n
    → (m : ℕ) × (k : ℕ) × (s ≡ Some m) × (t ≡ Some k) × (m * k ≡ n)
times_some (Some m) (Some k) n e = (m, k, refl, refl, some_is (m * k) n e)
times_some (Some m) None n e = absurd (cc)
times_some None t n e = absurd (cc)

kept : (b : Bool) (m n : ℕ) → cond b (Some m) None ≡ Some n → ◌≡◌ {A = Option ℕ} (Some m) (Some n)
kept true m n e = e
kept false m n e = absurd (cc)

limited : (limit : ℕ) (s : Option ℕ) (n : ℕ) → at_most limit s ≡ Some n → s ≡ Some n
limited limit (Some m) n e = kept (nat_le m limit) m n e
limited limit None n e = absurd (cc)

sets_some : (s : Option ℕ) (n : ℕ) → sets_over s ≡ Some n → (m : ℕ) × (s ≡ Some m) × (2 ^ m ≡ n)
sets_some (Some m) n e = (m, refl, some_is (2 ^ m) n e)
sets_some None n e = absurd (cc)

-- ---- by levels: a relation that products and powers of 2 keep, and that the declared domains have

module _ (R : ℕ → ℕ → Type 0) (same : (n : ℕ) → R n n)
    (mul : (a b m n : ℕ) → R a m → R b n → R (a * b) (m * n))
    (pow : (a m : ℕ) → R a m → R (2 ^ a) (2 ^ m))
    (domains : List DomainInfo) (live : Live) (test : ℕ → Bool)
    (literals : (d : ℕ) → R (min (literal_count domains d) 65535) (literal_count domains d))
    (abstracts : (d : ℕ) → test d ≡ true → R (length (live_indexes live d)) 256) where
  abbrev Sized : Domain → Type 0
  Sized d = each_abstract test d ≡ true → (n : ℕ) → size domains d ≡ Some n
      → R (length (members domains live d)) n

  abbrev tests_of : Domain-F Domain → Domain-F Bool
  tests_of a = map-Domain Domain Bool (each_abstract test) a

  abbrev lists_of : Domain-F Domain → Domain-F (List Value)
  lists_of a = map-Domain Domain (List Value) (members domains live) a

  abbrev whole : Domain-F ((d : Domain) × Sized d) → Domain-F Domain
  whole y = map-Domain ((d : Domain) × Sized d) Domain (λ e. e.0) y

  each_abstract-roll : (a : Domain-F Domain)
      → each_abstract test (roll-Domain a) ≡ each_abstract_level test (tests_of a)
  unfolding each_abstract
  each_abstract-roll a =
      fold_out-Domain Bool (each_abstract_level test) (roll-Domain a)
      ∙ ap (λ b. each_abstract_level test (tests_of b)) (out_roll_domain a)

  members-roll : (a : Domain-F Domain)
      → members domains live (roll-Domain a) ≡ members_level domains live (lists_of a)
  members-roll a =
      members-out domains live (roll-Domain a)
      ∙ ap (λ b. members_level domains live (lists_of b)) (out_roll_domain a)

  -- what is said of two numbers, said of equal ones
  moved : (a b m n : ℕ) → a ≡ b → m ≡ n → R b m → R a n
  moved a b m n e f r = subst (λ x. R x n) (sym e) (subst (R b) f r)

  each_sized : (es : List ((d : Domain) × Sized d))
      → list_all (λ b. b) (map (each_abstract test) (map (λ e. e.0) es)) ≡ true
      → (n : ℕ) → product (map (size domains) (map (λ e. e.0) es)) ≡ Some n
      → R (length (tuples (map (members domains live) (map (λ e. e.0) es)))) n
  each_sized [] h n is = subst (R 1) (some_is 1 n is) (same 1)
  each_sized (e ∷ es) h n is =
      let f = times_some (size domains e.0) (product (map (size domains) (map (λ e. e.0) es))) n
      is in
      let vs = members domains live e.0 in
      let rest = tuples (map (members domains live) (map (λ e. e.0) es)) in
      moved _ _ (f.0 * f.1) n (length-each_first vs rest) f.4
      (mul (length vs) (length rest) f.0 f.1
      (e.1 (first_true (each_abstract test e.0) _ h) f.0 f.2)
      (each_sized es (second_true (each_abstract test e.0) _ h) f.1 f.3))

  level_sized : (y : Domain-F ((d : Domain) × Sized d))
      → each_abstract_level test (tests_of (whole y)) ≡ true
      → (n : ℕ) → size_level domains (sizes_of domains (whole y)) ≡ Some n
      → R (length (members_level domains live (lists_of (whole y)))) n
  level_sized Domain-F.Truth h n e = subst (R 2) (some_is 2 n e) (same 2)
  level_sized Domain-F.Int h n e = absurd (cc)
  level_sized Domain-F.Nat h n e = absurd (cc)
  level_sized Domain-F.Chars h n e = absurd (cc)
  level_sized (Domain-F.Enum d) h n e =
      moved _ _ (literal_count domains d) n
      (length-map-range_with_len (λ i. Member d i) 0 (min (literal_count domains d) 65535))
      (some_is (literal_count domains d) n e) (literals d)
  level_sized (Domain-F.Abstract d) h n e =
      moved _ _ 256 n (length-map (live_indexes live d) (λ i. Member d i)) (some_is 256 n e)
      (abstracts d h)
  level_sized (Domain-F.Subset d) h n e =
      let numbers = subset_numbers domains d in
      moved _ _ (length numbers) n (length-map numbers (λ m. Int m)) (some_is (length numbers) n e)
      (same (length numbers))
  level_sized (Domain-F.Prod es) h n e =
      let rest = tuples (map (members domains live) (map (λ e. e.0) es)) in
      let sizes = map (size domains) (map (λ e. e.0) es) in
      moved _ _ n n (length-map rest (λ xs. Tuple xs)) refl
      (each_sized es h n (limited 65536 (product sizes) n e))
  level_sized (Domain-F.Seq p) h n e = absurd (cc)
  level_sized (Domain-F.Power p) h n e =
      let f = sets_some (at_most 12 (size domains p.0)) n e in
      let vs = members domains live p.0 in
      moved _ _ (2 ^ f.0) n
      (length-map (sets_of vs) (λ xs. Set xs) ∙ length-sets_of vs) f.2
      (pow (length vs) f.0 (p.1 h f.0 (limited 12 (size domains p.0) f.0 f.1)))

  sized : (d : Domain) → Sized d
  sized = ind-Domain Sized (λ x y is. subst (λ a. Sized (roll-Domain a)) is (λ h n e.
      subst (λ vs. R (length vs) n) (sym (members-roll (whole y)))
      (level_sized y (sym (each_abstract-roll (whole y)) ∙ h) n
      (sym (size-roll domains (whole y)) ∙ e))))

pub size-exactly : (domains : List DomainInfo) (live : Live) → AreListed domains live → (d : Domain)
    → each_abstract (has_256 live) d ≡ true → (n : ℕ) → size domains d ≡ Some n
    → length (members domains live d) ≡ n
size-exactly domains live are =
    sized (λ a b. a ≡ b) (λ n. refl) (λ a b m n e f. λ i. e i * f i) (λ a m e. ap (λ n. 2 ^ n) e)
    domains live (has_256 live) (λ d. min-eq_left (are.literals d))
    (λ d h. (Decides-eqb (length (live_indexes live d)) 256).0 h)

no_more : (a b : ℕ) → nat_le a b ≡ true → a ≤ b
no_more a b e = elim (leb_tells a b) [ inl p ↦ p.1 | inr q ↦ absurd (true≢false (sym e ∙ q.0)) ]

pub size-at_most : (domains : List DomainInfo) (live : Live) (d : Domain)
    → each_abstract (has_at_most_256 live) d ≡ true → (n : ℕ) → size domains d ≡ Some n
    → length (members domains live d) ≤ n
size-at_most domains live =
    sized (λ a b. a ≤ b) (λ n. omega arith) mul-le
    (λ a m h. pow-le-pow_right (omega arith) h)
    domains live (has_at_most_256 live) (λ d. min-le_left (literal_count domains d) 65535)
    (λ d h. no_more (length (live_indexes live d)) 256 h)
