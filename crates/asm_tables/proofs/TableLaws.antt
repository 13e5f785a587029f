-- Two rows of a table that match one name with the same kinds are one.
use Rattle.std.proofs.Common.{◌≡◌, ℕ, zero, suc, Bool, true, false, not, ◌&&◌, ◌||◌, List, [], ◌∷◌, nat_eq, refl, sym, ap, ◌∙◌, ◌⊎◌, inl, inr, subst}
use Rattle.std.specs.List.{list_all}
use Rattle.std.specs.Cmp.Lexicographic.{pointwise, nat_list_eq_equiv}
use Rattle.asm_tables.specs.declared.table.Kind.{Kind}
use Rattle.asm_tables.specs.declared.table.Kind.TheVariants.{Truth, Int, Chars, Member, Tuple, Seq, Set, Untyped, Any}
use Rattle.asm_tables.specs.declared.table.Kinds.{Kinds}
use Rattle.asm_tables.specs.declared.table.Kinds.TheVariants.{One, Two}
use Rattle.asm_tables.specs.declared.table.Row.{Row}
use Rattle.asm_tables.specs.Names.{text_of}
use Rattle.asm_tables.specs.Table.{takes, filled, all_taken, all_filled, admits, matches, matches_at, meet, all_meet, are_apart, are_distinct}

both : (a b : Bool) → a ≡ true → b ≡ true → (a && b) ≡ true
both true b p q = q
both false b p q = p

left : (a b : Bool) → (a && b) ≡ true → a ≡ true
left true b p = refl
left false b p = p

right : (a b : Bool) → (a && b) ≡ true → b ≡ true
right true b p = p
right false b p = absurd (cc)

taken : (i k : Kind) → takes i k ≡ true → (i ≡ Any) ⊎ (i ≡ k)
taken Any k p = inl refl
taken Truth Truth p = inr refl
taken Int Int p = inr refl
taken Chars Chars p = inr refl
taken Member Member p = inr refl
taken Tuple Tuple p = inr refl
taken Seq Seq p = inr refl
taken Set Set p = inr refl
taken Untyped Untyped p = inr refl
taken i k p = absurd (cc)

meet-right : (i : Kind) → meet i Any ≡ true
meet-right Any = refl
meet-right Truth = refl
meet-right i = refl

meet-same : (k : Kind) → meet k k ≡ true
meet-same Any = refl
meet-same k = refl

-- two positions that take one kind meet
meets : (i j k : Kind) → takes i k ≡ true → takes j k ≡ true → meet i j ≡ true
meets i j k p q =
    elim (taken i k p) [
      | inl e ↦ subst (λ x. meet x j ≡ true) (sym e) refl
      | inr e ↦ elim (taken j k q) [
        | inl d ↦ subst (λ x. meet i x ≡ true) (sym d) (meet-right i)
        | inr d ↦ subst (λ x. meet x j ≡ true) (sym e) (subst (λ x. meet k x ≡ true) (sym d) (meet-same k))
      ]
    ]

all_meets : (a b : Kinds) (ks : List Kind) → all_taken a ks ≡ true → all_taken b ks ≡ true → all_meet a b ≡ true
all_meets (One i) (One j) (k ∷ []) p q = meets i j k p q
all_meets (Two i j) (Two m n) (k ∷ l ∷ []) p q = both _ _ (meets i m k (left _ _ p) (left _ _ q)) (meets j n l (right _ _ p) (right _ _ q))
all_meets (One i) b [] p q = absurd (cc)
all_meets (Two i j) b [] p q = absurd (cc)
all_meets (One i) (Two m n) (k ∷ []) p q = absurd (cc)
all_meets (Two i j) b (k ∷ []) p q = absurd (cc)
all_meets (One i) b (k ∷ l ∷ ls) p q = absurd (cc)
all_meets (Two i j) (One m) (k ∷ l ∷ []) p q = absurd (cc)
all_meets (Two i j) b (k ∷ l ∷ m ∷ ls) p q = absurd (cc)

names_meet : (m n name : List ℕ) → pointwise nat_eq m name ≡ true → pointwise nat_eq n name ≡ true → pointwise nat_eq m n ≡ true
names_meet m n name p q = nat_list_eq_equiv.congr m name n p ∙ nat_list_eq_equiv.symm name n ∙ q

not_both : (b : Bool) → b ≡ true → not b ≡ true → ⊥
not_both true p q = absurd (cc)
not_both false p q = absurd (cc)

apart_never : (a b : Row) (name : List ℕ) (ks : List Kind) → are_apart a b ≡ true → matches name ks a ≡ true → matches name ks b ≡ true → ⊥
apart_never a b name ks h p q =
    not_both (pointwise nat_eq (text_of a.name) (text_of b.name) && all_meet a.kinds b.kinds)
    (both _ _ (names_meet (text_of a.name) (text_of b.name) name (left _ _ p) (left _ _ q)) (all_meets a.kinds b.kinds ks (right _ _ p) (right _ _ q))) h

module _ (name : List ℕ) (ks : List Kind) where
  apart_at : (a : Row) (rows : List Row) (j : ℕ) → list_all (are_apart a) rows ≡ true → matches name ks a ≡ true → matches_at rows name ks j ≡ true → ⊥
  apart_at a [] j h p q = absurd (cc)
  apart_at a (r ∷ rows) zero h p q = apart_never a r name ks (left _ _ h) p q
  apart_at a (r ∷ rows) (suc j) h p q = apart_at a rows j (right _ _ h) p q

  -- rows of a table that match one name with the same kinds are one
  pub only_match : (rows : List Row) (i j : ℕ) → are_distinct rows ≡ true → matches_at rows name ks i ≡ true → matches_at rows name ks j ≡ true → i ≡ j
  only_match [] i j h p q = absurd (cc)
  only_match (r ∷ rows) zero zero h p q = refl
  only_match (r ∷ rows) zero (suc j) h p q = absurd (apart_at r rows j (left _ _ h) p q)
  only_match (r ∷ rows) (suc i) zero h p q = absurd (apart_at r rows i (left _ _ h) q p)
  only_match (r ∷ rows) (suc i) (suc j) h p q = ap suc (only_match rows i j (right _ _ h) p q)

takes-same : (j : Kind) → takes j j ≡ true
takes-same Any = refl
takes-same k = refl

taken_filled : (j k : Kind) → takes j k ≡ true → takes j (filled j k) ≡ true
taken_filled j Untyped p = takes-same j
taken_filled j k p = p

all_taken_filled : (row : Kinds) (ks : List Kind) → all_taken row ks ≡ true → all_taken row (all_filled row ks) ≡ true
all_taken_filled (One j) (k ∷ []) p = taken_filled j k p
all_taken_filled (Two i j) (k ∷ l ∷ []) p = both _ _ (taken_filled i k (left _ _ p)) (taken_filled j l (right _ _ p))
all_taken_filled (One j) [] p = absurd (cc)
all_taken_filled (Two i j) [] p = absurd (cc)
all_taken_filled (Two i j) (k ∷ []) p = absurd (cc)
all_taken_filled (One j) (k ∷ l ∷ ks) p = absurd (cc)
all_taken_filled (Two i j) (k ∷ l ∷ m ∷ ks) p = absurd (cc)

left_or : (a b : Bool) → a ≡ true → (a || b) ≡ true
left_or true b p = refl
left_or false b p = absurd (cc)

right_or : (a b : Bool) → b ≡ true → (a || b) ≡ true
right_or true b p = refl
right_or false b p = p

-- what a row matches is admitted
pub match_admits : (rows : List Row) (name : List ℕ) (ks : List Kind) (i : ℕ) → matches_at rows name ks i ≡ true → admits rows name ks ≡ true
match_admits [] name ks i p = absurd (cc)
match_admits (r ∷ rows) name ks zero p =
    let named = left (pointwise nat_eq (text_of r.name) name) (all_taken r.kinds ks) p in
    let fit = all_taken_filled r.kinds ks (right (pointwise nat_eq (text_of r.name) name) (all_taken r.kinds ks) p) in
    left_or _ (admits rows name ks) (both _ _ named fit)
match_admits (r ∷ rows) name ks (suc i) p = right_or _ _ (match_admits rows name ks i p)
