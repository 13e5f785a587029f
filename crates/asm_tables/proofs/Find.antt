-- What is known as a table is gone through: no row before the one that is looked at matches.
use Rattle.std.proofs.Common.{◌≡◌, ℕ, zero, suc, ◌+◌, ◌<◌, true, false, List, [], ◌∷◌, Some, None, refl, sym, ap, ◌∙◌, arith, ◌⊎◌, inl, inr, subst, ◌≤◌, length, get_or}
use Rattle.std.specs.List.{position_or_len}
use Rattle.std.specs.Option.{option_map_or}
use Rattle.std.proofs.lemmas.List.Sums.{position_or_len_is}
use Rattle.std.proofs.lemmas.Option.{slice_get-get_or}
use Rattle.asm_tables.specs.declared.table.Kind.{Kind}
use Rattle.asm_tables.specs.declared.table.Row.{Row}
use Rattle.asm_tables.specs.Table.{matches, matches_at, row_of, are_distinct, IsOnlyMatch, NoneMatches}
use Rattle.asm_tables.proofs.TableLaws.{only_match}

module _ (name : List ℕ) (ks : List Kind) where
  -- where there is a row of this number, it matches exactly where its name and kinds do
  here : (rows : List Row) (i : ℕ) (d : Row) → i < length rows → matches_at rows name ks i ≡ matches name ks (get_or rows i d)
  here rows i d h = ap (λ o. option_map_or (matches name ks) o false) (slice_get-get_or rows i d h)

  past : (rows : List Row) (i : ℕ) → length rows ≤ i → matches_at rows name ks i ≡ false
  past [] i h = refl
  past (r ∷ rows) zero h = absurd (omega arith)
  past (r ∷ rows) (suc i) h = past rows i (omega arith)

  -- no row with a lower number matches
  abbrev pub NoneBelow : List Row → ℕ → Type 0
  NoneBelow rows i = (k : ℕ) → k < i → matches_at rows name ks k ≡ false

  pub found : (rows : List Row) (i : ℕ) (d : Row) → i < length rows → are_distinct rows ≡ true → true ≡ matches name ks (get_or rows i d) → IsOnlyMatch rows name ks i
  found rows i d h distinct p =
      let m = here rows i d h ∙ sym p in
      (m, λ j q. only_match name ks rows j i distinct q m)

  pub kept : (rows : List Row) (i : ℕ) (d : Row) → i < length rows → false ≡ matches name ks (get_or rows i d) → NoneBelow rows i → NoneBelow rows (i + 1)
  kept rows i d h p below k l =
      let cases : (k < i) ⊎ (k ≡ i) = grind arith in
      elim cases [
        | inl m ↦ below k m
        | inr m ↦ subst (λ z. matches_at rows name ks z ≡ false) (sym m) (here rows i d h ∙ sym p)
      ]

  pub not_none : (rows : List Row) (i : ℕ) (d : Row) → i < length rows → true ≡ matches name ks (get_or rows i d) → NoneMatches rows name ks → true ≡ false
  not_none rows i d h p none = p ∙ sym (here rows i d h) ∙ none i

  pub none_at_all : (rows : List Row) (n : ℕ) → length rows ≤ n → NoneBelow rows n → NoneMatches rows name ks
  none_at_all rows n h below i =
      let cases : (i < n) ⊎ (n ≤ i) = grind arith in
      elim cases [
        | inl m ↦ below i m
        | inr m ↦ past rows i (omega arith)
      ]

  place : (rows : List Row) (i : ℕ) (d : Row) → i ≤ length rows → NoneBelow rows i → (i < length rows → matches name ks (get_or rows i d) ≡ true) → position_or_len (matches name ks) rows ≡ i
  place rows i d h below p = position_or_len_is (matches name ks) rows i d h (λ k l. sym (here rows k d (omega arith)) ∙ below k l) p

  pub first : (rows : List Row) (i : ℕ) (d : Row) → i < length rows → NoneBelow rows i → true ≡ matches name ks (get_or rows i d) → Some i ≡ row_of rows name ks
  first rows i d h below p =
      let at = place rows i d (omega arith) below (λ l. sym p) in
      grind (arith, at)

  pub no_first : (rows : List Row) → NoneBelow rows (length rows) → None ≡ row_of rows name ks
  no_first [] below = refl
  no_first (r ∷ rows) below =
      let at = place (r ∷ rows) (length (r ∷ rows)) r (omega arith) below (λ l. absurd (omega arith)) in
      grind (arith, at)
