-- An enumerable domain is finite.
use Rattle.std.proofs.Common.{◌≡◌, ℕ, Bool, true, Option, Some, None, is_some, List, [], ◌∷◌, map}
use Rattle.std.proofs.Common.{refl, sym, ap, subst, ◌∙◌}
use Rattle.std.specs.List.{list_all}
use Rattle.asm_value.specs.declared.domain.Domain.{Domain}
use Rattle.asm_value.specs.declared.domain.Domain.TheOpen.{Domain-F}
use Rattle.asm_value.specs.declared.domain.Domain.TheFolds.{fold_out-Domain, map-Domain, ind-Domain}
use Rattle.asm_value.specs.declared.domain.Domain.TheViews.{roll-Domain}
use Rattle.asm_value.specs.declared.domain.DomainInfo.{DomainInfo}
use Rattle.asm_value.proofs.Listing.{both_true}
use Rattle.asm_value.specs.Members.{is_finite, is_finite_level}
use Rattle.asm_value.proofs.MembersLaws.{out_roll_domain, is_finite-roll}
use Rattle.asm_value.specs.Enumerable.{times, product, at_most, sets_over, size, size_level}
use Rattle.asm_value.specs.Enumerable.{is_enumerable}

first_there : (s t : Option ℕ) → is_some (times s t) ≡ true → is_some s ≡ true
first_there (Some m) (Some n) e = refl
first_there (Some m) None e = refl
first_there None t e = absurd (cc)

second_there : (s t : Option ℕ) → is_some (times s t) ≡ true → is_some t ≡ true
second_there (Some m) (Some n) e = refl
second_there (Some m) None e = absurd (cc)
second_there None t e = absurd (cc)

limited_there : (limit : ℕ) (s : Option ℕ) → is_some (at_most limit s) ≡ true → is_some s ≡ true
limited_there limit (Some n) e = refl
limited_there limit None e = absurd (cc)

sets_there : (s : Option ℕ) → is_some (sets_over s) ≡ true → is_some s ≡ true
sets_there (Some n) e = refl
sets_there None e = absurd (cc)

module _ (domains : List DomainInfo) where
  abbrev pub sizes_of : Domain-F Domain → Domain-F (Option ℕ)
  sizes_of a = map-Domain Domain (Option ℕ) (size domains) a

  pub size-roll : (a : Domain-F Domain)
      → size domains (roll-Domain a) ≡ size_level domains (sizes_of a)
  unfolding size
  size-roll a =
      fold_out-Domain (Option ℕ) (size_level domains) (roll-Domain a)
      ∙ ap (λ b. size_level domains (sizes_of b)) (out_roll_domain a)

  abbrev FiniteIfThere : Domain → Type 0
  FiniteIfThere d = is_some (size domains d) ≡ true → is_finite d ≡ true

  abbrev whole : Domain-F ((d : Domain) × FiniteIfThere d) → Domain-F Domain
  whole y = map-Domain ((d : Domain) × FiniteIfThere d) Domain (λ e. e.0) y

  each_finite : (es : List ((d : Domain) × FiniteIfThere d))
      → is_some (product (map (size domains) (map (λ e. e.0) es))) ≡ true
      → list_all (λ b. b) (map is_finite (map (λ e. e.0) es)) ≡ true
  each_finite [] h = refl
  each_finite (e ∷ es) h =
      let rest = product (map (size domains) (map (λ e. e.0) es)) in
      both_true (is_finite e.0) _ (e.1 (first_there (size domains e.0) rest h))
      (each_finite es (second_there (size domains e.0) rest h))

  level_finite : (y : Domain-F ((d : Domain) × FiniteIfThere d))
      → is_some (size_level domains (sizes_of (whole y))) ≡ true
      → is_finite_level (map-Domain Domain Bool is_finite (whole y)) ≡ true
  level_finite Domain-F.Truth e = refl
  level_finite Domain-F.Int e = absurd (cc)
  level_finite Domain-F.Nat e = absurd (cc)
  level_finite Domain-F.Chars e = absurd (cc)
  level_finite (Domain-F.Enum d) e = refl
  level_finite (Domain-F.Abstract d) e = refl
  level_finite (Domain-F.Subset d) e = refl
  level_finite (Domain-F.Prod es) e =
      each_finite es (limited_there 65536 (product (map (size domains) (map (λ f. f.0) es))) e)
  level_finite (Domain-F.Seq p) e = absurd (cc)
  level_finite (Domain-F.Power p) e =
      p.1 (limited_there 12 (size domains p.0) (sets_there (at_most 12 (size domains p.0)) e))

  pub enumerable_is_finite : (d : Domain) → is_enumerable domains d ≡ true → is_finite d ≡ true
  enumerable_is_finite =
      ind-Domain FiniteIfThere (λ x y is. subst (λ a. FiniteIfThere (roll-Domain a)) is
      (λ e. is_finite-roll (whole y) ∙ level_finite y (ap is_some (sym (size-roll (whole y))) ∙ e)))
