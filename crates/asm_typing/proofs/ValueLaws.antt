-- Which values a type has: more where it fits, and those of its domain.
use Rattle.std.proofs.Common.{◌≡◌, ℕ, ◌==◌, Bool, true, List, [], ◌∷◌, map}
use Rattle.std.proofs.Common.{refl, sym, ap, subst, ◌∙◌}
use Rattle.std.specs.List.{list_all}
use Rattle.std.proofs.lemmas.Bool.Decides.{Decides-eqb}
use Rattle.asm_value.specs.declared.value.Value.{Value}
use Rattle.asm_value.specs.declared.value.Value.TheOpen.{Value-F}
use Rattle.asm_value.specs.declared.value.Value.TheViews.{out-Value}
use Rattle.asm_value.specs.declared.domain.Domain.{Domain}
use Rattle.asm_value.specs.declared.domain.Domain.TheOpen.{Domain-F}
use Rattle.asm_value.specs.declared.domain.Domain.TheFolds.{ind-Domain, map-Domain}
use Rattle.asm_value.specs.declared.domain.Domain.TheViews.{roll-Domain}
use Rattle.asm_value.specs.declared.domain.DomainInfo.{DomainInfo}
use Rattle.asm_value.specs.declared.domain.Live.{Live}
use Rattle.asm_value.specs.Domain.{each_passes, fits_level, is_literal, is_live, fits as is_in}
use Rattle.asm_value.proofs.DomainLaws.{fits-out as in-out}
use Rattle.asm_value.proofs.Listing.{first_true, second_true, both_true}
use Rattle.asm_value.proofs.MembersLaws.{out_roll_domain}
use Rattle.asm_typing.specs.declared.types.Type.{«Type» as TermType}
use Rattle.asm_typing.specs.declared.types.Type.TheOpen.{Type-F}
use Rattle.asm_typing.specs.declared.types.Type.TheVariants as type
use Rattle.asm_typing.specs.declared.types.Type.TheFolds.{fold_out-Type, ind-Type, map-Type}
use Rattle.asm_typing.specs.declared.types.Type.TheViews.{out-Type, roll-Type}
use Rattle.asm_typing.specs.Domains.{type_of, type_level}
use Rattle.asm_typing.specs.Fits.{fits}
use Rattle.asm_typing.specs.Values.{has, has_level, UntypedHasNone, FitsWithItsValues}
use Rattle.asm_typing.specs.Values.{HasValuesOfItsDomain}
use Rattle.asm_typing.proofs.TypeSteps.{out_roll, out_untyped, out_truth, out_int, out_chars}
use Rattle.asm_typing.proofs.TypeSteps.{out_enum, out_abstract, out_prod, out_seq, out_set}
use Rattle.asm_typing.proofs.TypeSteps.{fits_of}
use Rattle.asm_typing.proofs.FitLaws.{fits-roll}
use Rattle.asm_typing.proofs.DomainLaws.{types_in, type_as}

abbrev pub has_of : Type-F TermType → Value-F Value → Bool
has_of a w = has_level (map-Type TermType (Value → Bool) has a) w

pub has-out : (t : TermType) (v : Value) → has t v ≡ has_of (out-Type t) (out-Value v)
unfolding has
has-out t v = ap (λ f. f v) (fold_out-Type (Value → Bool) _ t)

pub has-as : (t : TermType) (a : Type-F TermType) (v : Value) → out-Type t ≡ a
    → has t v ≡ has_of a (out-Value v)
has-as t a v e = has-out t v ∙ ap (λ b. has_of b (out-Value v)) e

pub untyped_has_none : UntypedHasNone
untyped_has_none v = has-as type.Untyped Type-F.Untyped v out_untyped

-- ---- what fits a type has no other values

abbrev KeepsAll : TermType → Type 0
KeepsAll s = (t : TermType) (v : Value) → fits s t ≡ true → has s v ≡ true → has t v ≡ true

abbrev kept : Type-F ((s : TermType) × KeepsAll s) → Type-F TermType
kept y = map-Type ((s : TermType) × KeepsAll s) TermType (λ e. e.0) y

all_kept : (s t : TermType) → ((v : Value) → has s v ≡ true → has t v ≡ true) → (vs : List Value)
    → list_all (has s) vs ≡ true → list_all (has t) vs ≡ true
all_kept s t f [] q = refl
all_kept s t f (v ∷ vs) q =
    both_true (has t v) _ (f v (first_true (has s v) _ q))
    (all_kept s t f vs (second_true (has s v) _ q))

each_kept : (es : List ((s : TermType) × KeepsAll s)) (ts : List TermType) (vs : List Value)
    → each_passes (map fits (map (λ e. e.0) es)) ts ≡ true
    → each_passes (map has (map (λ e. e.0) es)) vs ≡ true → each_passes (map has ts) vs ≡ true
each_kept [] [] vs p q = q
each_kept [] (t ∷ ts) vs p q = absurd (cc)
each_kept (e ∷ es) [] vs p q = absurd (cc)
each_kept (e ∷ es) (t ∷ ts) [] p q = absurd (cc)
each_kept (e ∷ es) (t ∷ ts) (v ∷ vs) p q =
    both_true (has t v) _ (e.1 t v (first_true (fits e.0 t) _ p) (first_true (has e.0 v) _ q))
    (each_kept es ts vs (second_true (fits e.0 t) _ p) (second_true (has e.0 v) _ q))

member_kept : (d e f : ℕ) → (d == e) ≡ true → (f == d) ≡ true → (f == e) ≡ true
member_kept d e f p q = (Decides-eqb f e).1 ((Decides-eqb f d).0 q ∙ (Decides-eqb d e).0 p)

level_kept : (y : Type-F ((s : TermType) × KeepsAll s)) (b : Type-F TermType) (w : Value-F Value)
    → fits_of (kept y) b ≡ true → has_of (kept y) w ≡ true → has_of b w ≡ true
level_kept Type-F.Untyped b w p q = absurd (cc)
level_kept Type-F.Truth Type-F.Truth w p q = q
level_kept Type-F.Int Type-F.Int w p q = q
level_kept Type-F.Chars Type-F.Chars w p q = q
level_kept (Type-F.Enum d) (Type-F.Enum e) (Value-F.Member f i) p q = member_kept d e f p q
level_kept (Type-F.Abstract d) (Type-F.Abstract e) (Value-F.Member f i) p q = member_kept d e f p q
level_kept (Type-F.Prod es) (Type-F.Prod ts) (Value-F.Tuple vs) p q = each_kept es ts vs p q
level_kept (Type-F.Seq e) (Type-F.Seq t) (Value-F.Seq vs) p q =
    all_kept e.0 t (λ v h. e.1 t v p h) vs q
level_kept (Type-F.Set e) (Type-F.Set t) (Value-F.Set vs) p q =
    all_kept e.0 t (λ v h. e.1 t v p h) vs q
level_kept y b w p q = absurd (cc)

pub fits_with_its_values : FitsWithItsValues
fits_with_its_values =
    ind-Type KeepsAll (λ x y is. subst (λ a. KeepsAll (roll-Type a)) is
    (λ t v p q. has-out t v ∙ level_kept y (out-Type t) (out-Value v)
    (sym (fits-roll (kept y) t) ∙ p)
    (sym (has-as (roll-Type (kept y)) (kept y) v (out_roll (kept y))) ∙ q)))

-- ---- a domain's type has the domain's values

module _ (domains : List DomainInfo) (live : Live) where
  abbrev Given : Domain → Type 0
  Given d = (v : Value) → is_in domains live d v ≡ true → has (type_of d) v ≡ true

  abbrev given : Domain-F ((d : Domain) × Given d) → Domain-F Domain
  given y = map-Domain ((d : Domain) × Given d) Domain (λ e. e.0) y

  abbrev in_of : Domain-F Domain → Value-F Value → Bool
  in_of a w = fits_level domains live (map-Domain Domain (Value → Bool) (is_in domains live) a) w

  all_given : (e : (d : Domain) × Given d) (vs : List Value)
      → list_all (is_in domains live e.0) vs ≡ true → list_all (has (type_of e.0)) vs ≡ true
  all_given e [] q = refl
  all_given e (v ∷ vs) q =
      both_true (has (type_of e.0) v) _ (e.1 v (first_true (is_in domains live e.0 v) _ q))
      (all_given e vs (second_true (is_in domains live e.0 v) _ q))

  each_given : (es : List ((d : Domain) × Given d)) (vs : List Value)
      → each_passes (map (is_in domains live) (map (λ e. e.0) es)) vs ≡ true
      → each_passes (map has (map type_of (map (λ e. e.0) es))) vs ≡ true
  each_given [] [] q = refl
  each_given [] (v ∷ vs) q = absurd (cc)
  each_given (e ∷ es) [] q = absurd (cc)
  each_given (e ∷ es) (v ∷ vs) q =
      both_true (has (type_of e.0) v) _ (e.1 v (first_true (is_in domains live e.0 v) _ q))
      (each_given es vs (second_true (is_in domains live e.0 v) _ q))

  -- the level of a domain's type
  abbrev level_of : Domain-F Domain → Type-F TermType
  level_of Domain-F.Truth = Type-F.Truth
  level_of Domain-F.Int = Type-F.Int
  level_of Domain-F.Nat = Type-F.Int
  level_of Domain-F.Chars = Type-F.Chars
  level_of (Domain-F.Enum d) = Type-F.Enum d
  level_of (Domain-F.Abstract d) = Type-F.Abstract d
  level_of (Domain-F.Subset d) = Type-F.Int
  level_of (Domain-F.Prod ds) = Type-F.Prod (map type_of ds)
  level_of (Domain-F.Seq d) = Type-F.Seq (type_of d)
  level_of (Domain-F.Power d) = Type-F.Set (type_of d)

  out_level : (a : Domain-F Domain) → out-Type (type_level (types_in a)) ≡ level_of a
  out_level Domain-F.Truth = out_truth
  out_level Domain-F.Int = out_int
  out_level Domain-F.Nat = out_int
  out_level Domain-F.Chars = out_chars
  out_level (Domain-F.Enum d) = out_enum d
  out_level (Domain-F.Abstract d) = out_abstract d
  out_level (Domain-F.Subset d) = out_int
  out_level (Domain-F.Prod ds) = out_prod (map type_of ds)
  out_level (Domain-F.Seq d) = out_seq (type_of d)
  out_level (Domain-F.Power d) = out_set (type_of d)

  level_given : (y : Domain-F ((d : Domain) × Given d)) (w : Value-F Value)
      → in_of (given y) w ≡ true → has_of (level_of (given y)) w ≡ true
  level_given Domain-F.Truth (Value-F.Truth b) q = refl
  level_given Domain-F.Int (Value-F.Int n) q = refl
  level_given Domain-F.Nat (Value-F.Int n) q = refl
  level_given Domain-F.Chars (Value-F.Chars t) q = refl
  level_given (Domain-F.Enum d) (Value-F.Member e i) q =
      first_true (e == d) (is_literal domains d i) q
  level_given (Domain-F.Abstract d) (Value-F.Member e i) q =
      first_true (e == d) (is_live live d i) q
  level_given (Domain-F.Subset d) (Value-F.Int n) q = refl
  level_given (Domain-F.Prod es) (Value-F.Tuple vs) q = each_given es vs q
  level_given (Domain-F.Seq e) (Value-F.Seq vs) q = all_given e vs q
  level_given (Domain-F.Power e) (Value-F.Set vs) q = all_given e vs q
  level_given y w q = absurd (cc)

  given_at : (y : Domain-F ((d : Domain) × Given d)) → Given (roll-Domain (given y))
  given_at y v q =
      ap (λ t. has t v)
      (type_as (roll-Domain (given y)) (given y) (out_roll_domain (given y)))
      ∙ has-as (type_level (types_in (given y))) (level_of (given y)) v (out_level (given y))
      ∙ level_given y (out-Value v)
      (ap (λ a. in_of a (out-Value v)) (sym (out_roll_domain (given y)))
      ∙ sym (in-out domains live (roll-Domain (given y)) v) ∙ q)

  values_given : (d : Domain) → Given d
  values_given =
      ind-Domain Given (λ x y is. subst (λ a. Given (roll-Domain a)) is (given_at y))

pub has_values_of_its_domain : HasValuesOfItsDomain
has_values_of_its_domain domains live d v = values_given domains live d v
