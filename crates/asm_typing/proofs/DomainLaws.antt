-- The type of a domain, and the domain of a type.
use Rattle.std.proofs.Common.{◌≡◌, ℕ, Bool, true, List, [], ◌∷◌, map, refl, sym, ap}
use Rattle.std.proofs.Common.{subst, ◌∙◌, rules}
use Rattle.std.specs.List.{list_all}
use Rattle.asm_value.specs.declared.domain.Domain.{Domain}
use Rattle.asm_value.specs.declared.domain.Domain.TheOpen.{Domain-F}
use Rattle.asm_value.specs.declared.domain.Domain.TheVariants as domain
use Rattle.asm_value.specs.declared.domain.Domain.TheFolds.{ind-Domain, map-Domain}
use Rattle.asm_value.specs.declared.domain.Domain.TheViews.{out-Domain, roll-Domain, the_lemmas}
use Rattle.asm_value.proofs.Listing.{first_true, second_true, both_true}
use Rattle.asm_value.proofs.MembersLaws.{out_roll_domain}
use Rattle.asm_typing.specs.declared.types.Type.{«Type» as TermType}
use Rattle.asm_typing.specs.declared.types.Type.TheOpen.{Type-F}
use Rattle.asm_typing.specs.declared.types.Type.TheVariants as type
use Rattle.asm_typing.specs.declared.types.Type.TheFolds.{fold_out-Type, ind-Type, map-Type}
use Rattle.asm_typing.specs.declared.types.Type.TheViews.{out-Type, roll-Type}
use Rattle.asm_typing.specs.Domains.{type_of, type_level, domain_of, domain_level}
use Rattle.asm_typing.specs.Domains.{is_typed, typed_level}
use Rattle.asm_typing.specs.Order.{IsTypeOfItsDomain, DomainsAreTyped}
use Rattle.asm_typing.proofs.TypeSteps.{out_roll, roll_out, out_truth, out_int, out_chars, out_enum}
use Rattle.asm_typing.proofs.TypeSteps.{out_abstract, out_prod, out_seq, out_set, type_of-out}
use Rattle.asm_typing.proofs.TypeSteps.{domain_of-out}

-- ---- the levels of domains

abbrev domain_made : Domain-F Domain → Domain → Type 0
domain_made a d = out-Domain d ≡ a

made_truth : domain_made Domain-F.Truth domain.Truth
made_truth = search (rules, the_lemmas)

made_int : domain_made Domain-F.Int domain.Int
made_int = search (rules, the_lemmas)

made_chars : domain_made Domain-F.Chars domain.Chars
made_chars = search (rules, the_lemmas)

made_enum : (d : ℕ) → domain_made (Domain-F.Enum d) (domain.Enum d)
made_enum d = search (rules, the_lemmas)

made_abstract : (d : ℕ) → domain_made (Domain-F.Abstract d) (domain.Abstract d)
made_abstract d = search (rules, the_lemmas)

made_prod : (ds : List Domain) → domain_made (Domain-F.Prod ds) (domain.Prod ds)
made_prod ds = search (rules, the_lemmas)

made_seq : (d : Domain) → domain_made (Domain-F.Seq d) (domain.Seq d)
made_seq d = search (rules, the_lemmas)

made_power : (d : Domain) → domain_made (Domain-F.Power d) (domain.Power d)
made_power d = search (rules, the_lemmas)

abbrev pub types_in : Domain-F Domain → Domain-F TermType
types_in a = map-Domain Domain TermType type_of a

pub type_as : (d : Domain) (a : Domain-F Domain) → out-Domain d ≡ a
    → type_of d ≡ type_level (types_in a)
type_as d a e = type_of-out d ∙ ap (λ b. type_level (types_in b)) e

-- ---- a type without an untyped part is that of its domain

is_typed-out : (t : TermType)
    → is_typed t ≡ typed_level (map-Type TermType Bool is_typed (out-Type t))
unfolding is_typed
is_typed-out t = fold_out-Type Bool _ t

abbrev tests : Type-F TermType → Bool
tests a = typed_level (map-Type TermType Bool is_typed a)

typed_as : (t : TermType) (a : Type-F TermType) → out-Type t ≡ a → is_typed t ≡ tests a
typed_as t a e = is_typed-out t ∙ ap tests e

abbrev IsBack : TermType → Type 0
IsBack t = is_typed t ≡ true → type_of (domain_of t) ≡ t

abbrev back : Type-F ((t : TermType) × IsBack t) → Type-F TermType
back y = map-Type ((t : TermType) × IsBack t) TermType (λ e. e.0) y

each_back : (es : List ((t : TermType) × IsBack t))
    → list_all (λ b. b) (map is_typed (map (λ e. e.0) es)) ≡ true
    → map type_of (map domain_of (map (λ e. e.0) es)) ≡ map (λ e. e.0) es
each_back [] h = refl
each_back (e ∷ es) h =
    λ i. e.1 (first_true (is_typed e.0) _ h) i
    ∷ each_back es (second_true (is_typed e.0) _ h) i

abbrev domain_in : Type-F TermType → Domain
domain_in a = domain_level (map-Type TermType Domain domain_of a)

made_as : (t : TermType) (a : Type-F TermType) → out-Type t ≡ a → t ≡ roll-Type a
made_as t a e = sym (roll_out t) ∙ ap (λ b. roll-Type b) e

level_back : (y : Type-F ((t : TermType) × IsBack t)) → tests (back y) ≡ true
    → type_of (domain_in (back y)) ≡ roll-Type (back y)
level_back Type-F.Untyped h = absurd (cc)
level_back Type-F.Truth h =
    type_as domain.Truth _ made_truth ∙ made_as type.Truth Type-F.Truth out_truth
level_back Type-F.Int h = type_as domain.Int _ made_int ∙ made_as type.Int Type-F.Int out_int
level_back Type-F.Chars h =
    type_as domain.Chars _ made_chars ∙ made_as type.Chars Type-F.Chars out_chars
level_back (Type-F.Enum d) h =
    type_as (domain.Enum d) _ (made_enum d) ∙ made_as (type.Enum d) (Type-F.Enum d) (out_enum d)
level_back (Type-F.Abstract d) h =
    type_as (domain.Abstract d) _ (made_abstract d)
    ∙ made_as (type.Abstract d) (Type-F.Abstract d) (out_abstract d)
level_back (Type-F.Prod es) h =
    type_as (domain.Prod (map domain_of (map (λ e. e.0) es))) _
    (made_prod (map domain_of (map (λ e. e.0) es)))
    ∙ ap (λ ts. type.Prod ts) (each_back es h)
    ∙ made_as (type.Prod (map (λ e. e.0) es)) (Type-F.Prod (map (λ e. e.0) es))
    (out_prod (map (λ e. e.0) es))
level_back (Type-F.Seq e) h =
    type_as (domain.Seq (domain_of e.0)) _ (made_seq (domain_of e.0))
    ∙ ap (λ t. type.Seq t) (e.1 h) ∙ made_as (type.Seq e.0) (Type-F.Seq e.0) (out_seq e.0)
level_back (Type-F.Set e) h =
    type_as (domain.Power (domain_of e.0)) _ (made_power (domain_of e.0))
    ∙ ap (λ t. type.Set t) (e.1 h) ∙ made_as (type.Set e.0) (Type-F.Set e.0) (out_set e.0)

pub is_type_of_its_domain : IsTypeOfItsDomain
is_type_of_its_domain =
    ind-Type IsBack (λ x y is. subst (λ a. IsBack (roll-Type a)) is
    (λ h. ap type_of (domain_of-out (roll-Type (back y)) ∙ ap domain_in (out_roll (back y)))
    ∙ level_back y (sym (typed_as (roll-Type (back y)) (back y) (out_roll (back y))) ∙ h)))

-- ---- each domain's type has no untyped part

abbrev HasType : Domain → Type 0
HasType d = is_typed (type_of d) ≡ true

abbrev had : Domain-F ((d : Domain) × HasType d) → Domain-F Domain
had y = map-Domain ((d : Domain) × HasType d) Domain (λ e. e.0) y

each_had : (es : List ((d : Domain) × HasType d))
    → list_all (λ b. b) (map is_typed (map type_of (map (λ e. e.0) es))) ≡ true
each_had [] = refl
each_had (e ∷ es) = both_true (is_typed (type_of e.0)) _ e.1 (each_had es)

level_had : (y : Domain-F ((d : Domain) × HasType d))
    → is_typed (type_level (types_in (had y))) ≡ true
level_had Domain-F.Truth = typed_as type.Truth _ out_truth
level_had Domain-F.Int = typed_as type.Int _ out_int
level_had Domain-F.Nat = typed_as type.Int _ out_int
level_had Domain-F.Chars = typed_as type.Chars _ out_chars
level_had (Domain-F.Enum d) = typed_as (type.Enum d) _ (out_enum d)
level_had (Domain-F.Abstract d) = typed_as (type.Abstract d) _ (out_abstract d)
level_had (Domain-F.Subset d) = typed_as type.Int _ out_int
level_had (Domain-F.Prod es) =
    typed_as (type.Prod (map type_of (map (λ e. e.0) es))) _
    (out_prod (map type_of (map (λ e. e.0) es)))
    ∙ each_had es
level_had (Domain-F.Seq e) = typed_as (type.Seq (type_of e.0)) _ (out_seq (type_of e.0)) ∙ e.1
level_had (Domain-F.Power e) = typed_as (type.Set (type_of e.0)) _ (out_set (type_of e.0)) ∙ e.1

pub domains_are_typed : DomainsAreTyped
domains_are_typed =
    ind-Domain HasType (λ x y is. subst (λ a. HasType (roll-Domain a)) is
    (ap is_typed (type_as (roll-Domain (had y)) (had y) (out_roll_domain (had y))) ∙ level_had y))
