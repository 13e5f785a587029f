-- What definitions on types compute, level by level.
use Rattle.std.proofs.Common.{◌≡◌, ◌+◌, ◌<◌, ℕ, Bool, Option, Some, None, List, [], ◌∷◌, map, length}
use Rattle.std.proofs.Common.{refl, ap, subst, ◌∙◌, rules, arith, drop, get_or}
use Rattle.std.proofs.lemmas.List.{drop_more}
use Rattle.asm_value.specs.declared.domain.Domain.{Domain}
use Rattle.asm_value.specs.declared.domain.Domain.TheFolds.{fold_out-Domain, map-Domain}
use Rattle.asm_value.specs.declared.domain.Domain.TheViews as domain_views
use Rattle.asm_value.specs.declared.domain.Domain.TheViews.{out-Domain}
use Rattle.asm_typing.specs.declared.types.Type.{«Type» as TermType}
use Rattle.asm_typing.specs.declared.types.Type.TheOpen.{Type-F}
use Rattle.asm_typing.specs.declared.types.Type.TheVariants as type
use Rattle.asm_typing.specs.declared.types.Type.TheFolds.{fold_out-Type, ind-Type, map-Type}
use Rattle.asm_typing.specs.declared.types.Type.TheViews.{out-Type, roll-Type, the_lemmas}
use Rattle.asm_typing.specs.Domains.{type_of, type_level, domain_of, domain_level}
use Rattle.asm_typing.specs.Fits.{fits, fits_level}
use Rattle.asm_typing.specs.Joins.{Joining, joining, join_level, join, join_of, joins, before, whole}

-- ---- one level of a type

pub out_roll : (a : Type-F TermType) → out-Type (roll-Type a) ≡ a
out_roll a = search (rules, the_lemmas)

pub roll_out : (t : TermType) → roll-Type (out-Type t) ≡ t
roll_out t = search (rules, the_lemmas)

pub out_truth : out-Type type.Truth ≡ Type-F.Truth
out_truth = search (rules, the_lemmas)

pub out_int : out-Type type.Int ≡ Type-F.Int
out_int = search (rules, the_lemmas)

pub out_chars : out-Type type.Chars ≡ Type-F.Chars
out_chars = search (rules, the_lemmas)

pub out_enum : (d : ℕ) → out-Type (type.Enum d) ≡ Type-F.Enum d
out_enum d = search (rules, the_lemmas)

pub out_abstract : (d : ℕ) → out-Type (type.Abstract d) ≡ Type-F.Abstract d
out_abstract d = search (rules, the_lemmas)

pub out_prod : (ts : List TermType) → out-Type (type.Prod ts) ≡ Type-F.Prod ts
out_prod ts = search (rules, the_lemmas)

pub out_seq : (t : TermType) → out-Type (type.Seq t) ≡ Type-F.Seq t
out_seq t = search (rules, the_lemmas)

pub out_set : (t : TermType) → out-Type (type.Set t) ≡ Type-F.Set t
out_set t = search (rules, the_lemmas)

pub out_untyped : out-Type type.Untyped ≡ Type-F.Untyped
out_untyped = search (rules, the_lemmas)

-- ---- folds, level by level

pub type_of-out : (d : Domain)
    → type_of d ≡ type_level (map-Domain Domain TermType type_of (out-Domain d))
unfolding type_of
type_of-out d = fold_out-Domain TermType _ d

pub domain_of-out : (t : TermType)
    → domain_of t ≡ domain_level (map-Type TermType Domain domain_of (out-Type t))
unfolding domain_of
domain_of-out t = fold_out-Type Domain _ t

abbrev pub fits_of : Type-F TermType → Type-F TermType → Bool
fits_of a b = fits_level (map-Type TermType (TermType → Bool) fits a) b

pub fits-out : (s t : TermType) → fits s t ≡ fits_of (out-Type s) (out-Type t)
unfolding fits
fits-out s t = ap (λ f. f t) (fold_out-Type (TermType → Bool) _ s)

abbrev opened : TermType → Type-F Joining
opened s = map-Type TermType Joining joining (out-Type s)

abbrev with_parts : Type-F Joining → Joining
with_parts a = record { itself = whole a; with = λ t. join_level a (out-Type t) }

joining-out : (s : TermType) → joining s ≡ with_parts (opened s)
unfolding joining
joining-out s = fold_out-Type Joining _ s

-- ---- a type's joining has the type itself

abbrev IsItself : TermType → Type 0
IsItself s = (joining s).itself ≡ s

abbrev closed : Type-F ((s : TermType) × IsItself s) → Type-F TermType
closed y = map-Type ((s : TermType) × IsItself s) TermType (λ e. e.0) y

abbrev again : Type-F TermType → Type-F TermType
again a = map-Type Joining TermType (λ j. j.itself) (map-Type TermType Joining joining a)

all_themselves : (es : List ((s : TermType) × IsItself s))
    → map (λ j. j.itself) (map joining (map (λ e. e.0) es)) ≡ map (λ e. e.0) es
all_themselves [] = refl
all_themselves (e ∷ es) = λ i. e.1 i ∷ all_themselves es i

level_itself : (y : Type-F ((s : TermType) × IsItself s)) → again (closed y) ≡ closed y
level_itself Type-F.Untyped = refl
level_itself Type-F.Truth = refl
level_itself Type-F.Int = refl
level_itself Type-F.Chars = refl
level_itself (Type-F.Enum d) = refl
level_itself (Type-F.Abstract d) = refl
level_itself (Type-F.Prod es) = ap (λ ts. Type-F.Prod ts) (all_themselves es)
level_itself (Type-F.Seq e) = ap (λ t. Type-F.Seq t) e.1
level_itself (Type-F.Set e) = ap (λ t. Type-F.Set t) e.1

itself : (s : TermType) → IsItself s
itself =
    ind-Type IsItself (λ x y is. subst (λ a. IsItself (roll-Type a)) is
    (ap (λ j. j.itself) (joining-out (roll-Type (closed y)))
    ∙ ap (λ a. roll-Type (again a)) (out_roll (closed y)) ∙ ap (λ a. roll-Type a) (level_itself y)))

each_itself : (ts : List TermType) → map (λ j. j.itself) (map joining ts) ≡ ts
each_itself [] = refl
each_itself (t ∷ ts) = λ i. itself t i ∷ each_itself ts i

-- ---- joins by one level of each type

level_join : (a b : Type-F TermType)
    → join_level (map-Type TermType Joining joining a) b ≡ join_of a b
level_join Type-F.Untyped b = refl
level_join (Type-F.Prod ts) Type-F.Untyped =
    ap (λ us. Some (roll-Type (Type-F.Prod us))) (each_itself ts)
level_join (Type-F.Seq t) Type-F.Untyped = ap (λ u. Some (roll-Type (Type-F.Seq u))) (itself t)
level_join (Type-F.Set t) Type-F.Untyped = ap (λ u. Some (roll-Type (Type-F.Set u))) (itself t)
level_join a b = refl

pub join-out : (s t : TermType) → join s t ≡ join_of (out-Type s) (out-Type t)
join-out s t = ap (λ j. j.with t) (joining-out s) ∙ level_join (out-Type s) (out-Type t)

pub joins-drop : (ss ts : List TermType) (i : ℕ) (s t : TermType)
    → i < length ss → i < length ts
    → joins (drop i ss) (drop i ts)
    ≡ before (join (get_or ss i s) (get_or ts i t)) (joins (drop (i + 1) ss) (drop (i + 1) ts))
joins-drop ss ts i s t h k = λ j. joins (drop_more ss i s h j) (drop_more ts i t k j)

before_none : {A : Type 0} (o : Option A) (os : Option (List A)) → None ≡ os → None ≡ before o os
before_none None os e = refl
before_none (Some x) None e = refl
before_none (Some x) (Some xs) e = absurd (cc)

-- lists of unlike lengths have no joins
pub joins-lengths : (ss ts : List TermType) → (length ss ≡ length ts → ⊥) → None ≡ joins ss ts
joins-lengths [] [] h = absurd (h refl)
joins-lengths [] (t ∷ ts) h = refl
joins-lengths (s ∷ ss) [] h = refl
joins-lengths (s ∷ ss) (t ∷ ts) h =
    before_none (join s t) (joins ss ts) (joins-lengths ss ts (λ e. h (omega (arith, e))))

pub ruleset type_steps =
    (type_of-out, domain_of-out, fits-out, join-out, the_lemmas, domain_views.the_lemmas)
