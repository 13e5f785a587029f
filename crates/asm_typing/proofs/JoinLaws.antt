-- The join of two types is the least type that both fit.
use Rattle.std.proofs.Common.{◌≡◌, ℕ, ◌==◌, Bool, true, false, Option, Some, None, List, []}
use Rattle.std.proofs.Common.{◌∷◌, map, cond, refl, sym, ap, subst, ◌∙◌}
use Rattle.std.specs.Option.{option_map, option_map_or, option_and_then}
use Rattle.std.proofs.lemmas.Bool.Decides.{Decides-eqb}
use Rattle.std.proofs.lemmas.Option.{option_and_then_some}
use Rattle.asm_value.specs.Domain.{each_passes}
use Rattle.asm_value.proofs.Listing.{first_true, second_true, both_true}
use Rattle.asm_typing.specs.declared.types.Type.{«Type» as TermType}
use Rattle.asm_typing.specs.declared.types.Type.TheOpen.{Type-F}
use Rattle.asm_typing.specs.declared.types.Type.TheVariants as type
use Rattle.asm_typing.specs.declared.types.Type.TheFolds.{ind-Type, map-Type}
use Rattle.asm_typing.specs.declared.types.Type.TheViews.{out-Type, roll-Type}
use Rattle.asm_typing.specs.Fits.{fits}
use Rattle.asm_typing.specs.Joins.{join, joins, join_from, before, join_of}
use Rattle.asm_typing.specs.Order.{BothFitTheJoin, TheJoinIsLeast, JoinsEitherWay}
use Rattle.asm_typing.specs.Order.{JoinsInAnyOrder, FitsWhatItJoinsTo, all_fit, AllFitTheirJoin}
use Rattle.asm_typing.specs.Order.{TheirJoinIsLeast}
use Rattle.asm_typing.proofs.TypeSteps.{out_roll, roll_out, out_truth, out_int, out_chars, out_enum}
use Rattle.asm_typing.proofs.TypeSteps.{out_abstract, out_prod, out_seq, out_set, fits_of, fits-out}
use Rattle.asm_typing.proofs.TypeSteps.{join-out, out_untyped}
use Rattle.asm_typing.proofs.FitLaws.{fits-as, fits-roll, fits_itself, fits_onward, fit_both_ways}

pub join-as : (s t : TermType) (a b : Type-F TermType) → out-Type s ≡ a → out-Type t ≡ b
    → join s t ≡ join_of a b
join-as s t a b e f = join-out s t ∙ (λ i. join_of (e i) (f i))

join-roll : (a : Type-F TermType) (t : TermType)
    → join (roll-Type a) t ≡ join_of a (out-Type t)
join-roll a t = join-as (roll-Type a) t a (out-Type t) (out_roll a) refl

roll_fits : (a b : Type-F TermType) → fits (roll-Type a) (roll-Type b) ≡ fits_of a b
roll_fits a b = fits-as (roll-Type a) (roll-Type b) a b (out_roll a) (out_roll b)

same_is : (d : ℕ) → (d == d) ≡ true
same_is d = (Decides-eqb d d).1 refl

unlike : false ≡ true → ⊥
unlike e = absurd (cc)

-- ---- joins either way

abbrev Turns : TermType → Type 0
Turns s = (t : TermType) → join s t ≡ join t s

abbrev turned : Type-F ((s : TermType) × Turns s) → Type-F TermType
turned y = map-Type ((s : TermType) × Turns s) TermType (λ e. e.0) y

each_turns : (es : List ((s : TermType) × Turns s)) (ts : List TermType)
    → joins (map (λ e. e.0) es) ts ≡ joins ts (map (λ e. e.0) es)
each_turns [] [] = refl
each_turns [] (t ∷ ts) = refl
each_turns (e ∷ es) [] = refl
each_turns (e ∷ es) (t ∷ ts) = λ i. before (e.1 t i) (each_turns es ts i)

number_cases : (make : ℕ → TermType) (d e : ℕ) (b c : Bool) → (d == e) ≡ b → (e == d) ≡ c
    → cond b (Some (make d)) None ≡ cond c (Some (make e)) None
number_cases make d e true true p q = ap (λ n. Some (make n)) ((Decides-eqb d e).0 p)
number_cases make d e false false p q = refl
number_cases make d e true false p q =
    absurd (unlike (sym q ∙ (Decides-eqb e d).1 (sym ((Decides-eqb d e).0 p))))
number_cases make d e false true p q =
    absurd (unlike (sym p ∙ (Decides-eqb d e).1 (sym ((Decides-eqb e d).0 q))))

number_turns : (make : ℕ → TermType) (d e : ℕ)
    → cond (d == e) (Some (make d)) None ≡ cond (e == d) (Some (make e)) None
number_turns make d e = number_cases make d e (d == e) (e == d) refl refl

untyped_last : (b : Type-F TermType) → join_of b Type-F.Untyped ≡ Some (roll-Type b)
untyped_last Type-F.Untyped = refl
untyped_last b = refl

level_turns : (y : Type-F ((s : TermType) × Turns s)) (b : Type-F TermType)
    → join_of (turned y) b ≡ join_of b (turned y)
level_turns Type-F.Untyped b = sym (untyped_last b)
level_turns (Type-F.Enum d) (Type-F.Enum e) = number_turns (λ n. type.Enum n) d e
level_turns (Type-F.Abstract d) (Type-F.Abstract e) = number_turns (λ n. type.Abstract n) d e
level_turns (Type-F.Prod es) (Type-F.Prod ts) =
    ap (option_map (λ us. type.Prod us)) (each_turns es ts)
level_turns (Type-F.Seq e) (Type-F.Seq t) = ap (option_map (λ u. type.Seq u)) (e.1 t)
level_turns (Type-F.Set e) (Type-F.Set t) = ap (option_map (λ u. type.Set u)) (e.1 t)
level_turns y Type-F.Untyped = refl
level_turns y b = refl

pub joins_either_way : JoinsEitherWay
joins_either_way =
    ind-Type Turns (λ x y is. subst (λ a. Turns (roll-Type a)) is
    (λ t. join-roll (turned y) t ∙ level_turns y (out-Type t)
    ∙ sym (join-as t (roll-Type (turned y)) (out-Type t) (turned y) refl (out_roll (turned y)))))

-- ---- the first type fits the join, where there is one

abbrev above : TermType → Option TermType → Bool
above s o = option_map_or (λ u. fits s u) o true

abbrev Above : TermType → Type 0
Above s = (t : TermType) → above s (join s t) ≡ true

abbrev under : Type-F ((s : TermType) × Above s) → Type-F TermType
under y = map-Type ((s : TermType) × Above s) TermType (λ e. e.0) y

abbrev all_above : List TermType → Option (List TermType) → Bool
all_above ss o = option_map_or (λ us. each_passes (map fits ss) us) o true

before_above : (s : TermType) (ss : List TermType) (o : Option TermType)
    (os : Option (List TermType))
    → above s o ≡ true → all_above ss os ≡ true → all_above (s ∷ ss) (before o os) ≡ true
before_above s ss None os p q = refl
before_above s ss (Some u) None p q = refl
before_above s ss (Some u) (Some us) p q = both_true (fits s u) _ p q

each_above : (es : List ((s : TermType) × Above s)) (ts : List TermType)
    → all_above (map (λ e. e.0) es) (joins (map (λ e. e.0) es) ts) ≡ true
each_above [] [] = refl
each_above [] (t ∷ ts) = refl
each_above (e ∷ es) [] = refl
each_above (e ∷ es) (t ∷ ts) =
    before_above e.0 (map (λ f. f.0) es) (join e.0 t) (joins (map (λ f. f.0) es) ts) (e.1 t)
    (each_above es ts)

prod_above : (ss : List TermType) (o : Option (List TermType)) → all_above ss o ≡ true
    → above (roll-Type (Type-F.Prod ss)) (option_map (λ us. type.Prod us) o) ≡ true
prod_above ss None p = refl
prod_above ss (Some us) p =
    fits-as _ _ (Type-F.Prod ss) (Type-F.Prod us) (out_roll (Type-F.Prod ss)) (out_prod us) ∙ p

seq_above : (s : TermType) (o : Option TermType) → above s o ≡ true
    → above (roll-Type (Type-F.Seq s)) (option_map (λ u. type.Seq u) o) ≡ true
seq_above s None p = refl
seq_above s (Some u) p =
    fits-as _ _ (Type-F.Seq s) (Type-F.Seq u) (out_roll (Type-F.Seq s)) (out_seq u) ∙ p

set_above : (s : TermType) (o : Option TermType) → above s o ≡ true
    → above (roll-Type (Type-F.Set s)) (option_map (λ u. type.Set u) o) ≡ true
set_above s None p = refl
set_above s (Some u) p =
    fits-as _ _ (Type-F.Set s) (Type-F.Set u) (out_roll (Type-F.Set s)) (out_set u) ∙ p

-- a type that is kept where a test passes
kept_above : (s u : TermType) (b : Bool) → fits s u ≡ true
    → above s (cond b (Some u) None) ≡ true
kept_above s u true p = p
kept_above s u false p = refl

level_above : (y : Type-F ((s : TermType) × Above s)) (b : Type-F TermType)
    → above (roll-Type (under y)) (join_of (under y) b) ≡ true
level_above Type-F.Untyped b = roll_fits Type-F.Untyped b
level_above Type-F.Truth Type-F.Truth = fits-as _ _ _ _ (out_roll Type-F.Truth) out_truth
level_above Type-F.Int Type-F.Int = fits-as _ _ _ _ (out_roll Type-F.Int) out_int
level_above Type-F.Chars Type-F.Chars = fits-as _ _ _ _ (out_roll Type-F.Chars) out_chars
level_above (Type-F.Enum d) (Type-F.Enum e) =
    kept_above (roll-Type (Type-F.Enum d)) (type.Enum d) (d == e)
    (fits-as _ _ (Type-F.Enum d) (Type-F.Enum d) (out_roll (Type-F.Enum d)) (out_enum d)
    ∙ same_is d)
level_above (Type-F.Abstract d) (Type-F.Abstract e) =
    kept_above (roll-Type (Type-F.Abstract d)) (type.Abstract d) (d == e)
    (fits-as _ _ (Type-F.Abstract d) (Type-F.Abstract d) (out_roll (Type-F.Abstract d))
    (out_abstract d) ∙ same_is d)
level_above (Type-F.Prod es) (Type-F.Prod ts) =
    prod_above (map (λ e. e.0) es) (joins (map (λ e. e.0) es) ts) (each_above es ts)
level_above (Type-F.Seq e) (Type-F.Seq t) = seq_above e.0 (join e.0 t) (e.1 t)
level_above (Type-F.Set e) (Type-F.Set t) = set_above e.0 (join e.0 t) (e.1 t)
level_above y Type-F.Untyped = fits_itself (roll-Type (under y))
level_above y b = refl

first_above : (s t : TermType) → above s (join s t) ≡ true
first_above =
    ind-Type Above (λ x y is. subst (λ a. Above (roll-Type a)) is
    (λ t. ap (above (roll-Type (under y))) (join-roll (under y) t) ∙ level_above y (out-Type t)))

first_fits : (s t u : TermType) → join s t ≡ Some u → fits s u ≡ true
first_fits s t u e = ap (above s) (sym e) ∙ first_above s t

second_fits : (s t u : TermType) → join s t ≡ Some u → fits t u ≡ true
second_fits s t u e = first_fits t s u (joins_either_way t s ∙ e)

pub both_fit_the_join : BothFitTheJoin
both_fit_the_join s t u e = (first_fits s t u e, second_fits s t u e)

-- ---- what both types fit, their join fits

abbrev within : Option TermType → TermType → Bool
within o u = option_map_or (λ v. fits v u) o false

abbrev Least : TermType → Type 0
Least s = (t u : TermType) → fits s u ≡ true → fits t u ≡ true → within (join s t) u ≡ true

abbrev low : Type-F ((s : TermType) × Least s) → Type-F TermType
low y = map-Type ((s : TermType) × Least s) TermType (λ e. e.0) y

abbrev all_within : Option (List TermType) → List TermType → Bool
all_within o us = option_map_or (λ vs. each_passes (map fits vs) us) o false

before_within : (o : Option TermType) (os : Option (List TermType)) (u : TermType)
    (us : List TermType)
    → within o u ≡ true → all_within os us ≡ true → all_within (before o os) (u ∷ us) ≡ true
before_within None os u us p q = absurd (cc)
before_within (Some v) None u us p q = absurd (cc)
before_within (Some v) (Some vs) u us p q = both_true (fits v u) _ p q

each_least : (es : List ((s : TermType) × Least s)) (ts us : List TermType)
    → each_passes (map fits (map (λ e. e.0) es)) us ≡ true → each_passes (map fits ts) us ≡ true
    → all_within (joins (map (λ e. e.0) es) ts) us ≡ true
each_least [] [] [] p q = refl
each_least (e ∷ es) (t ∷ ts) (u ∷ us) p q =
    before_within (join e.0 t) (joins (map (λ f. f.0) es) ts) u us
    (e.1 t u (first_true (fits e.0 u) _ p) (first_true (fits t u) _ q))
    (each_least es ts us (second_true (fits e.0 u) _ p) (second_true (fits t u) _ q))
each_least [] (t ∷ ts) [] p q = absurd (cc)
each_least [] (t ∷ ts) (u ∷ us) p q = absurd (cc)
each_least (e ∷ es) [] [] p q = absurd (cc)
each_least (e ∷ es) [] (u ∷ us) p q = absurd (cc)
each_least es ts us p q = absurd (cc)

prod_within : (o : Option (List TermType)) (us : List TermType) → all_within o us ≡ true
    → within (option_map (λ vs. type.Prod vs) o) (roll-Type (Type-F.Prod us)) ≡ true
prod_within None us p = absurd (cc)
prod_within (Some vs) us p =
    fits-as _ _ (Type-F.Prod vs) (Type-F.Prod us) (out_prod vs) (out_roll (Type-F.Prod us)) ∙ p

seq_within : (o : Option TermType) (u : TermType) → within o u ≡ true
    → within (option_map (λ v. type.Seq v) o) (roll-Type (Type-F.Seq u)) ≡ true
seq_within None u p = absurd (cc)
seq_within (Some v) u p =
    fits-as _ _ (Type-F.Seq v) (Type-F.Seq u) (out_seq v) (out_roll (Type-F.Seq u)) ∙ p

set_within : (o : Option TermType) (u : TermType) → within o u ≡ true
    → within (option_map (λ v. type.Set v) o) (roll-Type (Type-F.Set u)) ≡ true
set_within None u p = absurd (cc)
set_within (Some v) u p =
    fits-as _ _ (Type-F.Set v) (Type-F.Set u) (out_set v) (out_roll (Type-F.Set u)) ∙ p

kept_within : (s u : TermType) (b : Bool) → b ≡ true → fits s u ≡ true
    → within (cond b (Some s) None) u ≡ true
kept_within s u true e p = p
kept_within s u false e p = absurd (cc)

-- two numbers that are a third are one
meet_there : (d e f : ℕ) → (d == f) ≡ true → (e == f) ≡ true → (d == e) ≡ true
meet_there d e f p q =
    (Decides-eqb d e).1 ((Decides-eqb d f).0 p ∙ sym ((Decides-eqb e f).0 q))

level_least : (y : Type-F ((s : TermType) × Least s)) (c b : Type-F TermType)
    → fits_of (low y) c ≡ true → fits_of b c ≡ true
    → within (join_of (low y) b) (roll-Type c) ≡ true
level_least Type-F.Untyped c b p q = roll_fits b c ∙ q
level_least Type-F.Truth Type-F.Truth Type-F.Untyped p q = roll_fits Type-F.Truth Type-F.Truth
level_least Type-F.Truth Type-F.Truth Type-F.Truth p q =
    fits-as _ _ _ _ out_truth (out_roll Type-F.Truth)
level_least Type-F.Int Type-F.Int Type-F.Untyped p q = roll_fits Type-F.Int Type-F.Int
level_least Type-F.Int Type-F.Int Type-F.Int p q = fits-as _ _ _ _ out_int (out_roll Type-F.Int)
level_least Type-F.Chars Type-F.Chars Type-F.Untyped p q = roll_fits Type-F.Chars Type-F.Chars
level_least Type-F.Chars Type-F.Chars Type-F.Chars p q =
    fits-as _ _ _ _ out_chars (out_roll Type-F.Chars)
level_least (Type-F.Enum d) (Type-F.Enum f) Type-F.Untyped p q =
    roll_fits (Type-F.Enum d) (Type-F.Enum f) ∙ p
level_least (Type-F.Enum d) (Type-F.Enum f) (Type-F.Enum e) p q =
    kept_within (type.Enum d) (roll-Type (Type-F.Enum f)) (d == e) (meet_there d e f p q)
    (fits-as _ _ (Type-F.Enum d) (Type-F.Enum f) (out_enum d) (out_roll (Type-F.Enum f)) ∙ p)
level_least (Type-F.Abstract d) (Type-F.Abstract f) Type-F.Untyped p q =
    roll_fits (Type-F.Abstract d) (Type-F.Abstract f) ∙ p
level_least (Type-F.Abstract d) (Type-F.Abstract f) (Type-F.Abstract e) p q =
    kept_within (type.Abstract d) (roll-Type (Type-F.Abstract f)) (d == e) (meet_there d e f p q)
    (fits-as _ _ (Type-F.Abstract d) (Type-F.Abstract f) (out_abstract d)
    (out_roll (Type-F.Abstract f)) ∙ p)
level_least (Type-F.Prod es) (Type-F.Prod us) Type-F.Untyped p q =
    roll_fits (Type-F.Prod (map (λ e. e.0) es)) (Type-F.Prod us) ∙ p
level_least (Type-F.Prod es) (Type-F.Prod us) (Type-F.Prod ts) p q =
    prod_within (joins (map (λ e. e.0) es) ts) us (each_least es ts us p q)
level_least (Type-F.Seq e) (Type-F.Seq u) Type-F.Untyped p q =
    roll_fits (Type-F.Seq e.0) (Type-F.Seq u) ∙ p
level_least (Type-F.Seq e) (Type-F.Seq u) (Type-F.Seq t) p q =
    seq_within (join e.0 t) u (e.1 t u p q)
level_least (Type-F.Set e) (Type-F.Set u) Type-F.Untyped p q =
    roll_fits (Type-F.Set e.0) (Type-F.Set u) ∙ p
level_least (Type-F.Set e) (Type-F.Set u) (Type-F.Set t) p q =
    set_within (join e.0 t) u (e.1 t u p q)
level_least y c b p q = absurd (cc)

least_at : (y : Type-F ((s : TermType) × Least s)) → Least (roll-Type (low y))
least_at y t u p q =
    ap (λ o. within o u) (join-roll (low y) t)
    ∙ ap (within (join_of (low y) (out-Type t))) (sym (roll_out u))
    ∙ level_least y (out-Type u) (out-Type t) (sym (fits-roll (low y) u) ∙ p)
    (sym (fits-out t u) ∙ q)

pub the_join_is_least : TheJoinIsLeast
the_join_is_least =
    ind-Type Least (λ x y is. subst (λ a. Least (roll-Type a)) is (least_at y))

-- ---- the join as the least of those above

there : (o : Option TermType) (u : TermType) → within o u ≡ true
    → (v : TermType) × (o ≡ Some v) × (fits v u ≡ true)
there None u p = absurd (cc)
there (Some v) u p = (v, refl, p)

-- where both types fit a third, there is a join, and it fits the third
joined_under : (s t u : TermType) → fits s u ≡ true → fits t u ≡ true
    → (v : TermType) × (join s t ≡ Some v) × (fits v u ≡ true)
joined_under s t u p q = there (join s t) u (the_join_is_least s t u p q)

join_fits : (s t v u : TermType) → join s t ≡ Some v → fits s u ≡ true → fits t u ≡ true
    → fits v u ≡ true
join_fits s t v u e p q = ap (λ o. within o u) (sym e) ∙ the_join_is_least s t u p q

fits_joined : (s t : TermType) → fits s t ≡ true → join s t ≡ Some t
fits_joined s t p =
    let j = joined_under s t t p (fits_itself t) in
    j.1 ∙ ap (λ v. Some v) (fit_both_ways j.0 t j.2 (second_fits s t j.0 j.1))

pub fits_what_it_joins_to : FitsWhatItJoinsTo
fits_what_it_joins_to s t = (fits_joined s t, first_fits s t t)

-- ---- joins in any order

abbrev left_first : TermType → TermType → TermType → Option TermType
left_first s t u = option_and_then (λ v. join v u) (join s t)

abbrev right_first : TermType → TermType → TermType → Option TermType
right_first s t u = option_and_then (λ v. join s v) (join t u)

-- with the join v of s and t, and the join w of v and u
regrouped : (s t u v w : TermType) → join s t ≡ Some v → join v u ≡ Some w
    → right_first s t u ≡ Some w
regrouped s t u v w e f =
    let v_w = first_fits v u w f in
    let u_w = second_fits v u w f in
    let s_w = fits_onward s v w (first_fits s t v e) v_w in
    let t_w = fits_onward t v w (second_fits s t v e) v_w in
    let j = joined_under t u w t_w u_w in
    let k = joined_under s j.0 w s_w j.2 in
    let j_k = second_fits s j.0 k.0 k.1 in
    let t_k = fits_onward t j.0 k.0 (first_fits t u j.0 j.1) j_k in
    let u_k = fits_onward u j.0 k.0 (second_fits t u j.0 j.1) j_k in
    let v_k = join_fits s t v k.0 e (first_fits s j.0 k.0 k.1) t_k in
    let w_k = join_fits v u w k.0 f v_k u_k in
    ap (option_and_then (λ x. join s x)) j.1 ∙ k.1
    ∙ ap (λ x. Some x) (fit_both_ways k.0 w k.2 w_k)

rightward : (s t u w : TermType) → left_first s t u ≡ Some w → right_first s t u ≡ Some w
rightward s t u w e =
    option_and_then_some (λ v. join v u) (join s t) w e
    (λ v f g. regrouped s t u v w f g)

and_then_alike : (f g : TermType → Option TermType) (o : Option TermType)
    → ((v : TermType) → f v ≡ g v) → option_and_then f o ≡ option_and_then g o
and_then_alike f g None h = refl
and_then_alike f g (Some v) h = h v

turned_round : (s t u : TermType) → right_first s t u ≡ left_first u t s
turned_round s t u =
    and_then_alike (λ v. join s v) (λ v. join v s) (join t u) (λ v. joins_either_way s v)
    ∙ ap (option_and_then (λ v. join v s)) (joins_either_way t u)

same_options : (o p : Option TermType) → ((w : TermType) → o ≡ Some w → p ≡ Some w)
    → ((w : TermType) → p ≡ Some w → o ≡ Some w) → o ≡ p
same_options None None f g = refl
same_options None (Some w) f g = g w refl
same_options (Some v) p f g = sym (f v refl)

pub joins_in_any_order : JoinsInAnyOrder
joins_in_any_order s t u =
    same_options (left_first s t u) (right_first s t u) (rightward s t u)
    (λ w e. sym (turned_round u t s)
    ∙ rightward u t s w (sym (turned_round s t u) ∙ e))

-- ---- joins of several types

abbrev then_joined : List TermType → Option TermType → Option TermType
then_joined ts o = option_and_then (λ v. join_from v ts) o

untyped_fits : (u : TermType) → fits type.Untyped u ≡ true
untyped_fits u = fits-as type.Untyped u Type-F.Untyped (out-Type u) out_untyped refl

-- the first type and all others fit what they are joined to
fit_from : (s : TermType) (ts : List TermType) (u : TermType) → join_from s ts ≡ Some u
    → (fits s u ≡ true) × (all_fit ts u ≡ true)
fit_from s [] u e = (ap (λ o. above s o) (sym e) ∙ fits_itself s, refl)
fit_from s (t ∷ ts) u e =
    option_and_then_some (λ v. join_from v ts) (join s t) u e
    (λ v f g. let h = fit_from v ts u g in (
      fits_onward s v u (first_fits s t v f) h.0,
      both_true (fits t u) (all_fit ts u) (fits_onward t v u (second_fits s t v f) h.0) h.1,
    ))

pub all_fit_their_join : AllFitTheirJoin
all_fit_their_join ts u e = (fit_from type.Untyped ts u e).1

least_from : (s : TermType) (ts : List TermType) (u : TermType) → fits s u ≡ true
    → all_fit ts u ≡ true → within (join_from s ts) u ≡ true
least_from s [] u p q = p
least_from s (t ∷ ts) u p q =
    let j = joined_under s t u p (first_true (fits t u) (all_fit ts u) q) in
    ap (λ o. within (then_joined ts o) u) j.1
    ∙ least_from j.0 ts u j.2 (second_true (fits t u) (all_fit ts u) q)

pub their_join_is_least : TheirJoinIsLeast
their_join_is_least ts u p = least_from type.Untyped ts u (untyped_fits u) p
