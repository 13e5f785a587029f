-- `fits` is an order of types.
use Rattle.std.proofs.Common.{◌≡◌, ℕ, ◌==◌, true, List, [], ◌∷◌, map}
use Rattle.std.proofs.Common.{refl, sym, ap, subst, ◌∙◌}
use Rattle.std.proofs.lemmas.Bool.Decides.{Decides-eqb}
use Rattle.asm_value.specs.Domain.{each_passes}
use Rattle.asm_typing.specs.declared.types.Type.{«Type» as TermType}
use Rattle.asm_typing.specs.declared.types.Type.TheOpen.{Type-F}
use Rattle.asm_typing.specs.declared.types.Type.TheFolds.{ind-Type, map-Type}
use Rattle.asm_typing.specs.declared.types.Type.TheViews.{out-Type, roll-Type}
use Rattle.asm_typing.specs.Fits.{fits}
use Rattle.asm_typing.specs.Order.{FitsItself, FitsOnward, FitBothWays}
use Rattle.asm_value.proofs.Listing.{first_true, second_true, both_true}
use Rattle.asm_typing.proofs.TypeSteps.{out_roll, roll_out, fits_of, fits-out}

-- two types that are of these levels
pub fits-as : (s t : TermType) (a b : Type-F TermType) → out-Type s ≡ a → out-Type t ≡ b
    → fits s t ≡ fits_of a b
fits-as s t a b e f = fits-out s t ∙ (λ i. fits_of (e i) (f i))

pub fits-roll : (a : Type-F TermType) (t : TermType)
    → fits (roll-Type a) t ≡ fits_of a (out-Type t)
fits-roll a t = fits-as (roll-Type a) t a (out-Type t) (out_roll a) refl

-- ---- each type fits itself

abbrev FitsSelf : TermType → Type 0
FitsSelf s = fits s s ≡ true

abbrev self : Type-F ((s : TermType) × FitsSelf s) → Type-F TermType
self y = map-Type ((s : TermType) × FitsSelf s) TermType (λ e. e.0) y

each_self : (es : List ((s : TermType) × FitsSelf s))
    → each_passes (map fits (map (λ e. e.0) es)) (map (λ e. e.0) es) ≡ true
each_self [] = refl
each_self (e ∷ es) = both_true (fits e.0 e.0) _ e.1 (each_self es)

level_self : (y : Type-F ((s : TermType) × FitsSelf s)) → fits_of (self y) (self y) ≡ true
level_self Type-F.Untyped = refl
level_self Type-F.Truth = refl
level_self Type-F.Int = refl
level_self Type-F.Chars = refl
level_self (Type-F.Enum d) = (Decides-eqb d d).1 refl
level_self (Type-F.Abstract d) = (Decides-eqb d d).1 refl
level_self (Type-F.Prod es) = each_self es
level_self (Type-F.Seq e) = e.1
level_self (Type-F.Set e) = e.1

pub fits_itself : FitsItself
fits_itself =
    ind-Type FitsSelf (λ x y is. subst (λ a. FitsSelf (roll-Type a)) is
    (fits-as _ _ (self y) (self y) (out_roll (self y)) (out_roll (self y)) ∙ level_self y))

-- ---- what a type fits fits onward

abbrev Onward : TermType → Type 0
Onward s = (t u : TermType) → fits s t ≡ true → fits t u ≡ true → fits s u ≡ true

abbrev on : Type-F ((s : TermType) × Onward s) → Type-F TermType
on y = map-Type ((s : TermType) × Onward s) TermType (λ e. e.0) y

each_onward : (es : List ((s : TermType) × Onward s)) (ts us : List TermType)
    → each_passes (map fits (map (λ e. e.0) es)) ts ≡ true → each_passes (map fits ts) us ≡ true
    → each_passes (map fits (map (λ e. e.0) es)) us ≡ true
each_onward [] [] [] p q = refl
each_onward (e ∷ es) (t ∷ ts) (u ∷ us) p q =
    both_true (fits e.0 u) _
    (e.1 t u (first_true (fits e.0 t) _ p) (first_true (fits t u) _ q))
    (each_onward es ts us (second_true (fits e.0 t) _ p) (second_true (fits t u) _ q))
each_onward es ts us p q = absurd (cc)

same_number : (d e f : ℕ) → (d == e) ≡ true → (e == f) ≡ true → (d == f) ≡ true
same_number d e f p q = (Decides-eqb d f).1 ((Decides-eqb d e).0 p ∙ (Decides-eqb e f).0 q)

level_onward : (y : Type-F ((s : TermType) × Onward s)) (b c : Type-F TermType)
    → fits_of (on y) b ≡ true → fits_of b c ≡ true → fits_of (on y) c ≡ true
level_onward Type-F.Untyped b c p q = refl
level_onward Type-F.Truth Type-F.Truth c p q = q
level_onward Type-F.Int Type-F.Int c p q = q
level_onward Type-F.Chars Type-F.Chars c p q = q
level_onward (Type-F.Enum d) (Type-F.Enum e) (Type-F.Enum f) p q = same_number d e f p q
level_onward (Type-F.Abstract d) (Type-F.Abstract e) (Type-F.Abstract f) p q = same_number d e f p q
level_onward (Type-F.Prod es) (Type-F.Prod ts) (Type-F.Prod us) p q = each_onward es ts us p q
level_onward (Type-F.Seq e) (Type-F.Seq t) (Type-F.Seq u) p q = e.1 t u p q
level_onward (Type-F.Set e) (Type-F.Set t) (Type-F.Set u) p q = e.1 t u p q
level_onward y b c p q = absurd (cc)

pub fits_onward : FitsOnward
fits_onward =
    ind-Type Onward (λ x y is. subst (λ a. Onward (roll-Type a)) is
    (λ t u p q. fits-roll (on y) u ∙ level_onward y (out-Type t) (out-Type u)
    (sym (fits-roll (on y) t) ∙ p) (sym (fits-out t u) ∙ q)))

-- ---- two types that fit each other are equal

abbrev BothWays : TermType → Type 0
BothWays s = (t : TermType) → fits s t ≡ true → fits t s ≡ true → s ≡ t

abbrev both : Type-F ((s : TermType) × BothWays s) → Type-F TermType
both y = map-Type ((s : TermType) × BothWays s) TermType (λ e. e.0) y

each_both : (es : List ((s : TermType) × BothWays s)) (ts : List TermType)
    → each_passes (map fits (map (λ e. e.0) es)) ts ≡ true
    → each_passes (map fits ts) (map (λ e. e.0) es) ≡ true → map (λ e. e.0) es ≡ ts
each_both [] [] p q = refl
each_both (e ∷ es) (t ∷ ts) p q =
    λ i. e.1 t (first_true (fits e.0 t) _ p) (first_true (fits t e.0) _ q) i
    ∷ each_both es ts (second_true (fits e.0 t) _ p) (second_true (fits t e.0) _ q) i
each_both es ts p q = absurd (cc)

level_both : (y : Type-F ((s : TermType) × BothWays s)) (b : Type-F TermType)
    → fits_of (both y) b ≡ true → fits_of b (both y) ≡ true → both y ≡ b
level_both Type-F.Untyped Type-F.Untyped p q = refl
level_both Type-F.Truth Type-F.Truth p q = refl
level_both Type-F.Int Type-F.Int p q = refl
level_both Type-F.Chars Type-F.Chars p q = refl
level_both (Type-F.Enum d) (Type-F.Enum e) p q = ap (λ n. Type-F.Enum n) ((Decides-eqb d e).0 p)
level_both (Type-F.Abstract d) (Type-F.Abstract e) p q =
    ap (λ n. Type-F.Abstract n) ((Decides-eqb d e).0 p)
level_both (Type-F.Prod es) (Type-F.Prod ts) p q = ap (λ us. Type-F.Prod us) (each_both es ts p q)
level_both (Type-F.Seq e) (Type-F.Seq t) p q = ap (λ u. Type-F.Seq u) (e.1 t p q)
level_both (Type-F.Set e) (Type-F.Set t) p q = ap (λ u. Type-F.Set u) (e.1 t p q)
level_both y b p q = absurd (cc)

pub fit_both_ways : FitBothWays
fit_both_ways =
    ind-Type BothWays (λ x y is. subst (λ a. BothWays (roll-Type a)) is
    (λ t p q. ap (λ a. roll-Type a) (level_both y (out-Type t) (sym (fits-roll (both y) t) ∙ p)
    (sym (fits-as t (roll-Type (both y)) (out-Type t) (both y) refl (out_roll (both y))) ∙ q))
    ∙ roll_out t))
