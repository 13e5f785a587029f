-- What `fits` computes.
use Rattle.std.proofs.Common.{◌≡◌, ℕ, ◌+◌, ◌<◌, Bool, true, false, ◌&&◌, List, [], ◌∷◌, map, length}
use Rattle.std.proofs.Common.{drop, get_or, refl, ap, arith}
use Rattle.std.specs.List.{list_all}
use Rattle.std.proofs.lemmas.List.{drop_more}
use Rattle.asm_value.specs.declared.value.Value.{Value}
use Rattle.asm_value.specs.declared.value.Value.TheViews as views
use Rattle.asm_value.specs.declared.value.Value.TheViews.{out-Value}
use Rattle.asm_value.specs.declared.domain.Domain.{Domain}
use Rattle.asm_value.specs.declared.domain.Domain.TheFolds.{fold_out-Domain, map-Domain}
use Rattle.asm_value.specs.declared.domain.Domain.TheViews.{out-Domain, the_lemmas}
use Rattle.asm_value.specs.declared.domain.DomainInfo.{DomainInfo}
use Rattle.asm_value.specs.declared.domain.Live.{Live}
use Rattle.asm_value.specs.Domain.{fits, fits_level, each_passes}

pub fits-out : (domains : List DomainInfo) (live : Live) (d : Domain) (v : Value)
    → fits domains live d v ≡ fits_level domains live
    (map-Domain Domain (Value → Bool) (fits domains live) (out-Domain d)) (out-Value v)
unfolding fits
fits-out domains live d v = ap (λ f. f v) (fold_out-Domain (Value → Bool) _ d)

pub list_all-drop : {A : Type 0} (f : A → Bool) (xs : List A) (i : ℕ) (d : A) → i < length xs
    → list_all f (drop i xs) ≡ (f (get_or xs i d) && list_all f (drop (i + 1) xs))
list_all-drop f xs i d h = ap (list_all f) (drop_more xs i d h)

pub each_passes-drop : {A B : Type 0} (f : B → A → Bool) (bs : List B) (xs : List A) (i : ℕ) (b : B)
    (x : A)
    → i < length bs → i < length xs
    → each_passes (map f (drop i bs)) (drop i xs)
    ≡ (f (get_or bs i b) (get_or xs i x) && each_passes (map f (drop (i + 1) bs))
    (drop (i + 1) xs))
each_passes-drop f bs xs i b x h k =
    λ j. each_passes (map f (drop_more bs i b h j)) (drop_more xs i x k j)

and_false : (a b : Bool) → false ≡ b → false ≡ (a && b)
and_false true b e = e
and_false false b e = refl

pub each_passes-lengths : {A B : Type 0} (f : B → A → Bool) (bs : List B) (xs : List A)
    → (length xs ≡ length bs → ⊥) → false ≡ each_passes (map f bs) xs
each_passes-lengths f [] [] h = absurd (h refl)
each_passes-lengths f [] (x ∷ xs) h = refl
each_passes-lengths f (b ∷ bs) [] h = refl
each_passes-lengths f (b ∷ bs) (x ∷ xs) h =
    and_false (f b x) _ (each_passes-lengths f bs xs (λ e. h (omega (arith, e))))

pub ruleset domain_steps = (fits-out, list_all-drop, each_passes-drop, the_lemmas, views.the_lemmas)
