-- Where a field is put whose key is there already.
use Rattle.std.proofs.Common.{◌≡◌, ℕ, ◌+◌, ◌<◌, List, ◌∷◌, ◌++◌, length, get_or, take, drop, sym, ap, ◌∙◌}
use Rattle.std.proofs.Math.ListN.{set}
use Rattle.std.proofs.lemmas.List.{take-append-drop, take-set, drop-set, drop_more}
use Rattle.std.specs.declared.cmp.Ordering.{Ordering}
use Rattle.std.specs.declared.cmp.Ordering.TheVariants.{Less, Equal, Greater}
use Rattle.std.specs.Ordering.{nat_cmp}
use Rattle.std.specs.Cmp.Lexicographic.{slice_cmp}
use Rattle.asm_portable.specs.declared.port.Field.{Field}
use Rattle.asm_portable.specs.Ports.{put_field}

-- a write splits the list at its place
set_split : (f : Field) (fs : List Field) (at : ℕ) → at < length fs → set fs at f ≡ take at fs ++ (f ∷ drop (at + 1) fs)
set_split f fs at h = sym (take-append-drop at (set fs at f)) ∙ (λ i. take-set fs at f i ++ drop-set fs at f h i)

put_equal : (f g : Field) (gs : List Field) → slice_cmp nat_cmp f.key g.key ≡ Equal → put_field f (g ∷ gs) ≡ f ∷ gs
put_equal f g gs e = ap (λ (o : Ordering). elim o as (λ _. List Field) [ Less ↦ f ∷ g ∷ gs | Equal ↦ f ∷ gs | Greater ↦ g ∷ put_field f gs ]) e

-- a field takes the place of the one with its key
pub put_there : (f : Field) (fs : List Field) (at : ℕ) (g : Field) → at < length fs → g ≡ get_or fs at g → slice_cmp nat_cmp f.key g.key ≡ Equal
    → put_field f fs ≡ take at fs ++ put_field f (drop at fs) → put_field f fs ≡ set fs at f
put_there f fs at g h is e before =
    before
    ∙ ap (λ r. take at fs ++ put_field f r) (drop_more fs at g h ∙ ap (λ x. x ∷ drop (at + 1) fs) (sym is))
    ∙ ap (λ r. take at fs ++ r) (put_equal f g (drop (at + 1) fs) e)
    ∙ sym (set_split f fs at h)
