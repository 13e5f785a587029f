-- Beginnings of one list.
use Rattle.std.proofs.Common.{◌≡◌, ◌≤◌, List, [], ◌∷◌, ◌++◌, length, refl, ap, ◌∙◌, arith}
use mathlib.Core.List.{IsPrefix}

-- of two beginnings the shorter begins the longer
pub prefix_shorter : {A : Type 0} (xs ys zs : List A) → IsPrefix xs zs → IsPrefix ys zs → length xs ≤ length ys → IsPrefix xs ys
prefix_shorter [] ys zs p q le = (ys, refl)
prefix_shorter (x ∷ xs) [] zs p q le = absurd (omega (arith, le))
prefix_shorter (x ∷ xs) (y ∷ ys) [] p q le = absurd (cc (p.1))
prefix_shorter (x ∷ xs) (y ∷ ys) (z ∷ zs) p q le =
    let head : x ≡ y = cc (p.1, q.1) in
    let mine : xs ++ p.0 ≡ zs = cc (p.1) in
    let theirs : ys ++ q.0 ≡ zs = cc (q.1) in
    let rest = prefix_shorter xs ys zs (p.0, mine) (q.0, theirs) (omega (arith, le)) in
    (rest.0, ap (λ (l : List _). x ∷ l) rest.1 ∙ ap (λ a. a ∷ ys) head)

-- a beginning that is as long is the whole
pub prefix_whole : {A : Type 0} (xs ys : List A) → IsPrefix xs ys → length ys ≤ length xs → xs ≡ ys
prefix_whole [] [] p le = refl
prefix_whole [] (y ∷ ys) p le = absurd (omega (arith, le))
prefix_whole (x ∷ xs) [] p le = absurd (cc (p.1))
prefix_whole (x ∷ xs) (y ∷ ys) p le =
    let head : x ≡ y = cc (p.1) in
    let tail : xs ++ p.0 ≡ ys = cc (p.1) in
    ap (λ a. a ∷ xs) head ∙ ap (λ (l : List _). y ∷ l) (prefix_whole xs ys (p.0, tail) (omega (arith, le)))

-- a beginning of a beginning
pub prefix_trans : {A : Type 0} (xs ys zs : List A) → IsPrefix xs ys → IsPrefix ys zs → IsPrefix xs zs
prefix_trans [] ys zs p q = (zs, refl)
prefix_trans (x ∷ xs) [] zs p q = absurd (cc (p.1))
prefix_trans (x ∷ xs) (y ∷ ys) [] p q = absurd (cc (q.1))
prefix_trans (x ∷ xs) (y ∷ ys) (z ∷ zs) p q =
    let first : x ≡ y = cc (p.1) in
    let second : y ≡ z = cc (q.1) in
    let mine : xs ++ p.0 ≡ ys = cc (p.1) in
    let theirs : ys ++ q.0 ≡ zs = cc (q.1) in
    let rest = prefix_trans xs ys zs (p.0, mine) (q.0, theirs) in
    (rest.0, ap (λ (l : List _). x ∷ l) rest.1 ∙ ap (λ a. a ∷ zs) (first ∙ second))
