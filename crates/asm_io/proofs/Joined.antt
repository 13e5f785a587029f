-- The pieces of some bytes lose nothing but the line feeds between them.
use Rattle.std.proofs.Common.{◌≡◌, ℕ, List, [], ◌∷◌, Bool, true, false, cond, ◌||◌, ◌==◌, refl, sym, ap, ◌∙◌, arith}
use Rattle.std.specs.List.{All}
use Rattle.std.proofs.lemmas.Bool.Decides.{nat_tests}
use Rattle.std.proofs.lemmas.List.Elements.{All-nil, All-cons}
use Rattle.asm_io.specs.Lines.{is_feed, has_feed, first_piece, later_pieces, joined}

feed_is : (b : ℕ) → (b == 10) ≡ true → b ≡ 10
feed_is b h = grind (arith, nat_tests)

joined-cons : (b : ℕ) (piece : List ℕ) (more : List (List ℕ)) → joined (b ∷ piece) more ≡ b ∷ joined piece more
joined-cons b piece [] = refl
joined-cons b piece (next ∷ more) = refl

pub joined_pieces : (bytes : List ℕ) → joined (first_piece bytes) (later_pieces bytes) ≡ bytes
joined_pieces [] = refl
joined_pieces (b ∷ bs) =
    (elim (is_feed b) as (λ t. is_feed b ≡ t → joined (cond t [] (b ∷ first_piece bs)) (cond t (first_piece bs ∷ later_pieces bs) (later_pieces bs)) ≡ b ∷ bs) [
      | true ↦ λ e. ap (λ w. 10 ∷ w) (joined_pieces bs) ∙ ap (λ n. n ∷ bs) (sym (feed_is b e))
      | false ↦ λ e. joined-cons b (first_piece bs) (later_pieces bs) ∙ ap (λ w. b ∷ w) (joined_pieces bs)
    ]) refl

first_unfed : (bytes : List ℕ) → has_feed (first_piece bytes) ≡ false
first_unfed [] = refl
first_unfed (b ∷ bs) =
    (elim (is_feed b) as (λ t. is_feed b ≡ t → has_feed (cond t [] (b ∷ first_piece bs)) ≡ false) [
      | true ↦ λ e. refl
      | false ↦ λ e. ap (λ t. t || has_feed (first_piece bs)) e ∙ first_unfed bs
    ]) refl

abbrev Unfed : List ℕ → Type 0
Unfed piece = has_feed piece ≡ false

later_unfed : (bytes : List ℕ) → All Unfed (later_pieces bytes)
later_unfed [] = All-nil Unfed
later_unfed (b ∷ bs) =
    elim (is_feed b) as (λ t. All Unfed (cond t (first_piece bs ∷ later_pieces bs) (later_pieces bs))) [
      | true ↦ All-cons Unfed (first_piece bs) (later_pieces bs) (first_unfed bs) (later_unfed bs)
      | false ↦ later_unfed bs
    ]

pub pieces_unfed : (bytes : List ℕ) → All Unfed (first_piece bytes ∷ later_pieces bytes)
pieces_unfed bytes = All-cons Unfed (first_piece bytes) (later_pieces bytes) (first_unfed bytes) (later_unfed bytes)
