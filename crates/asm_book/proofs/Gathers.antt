-- What all tokens together show.
use Rattle.std.proofs.Common.{replicate, get_or, ◌<◌, ◌≡◌, ℕ, suc, zero, ◌+◌, List, [], ◌∷◌, ◌++◌, length, refl, sym, ap, subst, ◌∙◌, arith}
use Rattle.asm_board.specs.declared.entry.Entry.{Entry}
use Rattle.asm_book.specs.Seats.{IsPick, numbers_of, PicksFrom, NumbersFrom, total_length, SeatsBelow}
use Rattle.asm_book.proofs.SeatLists.{numbers_later, nothing_left}
use Rattle.asm_book.specs.Tokens.{Known}
use Rattle.asm_book.specs.Gathered.{SeatedFrom, Begins, AreBegun, IsGathered, mines, fresh_from}

pub total-push : (ts : List Known) (t : Known) → total_length (mines (ts ++ t ∷ [])) ≡ total_length (mines ts) + length t.mine
total-push [] t = omega arith
total-push (x ∷ xs) t = omega (arith, total-push xs t)

pub length-mines : (ts : List Known) → length (mines ts) ≡ length ts
length-mines [] = refl
length-mines (t ∷ ts) = omega (arith, length-mines ts)

picks : (journal : List Entry) (seat : ℕ) (ts : List Known) → SeatedFrom seat ts → ((k : ℕ) (d : Known) → k < length ts → Begins journal (get_or ts k d)) → PicksFrom seat journal (mines ts)
picks journal seat [] order within = tt
picks journal seat (t ∷ ts) order within =
    let w : Begins journal t = within 0 t (omega arith) in
    (numbers_later seat t.history journal t.mine (subst (λ s. IsPick t.mine (numbers_of s t.history)) order.0 w.1) w.0, picks journal (seat + 1) ts order.1 (λ k d h. within (suc k) d (omega (arith, h))))

gathered : (journal : List Entry) (seat : ℕ) (ts : List Known) → SeatedFrom seat ts → ((k : ℕ) (d : Known) → k < length ts → Begins journal (get_or ts k d)) → NumbersFrom seat journal (mines ts) → IsGathered journal ts
gathered journal seat [] order within own = tt
gathered journal seat (t ∷ ts) order within own =
    let w : Begins journal t = within 0 t (omega arith) in
    ((w.0, own.0 ∙ ap (λ s. numbers_of s journal) (sym order.0)), gathered journal (seat + 1) ts order.1 (λ k d h. within (suc k) d (omega (arith, h))) own.1)

-- where the numbers that all tokens have are as many as the journal's entries, they are all of them
pub gathers : (journal : List Entry) (ts : List Known) → SeatedFrom 0 ts → AreBegun journal ts (length ts) → SeatsBelow (length ts) journal → total_length (mines ts) ≡ length journal → IsGathered journal ts
gathers journal ts order within below all =
    gathered journal 0 ts order within.at (nothing_left journal (mines ts) (subst (λ n. SeatsBelow n journal) (sym (length-mines ts)) below) (picks journal 0 ts order within.at) all)

abbrev fresh : ℕ → Known
fresh k = record { seat = k; history = []; mine = []; holds = 0 }

fresh_next : (seat n : ℕ) → fresh_from seat (suc n) ≡ fresh_from seat n ++ fresh (seat + n) ∷ []
fresh_next seat zero = ap (λ (k : ℕ). fresh k ∷ []) (omega arith)
fresh_next seat (suc n) =
    ap (λ (ts : List Known). fresh seat ∷ ts) (fresh_next (seat + 1) n ∙ ap (λ (k : ℕ). fresh_from (seat + 1) n ++ fresh k ∷ []) (omega arith))

pub fresh-push : (seat n : ℕ) → fresh_from seat (n + 1) ≡ fresh_from seat n ++ record { seat = seat + n; history = []; mine = []; holds = 0 } ∷ []
fresh-push seat n = let next : suc n ≡ n + 1 = omega arith in subst (λ (k : ℕ). fresh_from seat k ≡ fresh_from seat n ++ fresh (seat + n) ∷ []) next (fresh_next seat n)

-- the last of n copies
pub replicate_last : {A : Type 0} (n : ℕ) (xs : List A) (y x : A) → xs ++ y ∷ [] ≡ replicate n x → (y ≡ x) × (xs ≡ replicate (length xs) x)
replicate_last zero [] y x is = absurd (cc (is))
replicate_last zero (z ∷ zs) y x is = absurd (cc (is))
replicate_last (suc n) [] y x is = (cc (is), refl)
replicate_last (suc n) (z ∷ zs) y x is = let rest = replicate_last n zs y x (cc (is)) in (rest.0, cc (is, rest.1))

pub seats_kept : (seat : ℕ) (xs ys : List Known) → length ys ≡ length xs → ((k : ℕ) (d : Known) → k < length xs → (get_or ys k d).seat ≡ (get_or xs k d).seat) → SeatedFrom seat xs → SeatedFrom seat ys
seats_kept seat [] [] len same order = tt
seats_kept seat [] (y ∷ ys) len same order = absurd (omega (arith, len))
seats_kept seat (x ∷ xs) [] len same order = absurd (omega (arith, len))
seats_kept seat (x ∷ xs) (y ∷ ys) len same order =
    (same 0 x (omega arith) ∙ order.0, seats_kept (seat + 1) xs ys (omega (arith, len)) (λ k d h. same (suc k) d (omega (arith, h))) order.1)

pub fresh_seated : (seat n : ℕ) → SeatedFrom seat (fresh_from seat n)
fresh_seated seat zero = tt
fresh_seated seat (suc n) = (refl, fresh_seated (seat + 1) n)

pub length-fresh : (seat n : ℕ) → length (fresh_from seat n) ≡ n
length-fresh seat zero = refl
length-fresh seat (suc n) = omega (arith, length-fresh (seat + 1) n)
