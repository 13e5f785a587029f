-- Of all tokens of an opening one has seen the whole journal.
use Rattle.std.proofs.Common.{eq-eqb, ◌≡◌, ◌≢◌, ◌⊎◌, ⊎_elim, inl, inr, ℕ, suc, ◌+◌, ◌<◌, ◌≤◌, ◌==◌, Bool, true, false, cond, List, [], ◌∷◌, ◌++◌, length, get_or, refl, sym, ap, subst, ◌∙◌, arith, length-append}
use Rattle.std.proofs.lemmas.Bool.{cases_eq}
use Rattle.std.proofs.lemmas.List.{append-nil}
use mathlib.Core.List.{IsPrefix}
use Rattle.asm_board.specs.declared.entry.Entry.{Entry}
use Rattle.asm_book.specs.Seats.{IsPick, numbers_from, numbers_of, SeatsBelow}
use Rattle.asm_book.specs.Tokens.{Known}
use Rattle.asm_book.specs.Gathered.{SeatedFrom, Begins, AreBegun, IsGathered, IsSeenWhole}
use Rattle.asm_book.proofs.SeatLists.{numbers-append, pick_length}

-- the seat of the last of these entries
abbrev pub last_seat : List Entry → ℕ
last_seat [] = 0
last_seat (e ∷ []) = e.seat
last_seat (e ∷ x ∷ xs) = last_seat (x ∷ xs)

last_below : (n : ℕ) (e : Entry) (es : List Entry) → SeatsBelow n (e ∷ es) → last_seat (e ∷ es) < n
last_below n e [] below = below.0
last_below n e (x ∷ xs) below = last_below n x xs below.1

last_append : (h : List Entry) (x : Entry) (xs : List Entry) → last_seat (h ++ x ∷ xs) ≡ last_seat (x ∷ xs)
last_append [] x xs = refl
last_append (y ∷ []) x xs = refl
last_append (y ∷ z ∷ zs) x xs = last_append (z ∷ zs) x xs

-- the last of these entries has a number of its seat
has_number : (first : ℕ) (e : Entry) (es : List Entry) → 0 < length (numbers_from first (last_seat (e ∷ es)) (e ∷ es))
has_number first e [] =
    let test : (e.seat == e.seat) ≡ true = eq-eqb e.seat e.seat refl in
    subst (λ b. 0 < length (cond b (first ∷ []) [])) (sym test) (omega arith)
has_number first e (x ∷ xs) =
    let seat : ℕ = last_seat (x ∷ xs) in
    let rest : List ℕ = numbers_from (first + 1) seat (x ∷ xs) in
    let later : 0 < length rest = has_number (first + 1) x xs in
    let P : Bool → Type 0 = λ b. 0 < length (cond b (first ∷ rest) rest) in
    elim (e.seat == seat) as P [ true ↦ omega arith | false ↦ later ]

-- who has all numbers of the seat of the last entry has seen that
seen_whole : (history rest journal : List Entry) (mine : List ℕ) → history ++ rest ≡ journal
    → IsPick mine (numbers_of (last_seat journal) history) → mine ≡ numbers_of (last_seat journal) journal → history ≡ journal
seen_whole history [] journal mine is pick own = sym (append-nil history) ∙ is
seen_whole history (x ∷ xs) journal mine is pick own =
    let seat : ℕ = last_seat journal in
    let last : last_seat (x ∷ xs) ≡ seat = sym (last_append history x xs) ∙ ap last_seat is in
    let more : List ℕ = numbers_from (1 + length history) seat (x ∷ xs) in
    let some : 0 < length more = subst (λ s. 0 < length (numbers_from (1 + length history) s (x ∷ xs))) last (has_number (1 + length history) x xs) in
    let all : numbers_of seat journal ≡ numbers_of seat history ++ more = ap (numbers_of seat) (sym is) ∙ numbers-append 1 seat history (x ∷ xs) in
    absurd (omega (arith, some, pick_length pick, ap length own, ap length all, length-append (numbers_of seat history) more))

one_of : (journal : List Entry) (seat : ℕ) (ts : List Known) → SeatedFrom seat ts → ((k : ℕ) (d : Known) → k < length ts → Begins journal (get_or ts k d))
    → IsGathered journal ts → seat ≤ last_seat journal → last_seat journal < seat + length ts → IsSeenWhole journal ts
one_of journal seat [] order within own least most = absurd (omega (arith, least, most))
one_of journal seat (t ∷ ts) order within own least most =
    let last : ℕ = last_seat journal in
    let begins : Begins journal t = within 0 t (omega arith) in
    ⊎_elim
    (λ (same : seat ≡ last).
    let is : t.seat ≡ last = order.0 ∙ same in
    let pick : IsPick t.mine (numbers_of last t.history) = subst (λ s. IsPick t.mine (numbers_of s t.history)) is begins.1 in
    let mine : t.mine ≡ numbers_of last journal = own.0.1 ∙ ap (λ s. numbers_of s journal) is in
    inl (seen_whole t.history begins.0.0 journal t.mine begins.0.1 pick mine))
    (λ (apart : seat ≢ last).
    inr (one_of journal (seat + 1) ts order.1 (λ k d h. within (suc k) d (omega (arith, h))) own.1 (omega (arith, least, apart)) (omega (arith, most))))
    (cases_eq seat last)

-- of all seats' tokens one has seen the whole journal, unless this is empty
pub longest : (journal : List Entry) (ts : List Known) → SeatedFrom 0 ts → AreBegun journal ts (length ts) → SeatsBelow (length ts) journal → IsGathered journal ts
    → (journal ≡ []) ⊎ IsSeenWhole journal ts
longest [] ts order within below own = inl refl
longest (e ∷ es) ts order within below own =
    inr (one_of (e ∷ es) 0 ts order within.at own (omega arith) (omega (arith, last_below (length ts) e es below)))
