-- Facts about the entries of one seat.
use Rattle.std.proofs.Common.{eq-eqb, ◌≡◌, ◌≢◌, ⊎_elim, ℕ, zero, suc, ◌+◌, ◌<◌, ◌≤◌, ◌==◌, Bool, true, false, List, [], ◌∷◌, ◌++◌, length, refl, sym, ap, subst, ◌∙◌, arith, cond}
use Rattle.std.proofs.lemmas.Bool.Decides.{nat_tests}
use Rattle.std.proofs.lemmas.Bool.{cases_eq}
use mathlib.Core.List.{IsPrefix}
use Rattle.asm_board.specs.declared.entry.Entry.{Entry}
use Rattle.asm_book.specs.Seats.{numbers_from, numbers_of, IsPick, none, takes, skips, SeatsBelow, PicksFrom, NumbersFrom, total_length}

pub pick_length : {A : Type 0} {xs ys : List A} → IsPick xs ys → length xs ≤ length ys
pick_length none = omega arith
pick_length (takes p) = let h = pick_length p in omega (arith, h)
pick_length (skips p) = let h = pick_length p in omega (arith, h)

-- a pick that leaves nothing out is the whole
pub pick_whole : {A : Type 0} {xs ys : List A} → IsPick xs ys → length ys ≤ length xs → xs ≡ ys
pick_whole none le = refl
pick_whole (takes {x} p) le = ap (λ t. x ∷ t) (pick_whole p (omega arith))
pick_whole (skips p) le = absurd (omega (arith, pick_length p))

pub pick_more : {A : Type 0} {xs ys : List A} (zs : List A) → IsPick xs ys → IsPick xs (ys ++ zs)
pick_more [] none = none
pick_more (z ∷ zs) none = skips (pick_more zs none)
pick_more zs (takes p) = takes (pick_more zs p)
pick_more zs (skips p) = skips (pick_more zs p)

pub pick_push : {A : Type 0} {xs ys : List A} (z : A) → IsPick xs ys → IsPick (xs ++ z ∷ []) (ys ++ z ∷ [])
pick_push z none = takes none
pick_push z (takes p) = takes (pick_push z p)
pick_push z (skips p) = skips (pick_push z p)

pub numbers-append : (first seat : ℕ) (xs ys : List Entry) → numbers_from first seat (xs ++ ys) ≡ numbers_from first seat xs ++ numbers_from (first + length xs) seat ys
numbers-append first seat [] ys = ap (λ k. numbers_from k seat ys) (omega arith)
numbers-append first seat (e ∷ es) ys =
    let rest : numbers_from (first + 1) seat (es ++ ys) ≡ numbers_from (first + 1) seat es ++ numbers_from (first + length (e ∷ es)) seat ys = numbers-append (first + 1) seat es ys ∙ ap (λ k. numbers_from (first + 1) seat es ++ numbers_from k seat ys) (omega arith) in
    let P : Bool → Type 0 = λ b. cond b (first ∷ numbers_from (first + 1) seat (es ++ ys)) (numbers_from (first + 1) seat (es ++ ys)) ≡ cond b (first ∷ numbers_from (first + 1) seat es) (numbers_from (first + 1) seat es) ++ numbers_from (first + length (e ∷ es)) seat ys in
    elim (e.seat == seat) as P [ true ↦ ap (λ t. first ∷ t) rest | false ↦ rest ]

-- how many entries this seat has
abbrev pub count_of : ℕ → List Entry → ℕ
count_of seat [] = 0
count_of seat (e ∷ es) = cond (e.seat == seat) 1 0 + count_of seat es

count_is : (first seat : ℕ) (h : List Entry) → length (numbers_from first seat h) ≡ count_of seat h
count_is first seat [] = refl
count_is first seat (e ∷ es) =
    let rest = count_is (first + 1) seat es in
    let P : Bool → Type 0 = λ b. length (cond b (first ∷ numbers_from (first + 1) seat es) (numbers_from (first + 1) seat es)) ≡ cond b 1 0 + count_of seat es in
    elim (e.seat == seat) as P [ true ↦ omega (arith, rest) | false ↦ omega (arith, rest) ]

-- how many entries the next n seats have, from this one on
counts : ℕ → ℕ → List Entry → ℕ
counts seat zero h = 0
counts seat (suc n) h = count_of seat h + counts (seat + 1) n h

counts_none : (seat n : ℕ) → counts seat n [] ≡ 0
unfolding counts
counts_none seat zero = refl
counts_none seat (suc n) = omega (arith, counts_none (seat + 1) n)

counts_before : (seat n : ℕ) (e : Entry) (es : List Entry) → e.seat < seat → counts seat n (e ∷ es) ≡ counts seat n es
unfolding counts
counts_before seat zero e es lt = refl
counts_before seat (suc n) e es lt =
    let step : ℕ = cond (e.seat == seat) 1 0 in
    let other : step ≡ 0 = grind (arith, nat_tests) in
    omega (arith, other, counts_before (seat + 1) n e es (omega arith))

counts_more : (seat n : ℕ) (e : Entry) (es : List Entry) → seat ≤ e.seat → e.seat < seat + n → counts seat n (e ∷ es) ≡ counts seat n es + 1
unfolding counts
counts_more seat zero e es le lt = absurd (omega arith)
counts_more seat (suc n) e es le lt =
    ⊎_elim
    (λ (same : e.seat ≡ seat).
    let step : ℕ = cond (e.seat == seat) 1 0 in
    let one : step ≡ 1 = grind (arith, nat_tests) in
    omega (arith, one, counts_before (seat + 1) n e es (omega arith)))
    (λ (apart : e.seat ≢ seat).
    let step : ℕ = cond (e.seat == seat) 1 0 in
    let no : step ≡ 0 = grind (arith, nat_tests) in
    omega (arith, no, counts_more (seat + 1) n e es (omega arith) (omega arith)))
    (cases_eq e.seat seat)

-- the seats have all entries
counts_all : (n : ℕ) (h : List Entry) → SeatsBelow n h → counts 0 n h ≡ length h
counts_all n [] below = counts_none 0 n
counts_all n (e ∷ es) below = omega (arith, counts_more 0 n e es (omega arith) (omega (arith, below.0)), counts_all n es below.1)

picks_fit : (seat : ℕ) (h : List Entry) (ms : List (List ℕ)) → PicksFrom seat h ms → total_length ms ≤ counts seat (length ms) h
unfolding counts
picks_fit seat h [] p = omega arith
picks_fit seat h (m ∷ ms) p = omega (arith, pick_length p.0, count_is 1 seat h, picks_fit (seat + 1) h ms p.1)

picks_whole : (seat : ℕ) (h : List Entry) (ms : List (List ℕ)) → PicksFrom seat h ms → counts seat (length ms) h ≤ total_length ms → NumbersFrom seat h ms
unfolding counts
picks_whole seat h [] p le = tt
picks_whole seat h (m ∷ ms) p le =
    let a = pick_length p.0 in
    let b = picks_fit (seat + 1) h ms p.1 in
    let c = count_is 1 seat h in
    (pick_whole p.0 (omega (arith, a, b, c, le)), picks_whole (seat + 1) h ms p.1 (omega (arith, a, b, c, le)))

-- where picks of each seat's numbers are as many as the journal's entries, each is whole
pub nothing_left : (h : List Entry) (ms : List (List ℕ)) → SeatsBelow (length ms) h → PicksFrom 0 h ms → total_length ms ≡ length h → NumbersFrom 0 h ms
nothing_left h ms below p all = picks_whole 0 h ms p (omega (arith, counts_all (length ms) h below, all))

pub seats_push : (n : ℕ) (h : List Entry) (e : Entry) → SeatsBelow n h → e.seat < n → SeatsBelow n (h ++ e ∷ [])
seats_push n [] e below lt = (lt, tt)
seats_push n (x ∷ xs) e below lt = (below.0, seats_push n xs e below.1 lt)

-- one more entry of a seat
pub numbers_push : (seat : ℕ) (h : List Entry) (e : Entry) (ms : List ℕ) → IsPick ms (numbers_of seat h) → e.seat ≡ seat → IsPick (ms ++ (length h + 1) ∷ []) (numbers_of seat (h ++ e ∷ []))
numbers_push seat h e ms p same =
    let test : (e.seat == seat) ≡ true = eq-eqb e.seat seat same in
    let one : numbers_from (1 + length h) seat (e ∷ []) ≡ (length h + 1) ∷ [] = ap (λ b. cond b ((1 + length h) ∷ []) []) test ∙ ap (λ k. k ∷ []) (omega arith) in
    let all : numbers_of seat (h ++ e ∷ []) ≡ numbers_of seat h ++ (length h + 1) ∷ [] = numbers-append 1 seat h (e ∷ []) ∙ ap (λ t. numbers_of seat h ++ t) one in
    subst (λ t. IsPick (ms ++ (length h + 1) ∷ []) t) (sym all) (pick_push (length h + 1) p)

-- what is picked of a beginning is picked of the whole
pub numbers_later : (seat : ℕ) (h j : List Entry) (ms : List ℕ) → IsPick ms (numbers_of seat h) → IsPrefix h j → IsPick ms (numbers_of seat j)
numbers_later seat h j ms p pre =
    subst (λ t. IsPick ms t) (sym (numbers-append 1 seat h pre.0) ∙ ap (numbers_of seat) pre.1) (pick_more (numbers_from (1 + length h) seat pre.0) p)
