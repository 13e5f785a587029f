-- All tokens of an opening beside its journal.
use Rattle.std.specs.Prelude.{ℕ, zero, suc, ◌≡◌, ◌+◌, ◌⊎◌, List, [], ◌∷◌, map, length, ◌<◌, slice_index_or}
use mathlib.Core.List.{IsPrefix}
use Rattle.asm_board.specs.declared.entry.Entry.{Entry}
use Rattle.asm_book.specs.Seats.{IsPick, numbers_of, total_length}
use Rattle.asm_book.specs.Tokens.{Known}

-- the tokens stand in the order of their seats, from this one on
abbrev pub SeatedFrom : ℕ → List Known → Type 0
SeatedFrom seat [] = Unit {0}
SeatedFrom seat (t ∷ ts) = (t.seat ≡ seat) × SeatedFrom (seat + 1) ts

-- what the token has seen begins the journal
abbrev pub Begins : List Entry → Known → Type 0
Begins journal t = IsPrefix t.history journal × IsPick t.mine (numbers_of t.seat t.history)

-- what each of the first n tokens has seen begins the journal
pub record AreBegun (journal : List Entry) (ts : List Known) (n : ℕ) : Type 0 where
  pub at : (k : ℕ) (d : Known) → k < n → Begins journal (slice_index_or ts k d)

-- each token's history begins the journal, and its own numbers are those of its seat in the journal
abbrev pub IsGathered : List Entry → List Known → Type 0
IsGathered journal [] = Unit {0}
IsGathered journal (t ∷ ts) =
    (IsPrefix t.history journal × (t.mine ≡ numbers_of t.seat journal)) × IsGathered journal ts

-- some token has seen the whole journal
abbrev pub IsSeenWhole : List Entry → List Known → Type 0
IsSeenWhole journal [] = ⊥
IsSeenWhole journal (t ∷ ts) = (t.history ≡ journal) ⊎ IsSeenWhole journal ts

-- all tokens together account for the journal: its entries are theirs, seat by seat, none is left
-- over, and where there is one, some token has seen the whole journal
pub record Accounts (journal : List Entry) (ts : List Known) : Type 0 where
  pub gathered : IsGathered journal ts
  pub whole : total_length (map (λ (t : Known). t.mine) ts) ≡ length journal
  pub longest : (journal ≡ []) ⊎ IsSeenWhole journal ts

abbrev pub mines : List Known → List (List ℕ)
mines ts = map (λ (t : Known). t.mine) ts

-- what an opening's tokens know at first, from this seat on
abbrev pub fresh_from : ℕ → ℕ → List Known
fresh_from seat zero = []
fresh_from seat (suc n) =
    record { seat = seat; history = []; mine = []; holds = 0 } ∷ fresh_from (seat + 1) n
