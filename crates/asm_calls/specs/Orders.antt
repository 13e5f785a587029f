-- Definitions that call one another: the first that reaches itself, or an order in which each comes
-- after those that it calls.
use Rattle.std.specs.Prelude.{◌≡◌, ℕ, zero, suc, ◌+◌, ◌<◌, ◌≤◌, ◌==◌, Bool, true, false, Option, Some, None, List, length, get_or, count_by}
use Rattle.std.specs.List.{list_any}
use Rattle.asm_program.specs.Calls.{CallGraph, calls_of, reaches, is_recursive}

-- one definition calls another
abbrev pub calls : CallGraph → ℕ → ℕ → Bool
calls graph i j = list_any (λ k. k == j) (calls_of graph i)

-- no definition reaches itself
abbrev pub NoneRecursive : CallGraph → Type 0
NoneRecursive graph = (i : ℕ) → is_recursive graph i ≡ false

-- the least definition that reaches itself, where one does
abbrev pub IsFirstRecursive : CallGraph → Option ℕ → Type 0
IsFirstRecursive graph None = NoneRecursive graph
IsFirstRecursive graph (Some i) =
    (i < length graph) × (is_recursive graph i ≡ true)
    × ((k : ℕ) → k < i → is_recursive graph k ≡ false)

-- each definition once, and none before one that it calls
pub record IsOrder (graph : CallGraph) (order : List ℕ) : Type 0 where
  pub each : (i : ℕ) → i < length graph → count_by (λ k. k == i) order ≡ 1
  pub only : (k : ℕ) → k < length order → get_or order k 0 < length graph
  pub after : (k l : ℕ) → k ≤ l → l < length order
      → calls graph (get_or order k 0) (get_or order l 0) ≡ false

-- A definition reaches another by some number of calls exactly where it does by no more than there
-- are definitions.
abbrev pub ReachesByFew : CallGraph → Type 0
ReachesByFew graph =
    (n i j : ℕ) → reaches graph n i j ≡ true → reaches graph (length graph) i j ≡ true

-- how many numbers below this one pass a test
abbrev pub unit : Bool → ℕ
unit true = 1
unit false = 0

abbrev pub count_below : (ℕ → Bool) → ℕ → ℕ
count_below p zero = 0
count_below p (suc n) = unit (p n) + count_below p n

-- how many definitions one reaches
abbrev pub reached : CallGraph → ℕ → ℕ
reached graph i = count_below (reaches graph (length graph) i) (length graph)

-- a number for each definition, below how many there are, that falls along each call
pub record Ranks (graph : CallGraph) (rank : ℕ → ℕ) : Type 0 where
  pub below : (i : ℕ) → i < length graph → rank i < length graph
  pub falls : (i j : ℕ) → j < length graph → calls graph i j ≡ true → rank j < rank i
