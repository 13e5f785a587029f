-- When a source or a sink may report that it failed.
use Rattle.std.specs.Prelude.{◌≡◌, ℕ, ◌+◌, ◌-◌, ◌^◌, ◌≤◌, min, Result, OnOk, OnErr}

-- the next number, or the last that a u64 can have
abbrev pub next : ℕ → ℕ
next n = min (n + 1) (2 ^ 64 - 1)

-- the count has risen, or is at its type's end
abbrev pub Rose : ℕ → ℕ → Type 0
Rose before now = next before ≤ now

-- The count of failed calls is as it was where the call is Ok, and has risen where a failure is
-- reported. It never falls.
pub record HasCause {T E : Type 0} (before now : ℕ) (result : Result T E) : Type 0 where
  pub later : before ≤ now
  pub unfailed : OnOk result (now ≡ before)
  pub failed : OnErr result (Rose before now)
