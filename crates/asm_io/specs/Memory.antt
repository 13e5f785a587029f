-- A source and a sink in memory, and which of their calls fail.
use Rattle.std.specs.Prelude.{◌≡◌, ◌==◌, ℕ, ◌-◌, length, min, List, Bool, ◌||◌, nat_le, if◌then◌else◌}
use Rattle.std.specs.List.{list_any}
use Rattle.asm_io.specs.Causes.{next}

pub record Feed : Type 0 where
  -- the bytes that reads give from here on
  pub left : List ℕ
  -- the calls that fail, counted from 0
  pub failing : List ℕ
  -- how many calls there were, and how many of them failed
  pub calls : ℕ
  pub faults : ℕ

pub record Store : Type 0 where
  -- the bytes that were written
  pub held : List ℕ
  -- how many bytes it can hold
  pub room : ℕ
  pub failing : List ℕ
  pub calls : ℕ
  pub faults : ℕ

-- the call is one of those that fail
abbrev pub is_to_fail : List ℕ → ℕ → Bool
is_to_fail failing call = list_any (λ n. n == call) failing

-- a write fails where it is to, and where there is no room
abbrev pub write_fails : Store → Bool
write_fails s = is_to_fail s.failing s.calls || nat_le s.room (length s.held)

-- how many bytes a read of so many gives
abbrev pub given_of : Feed → ℕ → ℕ
given_of s most = min (length s.left) most

-- how many of so many bytes a write takes
abbrev pub taken_of : Store → ℕ → ℕ
taken_of s most = min (s.room - length s.held) most

-- each call is counted, and a failed one as a fault too
pub record Counts (calls calls_now faults faults_now : ℕ) (failed : Bool) : Type 0 where
  pub counted : calls_now ≡ next calls
  pub faulted : faults_now ≡ (if failed then next faults else faults)
