-- A maker some of whose calls fail.
use Rattle.std.specs.Prelude.{ℕ, List}

pub record Making : Type 0 where
  -- the calls that fail, counted from 0
  pub failing : List ℕ
  -- how many calls there were, and how many of them failed
  pub calls : ℕ
  pub faults : ℕ
