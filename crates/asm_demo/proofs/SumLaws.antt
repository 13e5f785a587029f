-- Sums of values, one more at the end.
use Rattle.std.proofs.Common.{◌≡◌, ℕ, ◌+◌, List, ◌∷◌, ◌++◌, sum_by}
use Rattle.std.proofs.lemmas.List.Sums.{sum_by-cons, sum_by-append}
use Rattle.asm_portable.specs.declared.port.Port.{Port}
use Rattle.asm_demo.specs.Sums.{value_in}

pub values-cons : (pair : Port) (pairs : List Port)
    → sum_by value_in (pair ∷ pairs) ≡ value_in pair + sum_by value_in pairs
values-cons pair pairs = sum_by-cons value_in pair pairs

pub values-append : (pairs more : List Port)
    → sum_by value_in (pairs ++ more) ≡ sum_by value_in pairs + sum_by value_in more
values-append pairs more = sum_by-append value_in pairs more

pub ruleset sum_steps = (values-cons, values-append)
