-- The line that a demo writes.
use Rattle.std.specs.Prelude.{ℕ, List, [], ◌∷◌, ◌++◌, length, codes, decimal}
use Rattle.asm_demo.specs.declared.run.Run.{Run}
use Rattle.asm_demo.specs.Runs.{demo_run}
use Rattle.asm_demo.specs.Sums.{sum_shown}

-- the number of entries, how many calls were refused, and the sum of the values shown
abbrev pub line_of : ℕ → Run → List ℕ
line_of size run =
    codes "demo " ++ decimal size
    ++ codes ": entries " ++ decimal (length run.one.journal)
    ++ codes " refused " ++ decimal run.refused
    ++ codes " sum " ++ decimal (sum_shown run.shown)
    ++ 10 ∷ []

-- The line of the demo of this size, by what the one-thread server answers to its calls.
unfoldable pub demo_line : ℕ → List ℕ
demo_line size = line_of size (demo_run size)
