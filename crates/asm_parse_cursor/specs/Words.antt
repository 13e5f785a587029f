-- The marks of quoted words and of symbols.
use Rattle.std.specs.Prelude.{ℕ, List, ◌++◌, map}
use denote.Ref.{Bor}
use Rattle.asm_syntax.specs.Marks.{Mark, keyword, symbol}

abbrev pub keywords_of : List (Bor (List ℕ)) → List Mark
keywords_of words = map (λ w. keyword w.now) words

abbrev pub symbols_of : List (Bor (List ℕ)) → List Mark
symbols_of signs = map (λ s. symbol s.now) signs

-- those of symbols, and then those of words
abbrev pub marks_of : List (Bor (List ℕ)) → List (Bor (List ℕ)) → List Mark
marks_of signs words = symbols_of signs ++ keywords_of words
