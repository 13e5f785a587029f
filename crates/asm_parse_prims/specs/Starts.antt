-- The terms that are neither constants nor variables nor begin with an operator.
use Rattle.std.specs.Prelude.{Bool, List, [], ◌∷◌, codes}
use Rattle.asm_syntax.specs.declared.token.Token.{Token}
use Rattle.asm_syntax.specs.Marks.{Mark, id, keyword, symbol}
use Rattle.asm_parse_theory.specs.Firsts.{among}

abbrev pub first_form : List Mark
first_form =
    id ∷ symbol (codes "(") ∷ symbol (codes "{") ∷ symbol (codes "[")
    ∷ keyword (codes "if") ∷ keyword (codes "let") ∷ keyword (codes "switch") ∷ []

abbrev pub starts_form : Token → Bool
starts_form = among first_form
