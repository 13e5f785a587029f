-- What is between the braces of a set of integers.
use Rattle.std.specs.Prelude.{ℕ, List, Option, codes}
use Rattle.std.specs.Option.{option_map}
use Rattle.asm_syntax.specs.declared.tree.IntTree.{IntTree}
use Rattle.asm_syntax.specs.declared.token.Token.{Token}
use Rattle.asm_syntax.specs.Marks.{is, symbol}
use Rattle.asm_syntax.specs.Forms as forms
use Rattle.asm_syntax.specs.Forms.{is_open, is_range_sign, second}
use Rattle.asm_grammar.specs.Parser.{Parser, expect, choose, mapped, both, optional}
use Rattle.asm_parse_theory.specs.Forms.{after_sign, bracketed, goes_on, members, several}
use Rattle.asm_parse_theory.specs.Domains.{int}
use Rattle.asm_parse_theory.specs.Rules.{more}
use Rattle.asm_parse_definitions.specs.declared.integer_sets.Rest.{Rest}
use Rattle.asm_parse_definitions.specs.declared.integer_sets.Rest.TheVariants.{To, And}

abbrev pub rest_of : Rest → forms.Rest IntTree
rest_of (To last) = forms.To last
rest_of (And others) = forms.And others

abbrev pub members_of : IntTree × Option Rest → IntTree × Option (forms.Rest IntTree)
members_of (first, rest) = (first, option_map rest_of rest)

-- (".." | ":") int
abbrev pub last_integer : Parser Token IntTree
last_integer = mapped second (both (expect is_range_sign) int)

-- "," int {"," int}
abbrev pub next_integer : Parser Token IntTree
next_integer = after_sign (codes ",") int

abbrev pub more_integers : Parser Token (List IntTree)
more_integers = several (is (symbol (codes ","))) next_integer

-- those found, and each that follows them
abbrev pub further_integers : List IntTree → Parser Token (List IntTree)
further_integers found = more (is (symbol (codes ","))) next_integer found

-- (".." | ":") int | {"," int}
abbrev pub rest_part : Parser Token (Option (forms.Rest IntTree))
rest_part =
    optional goes_on
    (choose is_range_sign (mapped forms.To last_integer) (mapped forms.And more_integers))

-- int ((".." | ":") int | {"," int})
unfoldable pub integer_members : Parser Token (IntTree × Option (forms.Rest IntTree))
integer_members = members int

-- "{" int ((".." | ":") int | {"," int}) "}"
abbrev pub integer_set : ℕ → Parser Token (IntTree × Option (forms.Rest IntTree))
integer_set n = bracketed (is_open n) (codes "{") integer_members (codes "}")

abbrev pub equated_set : ℕ → Parser Token (IntTree × Option (forms.Rest IntTree))
equated_set n = after_sign (codes "=") (integer_set n)
