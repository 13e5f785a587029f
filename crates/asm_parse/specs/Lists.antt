-- Lists of which the first items are found, and each that follows them.
use Rattle.std.specs.Prelude.{List, codes}
use Rattle.asm_grammar.specs.Parser.{Parser}
use Rattle.asm_syntax.specs.declared.token.Token.{Token}
use Rattle.asm_syntax.specs.Marks.{is, keyword, symbol}
use Rattle.asm_syntax.specs.Models.{Import}
use Rattle.asm_parse_theory.specs.Models.{imported, next_part}
use Rattle.asm_parse_theory.specs.Rules.{more}

abbrev pub more_imports : List Import → Parser Token (List Import)
more_imports found = more (is (keyword (codes "import"))) imported found

abbrev pub further_parts : List Token → Parser Token (List Token)
further_parts found = more (is (symbol (codes "/"))) next_part found
