-- The parser of a name.
use Rattle.asm_grammar.specs.Parser.{Parser, expect}
use Rattle.asm_syntax.specs.declared.token.Token.{Token}
use Rattle.asm_syntax.specs.Marks.{is, id}

-- ID
unfoldable pub name : Parser Token Token
name = expect (is id)
