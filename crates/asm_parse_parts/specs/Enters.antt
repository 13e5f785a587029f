-- Tokens that open a construct, where so many more may be open.
use Rattle.std.specs.Prelude.{ℕ, List}
use Rattle.asm_grammar.specs.Parser.{Parser, enter}
use Rattle.asm_syntax.specs.declared.token.Token.{Token}
use Rattle.asm_syntax.specs.Forms.{is_open}
use Rattle.asm_syntax.specs.Marks.{is, keyword, symbol}

abbrev pub enter_word : ℕ → List ℕ → Parser Token Token
enter_word n w = enter (is_open n) (is (keyword w))

abbrev pub enter_sign : ℕ → List ℕ → Parser Token Token
enter_sign n s = enter (is_open n) (is (symbol s))
