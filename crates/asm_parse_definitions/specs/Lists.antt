-- Lists of the grammar; of some the first items are found.
use Rattle.std.specs.Prelude.{ℕ, List, codes}
use Rattle.asm_grammar.specs.Parser.{Parser}
use Rattle.asm_syntax.specs.declared.token.Token.{Token}
use Rattle.asm_syntax.specs.declared.tree.DeclTree.{DeclTree}
use Rattle.asm_syntax.specs.declared.tree.DefTree.{DefTree}
use Rattle.asm_syntax.specs.declared.tree.StartTree.{StartTree}
use Rattle.asm_syntax.specs.Marks.{is, keyword}
use Rattle.asm_parse_theory.specs.Firsts.{starts_decl, starts_def}
use Rattle.asm_parse_theory.specs.Forms.{after_sign, many}
use Rattle.asm_parse_theory.specs.Models.{decl, def, start, is_literal_sign, literal_set}
use Rattle.asm_parse_theory.specs.Models.{next_literal}
use Rattle.asm_parse_theory.specs.Rules.{more}

-- "=" "{" ID {("|" | ",") ID} "}"
abbrev pub equated_literals : ℕ → Parser Token (Token × List Token)
equated_literals n = after_sign (codes "=") (literal_set n)

abbrev pub more_literals : List Token → Parser Token (List Token)
more_literals found = more is_literal_sign next_literal found

abbrev pub more_decls : ℕ → List DeclTree → Parser Token (List DeclTree)
more_decls n found = more starts_decl (decl n) found

-- {def}
abbrev pub all_defs : ℕ → Parser Token (List DefTree)
all_defs n = many starts_def (def n)

abbrev pub more_defs : ℕ → List DefTree → Parser Token (List DefTree)
more_defs n found = more starts_def (def n) found

abbrev pub more_starts : ℕ → List StartTree → Parser Token (List StartTree)
more_starts n found = more (is (keyword (codes "function"))) (start n) found
