-- The words of the parts of declarations and definitions, and the lines of the parts of models.
use Rattle.std.specs.Prelude.{ℕ, List, [], ◌∷◌, ◌++◌, map, Option, codes}
use Rattle.asm_syntax.specs.declared.token.Token.{Token}
use Rattle.asm_syntax.specs.declared.tree.ParamsTree.{ParamsTree}
use Rattle.asm_syntax.specs.declared.tree.IntTree.{IntTree}
use Rattle.asm_syntax.specs.declared.tree.TermTree.{TermTree}
use Rattle.asm_syntax.specs.declared.tree.RuleTree.{RuleTree}
use Rattle.asm_syntax.specs.declared.tree.DeclTree.{DeclTree}
use Rattle.asm_syntax.specs.declared.tree.DefTree.{DefTree}
use Rattle.asm_syntax.specs.declared.tree.StartTree.{StartTree}
use Rattle.asm_syntax.specs.Written.{Words, word_of, single, after_each, if_there}
use Rattle.asm_syntax.specs.Written.{comma, params_words, int_words, term_words}
use Rattle.asm_syntax.specs.Canonical.{Lines, equation_words, rule_words}
use Rattle.asm_syntax.specs.Canonical.{decl_words, def_words, start_words}
use Rattle.asm_print_terms.specs.Parts.{led_words}

-- ---- declarations and definitions

unfoldable pub enum_words : Token → Token → List Token → Words
enum_words name first others =
    codes "enum" ∷ codes "domain" ∷ word_of name ∷ codes "=" ∷ codes "{" ∷ word_of first
    ∷ after_each (codes "|") single others ++ codes "}" ∷ []

unfoldable pub subset_interval_words : Token → IntTree → IntTree → Words
subset_interval_words name first last =
    codes "domain" ∷ word_of name ∷ codes "=" ∷ codes "{"
    ∷ int_words first ++ codes ".." ∷ int_words last ++ codes "}" ∷ []

unfoldable pub subset_integers_words : Token → IntTree → List IntTree → Words
subset_integers_words name first others =
    codes "domain" ∷ word_of name ∷ codes "=" ∷ codes "{"
    ∷ int_words first ++ after_each comma int_words others ++ codes "}" ∷ []

-- what is left of the `=`
unfoldable pub left_words : List ℕ → Token → Option ParamsTree → Words
left_words word name given = word ∷ word_of name ∷ if_there [] params_words given

unfoldable pub function_words : Token → Option ParamsTree → TermTree → Words
function_words name given t = codes "function" ∷ equation_words name given (term_words t)

unfoldable pub rule_def_words : Token → Option ParamsTree → RuleTree → Words
rule_def_words name given r = codes "rule" ∷ equation_words name given (rule_words r)

-- what an invariant is about
unfoldable pub over_words : Token → List Token → Words
over_words first others = codes "over" ∷ word_of first ∷ after_each comma single others

unfoldable pub invariant_words : Option Token → Token → List Token → TermTree → Words
invariant_words name first others t =
    codes "invariant" ∷ if_there [] single name
    ++ over_words first others ++ led_words (codes ":") t

-- ---- lines

unfoldable pub decl_line : DeclTree → Words
decl_line d = decl_words d

unfoldable pub def_line : DefTree → Words
def_line d = def_words d

unfoldable pub start_line : StartTree → Words
start_line s = start_words s

-- ---- models

unfoldable pub signature_lines : Token → List DeclTree → Lines
signature_lines name decls =
    (codes "asm" ∷ single name) ∷ (codes "signature" ∷ codes ":" ∷ []) ∷ map decl_words decls

unfoldable pub definitions_lines : List DefTree → Lines
definitions_lines defs = (codes "definitions" ∷ codes ":" ∷ []) ∷ map def_words defs

unfoldable pub main_words : Token → RuleTree → Words
main_words name r = codes "main" ∷ codes "rule" ∷ word_of name ∷ codes "=" ∷ rule_words r
