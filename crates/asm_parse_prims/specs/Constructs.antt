-- What is read inside a construct that was opened, where n more might be open before it.
use Rattle.std.specs.Prelude.{ℕ, List, Option, codes}
use Rattle.asm_grammar.specs.Parser.{Parser, both}
use Rattle.asm_syntax.specs.declared.token.Token.{Token}
use Rattle.asm_syntax.specs.declared.tree.BindsTree.{BindsTree}
use Rattle.asm_syntax.specs.declared.tree.CaseTree.{CaseTree}
use Rattle.asm_syntax.specs.declared.tree.TermTree.{TermTree}
use Rattle.asm_syntax.specs.Forms.{is_open, Rest}
use Rattle.asm_parse_theory.specs.Forms.{after_word, maybe_rest, after_range_sign}
use Rattle.asm_parse_theory.specs.Terms.{inside, term_in, branches, choices}

-- term "then" term ["else" term]
abbrev pub guarded : ℕ → Parser Token (TermTree × (TermTree × Option TermTree))
guarded n = both (term_in (inside n)) (branches (inside n))

-- binds "in" term
abbrev pub bound : ℕ → Parser Token (BindsTree × TermTree)
bound n = both (inside n).binds (after_word (codes "in") (term_in (inside n)))

-- term {"case" term ":" term} ["otherwise" term]
abbrev pub compared : ℕ → Parser Token (TermTree × (List CaseTree × Option TermTree))
compared n = both (term_in (inside n)) (choices (is_open n) (inside n))

-- [(".." | ":") term | "," term {"," term}]
abbrev pub rest_inside : ℕ → Parser Token (Option (Rest TermTree))
rest_inside n = maybe_rest (term_in (inside n))

-- (".." | ":") term
abbrev pub end_inside : ℕ → Parser Token TermTree
end_inside n = after_range_sign (term_in (inside n))
