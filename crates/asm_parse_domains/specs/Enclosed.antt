-- What is read between parentheses, where n constructs might be open.
use Rattle.std.specs.Prelude.{ℕ, List}
use Rattle.asm_grammar.specs.Parser.{Parser}
use Rattle.asm_syntax.specs.declared.token.Token.{Token}
use Rattle.asm_syntax.specs.declared.tree.DomainTree.{DomainTree}
use Rattle.asm_syntax.specs.declared.tree.RangesTree.{RangesTree}
use Rattle.asm_syntax.specs.Forms.{is_open}
use Rattle.asm_parse_theory.specs.Forms.{in_parentheses}
use Rattle.asm_parse_theory.specs.Domains.{factors, inside, ranges}

-- "(" domain "," domain {"," domain} ")"
abbrev pub enclosed_factors : ℕ → Parser Token (DomainTree × (DomainTree × List DomainTree))
enclosed_factors n = in_parentheses (is_open n) (factors (inside n))

-- "(" ranges ")"
abbrev pub enclosed_ranges : ℕ → Parser Token RangesTree
enclosed_ranges n = in_parentheses (is_open n) (ranges (inside n))
