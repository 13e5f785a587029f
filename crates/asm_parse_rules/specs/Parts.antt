-- Parts of rules that are read by a method of their own.
use Rattle.std.specs.Prelude.{ℕ, Option, codes}
use Rattle.asm_grammar.specs.Parser.{Parser, choose, mapped, both}
use Rattle.asm_syntax.specs.declared.token.Token.{Token}
use Rattle.asm_syntax.specs.declared.tree.RangesTree.{RangesTree}
use Rattle.asm_syntax.specs.declared.tree.TermTree.{TermTree}
use Rattle.asm_syntax.specs.declared.tree.RuleTree.{RuleTree}
use Rattle.asm_syntax.specs.Marks.{is, symbol}
use Rattle.asm_syntax.specs.Rules as g
use Rattle.asm_parse_theory.specs.Terms as t
use Rattle.asm_parse_theory.specs.Rules.{call_part, update_part, forall_body, choose_body}
use Rattle.asm_parse_rules.specs.Lines.{line}
use Rattle.asm_parse_rules.specs.declared.rules.Use.{Use}
use Rattle.asm_parse_rules.specs.declared.rules.Use.TheVariants.{Calls, Updates}

-- what is done with a name, as the grammar has it
abbrev pub seen_use : Use → g.Use
seen_use (Calls args) = g.Calls args
seen_use (Updates args value) = g.Updates (args, value)

-- "[" [term {"," term}] "]", and ["(" term {"," term} ")"] ":=" term
abbrev pub use_part : ℕ → Parser Token g.Use
use_part n =
    choose (is (symbol (codes "["))) (mapped g.Calls (line call_part n))
    (mapped g.Updates (line update_part n))

-- ranges ["with" term] "do" rule
abbrev pub forall_parts : ℕ → Parser Token (RangesTree × (Option TermTree × RuleTree))
forall_parts n = both (t.inside n).ranges (line forall_body n)

-- ranges ["with" term] "do" rule ["ifnone" rule]
abbrev pub choose_parts : ℕ
    → Parser Token (RangesTree × (Option TermTree × (RuleTree × Option RuleTree)))
choose_parts n = both (t.inside n).ranges (line choose_body n)
