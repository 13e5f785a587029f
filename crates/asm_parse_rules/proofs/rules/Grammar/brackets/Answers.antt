use Rattle.std.proofs.Common.{codes}
use Rattle.asm_grammar.specs.Parser.{optional}
use Rattle.asm_syntax.specs.Forms.{is_open}
use Rattle.asm_parse_theory.specs.Firsts.{starts_term}
use Rattle.asm_parse_theory.specs.Terms.{arguments, inside}
use Rattle.asm_parse_rules.proofs.Enclosed.{bracketed_took}
use Rattle.asm_parse_rules.proofs.rules.Grammar.brackets.Goals as goal

pub returns-in-Ok-expect_sign : goal.returns-in-Ok-expect_sign
returns-in-Ok-expect_sign g c =
    bracketed_took (is_open c.args.self.now.depth) (codes "[") (optional starts_term (arguments (inside c.args.self.now.depth))) (codes "]")
    c.args.tokens.now _ c.maybe_arguments.new.tokens c.expect_sign.new.self c.in_ok-_bracket._bracket.now c.in-Ok-expect_sign._end.now c.in-Ok.args
    c.in_ok-_bracket.ensures.reads c.in-Ok.ensures c.in-Ok-expect_sign.ensures
