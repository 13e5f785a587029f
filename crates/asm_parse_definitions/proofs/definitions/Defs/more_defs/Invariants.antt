use Rattle.std.proofs.Common.{◌≡◌, ◌-◌, length}
use Rattle.asm_grammar.specs.Parser.{climb}
use Rattle.asm_syntax.specs.Forms.{any, one_more}
use Rattle.asm_parse_theory.specs.Firsts.{starts_def}
use Rattle.asm_parse_theory.specs.Models.{def}
use Rattle.asm_parse_definitions.proofs.definitions.Defs.more_defs.Given as goal

abbrev pub invariant-loop-turn : goal.invariant-loop-turn
invariant-loop-turn g l =
    climb any one_more starts_def (def l.self.depth) (length l.fn.tokens) l.fn.found l.fn.tokens
    ≡ climb any one_more starts_def (def l.self.depth) (l._turn-end - l._turn) l.found l.tokens
