use Rattle.std.proofs.Common.{◌≡◌, ◌-◌, length}
use Rattle.asm_grammar.specs.Parser.{climb}
use Rattle.asm_syntax.specs.Forms.{any, one_more}
use Rattle.asm_parse_theory.specs.Firsts.{starts_decl}
use Rattle.asm_parse_theory.specs.Models.{decl}
use Rattle.asm_parse_definitions.proofs.declarations.more_decls.Given as goal

abbrev pub invariant-loop-turn : goal.invariant-loop-turn
invariant-loop-turn l =
    climb any one_more starts_decl (decl l.depth) (length l.fn.tokens) l.fn.found l.fn.tokens
    ≡ climb any one_more starts_decl (decl l.depth) (l._turn-end - l._turn) l.found l.tokens
