-- Function values that read the lines of terms inside a construct.
use Rattle.std.specs.Prelude.{ℕ, ◌<◌, List, Result}
use Rattle.std.specs.declared.alloc.Global.{Global}
use denote.Ref.{MutBor}
use Rattle.asm_syntax.specs.declared.token.Token.{Token}
use Rattle.asm_syntax.specs.declared.tree.TermTree.{TermTree}
use Rattle.asm_parse_cursor.specs.declared.refusal.GrammarRefusal.{GrammarRefusal}
use Rattle.asm_parse_cursor.specs.Reads.{Reads}
use Rattle.asm_parse_theory.specs.Terms.{line}
use Rattle.asm_parse_parts.specs.declared.line.Line.{Line}
use Rattle.asm_parse_parts.specs.Lines.{line_of}

-- It reads a line of terms where fewer constructs than `depth` may be open.
pub record Nests (depth : ℕ)
    (pre : Global → MutBor (List Token) → ℕ → Line → Type 0)
    (post : Global → MutBor (List Token) → ℕ → Line → Result TermTree GrammarRefusal
    → MutBor (List Token) → Type 0) : Type 0 where
  pub callable : (alloc : Global) (old : MutBor (List Token)) (d : ℕ) (l : Line)
      → d < depth → pre alloc old d l
  pub reads : (alloc : Global) (old new : MutBor (List Token)) (d : ℕ) (l : Line)
      (r : Result TermTree GrammarRefusal)
      → d < depth → post alloc old d l r new → Reads (line d (line_of l) old.now) r new.now
