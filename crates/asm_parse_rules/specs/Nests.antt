-- A function value that reads the rules inside a construct.
use Rattle.std.specs.Prelude.{ℕ, ◌<◌, List, Result}
use Rattle.std.specs.declared.alloc.Global.{Global}
use denote.Ref.{MutBor}
use Rattle.asm_syntax.specs.declared.token.Token.{Token}
use Rattle.asm_syntax.specs.declared.tree.RuleTree.{RuleTree}
use Rattle.asm_parse_theory.specs.Rules.{rule}
use Rattle.asm_parse_cursor.specs.declared.refusal.GrammarRefusal.{GrammarRefusal}
use Rattle.asm_parse_cursor.specs.Reads.{Reads}

-- It reads a rule where fewer constructs than `depth` may be open.
pub record Nests (depth : ℕ) (pre : Global → MutBor (List Token) → ℕ → Type 0)
    (post : Global → MutBor (List Token) → ℕ → Result RuleTree GrammarRefusal
    → MutBor (List Token) → Type 0) : Type 0 where
  pub callable : (alloc : Global) (old : MutBor (List Token)) (d : ℕ) → d < depth → pre alloc old d
  pub reads : (alloc : Global) (old new : MutBor (List Token)) (d : ℕ)
      (r : Result RuleTree GrammarRefusal)
      → d < depth → post alloc old d r new → Reads (rule d old.now) r new.now
