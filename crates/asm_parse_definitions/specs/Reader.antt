-- A function value that reads rules.
use Rattle.std.specs.Prelude.{ℕ, List, Result}
use Rattle.std.specs.declared.alloc.Global.{Global}
use denote.Ref.{MutBor}
use Rattle.asm_syntax.specs.declared.token.Token.{Token}
use Rattle.asm_syntax.specs.declared.tree.RuleTree.{RuleTree}
use Rattle.asm_parse_theory.specs.Rules.{rule}
use Rattle.asm_parse_cursor.specs.declared.refusal.GrammarRefusal.{GrammarRefusal}
use Rattle.asm_parse_cursor.specs.Reads.{Reads}

-- It reads a rule where `depth` constructs may be open.
pub record ReadsRules (depth : ℕ) (pre : Global → MutBor (List Token) → ℕ → Type 0)
    (post : Global → MutBor (List Token) → ℕ → Result RuleTree GrammarRefusal
    → MutBor (List Token) → Type 0) : Type 0 where
  pub callable : (alloc : Global) (old : MutBor (List Token)) → pre alloc old depth
  pub reads : (alloc : Global) (old new : MutBor (List Token)) (r : Result RuleTree GrammarRefusal)
      → post alloc old depth r new → Reads (rule depth old.now) r new.now
