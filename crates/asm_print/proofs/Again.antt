-- What a text that was printed is read as.
use Rattle.std.proofs.Common.{◌≡◌, ◌≤◌, ℕ, List, length, Result, Ok, Err, IfOk, sym, subst}
use Rattle.asm_syntax.specs.declared.tree.TermTree.{TermTree}
use Rattle.asm_syntax.specs.declared.tree.ModelTree.{ModelTree}
use Rattle.asm_syntax.specs.Texts.{most_bytes, IsTerm, IsModel}
use Rattle.asm_syntax.specs.Canonical.{canonical_term, canonical}
use Rattle.asm_print_theory.specs.Again.{TermReadsBack, ModelReadsBack}
use Rattle.asm_print.specs.Again.{IsTermAgain, IsModelAgain}

pub term_again : {E : Type 0}
    → ((text : List ℕ) (t : TermTree) → IsTerm text t → length (canonical_term t) ≤ most_bytes → TermReadsBack t)
    → (tree : TermTree) (result : Result (List ℕ) E) → IfOk result (λ text. text ≡ canonical_term tree) → IfOk result (IsTermAgain tree)
term_again law tree (Ok text) e = subst (IsTermAgain tree) (sym e) (λ given spelled short. law given tree spelled short)
term_again law tree (Err why) e = tt

pub model_again : {E : Type 0}
    → ((text : List ℕ) (m : ModelTree) → IsModel text m → length (canonical m) ≤ most_bytes → ModelReadsBack m)
    → (tree : ModelTree) (result : Result (List ℕ) E) → IfOk result (λ text. text ≡ canonical tree) → IfOk result (IsModelAgain tree)
model_again law tree (Ok text) e = subst (IsModelAgain tree) (sym e) (λ given spelled short. law given tree spelled short)
model_again law tree (Err why) e = tt
