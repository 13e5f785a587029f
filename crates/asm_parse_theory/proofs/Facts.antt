-- What is shown of each line of the grammar.
use Rattle.std.proofs.Common.{◌≡◌, ◌≤◌, ℕ, suc, [], ◌∷◌, Bool, true, false, ◌⊎◌}
use Rattle.asm_grammar.specs.Language.{Language}
use Rattle.asm_grammar.specs.Parser.{Parser}
use Rattle.asm_grammar.proofs.Exact.{Sound, Complete}
use Rattle.asm_grammar.proofs.Fronts.{Fronts}
use Rattle.asm_grammar.proofs.Wider.{Wider}
use Rattle.asm_syntax.specs.declared.token.Token.{Token}
use Rattle.asm_syntax.specs.declared.tree.TermTree.{TermTree}
use Rattle.asm_syntax.specs.Forms.{any, is_open}
use Rattle.asm_syntax.specs.Heights.{fits}

-- a language by the test of what may stand left of an operator, and by how many constructs may be open
abbrev pub Limited : Type 0 → Type 1
Limited V = (TermTree → Bool) → ℕ → Language Token V

-- where k constructs may be open in the language and n in the parser: no more than in the parser, or X
abbrev pub Room : Bool → ℕ → ℕ → Type 0
Room X n k = (X ≡ true) ⊎ (k ≤ n)

-- where the language lets stand left of an operator what the parser doesn't, X
abbrev pub Loose : Bool → (TermTree → Bool) → Type 0
Loose X fits' = (t : TermTree) → fits' t ≡ true → fits t ≡ false → X ≡ true

-- A line with its parser and its language. F has the tokens with which it begins, C those that may go on after a value.
pub record Line {V : Type 0} (p : ℕ → Parser Token V) (L : Limited V) (F : Token → Bool) (C : V → Token → Bool) : Type 0 where
  pub sound : (n : ℕ) → Sound (p n) (L fits n) (L any (suc n))
  pub starts : (n : ℕ) (t : Token) → F t ≡ true → (L any (suc n)).Begins (t ∷ [])
  pub empty : (fits' : TermTree → Bool) (n : ℕ) → (L fits' n).Begins []
  pub complete : (X : Bool) (fits' : TermTree → Bool) → Loose X fits' → (n k : ℕ) → Room X n k → Complete X (p n) (L fits' k) F C false
  pub fronts : (fits' : TermTree → Bool) (n : ℕ) → Fronts (L fits' n)
  pub wider : (n : ℕ) → Wider (L fits n) (L any n)

-- The same of a line that stands one construct deeper in another, and so only where one more may be open.
pub record Deeper {V : Type 0} (p : ℕ → Parser Token V) (L : Limited V) (F : Token → Bool) (C : V → Token → Bool) : Type 0 where
  pub sound : (n : ℕ) → is_open n ≡ true → Sound (p n) (L fits n) (L any (suc n))
  pub starts : (n : ℕ) → is_open n ≡ true → (t : Token) → F t ≡ true → (L any (suc n)).Begins (t ∷ [])
  -- one deeper, where something stands at least
  pub empty : (fits' : TermTree → Bool) (n : ℕ) → (L fits' (suc n)).Begins []
  pub complete : (X : Bool) (fits' : TermTree → Bool) → Loose X fits' → (n k : ℕ) → Room X n k → is_open n ≡ true → is_open k ≡ true
      → Complete X (p n) (L fits' k) F C false
  pub fronts : (fits' : TermTree → Bool) (n : ℕ) → is_open n ≡ true → Fronts (L fits' n)
  pub wider : (n : ℕ) → is_open n ≡ true → Wider (L fits n) (L any n)
