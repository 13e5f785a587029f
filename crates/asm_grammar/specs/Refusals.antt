-- The first token at which a list is refused, and why.
use Rattle.std.specs.Prelude.{◌≡◌, ℕ, List, [], ◌∷◌, ◌++◌}
use Rattle.asm_grammar.specs.Language.{Language}

-- A language in which the limit may be any number, of languages that have one each.
abbrev pub unlimited : {T V : Type 0} → (ℕ → Language T V) → Language T V
unlimited L = record {
  Spells = λ v ts. (n : ℕ) × (L n).Spells v ts;
  Begins = λ ts. (n : ℕ) × (L n).Begins ts;
}

-- with the next token the front begins nothing; or no token is left, and the front spells nothing
abbrev pub GoesNoFurther : {T V : Type 0} → Language T V → List T → List T → Type 0
GoesNoFurther {T} {V} free front [] = (v : V) → free.Spells v front → ⊥
GoesNoFurther free front (t ∷ rest) = free.Begins (front ++ t ∷ []) → ⊥

-- The list is refused for its syntax where `rest` begins: what is before it is a partial spelling
-- within the limit, and even without a limit it goes no further.
pub record IsSyntax {T V : Type 0} (within free : Language T V) (ts rest : List T) : Type 0 where
  pub front : List T
  pub split : ts ≡ front ++ rest
  pub before : within.Begins front
  pub there : GoesNoFurther free front rest

-- The list is refused for its depth where `rest` begins: with the next token what is before it is a
-- partial spelling without a limit, and within the limit it isn't.
pub record IsTooDeep {T V : Type 0} (within free : Language T V) (ts rest : List T) : Type 0 where
  pub front : List T
  pub next : T
  pub behind : List T
  pub split : ts ≡ front ++ rest
  pub is_next : rest ≡ next ∷ behind
  pub before : within.Begins front
  pub goes_on : free.Begins (front ++ next ∷ [])
  pub passes : within.Begins (front ++ next ∷ []) → ⊥
