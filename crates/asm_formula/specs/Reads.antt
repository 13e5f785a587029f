-- What a function that reads tokens ensures.
use Rattle.std.specs.Prelude.{◌≡◌, ◌≢◌, false, List, Result, Ok, Err}
use denote.Ref.{Bor}
use Rattle.asm_grammar.specs.Parser.{Reply, Took, Refused}
use Rattle.asm_formula.specs.declared.token.Token.{Token}
use Rattle.asm_formula.specs.declared.tokens.Halt.{Halt}
use Rattle.asm_formula.specs.declared.tokens.Halt.TheVariants.{NoMemory}

-- What is returned, seen by `view`, is the reply of the parser on lists, unless memory runs out.
-- The tokens left are those of the reply: after a refusal they begin with the token that is
-- refused.
abbrev pub ReadsAs : {V R : Type 0}
    → (R → V) → Reply Token V → Result R Halt → List Token → Type 0
ReadsAs view reply (Ok r) new = reply ≡ Took (view r) new
ReadsAs view reply (Err e) new = e ≢ NoMemory → reply ≡ Refused false new

abbrev pub Reads : {V : Type 0} → Reply Token V → Result V Halt → List Token → Type 0
Reads reply result new = ReadsAs (λ v. v) reply result new

-- the token that is lent is the token that is read
abbrev pub Lends : Reply Token Token → Result (Bor Token) Halt → List Token → Type 0
Lends reply result new = ReadsAs (λ (t : Bor Token). t.now) reply result new
