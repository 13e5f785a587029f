-- What a function that reads tokens ensures.
use Rattle.std.specs.Prelude.{◌≡◌, ◌≢◌, Bool, true, false, List, Option, Result, Ok, Err}
use Rattle.std.specs.Option.{option_map}
use denote.Ref.{Bor}
use Rattle.asm_grammar.specs.Parser.{Reply, Took, Refused}
use Rattle.asm_syntax.specs.declared.token.Token.{Token}
use Rattle.asm_parse_cursor.specs.declared.refusal.GrammarRefusal.{GrammarRefusal}
use Rattle.asm_parse_cursor.specs.declared.refusal.GrammarRefusal.TheVariants.{Syntax, TooDeep, NoMemory}

abbrev pub is_too_deep : GrammarRefusal → Bool
is_too_deep TooDeep = true
is_too_deep Syntax = false
is_too_deep NoMemory = false

-- What is returned, seen by `view`, is the reply of the parser on lists, unless memory runs out.
-- The tokens left are those of the reply: after a refusal they begin with the token that is refused.
abbrev pub ReadsAs : {V R : Type 0}
    → (R → V) → Reply Token V → Result R GrammarRefusal → List Token → Type 0
ReadsAs view reply (Ok r) new = reply ≡ Took (view r) new
ReadsAs view reply (Err e) new = e ≢ NoMemory → reply ≡ Refused (is_too_deep e) new

abbrev pub Reads : {V : Type 0} → Reply Token V → Result V GrammarRefusal → List Token → Type 0
Reads reply result new = ReadsAs (λ v. v) reply result new

-- the token that is lent is the token that is read
abbrev pub Lends : Reply Token Token → Result (Bor Token) GrammarRefusal → List Token → Type 0
Lends reply result new = ReadsAs (λ (t : Bor Token). t.now) reply result new

-- the same where there may be no token
abbrev pub LendsMaybe : Reply Token (Option Token) → Result (Option (Bor Token)) GrammarRefusal → List Token → Type 0
LendsMaybe reply result new = ReadsAs (λ o. option_map (λ (t : Bor Token). t.now) o) reply result new
