-- The last part of an import, and one turn of the look at the imports.
use Rattle.std.proofs.Common.{◌≡◌, ◌∙◌, ◌-◌, ◌+◌, ◌<◌, ◌≤◌, ℕ, suc, List, [], ◌∷◌, length, slice_get, Option, Some, None, sym, ap, refl, arith, codes}
use Rattle.asm_syntax.specs.declared.token.Token.{Token}
use Rattle.asm_syntax.specs.Marks.{last_of}
use Rattle.asm_syntax.specs.Models.{Import}
use Rattle.asm_parse_theory.specs.Forms.{quoted}
use Rattle.asm_parse_theory.specs.Models.{foreign_among, foreign_word}
use Rattle.asm_parse.specs.declared.foreign.Next.{Next}
use Rattle.asm_parse.specs.Imports.{stepped}

last_at : (t : Token) (ts : List Token) → slice_get (t ∷ ts) (length ts) ≡ Some (last_of t ts)
last_at t [] = refl
last_at t (u ∷ us) = last_at u us

pub last_is : (t : Token) (ts : List Token) (u : Token) → Some u ≡ slice_get ts (length ts - 1) → u ≡ last_of t ts
last_is t [] u e = absurd (cc e)
last_is t (v ∷ ts) u e =
    let at : length (v ∷ ts) - 1 ≡ length ts = omega arith in
    let same : Some u ≡ Some (last_of v ts) = e ∙ ap (λ n. slice_get (v ∷ ts) n) at ∙ last_at v ts in
    cc same

step : (n : ℕ) (ts : List Token) → foreign_among (suc n) ts ≡ foreign_word (foreign_among n) (quoted (codes "import") ts)
unfolding foreign_among
step n ts = refl

-- what the turns that are left find
pub turn_finds : (start : Option (Import × List Token)) (turns turn : ℕ) (ts rest : List Token) (next : Next) → turn < turns
    → start ≡ foreign_among (turns - turn) ts
    → ((n : ℕ) → foreign_word (foreign_among n) (quoted (codes "import") ts) ≡ stepped n next rest)
    → start ≡ stepped (turns - (turn + 1)) next rest
turn_finds start turns turn ts rest next h e found =
    let one_less : turns - turn ≡ suc (turns - (turn + 1)) = omega arith in
    e ∙ ap (λ n. foreign_among n ts) one_less ∙ step (turns - (turn + 1)) ts ∙ found (turns - (turn + 1))

none_left : (ts : List Token) → foreign_among 0 ts ≡ None
unfolding foreign_among
none_left ts = refl

-- where no turn is left nothing is found
pub turns_end : (start : Option (Import × List Token)) (turns turn : ℕ) (ts : List Token) → turns ≤ turn → start ≡ foreign_among (turns - turn) ts → None ≡ start
turns_end start turns turn ts h e =
    let over : turns - turn ≡ 0 = omega arith in
    sym (e ∙ ap (λ n. foreign_among n ts) over ∙ none_left ts)
