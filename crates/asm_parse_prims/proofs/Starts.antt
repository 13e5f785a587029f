-- What the next token tells.
use Rattle.std.proofs.Common.{◌≡◌, ◌||◌, ◌∙◌, Bool, true, false, List, [], ◌∷◌, refl, ap}
use Rattle.std.specs.Prelude.{codes}
use Rattle.asm_grammar.specs.Parser.{sees}
use Rattle.asm_syntax.specs.declared.token.Token.{Token}
use Rattle.asm_syntax.specs.Marks.{is, symbol, keyword, number, chars, variable}
use Rattle.asm_syntax.specs.Forms.{is_range_sign}
use Rattle.asm_parse_theory.specs.Forms.{goes_on}
use Rattle.asm_parse_theory.specs.Firsts.{starts_plain, starts_term}
use Rattle.asm_parse_prims.specs.Starts.{starts_form}

pub goes_on_either : (ts : List Token) → sees goes_on ts ≡ sees is_range_sign ts || sees (is (symbol (codes ","))) ts
goes_on_either [] = refl
goes_on_either (t ∷ ts) = refl

or_six : (a b c d e f g : Bool) → a || (b || (c || (d || (e || (f || g))))) ≡ (a || (b || (c || (d || (e || f))))) || g
or_six true b c d e f g = refl
or_six false true c d e f g = refl
or_six false false true d e f g = refl
or_six false false false true e f g = refl
or_six false false false false true f g = refl
or_six false false false false false f g = refl

pub term_either : (ts : List Token)
    → sees starts_term ts ≡ sees (is (keyword (codes "not"))) ts || (sees (is (symbol (codes "-"))) ts || (sees starts_plain ts || sees starts_form ts))
term_either [] = refl
term_either (t ∷ ts) =
    ap (λ b. is (keyword (codes "not")) t || (is (symbol (codes "-")) t || b))
    (or_six (is number t) (is chars t) (is (keyword (codes "true")) t) (is (keyword (codes "false")) t) (is (keyword (codes "undef")) t) (is variable t) (starts_form t))
