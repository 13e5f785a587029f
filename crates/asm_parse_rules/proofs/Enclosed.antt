-- What stands between two symbols, step by step.
use Rattle.std.proofs.Common.{◌≡◌, ◌≢◌, ◌∙◌, ℕ, Bool, List, ap}
use Rattle.asm_grammar.specs.Parser.{Reply, Took, Refused, Parser, enter, and_then}
use Rattle.asm_syntax.specs.declared.token.Token.{Token}
use Rattle.asm_syntax.specs.Marks.{is, symbol}
use Rattle.asm_syntax.specs.Forms.{between}
use Rattle.asm_parse_theory.specs.Forms.{sign, bracketed}
use Rattle.asm_parse_cursor.specs.declared.refusal.GrammarRefusal.{GrammarRefusal}
use Rattle.asm_parse_cursor.specs.declared.refusal.GrammarRefusal.TheVariants.{NoMemory}
use Rattle.asm_parse_cursor.specs.Reads.{is_too_deep}

module _ {V : Type 0} (o : Bool) (s : List ℕ) (q : Parser Token V) (end : List ℕ) where
  abbrev at_end : Token → V → Reply Token Token → Reply Token V
  at_end t v r = and_then (and_then (and_then r (λ e rest. Took (v, e) rest)) (λ w rest. Took (t, w) rest)) (λ w rest. Took (between w) rest)

  abbrev at_inside : Token → Reply Token V → Reply Token V
  at_inside t r =
      and_then (and_then (and_then r (λ v rest. and_then (sign end rest) (λ e left. Took (v, e) left))) (λ w rest. Took (t, w) rest)) (λ w rest. Took (between w) rest)

  abbrev at_start : Reply Token Token → Reply Token V
  at_start r =
      and_then (and_then r (λ t rest. and_then (and_then (q rest) (λ v left. and_then (sign end left) (λ e after. Took (v, e) after))) (λ w after. Took (t, w) after)))
      (λ w rest. Took (between w) rest)

  pub bracketed_took : (ts r1 r2 r3 : List Token) (t e : Token) (v : V) → enter o (is (symbol s)) ts ≡ Took t r1 → q r1 ≡ Took v r2 → sign end r2 ≡ Took e r3
      → bracketed o s q end ts ≡ Took v r3
  bracketed_took ts r1 r2 r3 t e v first inner last = ap at_start first ∙ ap (at_inside t) inner ∙ ap (at_end t v) last

  pub bracketed_fails : (ts r1 r2 r3 : List Token) (t : Token) (v : V) (why : GrammarRefusal) → enter o (is (symbol s)) ts ≡ Took t r1 → q r1 ≡ Took v r2
      → (why ≢ NoMemory → sign end r2 ≡ Refused (is_too_deep why) r3) → why ≢ NoMemory → bracketed o s q end ts ≡ Refused (is_too_deep why) r3
  bracketed_fails ts r1 r2 r3 t v why first inner last known = ap at_start first ∙ ap (at_inside t) inner ∙ ap (at_end t v) (last known)

  pub bracketed_fails_inside : (ts r1 r2 : List Token) (t : Token) (why : GrammarRefusal) → enter o (is (symbol s)) ts ≡ Took t r1
      → (why ≢ NoMemory → q r1 ≡ Refused (is_too_deep why) r2) → why ≢ NoMemory → bracketed o s q end ts ≡ Refused (is_too_deep why) r2
  bracketed_fails_inside ts r1 r2 t why first inner known = ap at_start first ∙ ap (at_inside t) (inner known)
