-- The facts of imports.
use Rattle.std.proofs.Common.{◌≡◌, ◌+◌, List, [], ◌∷◌, ◌++◌, length, Bool, true, false, ◌⊎◌, inl, inr, sym, refl, ap, ◌∙◌, subst, append_assoc, length-append, codes, arith}
use Rattle.std.specs.Prelude.{◌||◌}
use Rattle.asm_grammar.specs.Language.{word}
use Rattle.asm_grammar.specs.Parser.{Reply, Took, Refused, sees}
use Rattle.asm_grammar.proofs.Exact.{Sound, Complete, Ends, Gives, IsRestOf, Reaches, weaken}
use Rattle.asm_grammar.proofs.Basic.{sound-word, complete-word, never}
use Rattle.asm_grammar.proofs.Pairs.{sound-then, complete-then}
use Rattle.asm_grammar.proofs.Maybe.{both_false}
use Rattle.asm_grammar.proofs.Fronts.{Fronts, fronts-word, fronts-then}
use Rattle.asm_syntax.specs.declared.token.Token.{Token}
use Rattle.asm_syntax.specs.Marks.{is, is_one_of, id, symbol}
use Rattle.asm_syntax.specs.Forms.{after_sign}
use Rattle.asm_syntax.specs.Models as g
use Rattle.asm_syntax.specs.Models.{Import}
use Rattle.asm_parse_theory.specs.Models as r
use Rattle.asm_parse_theory.proofs.FormFacts.{sound_after_sign, sound_many, complete_after_sign, complete_many, fronts_after_sign, fronts_many, starts_after_sign}
use Rattle.asm_parse_theory.proofs.NoImportTerms.{is_import}
use Rattle.asm_parse_theory.proofs.Rows.{many_row, row_begins}

abbrev pub is_slash : Token → Bool
is_slash = is (symbol (codes "/"))

abbrev pub is_part : Token → Bool
is_part = is_one_of (symbol (codes ".") ∷ symbol (codes "..") ∷ id ∷ [])

-- ---- the parts

pub sound_parts : Sound r.parts g.parts g.parts
unfolding r.parts
sound_parts =
    sound-then (sound-word is_part)
    (sound_many (sound_after_sign (sound-word is_part) (codes "/")) is_slash (starts_after_sign (codes "/") g.part))

off_slash : (t : Token) → is_slash t ≡ false → (is_slash t || false) ≡ false
off_slash t h = both_false (is_slash t) false h refl

pub complete_parts : (X : Bool) → Complete X r.parts g.parts is_part (λ v. is_slash) false
unfolding r.parts
complete_parts X =
    weaken is_part (λ v. is_slash) (λ t h. h) (λ v t h. off_slash t h)
    (complete-then X (complete-word is_part X)
    (complete_many X {C = never} (complete_after_sign X (complete-word is_part X) (codes "/")) (λ t h. refl)) (λ v t h. refl))

pub fronts_parts : Fronts g.parts
fronts_parts = fronts-then (fronts-word is_part) (fronts_many (fronts_after_sign (fronts-word is_part) (codes "/")))

gives_took : {V : Type 0} (v : V) (b : List Token) (r : Reply Token V) → Gives false v b r → r ≡ Took v b
gives_took v b (Took w rest) h = ap (λ z. Took z rest) h.0 ∙ ap (λ z. Took v z) h.1
gives_took v b (Refused false rest) h = absurd h
gives_took v b (Refused true rest) h = absurd (cc h)

-- parts that no `/` follows are read
pub read_parts : (given : Import) (a b : List Token) → g.parts.Spells given a → Ends is_slash b → r.parts (a ++ b) ≡ Took given b
read_parts given a b sp h = gives_took given b (r.parts (a ++ b)) ((complete_parts false).whole given a b sp h)

-- a `/` goes on after parts
slash_begins : (given : Import) (a : List Token) (t : Token) → g.parts.Spells given a → is_slash t ≡ true → g.parts.Begins (a ++ t ∷ [])
slash_begins given a t s h =
    let row = many_row (after_sign (codes "/") g.part) given.1 s.1 s.4 in
    let more = row_begins (after_sign (codes "/") g.part) given.1 s.1 (t ∷ []) row (starts_after_sign (codes "/") g.part t h) in
    inr (given.0, s.0, s.1 ++ t ∷ [], ap (λ z. z ++ t ∷ []) s.2 ∙ append_assoc s.0 s.1 (t ∷ []), s.3, more)

-- no `/` is left behind parts
pub parts_whole : (given : Import) (ts a b : List Token) → ts ≡ a ++ b → g.parts.Spells given a → r.parts ts ≡ Took given b → sees is_slash b ≡ false
parts_whole given ts a [] e sp took = refl
parts_whole given ts a (t ∷ b) e sp took = go (is_slash t) refl
  where
    again : is_slash t ≡ true → Reaches false b (r.parts ts)
    again h =
        subst (λ z. Reaches false b (r.parts z)) (append_assoc a (t ∷ []) b ∙ sym e)
        ((complete_parts false).partly (a ++ t ∷ []) b (slash_begins given a t sp h))

    go : (x : Bool) → is_slash t ≡ x → is_slash t ≡ false
    go false h = h
    go true h =
        let rest : IsRestOf b (t ∷ b) = subst (λ z. Reaches false b z) took (again h) in
        let long : length b ≡ length rest.0 + length (t ∷ b) = ap length rest.1 ∙ length-append rest.0 (t ∷ b) in
        absurd (omega arith)

-- ---- the whole import

-- the word and what stands behind it
pub record Opened (P : List Token → Type 0) (a : List Token) : Type 0 where
  pub word : Token
  pub list : List Token
  pub imports : is_import word ≡ true
  pub parts : a ≡ word ∷ list
  pub fact : P list

pub spelled_import : (given : Import) (a : List Token) → g.imported.Spells given a → Opened (λ z. g.parts.Spells given z) a
spelled_import given a s = record {
  word = s.0.0;
  list = s.2.1;
  imports = s.2.3.0;
  parts = s.2.2 ∙ ap (λ z. z ++ s.2.1) s.2.3.1;
  fact = subst (λ z. g.parts.Spells z s.2.1) (sym s.1) s.2.4;
}

pub begun_import : (a : List Token) → g.imported.Begins a → (a ≡ []) ⊎ Opened (λ z. g.parts.Begins z) a
begun_import a (inl (inl e)) = inl e
begun_import a (inl (inr s)) = inr (record { word = s.0; list = []; imports = s.1; parts = s.2; fact = inl (inl refl) })
begun_import a (inr s) = inr (record {
  word = s.0;
  list = s.2;
  imports = s.4.0;
  parts = s.3 ∙ ap (λ z. z ++ s.2) s.4.1;
  fact = s.5;
})

pub import_begins : (word : Token) (list : List Token) → is_import word ≡ true → g.parts.Begins list → g.imported.Begins (word ∷ list)
import_begins word list e bg = inr (word, word ∷ [], list, refl, (e, refl), bg)
