-- The import that is found in a model: behind whole imports one of which the parts are whole and not of the standard library.
use Rattle.std.proofs.Common.{◌≡◌, ℕ, zero, suc, List, [], ◌∷◌, ◌++◌, Bool, true, false, sym, refl, ap, ◌∙◌, subst, append_assoc}
use Rattle.std.specs.Prelude.{cond, Option, Some, None}
use Rattle.asm_grammar.specs.Parser.{Reply, Took, Refused}
use Rattle.asm_grammar.proofs.Exact.{SoundAt, Ends}
use Rattle.asm_syntax.specs.declared.token.Token.{Token}
use Rattle.asm_syntax.specs.Models as g
use Rattle.asm_syntax.specs.Models.{Import}
use Rattle.asm_syntax.specs.Grammar.{is_standard}
use Rattle.asm_parse_theory.specs.Models as r
use Rattle.asm_parse_theory.specs.Models.{foreign_parts, foreign_word}
use Rattle.asm_parse_theory.proofs.NoImportTerms.{is_import}
use Rattle.asm_parse_theory.proofs.Rows.{Row}
use Rattle.asm_parse_theory.proofs.Imports.{is_slash, sound_parts, read_parts}

abbrev pub Answer : Type 0
Answer = Option (Import × List Token)

-- ---- one import

-- what is found where parts were read, by whether they are of the standard library
abbrev pub at_parts : Bool → Answer → Import → List Token → Answer
at_parts x next given ts = cond x next (Some (given, ts))

pub at_word : (n : ℕ) (word : Token) (ts : List Token) → is_import word ≡ true
    → r.foreign_among (suc n) (word ∷ ts) ≡ foreign_parts (r.foreign_among n) ts (r.parts ts)
unfolding r.foreign_among
at_word n word ts e = ap (λ x. foreign_word (r.foreign_among n) (cond x (Took word ts) (Refused false (word ∷ ts)))) e

pub at_other : (n : ℕ) (t : Token) (ts : List Token) → is_import t ≡ false → r.foreign_among n (t ∷ ts) ≡ None
unfolding r.foreign_among
at_other zero t ts e = refl
at_other (suc n) t ts e = ap (λ x. foreign_word (r.foreign_among n) (cond x (Took t ts) (Refused false (t ∷ ts)))) e

pub at_end : (n : ℕ) → r.foreign_among n [] ≡ None
unfolding r.foreign_among
at_end zero = refl
at_end (suc n) = refl

-- an import of these parts
pub at_import : (n : ℕ) (word : Token) (given : Import) (list behind : List Token) → is_import word ≡ true → g.parts.Spells given list
    → Ends is_slash behind
    → r.foreign_among (suc n) (word ∷ list ++ behind) ≡ at_parts (is_standard given) (r.foreign_among n behind) given (list ++ behind)
at_import n word given list behind e sp end =
    at_word n word (list ++ behind) e
    ∙ ap (λ z. foreign_parts (r.foreign_among n) (list ++ behind) z) (read_parts given list behind sp end)

-- ---- what is found is such an import

-- Behind whole imports stands one of which the parts are read, whole, and aren't of the standard library.
pub record IsFound (ts : List Token) (given : Import) (rest : List Token) : Type 0 where
  pub before : List Import
  pub front : List Token
  pub word : Token
  pub list : List Token
  pub behind : List Token
  pub row : Row g.imported before front
  pub split : ts ≡ front ++ word ∷ rest
  pub imports : is_import word ≡ true
  pub is_rest : rest ≡ list ++ behind
  pub lists : g.parts.Spells given list
  pub took : r.parts rest ≡ Took given behind
  pub foreign : is_standard given ≡ false

found_later : (word : Token) (ts list behind : List Token) (i given : Import) (rest : List Token) → is_import word ≡ true
    → ts ≡ list ++ behind → g.parts.Spells i list → IsFound behind given rest → IsFound (word ∷ ts) given rest
found_later word ts list behind i given rest e e' sp f = record {
  before = i ∷ f.before;
  front = word ∷ (list ++ f.front);
  word = f.word;
  list = f.list;
  behind = f.behind;
  row = (word ∷ list, f.front, refl, ((word, i), refl, (word ∷ [], list, refl, (e, refl), sp)), f.row);
  split = ap (λ z. word ∷ z) (e' ∙ ap (λ z. list ++ z) f.split ∙ sym (append_assoc list f.front (f.word ∷ rest)));
  imports = f.imports;
  is_rest = f.is_rest;
  lists = f.lists;
  took = f.took;
  foreign = f.foreign;
}

abbrev given_of : Import → Answer → Import
given_of i None = i
given_of i (Some x) = x.0

abbrev rest_of : List Token → Answer → List Token
rest_of ts None = ts
rest_of ts (Some x) = x.1

found_parts : (next : List Token → Answer) → ((us : List Token) (g' : Import) (rest : List Token) → next us ≡ Some (g', rest) → IsFound us g' rest)
    → (word : Token) (ts : List Token) (given : Import) (rest : List Token) → is_import word ≡ true
    → (reply : Reply Token Import) → r.parts ts ≡ reply → SoundAt g.parts g.parts ts reply
    → foreign_parts next ts reply ≡ Some (given, rest) → IsFound (word ∷ ts) given rest
found_parts next ih word ts given rest e (Refused x left) took s f = absurd (cc f)
found_parts next ih word ts given rest e (Took i behind) took s f = go (is_standard i) refl f
  where
    go : (x : Bool) → is_standard i ≡ x → at_parts x (next behind) i ts ≡ Some (given, rest) → IsFound (word ∷ ts) given rest
    go true h found = found_later word ts s.0 behind i given rest e s.1 s.2 (ih behind given rest found)
    go false h found =
        let same : i ≡ given = ap (λ z. given_of i z) found in
        let there : ts ≡ rest = ap (λ z. rest_of ts z) found in
        record {
          before = [];
          front = [];
          word = word;
          list = s.0;
          behind = behind;
          row = refl;
          split = ap (λ z. word ∷ z) there;
          imports = e;
          is_rest = sym there ∙ s.1;
          lists = subst (λ z. g.parts.Spells z s.0) same s.2;
          took = ap r.parts (sym there) ∙ took ∙ ap (λ z. Took z behind) same;
          foreign = ap is_standard (sym same) ∙ h;
        }

pub found_among : (n : ℕ) (ts : List Token) (given : Import) (rest : List Token) → r.foreign_among n ts ≡ Some (given, rest) → IsFound ts given rest
unfolding r.foreign_among
found_among zero ts given rest e = absurd (cc e)
found_among (suc n) [] given rest e = absurd (cc e)
found_among (suc n) (t ∷ ts) given rest e = go (found_among n) (is_import t) refl
  where
    go : ((us : List Token) (g' : Import) (rest : List Token) → r.foreign_among n us ≡ Some (g', rest) → IsFound us g' rest)
        → (x : Bool) → is_import t ≡ x → IsFound (t ∷ ts) given rest
    go ih true h =
        found_parts (r.foreign_among n) ih t ts given rest h (r.parts ts) refl (sound_parts.at ts) (sym (at_word n t ts h) ∙ e)
    go ih false h = let none : None ≡ Some (given, rest) = sym (at_other (suc n) t ts h) ∙ e in absurd (cc none)
