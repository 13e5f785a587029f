-- Kinds of tokens that texts have.
use Rattle.std.proofs.Common.{◌≡◌, ℕ, ◌^◌, ◌<◌, true, false, List, [], ◌∷◌, ◌++◌, map, refl, ap, ◌∙◌}
use Rattle.std.specs.Prelude.{pos}
use Rattle.asm_syntax.specs.Bytes.{Every, is_string_byte}
use Rattle.asm_syntax.specs.Words.{is_among, symbols, keywords, refused_words}
use Rattle.asm_syntax.specs.Lexes.{IsWord}
use Rattle.asm_syntax.specs.Written.{Words, kind_word}
use Rattle.asm_syntax.specs.declared.token.Token.{Token}
use Rattle.asm_syntax.specs.declared.token.TokenKind.{TokenKind}
use Rattle.asm_syntax.specs.declared.token.TokenKind.TheVariants.{Id, Var, Number, Chars, Keyword, Refused, Symbol}

-- some text is read as a token of this kind
abbrev pub Proper : TokenKind → Type 0
Proper (Id name) = IsWord name × (is_among keywords name ≡ false) × (is_among refused_words name ≡ false)
Proper (Var name) = IsWord name
Proper (Number n) = (m : ℕ) × (n ≡ pos m) × (m < 2 ^ 127)
Proper (Chars text) = Every is_string_byte text
Proper (Keyword word) = is_among keywords word ≡ true
Proper (Refused word) = (is_among keywords word ≡ false) × (is_among refused_words word ≡ true)
Proper (Symbol sign) = is_among symbols sign ≡ true

abbrev pub Kinds : Type 0
Kinds = List TokenKind

abbrev pub kinds_of : List Token → Kinds
kinds_of ts = map (λ (t : Token). t.kind) ts

abbrev pub words_of : Kinds → Words
words_of ks = map kind_word ks

abbrev pub Propers : Kinds → Type 0
Propers [] = Unit {0}
Propers (k ∷ ks) = Proper k × Propers ks

-- the kinds of the tokens
abbrev pub Lexed : List Token → Type 0
Lexed ts = Propers (kinds_of ts)

pub propers_both : (ks ls : Kinds) → Propers ks → Propers ls → Propers (ks ++ ls)
propers_both [] ls p q = q
propers_both (k ∷ ks) ls p q = (p.0, propers_both ks ls p.1 q)

pub words_both : (ks ls : Kinds) → words_of (ks ++ ls) ≡ words_of ks ++ words_of ls
words_both [] ls = refl
words_both (k ∷ ks) ls = ap (λ ws. kind_word k ∷ ws) (words_both ks ls)

pub lexed_parts : (a b : List Token) → Lexed (a ++ b) → Lexed a × Lexed b
lexed_parts [] b p = (tt, p)
lexed_parts (t ∷ a) b p = let q = lexed_parts a b p.1 in ((p.0, q.0), q.1)

-- tokens by the kinds of their front and their back
pub record Cut (us : List Token) (ks ls : Kinds) : Type 0 where
  pub front : List Token
  pub back : List Token
  pub parts : us ≡ front ++ back
  pub fronts : kinds_of front ≡ ks
  pub backs : kinds_of back ≡ ls

abbrev head_of : Kinds → TokenKind
head_of [] = Id []
head_of (k ∷ ks) = k

abbrev tail_of : Kinds → Kinds
tail_of [] = []
tail_of (k ∷ ks) = ks

-- tokens of which the first is of this kind
pub record Step (us : List Token) (k : TokenKind) (ls : Kinds) : Type 0 where
  pub first : Token
  pub others : List Token
  pub parts : us ≡ first ∷ others
  pub kind : first.kind ≡ k
  pub rest : kinds_of others ≡ ls

pub step_off : (us : List Token) (k : TokenKind) (ls : Kinds) → kinds_of us ≡ k ∷ ls → Step us k ls
step_off [] k ls e = absurd (cc)
step_off (u ∷ us) k ls e = record { first = u; others = us; parts = refl; kind = ap head_of e; rest = ap tail_of e }

pub none_left : (us : List Token) → kinds_of us ≡ [] → us ≡ []
none_left [] e = refl
none_left (u ∷ us) e = absurd (cc)

pub cut_at : (us : List Token) (ks ls : Kinds) → kinds_of us ≡ ks ++ ls → Cut us ks ls
cut_at us [] ls e = record { front = []; back = us; parts = refl; fronts = refl; backs = e }
cut_at us (k ∷ ks) ls e =
    let s = step_off us k (ks ++ ls) e in
    let c = cut_at s.others ks ls s.rest in
    record {
      front = s.first ∷ c.front;
      back = c.back;
      parts = s.parts ∙ ap (λ x. s.first ∷ x) c.parts;
      fronts = (λ i. s.kind i ∷ c.fronts i);
      backs = c.backs;
    }
