-- What is reported of the cause that a parser tells is what is reported of the text.
use Rattle.std.proofs.Common.{◌≡◌, ◌≢◌, ℕ, List, Option, codes, decimal, sym, subst}
use Rattle.asm_value.specs.declared.domain.Domain.{Domain}
use Rattle.asm_syntax.specs.declared.token.Token.{Token}
use Rattle.asm_syntax.specs.declared.token_refusal.TokenRefusal.{TokenRefusal}
use Rattle.asm_syntax.specs.declared.token_refusal.TokenRefusal.TheVariants as tokens
use Rattle.asm_syntax.specs.Refusals as refusals
use Rattle.asm_syntax.specs.Refusals.{Refusal}
use Rattle.asm_syntax.specs.Texts.{IsRefusedModel, IsRefusedTerm}
use Rattle.asm_lex.specs.declared.LexRefusal.{LexRefusal}
use Rattle.asm_lex.specs.declared.LexRefusal.TheVariants as lexer
use Rattle.asm_lex.specs.Answers.{IsFirst, StopsAt}
use Rattle.asm_parse.specs.declared.refusal.ParseRefusal.{ParseRefusal}
use Rattle.asm_parse.specs.declared.refusal.ParseRefusal.TheVariants.{Lex, Syntax, Unsupported, TooDeep, NoMemory}
use Rattle.asm_parse.specs.Answers.{IsModelCause, IsTermCause}
use Rattle.asm_program.specs.declared.bad_text.BadText.{BadText}
use Rattle.asm_program.specs.declared.program.Program.{Program}
use Rattle.asm_meaning.specs.Texts as texts
use Rattle.asm_meaning.specs.Texts.{reported_at, reported_token, reported_refusal, IsBadText}
use Rattle.asm_meaning.specs.Terms as terms
use Rattle.asm_meaning.specs.Terms.{IsBadTerm}
use Rattle.asm_checking.specs.Reported.{reported_lex, reported_parse}

-- ---- of a model's text

model_stopped : (text : List ℕ) (ts : List Token) (why : TokenRefusal) (at : ℕ) → StopsAt text ts why at → IsBadText text (reported_token text why at)
model_stopped text ts why at s = texts.unlexed s.0 s.1

model_refused : (text : List ℕ) (why : Refusal) (at : ℕ) → IsRefusedModel text why at → IsBadText text (reported_refusal text why at)
model_refused text why at r = texts.unread r

model_unlexed : (text : List ℕ) (ts : List Token) (why : LexRefusal) → IsFirst text ts why → IsBadText text (reported_lex text why)
model_unlexed text ts (lexer.TextTooLong bytes) f =
    subst (λ n. IsBadText text (reported_at text 0 (codes "TextTooLong") (decimal n))) (sym f.1) (texts.too_long f.0)
model_unlexed text ts (lexer.BadByte at) f = model_stopped text ts tokens.BadByte at f
model_unlexed text ts (lexer.OpenComment at) f = model_stopped text ts tokens.OpenComment at f
model_unlexed text ts (lexer.OpenString at) f = model_stopped text ts tokens.OpenString at f
model_unlexed text ts (lexer.NumberTooLarge at) f = model_stopped text ts tokens.NumberTooLarge at f
model_unlexed text ts lexer.NoMemory f = absurd f

pub model_caused : (text : List ℕ) (why : ParseRefusal) → IsModelCause text why → IsBadText text (reported_parse text why)
model_caused text (Lex why) c = model_unlexed text c.0 why c.1
model_caused text (Syntax at) c = model_refused text refusals.Syntax at c
model_caused text (Unsupported word at) c = model_refused text (refusals.Unsupported word) at c
model_caused text (TooDeep at) c = model_refused text refusals.TooDeep at c
model_caused text NoMemory c = absurd c

pub model_reported : (text : List ℕ) (why : ParseRefusal) (bad : BadText) → (why ≢ NoMemory → IsModelCause text why) → why ≢ NoMemory
    → bad ≡ reported_parse text why → IsBadText text bad
model_reported text why bad cause some is = subst (IsBadText text) (sym is) (model_caused text why (cause some))

-- ---- of a term's text

module _ (program : Program) (wanted : Option Domain) where
  term_stopped : (text : List ℕ) (ts : List Token) (why : TokenRefusal) (at : ℕ) → StopsAt text ts why at → IsBadTerm program wanted text (reported_token text why at)
  term_stopped text ts why at s = terms.unlexed s.0 s.1

  term_refused : (text : List ℕ) (why : Refusal) (at : ℕ) → IsRefusedTerm text why at → IsBadTerm program wanted text (reported_refusal text why at)
  term_refused text why at r = terms.unread r

  term_unlexed : (text : List ℕ) (ts : List Token) (why : LexRefusal) → IsFirst text ts why → IsBadTerm program wanted text (reported_lex text why)
  term_unlexed text ts (lexer.TextTooLong bytes) f =
      subst (λ n. IsBadTerm program wanted text (reported_at text 0 (codes "TextTooLong") (decimal n))) (sym f.1) (terms.too_long f.0)
  term_unlexed text ts (lexer.BadByte at) f = term_stopped text ts tokens.BadByte at f
  term_unlexed text ts (lexer.OpenComment at) f = term_stopped text ts tokens.OpenComment at f
  term_unlexed text ts (lexer.OpenString at) f = term_stopped text ts tokens.OpenString at f
  term_unlexed text ts (lexer.NumberTooLarge at) f = term_stopped text ts tokens.NumberTooLarge at f
  term_unlexed text ts lexer.NoMemory f = absurd f

  pub term_caused : (text : List ℕ) (why : ParseRefusal) → IsTermCause text why → IsBadTerm program wanted text (reported_parse text why)
  term_caused text (Lex why) c = term_unlexed text c.0 why c.1
  term_caused text (Syntax at) c = term_refused text refusals.Syntax at c
  term_caused text (Unsupported word at) c = term_refused text (refusals.Unsupported word) at c
  term_caused text (TooDeep at) c = term_refused text refusals.TooDeep at c
  term_caused text NoMemory c = absurd c

  pub term_reported : (text : List ℕ) (why : ParseRefusal) (bad : BadText) → (why ≢ NoMemory → IsTermCause text why) → why ≢ NoMemory
      → bad ≡ reported_parse text why → IsBadTerm program wanted text bad
  term_reported text why bad cause some is = subst (IsBadTerm program wanted text) (sym is) (term_caused text why (cause some))
