-- What the reading of a whole list of tokens answers.
use Rattle.std.specs.Prelude.{◌≡◌, ℕ, List, Result, Ok, Err, ⊤}
use Rattle.asm_syntax.specs.declared.token.Token.{Token}
use Rattle.asm_syntax.specs.declared.tree.TermTree.{TermTree}
use Rattle.asm_syntax.specs.declared.tree.ModelTree.{ModelTree}
use Rattle.asm_syntax.specs.Grammar.{term, SpellsModel}
use Rattle.asm_syntax.specs.Refusals.{Refusal, IsTermRefusal, IsModelRefusal, offset_of}
use Rattle.asm_parse.specs.declared.refusal.ParseRefusal.{ParseRefusal}
use Rattle.asm_parse.specs.declared.refusal.ParseRefusal.TheVariants.{Lex, Syntax, Unsupported}
use Rattle.asm_parse.specs.declared.refusal.ParseRefusal.TheVariants.{TooDeep, NoMemory}
use Rattle.asm_parse.specs.Refusals.{told}

-- The tokens of a text of so many bytes spell the tree or have the refusal, unless memory ran out.
module _ {Tree : Type 0} (Spells : Tree → List Token → Type 0)
    (IsRefusal : List Token → Refusal → List Token → Type 0) where
  -- the tokens have this refusal, at its place
  pub record IsRefusedFor (bytes : ℕ) (tokens : List Token) (e : ParseRefusal) : Type 0 where
    pub why : Refusal
    pub rest : List Token
    pub refused : IsRefusal tokens why rest
    pub there : e ≡ told why (offset_of bytes rest)

  abbrev pub Answers : ℕ → List Token → Result Tree ParseRefusal → Type 0
  Answers bytes tokens (Ok tree) = Spells tree tokens
  Answers bytes tokens (Err NoMemory) = ⊤
  Answers bytes tokens (Err (Lex why)) = IsRefusedFor bytes tokens (Lex why)
  Answers bytes tokens (Err (Syntax at)) = IsRefusedFor bytes tokens (Syntax at)
  Answers bytes tokens (Err (Unsupported word at)) =
      IsRefusedFor bytes tokens (Unsupported word at)
  Answers bytes tokens (Err (TooDeep at)) = IsRefusedFor bytes tokens (TooDeep at)

abbrev pub AnswersModel : ℕ → List Token → Result ModelTree ParseRefusal → Type 0
AnswersModel = Answers SpellsModel IsModelRefusal

abbrev pub AnswersTerm : ℕ → List Token → Result TermTree ParseRefusal → Type 0
AnswersTerm = Answers (λ tree tokens. term.Spells tree tokens) IsTermRefusal
