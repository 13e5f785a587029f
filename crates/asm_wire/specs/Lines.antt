-- The lines that are written.
use Rattle.std.specs.Prelude.{ℕ, ◌≤◌, List, [], ◌∷◌, ◌++◌, length, take, Option}
use Rattle.std.specs.Io.KnownBytes.{Appends}
use Rattle.asm_board.specs.declared.reply.Reply.{Reply}
use Rattle.asm_board.specs.Replies.{reply_text, no_memory_text}

-- with its line feed
abbrev pub line_of : List ℕ → List ℕ
line_of text = text ++ 10 ∷ []

abbrev pub reply_line : Reply → List ℕ
reply_line reply = line_of (reply_text reply)

abbrev pub no_memory_line : List ℕ
no_memory_line = line_of no_memory_text

-- what a sink holds, if it tells, has grown by some first bytes of these
pub record AppendsPart (held now : Option (List ℕ)) (bytes : List ℕ) : Type 0 where
  pub count : ℕ
  pub within : count ≤ length bytes
  pub appends : Appends held now (take count bytes)
