-- Texts that grow word by word and line by line.
use Rattle.std.specs.Prelude.{◌≡◌, ℕ, false, true, List, [], ◌∷◌, ◌++◌, fold, if◌then◌else◌}
use Rattle.asm_syntax.specs.Written.{Words}
use Rattle.asm_print_terms.specs.declared.writer.Writer.{Writer}

-- what is written so far
unfoldable pub text_of : Writer → List ℕ
text_of w = w.text

-- nothing is written, so the first line has no word
unfoldable pub IsBlank : Writer → Type 0
IsBlank w = (w.text ≡ []) × (w.has_begun ≡ false)

-- one more word, after a space where its line has a word already
unfoldable pub with_word : Writer → List ℕ → Writer
with_word w word = record w {
  text = (if w.has_begun then w.text ++ 32 ∷ [] else w.text) ++ word;
  has_begun = true;
}

-- more words of a line
abbrev pub with_words : Writer → Words → Writer
with_words w words = fold with_word w words

-- the line ends
unfoldable pub ended : Writer → Writer
ended w = record w { text = w.text ++ 10 ∷ []; has_begun = false }

-- one more line, by its words
unfoldable pub with_line : Writer → Words → Writer
with_line w words = ended (with_words w words)

-- more lines
abbrev pub with_lines : Writer → List Words → Writer
with_lines w lines = fold with_line w lines
