-- The text that words and lines make.
use Rattle.std.proofs.Common.{◌≡◌, ℕ, ◌+◌, ◌<◌, ◌≤◌, Bool, true, false, List, [], ◌∷◌, ◌++◌, length, map, drop, get_or, fold, refl, sym, ap, ◌∙◌, if◌then◌else◌}
use Rattle.std.proofs.lemmas.List.{append-nil, append_assoc, drop_all, drop_more}
use Rattle.asm_syntax.specs.declared.tree.TermTree.{TermTree}
use Rattle.asm_syntax.specs.declared.tree.ModelTree.{ModelTree}
use Rattle.asm_syntax.specs.Written.{Words, term_writing}
use Rattle.asm_syntax.specs.Canonical.{spaced, broken, model_lines, canonical_term, canonical}
use Rattle.asm_print_terms.specs.declared.writer.Writer.{Writer}
use Rattle.asm_print_terms.specs.Lines.{text_of, IsBlank, with_word, with_words, ended, with_line, with_lines}

-- each word after a space
after_spaces : Words → List ℕ
after_spaces [] = []
after_spaces (w ∷ ws) = 32 ∷ (w ++ after_spaces ws)

spaced-first : (v : List ℕ) (ws : Words) → spaced (v ∷ ws) ≡ v ++ after_spaces ws
unfolding after_spaces
spaced-first v [] = sym (append-nil v)
spaced-first v (u ∷ us) = ap (λ xs. v ++ 32 ∷ xs) (spaced-first u us)

-- ---- a line

after-word : (b : Bool) (w : Writer) (word : List ℕ) → w.has_begun ≡ b → (with_word w word).text ≡ (if b then w.text ++ 32 ∷ [] else w.text) ++ word
unfolding with_word
after-word b w word e = ap (λ c. (if c then w.text ++ 32 ∷ [] else w.text) ++ word) e

has_word : (w : Writer) (word : List ℕ) → (with_word w word).has_begun ≡ true
unfolding with_word
has_word w word = refl

more_words : (w : Writer) (ws : Words) → w.has_begun ≡ true → (with_words w ws).text ≡ w.text ++ after_spaces ws
unfolding after_spaces
more_words w [] e = sym (append-nil w.text)
more_words w (u ∷ us) e =
    more_words (with_word w u) us (has_word w u)
    ∙ ap (λ xs. xs ++ after_spaces us) (after-word true w u e)
    ∙ append_assoc (w.text ++ 32 ∷ []) u (after_spaces us)
    ∙ append_assoc w.text (32 ∷ []) (u ++ after_spaces us)

line_text : (w : Writer) (ws : Words) → w.has_begun ≡ false → (with_words w ws).text ≡ w.text ++ spaced ws
line_text w [] e = sym (append-nil w.text)
line_text w (v ∷ us) e =
    more_words (with_word w v) us (has_word w v)
    ∙ ap (λ xs. xs ++ after_spaces us) (after-word false w v e)
    ∙ append_assoc w.text v (after_spaces us)
    ∙ ap (λ xs. w.text ++ xs) (sym (spaced-first v us))

-- ---- lines

line_fresh : (w : Writer) (l : Words) → (with_line w l).has_begun ≡ false
unfolding with_line ended
line_fresh w l = refl

after-line : (w : Writer) (l : Words) → w.has_begun ≡ false → (with_line w l).text ≡ (w.text ++ spaced l) ++ 10 ∷ []
unfolding with_line ended
after-line w l e = ap (λ xs. xs ++ 10 ∷ []) (line_text w l e)

lines_text : (w : Writer) (ls : List Words) → w.has_begun ≡ false → (with_lines w ls).text ≡ w.text ++ broken ls
lines_text w [] e = sym (append-nil w.text)
lines_text w (l ∷ ls) e =
    lines_text (with_line w l) ls (line_fresh w l)
    ∙ ap (λ xs. xs ++ broken ls) (after-line w l e)
    ∙ append_assoc (w.text ++ spaced l) (10 ∷ []) (broken ls)
    ∙ append_assoc w.text (spaced l) (10 ∷ broken ls)

-- ---- whole texts

pub term_text : (w : Writer) (t : TermTree) → IsBlank w → text_of (with_words w (term_writing t 0)) ≡ canonical_term t
unfolding canonical_term text_of IsBlank
term_text w t h = line_text w (term_writing t 0) h.1 ∙ ap (λ xs. xs ++ spaced (term_writing t 0)) h.0

pub model_text : (w : Writer) (m : ModelTree) → IsBlank w → text_of (with_lines w (model_lines m)) ≡ canonical m
unfolding canonical text_of IsBlank
model_text w m h = lines_text w (model_lines m) h.1 ∙ ap (λ xs. xs ++ broken (model_lines m)) h.0

-- ---- lines one after the other

pub writes_line : (w : Writer) (words : Words) → with_line w words ≡ ended (with_words w words)
unfolding with_line
writes_line w words = refl

pub with_lines-append : (w : Writer) (ls ms : List Words) → fold with_line w (ls ++ ms) ≡ fold with_line (fold with_line w ls) ms
with_lines-append w [] ms = refl
with_lines-append w (l ∷ ls) ms = with_lines-append (with_line w l) ls ms

pub lines-drop : {A : Type 0} (w : Writer) (line : A → Words) (xs : List A) (i : ℕ) (d : A) → i < length xs
    → with_lines w (map line (drop i xs)) ≡ with_lines (ended (with_words w (line (get_or xs i d)))) (map line (drop (i + 1) xs))
unfolding with_line
lines-drop w line xs i d h = ap (λ ys. with_lines w (map line ys)) (drop_more xs i d h)

pub lines-end : {A : Type 0} (w : Writer) (line : A → Words) (xs : List A) (i : ℕ) → length xs ≤ i → with_lines w (map line (drop i xs)) ≡ w
lines-end w line xs i h = ap (λ ys. with_lines w (map line ys)) (drop_all i xs h)

pub ruleset line_steps = (writes_line, lines-drop, lines-end)
