-- The words of the parts of terms.
use Rattle.std.specs.Prelude.{ℕ, Bool, nat_lt, List, [], ◌∷◌, ◌++◌, codes, if◌then◌else◌}
use Rattle.std.specs.Prelude.{Option, Some, None}
use Rattle.asm_syntax.specs.declared.tree.RangesTree.{RangesTree}
use Rattle.asm_syntax.specs.declared.tree.TermTree.{TermTree}
use Rattle.asm_syntax.specs.declared.tree.TermTree.TheFolds.{fold-BindTree, fold-CaseTree}
use Rattle.asm_syntax.specs.declared.tree.TermsTree.{TermsTree}
use Rattle.asm_syntax.specs.declared.tree.BindTree.{BindTree}
use Rattle.asm_syntax.specs.declared.tree.BindsTree.{BindsTree}
use Rattle.asm_syntax.specs.declared.tree.CaseTree.{CaseTree}
use Rattle.asm_syntax.specs.Words.{is_among}
use Rattle.asm_syntax.specs.Written.{Words, Writing, Tightness, after_each, written_all}
use Rattle.asm_syntax.specs.Written.{if_there, comma, ranges_words, bound}
use Rattle.asm_syntax.specs.Written.{binary_tightness, prefix_tightness}
use Rattle.asm_syntax.specs.Written.{left_tightness, right_tightness}
use Rattle.asm_syntax.specs.Written.{term_words_step, bind_words_step, binds_words_step}
use Rattle.asm_syntax.specs.Written.{case_words_step, terms_words_step}
use Rattle.asm_syntax.specs.Written.{term_writing, term_words, terms_words, binds_words}

unfoldable pub bind_words : BindTree → Words
bind_words =
    fold-BindTree Writing Words Words Words Words
    term_words_step bind_words_step binds_words_step case_words_step terms_words_step

unfoldable pub case_words : CaseTree → Words
case_words =
    fold-CaseTree Writing Words Words Words Words
    term_words_step bind_words_step binds_words_step case_words_step terms_words_step

-- ---- operators

-- of arithmetic and of relations: the last cases of `binary_tightness`
abbrev pub relation_tightness : List ℕ → Tightness
relation_tightness op =
    if is_among (codes "+" ∷ codes "-" ∷ []) op then 6
    else if is_among (codes "*" ∷ codes "div" ∷ codes "mod" ∷ []) op then 7 else 5

unfoldable pub prefix_words : List ℕ → TermTree → Tightness → Words
prefix_words op t needed =
    bound (prefix_tightness op) (op ∷ term_writing t (prefix_tightness op)) needed

-- the left operand of a binary operator, and the operator with its right operand
unfoldable pub left_words : TermTree → Tightness → Tightness → Words
left_words operand tightness needed =
    (if nat_lt tightness needed then codes "(" ∷ [] else [])
    ++ term_writing operand (left_tightness tightness)

unfoldable pub right_words : List ℕ → TermTree → Tightness → Tightness → Words
right_words op operand tightness needed =
    op ∷ term_writing operand (right_tightness tightness)
    ++ (if nat_lt tightness needed then codes ")" ∷ [] else [])

unfoldable pub binary_words : TermTree → List ℕ → TermTree → Tightness → Words
binary_words left op right needed =
    bound (binary_tightness op)
    (term_writing left (left_tightness (binary_tightness op))
    ++ op ∷ term_writing right (right_tightness (binary_tightness op))) needed

-- ---- parts of any form

-- a term after a word
unfoldable pub led_words : List ℕ → TermTree → Words
led_words word t = word ∷ term_words t

-- a term between two words
unfoldable pub enclosed_words : List ℕ → TermTree → List ℕ → Words
enclosed_words word t last = word ∷ term_words t ++ last ∷ []

-- a term after a word, where there is one, and the last word
unfoldable pub rest_words : List ℕ → Option TermTree → List ℕ → Words
rest_words word other last = if_there (word ∷ []) term_words other ++ last ∷ []

-- terms, a comma before each
unfoldable pub more_terms_words : List TermTree → Words
more_terms_words ts = after_each comma term_words ts

unfoldable pub more_binds_words : List BindTree → Words
more_binds_words bs = after_each comma bind_words bs

unfoldable pub cases_words : List CaseTree → Words
cases_words cs = written_all case_words cs

-- ---- forms

unfoldable pub tuple_words : TermsTree → Words
tuple_words items = codes "(" ∷ terms_words items ++ codes ")" ∷ []

unfoldable pub args_words : Option TermsTree → Words
args_words None = []
args_words (Some args) = tuple_words args

-- items, where there are some, between two brackets
unfoldable pub items_words : List ℕ → Option TermsTree → List ℕ → Words
items_words first items last = first ∷ if_there [] terms_words items ++ last ∷ []

-- what follows the quantifier
unfoldable pub quantified_rest : RangesTree → TermTree → Words
quantified_rest ranges body = ranges_words ranges ++ enclosed_words (codes "with") body (codes ")")

unfoldable pub forall_words : RangesTree → TermTree → Words
forall_words ranges body = codes "(" ∷ codes "forall" ∷ quantified_rest ranges body

unfoldable pub exist_words : Bool → RangesTree → TermTree → Words
exist_words unique ranges body =
    codes "(" ∷ codes "exist" ∷ (if unique then codes "unique" ∷ [] else [])
    ++ quantified_rest ranges body

unfoldable pub interval_words : TermTree → TermTree → Words
interval_words from to = led_words (codes "{") from ++ enclosed_words (codes "..") to (codes "}")

unfoldable pub if_term_words : TermTree → TermTree → Option TermTree → Words
if_term_words guard first other =
    led_words (codes "if") guard ++ led_words (codes "then") first
    ++ rest_words (codes "else") other (codes "endif")

unfoldable pub let_words : BindsTree → Words
let_words binds = codes "let" ∷ binds_words binds

unfoldable pub let_term_words : BindsTree → TermTree → Words
let_term_words binds body = let_words binds ++ enclosed_words (codes "in") body (codes "endlet")

unfoldable pub switch_term_words : TermTree → List CaseTree → Option TermTree → Words
switch_term_words t cases other =
    led_words (codes "switch") t ++ cases_words cases
    ++ rest_words (codes "otherwise") other (codes "endswitch")
