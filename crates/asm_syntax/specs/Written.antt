-- The tokens of the canonical texts of domains and terms.
use Rattle.std.specs.Prelude.{ℕ, ◌+◌, true, false, ◌||◌, List, [], ◌∷◌, ◌++◌, nat_lt, ◌==◌}
use Rattle.std.specs.Prelude.{Option, Some, None, codes, if◌then◌else◌}
use Rattle.std.specs.Fmt.{signed_decimal}
use Rattle.asm_syntax.specs.declared.token.Token.{Token}
use Rattle.asm_syntax.specs.declared.token.TokenKind.{TokenKind}
use Rattle.asm_syntax.specs.declared.token.TokenKind.TheVariants.{Id, Var, Number, Chars, Keyword}
use Rattle.asm_syntax.specs.declared.token.TokenKind.TheVariants.{Refused, Symbol}
use Rattle.asm_syntax.specs.declared.tree.DomainTree.{DomainTree, fold-DomainTree}
use Rattle.asm_syntax.specs.declared.tree.DomainTree.TheOpen.{DomainTree-F}
use Rattle.asm_syntax.specs.declared.tree.RangeTree.{RangeTree}
use Rattle.asm_syntax.specs.declared.tree.RangesTree.{RangesTree}
use Rattle.asm_syntax.specs.declared.tree.ParamsTree.{ParamsTree}
use Rattle.asm_syntax.specs.declared.tree.IntTree.{IntTree}
use Rattle.asm_syntax.specs.declared.tree.TermTree.{TermTree}
use Rattle.asm_syntax.specs.declared.tree.TermTree.TheFolds.{fold-TermTree, fold-TermsTree}
use Rattle.asm_syntax.specs.declared.tree.TermTree.TheFolds.{fold-BindsTree}
use Rattle.asm_syntax.specs.declared.tree.TermTree.TheOpen.{TermTree-F, TermsTree-F, BindTree-F}
use Rattle.asm_syntax.specs.declared.tree.TermTree.TheOpen.{BindsTree-F, CaseTree-F}
use Rattle.asm_syntax.specs.declared.tree.TermsTree.{TermsTree}
use Rattle.asm_syntax.specs.declared.tree.BindsTree.{BindsTree}
use Rattle.asm_syntax.specs.Words.{is_among}

-- A text by its tokens.
abbrev pub Words : Type 0
Words = List (List ℕ)

-- a number without leading zeros and `n`, a variable with its `$`, a string between its quotes
abbrev pub kind_word : TokenKind → List ℕ
kind_word (Id name) = name
kind_word (Var name) = codes "$" ++ name
kind_word (Number n) = signed_decimal n
kind_word (Chars text) = codes "\"" ++ text ++ codes "\""
kind_word (Keyword word) = word
kind_word (Refused word) = word
kind_word (Symbol sign) = sign

abbrev pub word_of : Token → List ℕ
word_of t = kind_word t.kind

-- ---- lists

-- each after a separator
abbrev pub after_each : {A : Type 0} → List ℕ → (A → Words) → List A → Words
after_each separator write [] = []
after_each separator write (x ∷ xs) = separator ∷ write x ++ after_each separator write xs

-- all, one after the other
abbrev pub written_all : {A : Type 0} → (A → Words) → List A → Words
written_all write [] = []
written_all write (x ∷ xs) = write x ++ written_all write xs

-- what is there, after a word
abbrev pub if_there : {A : Type 0} → Words → (A → Words) → Option A → Words
if_there before write None = []
if_there before write (Some x) = before ++ write x

abbrev pub comma : List ℕ
comma = codes ","

abbrev pub own : Words → Words
own words = words

abbrev pub single : Token → Words
single t = word_of t ∷ []

-- ---- domains, ranges and integers

abbrev pub domain_step : DomainTree-F Words → Words
domain_step (DomainTree-F.Truth span) = codes "Boolean" ∷ []
domain_step (DomainTree-F.Int span) = codes "Integer" ∷ []
domain_step (DomainTree-F.Nat span) = codes "Natural" ∷ []
domain_step (DomainTree-F.Chars span) = codes "String" ∷ []
domain_step (DomainTree-F.Named t span) = single t
domain_step (DomainTree-F.Prod first next others span) =
    codes "Prod" ∷ codes "(" ∷ first ++ comma ∷ next ++ after_each comma own others
    ++ codes ")" ∷ []
domain_step (DomainTree-F.Seq d span) = codes "Seq" ∷ codes "(" ∷ d ++ codes ")" ∷ []
domain_step (DomainTree-F.Powerset d span) = codes "Powerset" ∷ codes "(" ∷ d ++ codes ")" ∷ []

unfoldable pub domain_words : DomainTree → Words
domain_words = fold-DomainTree Words domain_step

abbrev pub range_words : RangeTree → Words
range_words r = word_of r.variable ∷ codes "in" ∷ domain_words r.domain

abbrev pub ranges_words : RangesTree → Words
ranges_words r = range_words r.first ++ after_each comma range_words r.others

abbrev pub params_words : ParamsTree → Words
params_words p = codes "(" ∷ ranges_words p.ranges ++ codes ")" ∷ []

abbrev pub int_words : IntTree → Words
int_words i = if i.is_negative then codes "-" ∷ single i.number else single i.number

-- ---- terms

-- How tightly a term is bound: the number of its line in the grammar, `term` being 0 and `prim` 9.
abbrev pub Tightness : Type 0
Tightness = ℕ

abbrev pub binary_tightness : List ℕ → Tightness
binary_tightness op =
    if is_among (codes "iff" ∷ []) op then 0
    else if is_among (codes "implies" ∷ []) op then 1
    else if is_among (codes "or" ∷ codes "xor" ∷ []) op then 2
    else if is_among (codes "and" ∷ []) op then 3
    else if is_among (codes "+" ∷ codes "-" ∷ []) op then 6
    else if is_among (codes "*" ∷ codes "div" ∷ codes "mod" ∷ []) op then 7
    else 5

-- The tightness that the operands need. Chains group to the left, `implies` to the right, and
-- relations not at all.
abbrev pub left_tightness : Tightness → Tightness
left_tightness n = if n == 1 || n == 5 then n + 1 else n

abbrev pub right_tightness : Tightness → Tightness
right_tightness n = if n == 1 then n else n + 1

abbrev pub prefix_tightness : List ℕ → Tightness
prefix_tightness op = if is_among (codes "not" ∷ []) op then 4 else 8

-- the tokens of a term where one of this tightness is needed
abbrev pub Writing : Type 0
Writing = Tightness → Words

-- in parentheses where it is less tight than needed
abbrev pub bound : Tightness → Words → Writing
bound own words needed = if nat_lt own needed then codes "(" ∷ words ++ codes ")" ∷ [] else words

-- where any term is allowed
abbrev pub free : Writing → Words
free write = write 0

abbrev pub call_words : Option Words → Words
call_words None = []
call_words (Some args) = codes "(" ∷ args ++ codes ")" ∷ []

abbrev pub quantified_words : Words → RangesTree → Writing → Words
quantified_words quantifier ranges body =
    codes "(" ∷ quantifier ++ ranges_words ranges ++ codes "with" ∷ free body ++ codes ")" ∷ []

abbrev pub prefix_words : List ℕ → Writing → Words
prefix_words op t = op ∷ t (prefix_tightness op)

abbrev pub binary_words : Writing → List ℕ → Writing → Words
binary_words left op right =
    left (left_tightness (binary_tightness op))
    ++ op ∷ right (right_tightness (binary_tightness op))

abbrev pub term_words_step : TermTree-F Writing Words Words Words Words → Writing
term_words_step (TermTree-F.Prefix op t span) needed =
    bound (prefix_tightness op) (prefix_words op t) needed
term_words_step (TermTree-F.Binary left op right span) needed =
    bound (binary_tightness op) (binary_words left op right) needed
term_words_step (TermTree-F.Number t span) needed = single t
term_words_step (TermTree-F.Chars t span) needed = single t
term_words_step (TermTree-F.True span) needed = codes "true" ∷ []
term_words_step (TermTree-F.False span) needed = codes "false" ∷ []
term_words_step (TermTree-F.Undef span) needed = codes "undef" ∷ []
term_words_step (TermTree-F.Var t span) needed = single t
term_words_step (TermTree-F.Name t args span) needed = word_of t ∷ call_words args
term_words_step (TermTree-F.Tuple items span) needed = codes "(" ∷ items ++ codes ")" ∷ []
term_words_step (TermTree-F.Forall ranges body span) needed =
    quantified_words (codes "forall" ∷ []) ranges body
term_words_step (TermTree-F.Exist false ranges body span) needed =
    quantified_words (codes "exist" ∷ []) ranges body
term_words_step (TermTree-F.Exist true ranges body span) needed =
    quantified_words (codes "exist" ∷ codes "unique" ∷ []) ranges body
term_words_step (TermTree-F.Interval from to span) needed =
    codes "{" ∷ free from ++ codes ".." ∷ free to ++ codes "}" ∷ []
term_words_step (TermTree-F.Set items span) needed =
    codes "{" ∷ if_there [] own items ++ codes "}" ∷ []
term_words_step (TermTree-F.Seq items span) needed =
    codes "[" ∷ if_there [] own items ++ codes "]" ∷ []
term_words_step (TermTree-F.If guard first other span) needed =
    codes "if" ∷ free guard ++ codes "then" ∷ free first
    ++ if_there (codes "else" ∷ []) free other ++ codes "endif" ∷ []
term_words_step (TermTree-F.Let binds body span) needed =
    codes "let" ∷ binds ++ codes "in" ∷ free body ++ codes "endlet" ∷ []
term_words_step (TermTree-F.Switch t cases other span) needed =
    codes "switch" ∷ free t ++ written_all own cases
    ++ if_there (codes "otherwise" ∷ []) free other ++ codes "endswitch" ∷ []

abbrev pub bind_words_step : BindTree-F Writing Words Words Words Words → Words
bind_words_step b = word_of b.variable ∷ codes "=" ∷ free b.value

abbrev pub binds_words_step : BindsTree-F Writing Words Words Words Words → Words
binds_words_step b = codes "(" ∷ b.first ++ after_each comma own b.others ++ codes ")" ∷ []

abbrev pub case_words_step : CaseTree-F Writing Words Words Words Words → Words
case_words_step c = codes "case" ∷ free c.value ++ codes ":" ∷ free c.term

abbrev pub terms_words_step : TermsTree-F Writing Words Words Words Words → Words
terms_words_step t = free t.first ++ after_each comma free t.others

unfoldable pub term_writing : TermTree → Writing
term_writing =
    fold-TermTree Writing Words Words Words Words
    term_words_step bind_words_step binds_words_step case_words_step terms_words_step

unfoldable pub terms_words : TermsTree → Words
terms_words =
    fold-TermsTree Writing Words Words Words Words
    term_words_step bind_words_step binds_words_step case_words_step terms_words_step

unfoldable pub binds_words : BindsTree → Words
binds_words =
    fold-BindsTree Writing Words Words Words Words
    term_words_step bind_words_step binds_words_step case_words_step terms_words_step

-- of a term alone
abbrev pub term_words : TermTree → Words
term_words t = term_writing t 0
