-- The grammar of terms.
use Rattle.std.specs.Prelude.{ℕ, zero, suc, Bool, true, false, List, [], ◌∷◌}
use Rattle.std.specs.Prelude.{codes, Option, Some, None}
use Rattle.asm_grammar.specs.Language.{Language, word, ◌then◌, opens, ◌either◌, made, maybe, chain}
use Rattle.asm_syntax.specs.declared.token.Span.{Span}
use Rattle.asm_syntax.specs.declared.token.Token.{Token}
use Rattle.asm_syntax.specs.declared.tree.RangesTree.{RangesTree}
use Rattle.asm_syntax.specs.declared.tree.TermTree.{TermTree}
use Rattle.asm_syntax.specs.declared.tree.TermTree.TheVariants as terms
use Rattle.asm_syntax.specs.declared.tree.TermTree.TheViews.{roll-TermsTree, roll-BindTree}
use Rattle.asm_syntax.specs.declared.tree.TermTree.TheViews.{roll-BindsTree, roll-CaseTree}
use Rattle.asm_syntax.specs.declared.tree.TermsTree.{TermsTree}
use Rattle.asm_syntax.specs.declared.tree.BindTree.{BindTree}
use Rattle.asm_syntax.specs.declared.tree.BindsTree.{BindsTree}
use Rattle.asm_syntax.specs.declared.tree.CaseTree.{CaseTree}
use Rattle.asm_syntax.specs.Marks.{Mark, is, is_one_of, id, variable, number, chars}
use Rattle.asm_syntax.specs.Marks.{keyword, symbol, text_of, up_to}
use Rattle.asm_syntax.specs.Forms.{nowhere, is_open, quoted, after_word, after_sign, opened}
use Rattle.asm_syntax.specs.Forms.{enclosed, bracketed, in_parentheses, many, listed, members}
use Rattle.asm_syntax.specs.Forms.{followed, Rest, To, And, formed}
use Rattle.asm_syntax.specs.Extents.{extent, with_extent}
use Rattle.asm_syntax.specs.Domains as d

-- ---- trees of what is spelled

abbrev pub terms_of : TermTree × List TermTree → TermsTree
terms_of (first, others) = roll-TermsTree (record { first = first; others = others })

abbrev pub bind_of : Token × TermTree → BindTree
bind_of (name, t) = roll-BindTree (record { variable = name; value = t })

abbrev pub binds_of : Span → BindTree × List BindTree → BindsTree
binds_of whole (first, others) =
    roll-BindsTree (record { first = first; others = others; span = whole })

abbrev pub case_of : TermTree × TermTree → CaseTree
case_of (wanted, given) = roll-CaseTree (record { value = wanted; term = given })

-- an operator and its right operand, with the term left of them
abbrev pub joined : TermTree → Token × TermTree → TermTree
joined left (op, right) = terms.Binary left (text_of op) right (up_to (extent left) (extent right))

abbrev pub joined_once : TermTree × Option (Token × TermTree) → TermTree
joined_once (left, None) = left
joined_once (left, Some o) = joined left o

abbrev pub prefix_of : Span → Token × TermTree → TermTree
prefix_of span (op, t) = terms.Prefix (text_of op) t span

-- `(t)` is t; two terms or more in parentheses are a tuple
abbrev pub tuple_of : Span → TermTree × List TermTree → TermTree
tuple_of span (first, []) = first
tuple_of span (first, others) = terms.Tuple (terms_of (first, others)) span

abbrev pub set_of : Span → Option (TermTree × Option (Rest TermTree)) → TermTree
set_of span None = terms.Set None span
set_of span (Some (first, None)) = terms.Set (Some (terms_of (first, []))) span
set_of span (Some (first, Some (To last))) = terms.Interval first last span
set_of span (Some (first, Some (And others))) = terms.Set (Some (terms_of (first, others))) span

abbrev pub exist_of : Span → Option Token × (RangesTree × TermTree) → TermTree
exist_of span (None, (ranges, body)) = terms.Exist false ranges body span
exist_of span (Some unique, (ranges, body)) = terms.Exist true ranges body span

-- ---- the lines of the grammar

-- the lines that are used one construct deeper in another
pub data Line : Type 0 where
  term : Line
  imp : Line
  and : Line
  neg : Line
  sum : Line
  prod : Line
  sign : Line
  -- a quantifier without its parentheses
  quantifier : Line

-- what is allowed where a given number of constructs may be open
pub record Forms : Type 1 where
  pub line : Line → Language Token TermTree
  pub ranges : Language Token RangesTree
  pub binds : Language Token BindsTree

-- "=" | "!=" | "<" | "<=" | ">" | ">=" | "in" | "notin"
abbrev pub relations : List Mark
relations =
    symbol (codes "=") ∷ symbol (codes "!=") ∷ symbol (codes "<") ∷ symbol (codes "<=")
    ∷ symbol (codes ">") ∷ symbol (codes ">=") ∷ keyword (codes "in") ∷ keyword (codes "notin") ∷ []

-- "*" | "div" | "mod"
abbrev pub products : List Mark
products = symbol (codes "*") ∷ keyword (codes "div") ∷ keyword (codes "mod") ∷ []

-- "+" | "-"
abbrev pub sums : List Mark
sums = symbol (codes "+") ∷ symbol (codes "-") ∷ []

-- "or" | "xor"
abbrev pub disjunctions : List Mark
disjunctions = keyword (codes "or") ∷ keyword (codes "xor") ∷ []

-- term {"," term}
abbrev pub arguments : Forms → Language Token TermsTree
arguments inner = made terms_of (listed (inner.line term))

-- ranges "with" term
abbrev pub ranged : Forms → Language Token (RangesTree × TermTree)
ranged inner = inner.ranges then after_word (codes "with") (inner.line term)

-- ["else" term]
abbrev pub else_part : Forms → Language Token (Option TermTree)
else_part inner = maybe (after_word (codes "else") (inner.line term))

-- ["otherwise" term]
abbrev pub otherwise_part : Forms → Language Token (Option TermTree)
otherwise_part inner = maybe (after_word (codes "otherwise") (inner.line term))

-- `inner` is what is allowed one construct deeper.
module _ (is_open : Bool) (inner : Forms) where
  -- "(" term {"," term} ")"
  abbrev pub call : Language Token TermsTree
  call = in_parentheses is_open (arguments inner)

  -- binds = "(" VAR "=" term {"," VAR "=" term} ")"
  abbrev pub bind : Language Token BindTree
  bind = made bind_of (word (is variable) then after_sign (codes "=") (inner.line term))

  abbrev pub binds : Language Token BindsTree
  binds = formed binds_of (in_parentheses is_open (listed bind))

  -- prim = NUMBER | STRING | "true" | "false" | "undef" | VAR
  abbrev pub plain : Language Token TermTree
  plain =
      formed (λ span t. terms.Number t span) (word (is number))
      either formed (λ span t. terms.Chars t span) (word (is chars))
      either formed (λ span t. terms.True span) (quoted (codes "true"))
      either formed (λ span t. terms.False span) (quoted (codes "false"))
      either formed (λ span t. terms.Undef span) (quoted (codes "undef"))
      either formed (λ span t. terms.Var t span) (word (is variable))

  -- ID ["(" term {"," term} ")"]
  abbrev pub name : Language Token TermTree
  name = formed (λ span p. terms.Name p.0 p.1 span) (word (is id) then maybe call)

  -- ("forall" | "exist" ["unique"]) ranges "with" term
  abbrev pub quantified : Language Token TermTree
  quantified =
      formed (λ span p. terms.Forall p.0 p.1 span) (opened is_open (codes "forall") (ranged inner))
      either formed exist_of
      (opened is_open (codes "exist") (maybe (quoted (codes "unique")) then ranged inner))

  -- "(" ("forall" | "exist" ["unique"]) ranges "with" term ")"
  -- "(" term {"," term} ")"
  abbrev pub parenthesis : Language Token TermTree
  parenthesis = formed with_extent (in_parentheses is_open
      (inner.line quantifier either formed tuple_of (listed (inner.line term))))

  -- "{" [term ((".." | ":") term | {"," term})] "}"
  abbrev pub set : Language Token TermTree
  set = formed set_of
      (bracketed is_open (codes "{") (maybe (members (inner.line term))) (codes "}"))

  -- "[" [term {"," term}] "]"
  abbrev pub sequence : Language Token TermTree
  sequence = formed (λ span items. terms.Seq items span)
      (bracketed is_open (codes "[") (maybe (arguments inner)) (codes "]"))

  -- "if" term "then" term ["else" term] "endif"
  abbrev pub if_term : Language Token TermTree
  if_term = formed (λ span p. terms.If p.0 p.1.0 p.1.1 span) (enclosed is_open (codes "if")
      (inner.line term then (after_word (codes "then") (inner.line term) then else_part inner))
      (codes "endif"))

  -- "let" binds "in" term "endlet"
  abbrev pub let_term : Language Token TermTree
  let_term = formed (λ span p. terms.Let p.0 p.1 span) (enclosed is_open (codes "let")
      (inner.binds then after_word (codes "in") (inner.line term)) (codes "endlet"))

  -- "switch" term {"case" term ":" term} ["otherwise" term] "endswitch"
  abbrev pub case : Language Token CaseTree
  case = made case_of
      (after_word (codes "case") (inner.line term then after_sign (codes ":") (inner.line term)))

  abbrev pub switch_term : Language Token TermTree
  switch_term = formed (λ span p. terms.Switch p.0 p.1.0 p.1.1 span)
      (enclosed is_open (codes "switch")
      (inner.line term then (many case then otherwise_part inner)) (codes "endswitch"))

  abbrev pub prim_form : Language Token TermTree
  prim_form =
      plain either name either parenthesis either set either sequence
      either if_term either let_term either switch_term

-- Operators, of which the left operands pass a test.
module _ (fits : TermTree → Bool) (is_open : Bool) (inner : Forms) where
  -- sign = "-" sign | prim
  abbrev pub sign_form : Language Token TermTree
  sign_form =
      formed prefix_of (opens is_open (is (symbol (codes "-"))) (inner.line sign))
      either prim_form is_open inner

  -- prod = sign {("*" | "div" | "mod") sign}
  abbrev pub prod_form : Language Token TermTree
  prod_form = chain fits joined (opens is_open (is_one_of products) (inner.line sign)) sign_form

  -- sum = prod {("+" | "-") prod}
  abbrev pub sum_form : Language Token TermTree
  sum_form = chain fits joined (opens is_open (is_one_of sums) (inner.line prod)) prod_form

  -- rel = sum [("=" | "!=" | "<" | "<=" | ">" | ">=" | "in" | "notin") sum]
  abbrev pub rel_form : Language Token TermTree
  rel_form = made joined_once
      (followed fits sum_form (opens is_open (is_one_of relations) (inner.line sum)))

  -- neg = "not" neg | rel
  abbrev pub neg_form : Language Token TermTree
  neg_form =
      formed prefix_of (opens is_open (is (keyword (codes "not"))) (inner.line neg)) either rel_form

  -- and = neg {"and" neg}
  abbrev pub and_form : Language Token TermTree
  and_form =
      chain fits joined (opens is_open (is (keyword (codes "and"))) (inner.line neg)) neg_form

  -- or = and {("or" | "xor") and}
  abbrev pub or_form : Language Token TermTree
  or_form = chain fits joined (opens is_open (is_one_of disjunctions) (inner.line and)) and_form

  -- imp = or ["implies" imp]
  abbrev pub imp_form : Language Token TermTree
  imp_form = made joined_once
      (followed fits or_form (opens is_open (is (keyword (codes "implies"))) (inner.line imp)))

  -- term = imp {"iff" imp}
  abbrev pub term_form : Language Token TermTree
  term_form =
      chain fits joined (opens is_open (is (keyword (codes "iff"))) (inner.line imp)) imp_form

  abbrev pub line_form : Line → Language Token TermTree
  line_form term = term_form
  line_form imp = imp_form
  line_form and = and_form
  line_form neg = neg_form
  line_form sum = sum_form
  line_form prod = prod_form
  line_form sign = sign_form
  line_form quantifier = quantified is_open inner

-- ---- how many constructs may be open

-- what is allowed where this many constructs may be open, by what is one construct deeper
abbrev pub forms_at : (TermTree → Bool) → ℕ → Forms → Forms
forms_at fits n inner = record {
  line = line_form fits (is_open n) inner;
  ranges = d.ranges (d.domain n);
  binds = binds (is_open n) inner;
}

-- what is allowed inside a construct, where this many may be open before it
unfoldable pub inside : (TermTree → Bool) → ℕ → Forms
inside fits zero = record { line = λ l. nowhere; ranges = nowhere; binds = nowhere }
inside fits (suc n) = forms_at fits n (inside fits n)

-- what is allowed where at most this many constructs are open at once
unfoldable pub forms : (TermTree → Bool) → ℕ → Forms
forms fits n = forms_at fits n (inside fits n)

abbrev pub term_within : (TermTree → Bool) → ℕ → Language Token TermTree
term_within fits n = (forms fits n).line term
