-- The parser of terms. What stands left of an operator is at most 63 high.
use Rattle.std.specs.Prelude.{ℕ, zero, suc, Bool, List, [], ◌∷◌, codes, Option}
use Rattle.asm_grammar.specs.Parser as p
use Rattle.asm_grammar.specs.Parser.{
  Parser,
  expect,
  choose,
  mapped,
  both,
  chained,
  optional,
  followed,
}
use Rattle.asm_syntax.specs.declared.token.Token.{Token}
use Rattle.asm_syntax.specs.declared.tree.RangesTree.{RangesTree}
use Rattle.asm_syntax.specs.declared.tree.TermTree.{TermTree}
use Rattle.asm_syntax.specs.declared.tree.TermTree.TheVariants as terms
use Rattle.asm_syntax.specs.declared.tree.TermsTree.{TermsTree}
use Rattle.asm_syntax.specs.declared.tree.BindTree.{BindTree}
use Rattle.asm_syntax.specs.declared.tree.BindsTree.{BindsTree}
use Rattle.asm_syntax.specs.declared.tree.CaseTree.{CaseTree}
use Rattle.asm_syntax.specs.Marks.{is, is_one_of, id, variable, number, chars, keyword, symbol}
use Rattle.asm_syntax.specs.Forms.{is_open, Rest}
use Rattle.asm_syntax.specs.Extents.{with_extent}
use Rattle.asm_syntax.specs.Heights.{fits}
use Rattle.asm_syntax.specs.Terms.{
  Line,
  terms_of,
  bind_of,
  binds_of,
  case_of,
  joined,
  joined_once,
  prefix_of,
  tuple_of,
  set_of,
  exist_of,
  relations,
}
use Rattle.asm_syntax.specs.Terms as t
use Rattle.asm_parse_theory.specs.Firsts.{starts_plain, starts_term, starts_quantifier}
use Rattle.asm_parse_theory.specs.Forms.{
  nowhere,
  quoted,
  after_word,
  after_sign,
  maybe_quoted,
  maybe_after_word,
  opened,
  enclosed,
  bracketed,
  in_parentheses,
  many,
  listed,
  members,
  formed,
}
use Rattle.asm_parse_theory.specs.Domains as d

-- what reads the lines at a place, by how many constructs may be open there
pub record Readers : Type 0 where
  pub line : Line → Parser Token TermTree
  pub ranges : Parser Token RangesTree
  pub binds : Parser Token BindsTree

-- ---- constants and variables

abbrev pub number_term : Parser Token TermTree
number_term = formed (λ span t. terms.Number t span) (expect (is number))

abbrev pub chars_term : Parser Token TermTree
chars_term = formed (λ span t. terms.Chars t span) (expect (is chars))

abbrev pub true_term : Parser Token TermTree
true_term = formed (λ span t. terms.True span) (quoted (codes "true"))

abbrev pub false_term : Parser Token TermTree
false_term = formed (λ span t. terms.False span) (quoted (codes "false"))

abbrev pub undef_term : Parser Token TermTree
undef_term = formed (λ span t. terms.Undef span) (quoted (codes "undef"))

abbrev pub variable_term : Parser Token TermTree
variable_term = formed (λ span t. terms.Var t span) (expect (is variable))

-- ---- parts of constructs; `inner` reads what stands one construct deeper

abbrev pub term_in : Readers → Parser Token TermTree
term_in inner = inner.line t.term

-- term {"," term}
abbrev pub arguments : Readers → Parser Token TermsTree
arguments inner = mapped terms_of (listed (term_in inner))

abbrev pub maybe_arguments : Readers → Parser Token (Option TermsTree)
maybe_arguments inner = optional starts_term (arguments inner)

-- term {"," term}, which is a tuple where it has two terms or more
abbrev pub tuple : Readers → Parser Token TermTree
tuple inner = formed tuple_of (listed (term_in inner))

-- what stands between parentheses
abbrev pub parenthesized : Readers → Parser Token TermTree
parenthesized inner = choose starts_quantifier (inner.line t.quantifier) (tuple inner)

-- [term ((".." | ":") term | {"," term})]
abbrev pub items : Readers → Parser Token (Option (TermTree × Option (Rest TermTree)))
items inner = optional starts_term (members (term_in inner))

-- ranges "with" term
abbrev pub ranged : Readers → Parser Token (RangesTree × TermTree)
ranged inner = both inner.ranges (after_word (codes "with") (term_in inner))

-- "then" term ["else" term]
abbrev pub branches : Readers → Parser Token (TermTree × Option TermTree)
branches inner =
    both (after_word (codes "then") (term_in inner)) (maybe_after_word (codes "else") (term_in inner))

-- term ":" term
abbrev pub alternative : Readers → Parser Token (TermTree × TermTree)
alternative inner = both (term_in inner) (after_sign (codes ":") (term_in inner))

-- ---- operators

abbrev pub is_product_sign : Token → Bool
is_product_sign = is_one_of (symbol (codes "*") ∷ keyword (codes "div") ∷ keyword (codes "mod") ∷ [])

abbrev pub is_sum_sign : Token → Bool
is_sum_sign = is_one_of (symbol (codes "+") ∷ symbol (codes "-") ∷ [])

abbrev pub is_or_word : Token → Bool
is_or_word = is_one_of (keyword (codes "or") ∷ keyword (codes "xor") ∷ [])

-- `inner` reads what stands one construct deeper.
module _ (is_open : Bool) (inner : Readers) where
  -- "(" term {"," term} ")"
  unfoldable pub call : Parser Token TermsTree
  call = in_parentheses is_open (arguments inner)

  -- binds
  unfoldable pub bind : Parser Token BindTree
  bind = mapped bind_of (both (expect (is variable)) (after_sign (codes "=") (term_in inner)))

  unfoldable pub binds : Parser Token BindsTree
  binds = formed binds_of (in_parentheses is_open (listed bind))

  -- NUMBER | STRING | "true" | "false" | "undef" | VAR
  unfoldable pub plain : Parser Token TermTree
  plain =
      choose (is number) number_term
      (choose (is chars) chars_term
      (choose (is (keyword (codes "true"))) true_term
      (choose (is (keyword (codes "false"))) false_term
      (choose (is (keyword (codes "undef"))) undef_term variable_term))))

  -- ID ["(" term {"," term} ")"]
  abbrev pub maybe_call : Parser Token (Option TermsTree)
  maybe_call = optional (is (symbol (codes "("))) call

  unfoldable pub name : Parser Token TermTree
  name = formed (λ span p. terms.Name p.0 p.1 span) (both (expect (is id)) maybe_call)

  -- ("forall" | "exist" ["unique"]) ranges "with" term
  unfoldable pub forall : Parser Token TermTree
  forall = formed (λ span p. terms.Forall p.0 p.1 span) (opened is_open (codes "forall") (ranged inner))

  unfoldable pub exist : Parser Token TermTree
  exist = formed exist_of
      (opened is_open (codes "exist") (both (maybe_quoted (codes "unique")) (ranged inner)))

  unfoldable pub quantified : Parser Token TermTree
  quantified = choose (is (keyword (codes "forall"))) forall exist

  -- "(" term {"," term} ")", and a quantifier in parentheses
  unfoldable pub parenthesis : Parser Token TermTree
  parenthesis = formed with_extent (in_parentheses is_open (parenthesized inner))

  -- "{" [term ((".." | ":") term | {"," term})] "}"
  unfoldable pub set : Parser Token TermTree
  set = formed set_of (bracketed is_open (codes "{") (items inner) (codes "}"))

  -- "[" [term {"," term}] "]"
  unfoldable pub sequence : Parser Token TermTree
  sequence = formed (λ span items. terms.Seq items span)
      (bracketed is_open (codes "[") (maybe_arguments inner) (codes "]"))

  -- "if" term "then" term ["else" term] "endif"
  unfoldable pub if_term : Parser Token TermTree
  if_term = formed (λ span p. terms.If p.0 p.1.0 p.1.1 span)
      (enclosed is_open (codes "if") (both (term_in inner) (branches inner)) (codes "endif"))

  -- "let" binds "in" term "endlet"
  unfoldable pub let_term : Parser Token TermTree
  let_term = formed (λ span p. terms.Let p.0 p.1 span) (enclosed is_open (codes "let")
      (both inner.binds (after_word (codes "in") (term_in inner))) (codes "endlet"))

  -- "switch" term {"case" term ":" term} ["otherwise" term] "endswitch"
  unfoldable pub case : Parser Token CaseTree
  case = mapped case_of (after_word (codes "case") (alternative inner))

  abbrev pub cases : Parser Token (List CaseTree)
  cases = many (is (keyword (codes "case"))) case

  -- {"case" term ":" term} ["otherwise" term]
  abbrev pub choices : Parser Token (List CaseTree × Option TermTree)
  choices = both cases (maybe_after_word (codes "otherwise") (term_in inner))

  unfoldable pub switch_term : Parser Token TermTree
  switch_term = formed (λ span p. terms.Switch p.0 p.1.0 p.1.1 span)
      (enclosed is_open (codes "switch") (both (term_in inner) choices) (codes "endswitch"))

  -- prim
  unfoldable pub prim_form : Parser Token TermTree
  prim_form =
      choose starts_plain plain
      (choose (is id) name
      (choose (is (symbol (codes "("))) parenthesis
      (choose (is (symbol (codes "{"))) set
      (choose (is (symbol (codes "["))) sequence
      (choose (is (keyword (codes "if"))) if_term
      (choose (is (keyword (codes "let"))) let_term switch_term))))))

  -- sign
  abbrev pub negative : Parser Token TermTree
  negative = formed prefix_of (p.opened is_open (is (symbol (codes "-"))) (inner.line t.sign))

  unfoldable pub sign_form : Parser Token TermTree
  sign_form = choose (is (symbol (codes "-"))) negative prim_form

  -- prod
  unfoldable pub prod_form : Parser Token TermTree
  prod_form = chained fits joined is_product_sign
      (p.opened is_open is_product_sign (inner.line t.sign)) sign_form

  -- sum
  unfoldable pub sum_form : Parser Token TermTree
  sum_form = chained fits joined is_sum_sign
      (p.opened is_open is_sum_sign (inner.line t.prod)) prod_form

  -- rel
  unfoldable pub rel_form : Parser Token TermTree
  rel_form = mapped joined_once (followed fits (is_one_of relations) sum_form
      (p.opened is_open (is_one_of relations) (inner.line t.sum)))

  -- neg
  abbrev pub negation : Parser Token TermTree
  negation = formed prefix_of (p.opened is_open (is (keyword (codes "not"))) (inner.line t.neg))

  unfoldable pub neg_form : Parser Token TermTree
  neg_form = choose (is (keyword (codes "not"))) negation rel_form

  -- and
  unfoldable pub and_form : Parser Token TermTree
  and_form = chained fits joined (is (keyword (codes "and")))
      (p.opened is_open (is (keyword (codes "and"))) (inner.line t.neg)) neg_form

  -- or
  unfoldable pub or_form : Parser Token TermTree
  or_form = chained fits joined is_or_word (p.opened is_open is_or_word (inner.line t.and)) and_form

  -- imp
  unfoldable pub imp_form : Parser Token TermTree
  imp_form = mapped joined_once (followed fits (is (keyword (codes "implies"))) or_form
      (p.opened is_open (is (keyword (codes "implies"))) (inner.line t.imp)))

  -- term
  unfoldable pub term_form : Parser Token TermTree
  term_form = chained fits joined (is (keyword (codes "iff")))
      (p.opened is_open (is (keyword (codes "iff"))) (inner.line t.imp)) imp_form

  unfoldable pub line_form : Line → Parser Token TermTree
  line_form t.term = term_form
  line_form t.imp = imp_form
  line_form t.and = and_form
  line_form t.neg = neg_form
  line_form t.sum = sum_form
  line_form t.prod = prod_form
  line_form t.sign = sign_form
  line_form t.quantifier = quantified

-- ---- how many constructs may be open

abbrev pub readers_at : ℕ → Readers → Readers
readers_at n inner = record {
  line = line_form (is_open n) inner;
  ranges = d.ranges (d.domain n);
  binds = binds (is_open n) inner;
}

unfoldable pub inside : ℕ → Readers
inside zero = record { line = λ l. nowhere; ranges = nowhere; binds = nowhere }
inside (suc n) = readers_at n (inside n)

-- a line in which at most so many constructs are open at once
unfoldable pub line : ℕ → Line → Parser Token TermTree
line n l = line_form (is_open n) (inside n) l

unfoldable pub term : ℕ → Parser Token TermTree
term n = line n t.term

-- a form where at most so many constructs are open at once
abbrev pub within : {V : Type 0} → ℕ → (Bool → Readers → Parser Token V) → Parser Token V
within n form = form (is_open n) (inside n)
