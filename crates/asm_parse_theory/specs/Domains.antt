-- The parser of domains, ranges and integers.
use Rattle.std.specs.Prelude.{ℕ, zero, suc, Bool, List, codes}
use Rattle.asm_grammar.specs.Parser.{Parser, expect, choose, mapped, both, optional}
use Rattle.asm_syntax.specs.declared.token.Token.{Token}
use Rattle.asm_syntax.specs.declared.tree.DomainTree.{DomainTree}
use Rattle.asm_syntax.specs.declared.tree.DomainTree.TheVariants as domains
use Rattle.asm_syntax.specs.declared.tree.RangeTree.{RangeTree}
use Rattle.asm_syntax.specs.declared.tree.RangesTree.{RangesTree}
use Rattle.asm_syntax.specs.declared.tree.ParamsTree.{ParamsTree}
use Rattle.asm_syntax.specs.declared.tree.IntTree.{IntTree}
use Rattle.asm_syntax.specs.Marks.{is, id, variable, number, keyword, symbol}
use Rattle.asm_syntax.specs.Forms.{is_open}
use Rattle.asm_syntax.specs.Domains.{prod_of, range_of, ranges_of, params_of, int_of}
use Rattle.asm_parse_theory.specs.Forms.{
  nowhere,
  quoted,
  sign,
  after_word,
  after_comma,
  in_parentheses,
  listed,
  formed,
}

-- ---- words that are a domain each

abbrev pub boolean : Parser Token DomainTree
boolean = formed (λ span t. domains.Truth span) (quoted (codes "Boolean"))

abbrev pub integer : Parser Token DomainTree
integer = formed (λ span t. domains.Int span) (quoted (codes "Integer"))

abbrev pub natural : Parser Token DomainTree
natural = formed (λ span t. domains.Nat span) (quoted (codes "Natural"))

abbrev pub chars : Parser Token DomainTree
chars = formed (λ span t. domains.Chars span) (quoted (codes "String"))

-- ID
abbrev pub named : Parser Token DomainTree
named = formed (λ span t. domains.Named t span) (expect (is id))

-- ---- domains that hold domains

-- domain "," domain {"," domain}
abbrev pub factors : Parser Token DomainTree → Parser Token (DomainTree × (DomainTree × List DomainTree))
factors inner = both inner (after_comma (listed inner))

-- `inner` reads the domains one construct deeper.
module _ (is_open : Bool) (inner : Parser Token DomainTree) where
  unfoldable pub product : Parser Token DomainTree
  product = formed prod_of (after_word (codes "Prod") (in_parentheses is_open (factors inner)))

  unfoldable pub sequence : Parser Token DomainTree
  sequence = formed (λ span d. domains.Seq d span)
      (after_word (codes "Seq") (in_parentheses is_open inner))

  unfoldable pub powerset : Parser Token DomainTree
  powerset = formed (λ span d. domains.Powerset d span)
      (after_word (codes "Powerset") (in_parentheses is_open inner))

  -- domain
  unfoldable pub domain_form : Parser Token DomainTree
  domain_form =
      choose (is (keyword (codes "Boolean"))) boolean
      (choose (is (keyword (codes "Integer"))) integer
      (choose (is (keyword (codes "Natural"))) natural
      (choose (is (keyword (codes "String"))) chars
      (choose (is id) named
      (choose (is (keyword (codes "Prod"))) product
      (choose (is (keyword (codes "Seq"))) sequence powerset))))))

unfoldable pub inside : ℕ → Parser Token DomainTree
inside zero = nowhere
inside (suc n) = domain_form (is_open n) (inside n)

unfoldable pub domain : ℕ → Parser Token DomainTree
domain n = domain_form (is_open n) (inside n)

-- a form where at most so many constructs are open at once
abbrev pub within : {V : Type 0} → ℕ → (Bool → Parser Token DomainTree → Parser Token V) → Parser Token V
within n form = form (is_open n) (inside n)

-- ranges
unfoldable pub range : Parser Token DomainTree → Parser Token RangeTree
range values = mapped range_of (both (expect (is variable)) (after_word (codes "in") values))

unfoldable pub ranges : Parser Token DomainTree → Parser Token RangesTree
ranges values = formed ranges_of (listed (range values))

-- params
unfoldable pub params : ℕ → Parser Token ParamsTree
params n = formed params_of (in_parentheses (is_open n) (ranges (inside n)))

-- int
unfoldable pub int : Parser Token IntTree
int = formed int_of
    (both (optional (is (symbol (codes "-"))) (sign (codes "-"))) (expect (is number)))
