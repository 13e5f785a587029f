-- The grammar of domains, ranges and integers.
use Rattle.std.specs.Prelude.{ℕ, zero, suc, Bool, true, false, List, codes, Option, Some, None}
use Rattle.asm_grammar.specs.Language.{Language, word, ◌then◌, ◌either◌, made, maybe}
use Rattle.asm_syntax.specs.declared.token.Span.{Span}
use Rattle.asm_syntax.specs.declared.token.Token.{Token}
use Rattle.asm_syntax.specs.declared.tree.DomainTree.{DomainTree}
use Rattle.asm_syntax.specs.declared.tree.DomainTree.TheVariants as domains
use Rattle.asm_syntax.specs.declared.tree.RangeTree.{RangeTree}
use Rattle.asm_syntax.specs.declared.tree.RangesTree.{RangesTree}
use Rattle.asm_syntax.specs.declared.tree.ParamsTree.{ParamsTree}
use Rattle.asm_syntax.specs.declared.tree.IntTree.{IntTree}
use Rattle.asm_syntax.specs.Marks.{is, id, variable, number}
use Rattle.asm_syntax.specs.Forms.{nowhere, is_open, quoted, sign, after_word, after_sign}
use Rattle.asm_syntax.specs.Forms.{in_parentheses, listed, formed}

abbrev pub prod_of : Span → DomainTree × (DomainTree × List DomainTree) → DomainTree
prod_of span (first, (next, others)) = domains.Prod first next others span

abbrev pub range_of : Token × DomainTree → RangeTree
range_of (name, values) = record { variable = name; domain = values }

abbrev pub ranges_of : Span → RangeTree × List RangeTree → RangesTree
ranges_of extent (first, others) = record { first = first; others = others; span = extent }

abbrev pub params_of : Span → RangesTree → ParamsTree
params_of extent given = record { ranges = given; span = extent }

abbrev pub int_of : Span → Option Token × Token → IntTree
int_of extent (None, digits) = record { is_negative = false; number = digits; span = extent }
int_of extent (Some minus, digits) = record { is_negative = true; number = digits; span = extent }

-- domain = "Boolean" | "Integer" | "Natural" | "String" | ID
--         | "Prod" "(" domain "," domain {"," domain} ")"
--         | "Seq" "(" domain ")" | "Powerset" "(" domain ")"
-- `inner` are the domains one construct deeper.
module _ (is_open : Bool) (inner : Language Token DomainTree) where
  abbrev pub product : Language Token DomainTree
  product = formed prod_of (after_word (codes "Prod")
      (in_parentheses is_open (inner then after_sign (codes ",") (listed inner))))

  abbrev pub sequence : Language Token DomainTree
  sequence = formed (λ span d. domains.Seq d span)
      (after_word (codes "Seq") (in_parentheses is_open inner))

  abbrev pub powerset : Language Token DomainTree
  powerset = formed (λ span d. domains.Powerset d span)
      (after_word (codes "Powerset") (in_parentheses is_open inner))

  abbrev pub domain_form : Language Token DomainTree
  domain_form =
      formed (λ span t. domains.Truth span) (quoted (codes "Boolean"))
      either formed (λ span t. domains.Int span) (quoted (codes "Integer"))
      either formed (λ span t. domains.Nat span) (quoted (codes "Natural"))
      either formed (λ span t. domains.Chars span) (quoted (codes "String"))
      either formed (λ span t. domains.Named t span) (word (is id))
      either product either sequence either powerset

-- the domains inside a construct, where this many may be open before it
unfoldable pub inside : ℕ → Language Token DomainTree
inside zero = nowhere
inside (suc n) = domain_form (is_open n) (inside n)

-- the domains in which at most this many constructs are open at once
unfoldable pub domain : ℕ → Language Token DomainTree
domain n = domain_form (is_open n) (inside n)

-- ranges = VAR "in" domain {"," VAR "in" domain}
abbrev pub range : Language Token DomainTree → Language Token RangeTree
range values = made range_of (word (is variable) then after_word (codes "in") values)

abbrev pub ranges : Language Token DomainTree → Language Token RangesTree
ranges values = formed ranges_of (listed (range values))

-- params = "(" ranges ")"
abbrev pub params : ℕ → Language Token ParamsTree
params n = formed params_of (in_parentheses (is_open n) (ranges (inside n)))

-- int = ["-"] NUMBER
abbrev pub int : Language Token IntTree
int = formed int_of (maybe (sign (codes "-")) then word (is number))
