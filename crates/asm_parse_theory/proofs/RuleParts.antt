-- What stands inside the constructs of rules, and how it is read.
use Rattle.std.proofs.Common.{refl, ap}
use Rattle.std.specs.Prelude.{◌≡◌, ℕ, Bool, List, [], ◌∷◌, codes, Option}
use Rattle.asm_grammar.specs.Language.{Language, word, ◌then◌, made, maybe, dangling}
use Rattle.asm_grammar.specs.Parser.{Reply, Took, Refused, Parser, expect, mapped, both, optional}
use Rattle.asm_grammar.proofs.Basic.{remade}
use Rattle.asm_grammar.proofs.Pairs.{paired, with_next}
use Rattle.asm_syntax.specs.declared.token.Token.{Token}
use Rattle.asm_syntax.specs.declared.tree.RangesTree.{RangesTree}
use Rattle.asm_syntax.specs.declared.tree.BindsTree.{BindsTree}
use Rattle.asm_syntax.specs.declared.tree.TermTree.{TermTree}
use Rattle.asm_syntax.specs.declared.tree.RuleTree.{RuleTree}
use Rattle.asm_syntax.specs.declared.tree.RuleCaseTree.{RuleCaseTree}
use Rattle.asm_syntax.specs.Marks.{Mark, is, id, variable, keyword}
use Rattle.asm_syntax.specs.Forms as g
use Rattle.asm_syntax.specs.Forms.{second}
use Rattle.asm_syntax.specs.Terms.{Forms, term}
use Rattle.asm_syntax.specs.Rules.{is_closed, case_of}
use Rattle.asm_parse_theory.specs.Firsts.{starts_rule}
use Rattle.asm_parse_theory.specs.Forms as r
use Rattle.asm_parse_theory.specs.Terms.{Readers}

abbrev pub ifnone : Token → Bool
ifnone = is (keyword (codes "ifnone"))

-- ---- the first tokens of each form of rule, and of those after it

abbrev pub from_switch : List Mark
from_switch = keyword (codes "switch") ∷ keyword (codes "extend") ∷ []

abbrev pub from_let : List Mark
from_let = keyword (codes "let") ∷ from_switch

abbrev pub from_choose : List Mark
from_choose = keyword (codes "choose") ∷ from_let

abbrev pub from_forall : List Mark
from_forall = keyword (codes "forall") ∷ from_choose

abbrev pub from_if : List Mark
from_if = keyword (codes "if") ∷ from_forall

abbrev pub from_seq : List Mark
from_seq = keyword (codes "seq") ∷ from_if

abbrev pub from_par : List Mark
from_par = keyword (codes "par") ∷ from_seq

abbrev pub from_call_or_update : List Mark
from_call_or_update = id ∷ from_par

-- ---- the grammar

-- ranges ["with" term], and what they guard
abbrev pub Guarded : Type 0 → Type 0
Guarded V = RangesTree × (Option TermTree × V)

module _ (inner : Forms) (rule : Language Token RuleTree) where
  -- ["with" term]
  abbrev pub guard : Language Token (Option TermTree)
  guard = maybe (g.after_word (codes "with") (inner.line term))

  abbrev pub par_rule : Language Token (RuleTree × List RuleTree)
  par_rule = rule then g.many rule

  abbrev pub if_rule : Language Token (TermTree × (RuleTree × Option RuleTree))
  if_rule = inner.line term then (g.after_word (codes "then") rule then maybe (g.after_word (codes "else") rule))

  abbrev pub forall : Language Token (Guarded RuleTree)
  forall = inner.ranges then (guard then g.after_word (codes "do") rule)

  abbrev pub choose_rule : Language Token (Guarded (RuleTree × Option RuleTree))
  choose_rule = inner.ranges then (guard then g.after_word (codes "do") (dangling is_closed rule (g.after_word (codes "ifnone") rule)))

  abbrev pub let_rule : Language Token (BindsTree × RuleTree)
  let_rule = inner.binds then g.after_word (codes "in") rule

  abbrev pub case : Language Token RuleCaseTree
  case = made case_of (g.after_word (codes "case") (inner.line term then g.after_sign (codes ":") rule))

  abbrev pub switch_rule : Language Token (TermTree × (List RuleCaseTree × Option RuleTree))
  switch_rule = inner.line term then (g.many case then maybe (g.after_word (codes "otherwise") rule))

  abbrev pub extend_rule : Language Token (Token × ((Token × List Token) × RuleTree))
  extend_rule = word (is id) then g.after_word (codes "with") (g.listed (word (is variable)) then g.after_word (codes "do") rule)

-- ---- the parser

module _ (inner : Readers) (rule : Parser Token RuleTree) where
  abbrev pub guard_read : Parser Token (Option TermTree)
  guard_read = optional (is (keyword (codes "with"))) (r.after_word (codes "with") (inner.line term))

  abbrev pub par_rule_read : Parser Token (RuleTree × List RuleTree)
  par_rule_read = both rule (r.many starts_rule rule)

  abbrev pub if_rule_read : Parser Token (TermTree × (RuleTree × Option RuleTree))
  if_rule_read =
      both (inner.line term) (both (r.after_word (codes "then") rule) (optional (is (keyword (codes "else"))) (r.after_word (codes "else") rule)))

  abbrev pub forall_read : Parser Token (Guarded RuleTree)
  forall_read = both inner.ranges (both guard_read (r.after_word (codes "do") rule))

  abbrev pub choose_rule_read : Parser Token (Guarded (RuleTree × Option RuleTree))
  choose_rule_read =
      both inner.ranges (both guard_read (r.after_word (codes "do") (both rule (optional ifnone (r.after_word (codes "ifnone") rule)))))

  abbrev pub let_rule_read : Parser Token (BindsTree × RuleTree)
  let_rule_read = both inner.binds (r.after_word (codes "in") rule)

  abbrev pub case_read : Parser Token RuleCaseTree
  case_read = mapped case_of (r.after_word (codes "case") (both (inner.line term) (r.after_sign (codes ":") rule)))

  abbrev pub switch_rule_read : Parser Token (TermTree × (List RuleCaseTree × Option RuleTree))
  switch_rule_read =
      both (inner.line term) (both (r.many (is (keyword (codes "case"))) case_read)
      (optional (is (keyword (codes "otherwise"))) (r.after_word (codes "otherwise") rule)))

  abbrev pub extend_rule_read : Parser Token (Token × ((Token × List Token) × RuleTree))
  extend_rule_read =
      both (expect (is id)) (both (r.after_word (codes "with") (r.listed (expect (is variable)))) (r.after_word (codes "do") rule))

  -- the same, grouped as the grammar groups it
  abbrev pub extend_rule_grouped : Parser Token (Token × ((Token × List Token) × RuleTree))
  extend_rule_grouped =
      both (expect (is id)) (r.after_word (codes "with") (both (r.listed (expect (is variable))) (r.after_word (codes "do") rule)))

-- ---- two parsers after a word

module _ {V W : Type 0} (w : List ℕ) (p : Parser Token V) (q : Parser Token W) where
  after_one : (u : Token) (v : V) (x : Reply Token W) → remade second (paired u (paired v x)) ≡ paired v x
  after_one u v (Took y rest) = refl
  after_one u v (Refused deep rest) = refl

  after_two : (u : Token) (x : Reply Token V) → remade second (paired u (with_next x q)) ≡ with_next (remade second (paired u x)) q
  after_two u (Took v rest) = after_one u v (q rest)
  after_two u (Refused deep rest) = refl

  after_three : (x : Reply Token Token) → remade second (with_next x (both p q)) ≡ with_next (remade second (with_next x p)) q
  after_three (Took u rest) = after_two u (p rest)
  after_three (Refused deep rest) = refl

  -- the word may stand before both, or before the first
  after_word_both : r.after_word w (both p q) ≡ both (r.after_word w p) q
  after_word_both i ts = after_three (r.quoted w ts) i

pub extend_rule_same : (inner : Readers) (rule : Parser Token RuleTree) → extend_rule_grouped inner rule ≡ extend_rule_read inner rule
extend_rule_same inner rule =
    ap (λ q. both (expect (is id)) q)
    (after_word_both (codes "with") (r.listed (expect (is variable))) (r.after_word (codes "do") rule))
