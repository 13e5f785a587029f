-- The grammar of rules.
use Rattle.std.specs.Prelude.{ℕ, zero, suc, Bool, true, false, List, codes, Option, Some, None}
use Rattle.asm_grammar.specs.Language.{Language, word, ◌then◌, ◌either◌, made, maybe, dangling}
use Rattle.asm_syntax.specs.declared.token.Span.{Span}
use Rattle.asm_syntax.specs.declared.token.Token.{Token}
use Rattle.asm_syntax.specs.declared.tree.RangesTree.{RangesTree}
use Rattle.asm_syntax.specs.declared.tree.TermTree.{TermTree}
use Rattle.asm_syntax.specs.declared.tree.TermsTree.{TermsTree}
use Rattle.asm_syntax.specs.declared.tree.RuleTree.{RuleTree, fold-RuleTree}
use Rattle.asm_syntax.specs.declared.tree.RuleTree.TheOpen.{RuleTree-F}
use Rattle.asm_syntax.specs.declared.tree.RuleTree.TheViews.{roll-RuleCaseTree}
use Rattle.asm_syntax.specs.declared.tree.RuleTree.TheVariants as rules
use Rattle.asm_syntax.specs.declared.tree.RuleCaseTree.{RuleCaseTree}
use Rattle.asm_syntax.specs.Marks.{is, id, variable}
use Rattle.asm_syntax.specs.Forms.{nowhere, is_open, quoted, after_word, after_sign, opened}
use Rattle.asm_syntax.specs.Forms.{enclosed, bracketed, many, listed, formed}
use Rattle.asm_syntax.specs.Terms.{Forms, term}
use Rattle.asm_syntax.specs.Terms as t

-- ---- whose an `ifnone` is

-- Whether no `choose` without `ifnone` has a body that ends where the rule does.
abbrev pub closed_step : RuleTree-F Bool Unit → Bool
closed_step (RuleTree-F.Skip span) = true
closed_step (RuleTree-F.Call name args span) = true
closed_step (RuleTree-F.Update name args value span) = true
closed_step (RuleTree-F.Par first others span) = true
closed_step (RuleTree-F.Seq first others span) = true
closed_step (RuleTree-F.If guard first other span) = true
closed_step (RuleTree-F.Forall ranges guard body span) = body
closed_step (RuleTree-F.Choose ranges guard body None span) = false
closed_step (RuleTree-F.Choose ranges guard body (Some other) span) = other
closed_step (RuleTree-F.Let binds body span) = true
closed_step (RuleTree-F.Switch value cases other span) = true
closed_step (RuleTree-F.Extend name first others body span) = body

unfoldable pub is_closed : RuleTree → Bool
is_closed = fold-RuleTree Bool Unit closed_step (λ case. tt)

-- ---- trees of what is spelled

-- what follows the first name of a rule
pub data Use : Type 0 where
  Calls : Option TermsTree → Use
  Updates : Option TermsTree × TermTree → Use

abbrev pub use_of : Span → Token × Use → RuleTree
use_of span (name, Calls args) = rules.Call name args span
use_of span (name, Updates (args, value)) = rules.Update name args value span

abbrev pub choose_of : Span → RangesTree × (Option TermTree × (RuleTree × Option RuleTree))
    → RuleTree
choose_of span (ranges, (guard, (body, other))) = rules.Choose ranges guard body other span

abbrev pub extend_of : Span → Token × ((Token × List Token) × RuleTree) → RuleTree
extend_of span (name, ((first, others), body)) = rules.Extend name first others body span

abbrev pub case_of : TermTree × RuleTree → RuleCaseTree
case_of (wanted, body) = roll-RuleCaseTree (record { value = wanted; rule = body })

-- ---- the lines of the grammar

-- ["with" term]
abbrev pub guard_part : Forms → Language Token (Option TermTree)
guard_part inner = maybe (after_word (codes "with") (inner.line term))

-- ["else" rule]
abbrev pub else_part : Language Token RuleTree → Language Token (Option RuleTree)
else_part rule = maybe (after_word (codes "else") rule)

-- ["otherwise" rule]
abbrev pub otherwise_part : Language Token RuleTree → Language Token (Option RuleTree)
otherwise_part rule = maybe (after_word (codes "otherwise") rule)

-- rule ["ifnone" rule]
abbrev pub choose_body : Language Token RuleTree → Language Token (RuleTree × Option RuleTree)
choose_body rule = dangling is_closed rule (after_word (codes "ifnone") rule)

-- VAR {"," VAR}
abbrev pub variables : Language Token (Token × List Token)
variables = listed (word (is variable))

-- `value` and `call` are a term and arguments in parentheses at the same place, `inner` and `rule`
-- what is allowed one construct deeper.
module _ (is_open : Bool) (value : Language Token TermTree) (call : Language Token TermsTree)
    (inner : Forms) (rule : Language Token RuleTree) where
  -- "skip"
  abbrev pub skip : Language Token RuleTree
  skip = formed (λ span t. rules.Skip span) (quoted (codes "skip"))

  -- ID "[" [term {"," term}] "]"
  -- ID ["(" term {"," term} ")"] ":=" term
  abbrev pub call_or_update : Language Token RuleTree
  call_or_update = formed use_of (word (is id) then (
      made Calls (bracketed is_open (codes "[") (maybe (t.arguments inner)) (codes "]"))
      either made Updates (maybe call then after_sign (codes ":=") value)))

  -- "par" rule {rule} "endpar"
  abbrev pub par_rule : Language Token RuleTree
  par_rule = formed (λ span p. rules.Par p.0 p.1 span)
      (enclosed is_open (codes "par") (rule then many rule) (codes "endpar"))

  -- "seq" rule {rule} "endseq"
  abbrev pub seq_rule : Language Token RuleTree
  seq_rule = formed (λ span p. rules.Seq p.0 p.1 span)
      (enclosed is_open (codes "seq") (rule then many rule) (codes "endseq"))

  -- "if" term "then" rule ["else" rule] "endif"
  abbrev pub if_rule : Language Token RuleTree
  if_rule = formed (λ span p. rules.If p.0 p.1.0 p.1.1 span) (enclosed is_open (codes "if")
      (inner.line term then (after_word (codes "then") rule then else_part rule)) (codes "endif"))

  -- "forall" ranges ["with" term] "do" rule
  abbrev pub forall : Language Token RuleTree
  forall = formed (λ span p. rules.Forall p.0 p.1.0 p.1.1 span) (opened is_open (codes "forall")
      (inner.ranges then (guard_part inner then after_word (codes "do") rule)))

  -- "choose" ranges ["with" term] "do" rule ["ifnone" rule]
  abbrev pub choose_rule : Language Token RuleTree
  choose_rule = formed choose_of (opened is_open (codes "choose")
      (inner.ranges then (guard_part inner then after_word (codes "do") (choose_body rule))))

  -- "let" binds "in" rule "endlet"
  abbrev pub let_rule : Language Token RuleTree
  let_rule = formed (λ span p. rules.Let p.0 p.1 span) (enclosed is_open (codes "let")
      (inner.binds then after_word (codes "in") rule) (codes "endlet"))

  -- "switch" term {"case" term ":" rule} ["otherwise" rule] "endswitch"
  abbrev pub case : Language Token RuleCaseTree
  case = made case_of (after_word (codes "case") (inner.line term then after_sign (codes ":") rule))

  abbrev pub switch_rule : Language Token RuleTree
  switch_rule = formed (λ span p. rules.Switch p.0 p.1.0 p.1.1 span)
      (enclosed is_open (codes "switch")
      (inner.line term then (many case then otherwise_part rule)) (codes "endswitch"))

  -- "extend" ID "with" VAR {"," VAR} "do" rule
  abbrev pub extend_rule : Language Token RuleTree
  extend_rule = formed extend_of (opened is_open (codes "extend")
      (word (is id) then after_word (codes "with") (variables then after_word (codes "do") rule)))

  abbrev pub rule_form : Language Token RuleTree
  rule_form =
      skip either call_or_update either par_rule either seq_rule either if_rule either forall
      either choose_rule either let_rule either switch_rule either extend_rule

-- ---- how many constructs may be open

-- the rules where this many constructs may be open, by what is allowed one construct deeper
abbrev pub rule_at : (TermTree → Bool) → ℕ → Language Token RuleTree → Language Token RuleTree
rule_at fits n rule =
    rule_form (is_open n) (t.term_within fits n) (t.call (is_open n) (t.inside fits n))
    (t.inside fits n) rule

-- the rules inside a construct, where this many may be open before it
unfoldable pub inside : (TermTree → Bool) → ℕ → Language Token RuleTree
inside fits zero = nowhere
inside fits (suc n) = rule_at fits n (inside fits n)

-- the rules in which at most this many constructs are open at once
unfoldable pub rule_within : (TermTree → Bool) → ℕ → Language Token RuleTree
rule_within fits n = rule_at fits n (inside fits n)
