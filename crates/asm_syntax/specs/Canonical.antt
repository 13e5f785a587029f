-- The canonical text of a term, and of a model.
use Rattle.std.specs.Prelude.{ℕ, List, [], ◌∷◌, ◌++◌, map, Option, Some, None, codes}
use Rattle.asm_syntax.specs.declared.token.Token.{Token}
use Rattle.asm_syntax.specs.declared.tree.DomainTree.{DomainTree}
use Rattle.asm_syntax.specs.declared.tree.ParamsTree.{ParamsTree}
use Rattle.asm_syntax.specs.declared.tree.TermTree.{TermTree}
use Rattle.asm_syntax.specs.declared.tree.RuleTree.{RuleTree, fold-RuleTree}
use Rattle.asm_syntax.specs.declared.tree.RuleTree.TheOpen.{RuleTree-F, RuleCaseTree-F}
use Rattle.asm_syntax.specs.declared.tree.DeclTree.{DeclTree}
use Rattle.asm_syntax.specs.declared.tree.DeclTree.TheVariants as decls
use Rattle.asm_syntax.specs.declared.tree.DefTree.{DefTree}
use Rattle.asm_syntax.specs.declared.tree.DefTree.TheVariants as defs
use Rattle.asm_syntax.specs.declared.tree.StartTree.{StartTree}
use Rattle.asm_syntax.specs.declared.tree.InitTree.{InitTree}
use Rattle.asm_syntax.specs.declared.tree.ModelTree.{ModelTree}
use Rattle.asm_syntax.specs.Written.{Words, word_of, after_each, written_all, if_there, comma, own}
use Rattle.asm_syntax.specs.Written.{single, domain_words, ranges_words, params_words, int_words}
use Rattle.asm_syntax.specs.Written.{term_words, terms_words, binds_words}

-- ---- rules

abbrev pub guard_words : Option TermTree → Words
guard_words guard = if_there (codes "with" ∷ []) term_words guard

abbrev pub rule_step : RuleTree-F Words Words → Words
rule_step (RuleTree-F.Skip span) = codes "skip" ∷ []
rule_step (RuleTree-F.Call name args span) =
    word_of name ∷ codes "[" ∷ if_there [] terms_words args ++ codes "]" ∷ []
rule_step (RuleTree-F.Update name None value span) = word_of name ∷ codes ":=" ∷ term_words value
rule_step (RuleTree-F.Update name (Some args) value span) =
    word_of name ∷ codes "(" ∷ terms_words args ++ codes ")" ∷ codes ":=" ∷ term_words value
rule_step (RuleTree-F.Par first others span) =
    codes "par" ∷ first ++ written_all own others ++ codes "endpar" ∷ []
rule_step (RuleTree-F.Seq first others span) =
    codes "seq" ∷ first ++ written_all own others ++ codes "endseq" ∷ []
rule_step (RuleTree-F.If guard first other span) =
    codes "if" ∷ term_words guard ++ codes "then" ∷ first
    ++ if_there (codes "else" ∷ []) own other ++ codes "endif" ∷ []
rule_step (RuleTree-F.Forall ranges guard body span) =
    codes "forall" ∷ ranges_words ranges ++ guard_words guard ++ codes "do" ∷ body
rule_step (RuleTree-F.Choose ranges guard body other span) =
    codes "choose" ∷ ranges_words ranges ++ guard_words guard ++ codes "do" ∷ body
    ++ if_there (codes "ifnone" ∷ []) own other
rule_step (RuleTree-F.Let binds body span) =
    codes "let" ∷ binds_words binds ++ codes "in" ∷ body ++ codes "endlet" ∷ []
rule_step (RuleTree-F.Switch value cases other span) =
    codes "switch" ∷ term_words value ++ written_all own cases
    ++ if_there (codes "otherwise" ∷ []) own other ++ codes "endswitch" ∷ []
rule_step (RuleTree-F.Extend name first others body span) =
    codes "extend" ∷ word_of name ∷ codes "with" ∷ word_of first ∷ after_each comma single others
    ++ codes "do" ∷ body

abbrev pub rule_case_step : RuleCaseTree-F Words Words → Words
rule_case_step c = codes "case" ∷ term_words c.value ++ codes ":" ∷ c.rule

unfoldable pub rule_words : RuleTree → Words
rule_words = fold-RuleTree Words Words rule_step rule_case_step

-- ---- declarations and definitions

abbrev pub typed_words : Token → DomainTree → Option DomainTree → Words
typed_words name first next =
    word_of name ∷ codes ":" ∷ domain_words first ++ if_there (codes "->" ∷ []) domain_words next

abbrev pub decl_words : DeclTree → Words
decl_words (decls.Enum name first others span) =
    codes "enum" ∷ codes "domain" ∷ word_of name ∷ codes "=" ∷ codes "{"
    ∷ word_of first ∷ after_each (codes "|") single others ++ codes "}" ∷ []
decl_words (decls.Abstract name span) = codes "abstract" ∷ codes "domain" ∷ single name
decl_words (decls.Subset name base span) =
    codes "domain" ∷ word_of name ∷ codes "subsetof" ∷ base ∷ []
decl_words (decls.Defined kind name first next span) = kind ∷ typed_words name first next
decl_words (decls.Dynamic kind name first next span) = kind ∷ typed_words name first next

abbrev pub equation_words : Token → Option ParamsTree → Words → Words
equation_words name given body = word_of name ∷ if_there [] params_words given ++ codes "=" ∷ body

abbrev pub def_words : DefTree → Words
def_words (defs.Interval name first last span) =
    codes "domain" ∷ word_of name ∷ codes "=" ∷ codes "{"
    ∷ int_words first ++ codes ".." ∷ int_words last ++ codes "}" ∷ []
def_words (defs.Integers name first others span) =
    codes "domain" ∷ word_of name ∷ codes "=" ∷ codes "{"
    ∷ int_words first ++ after_each comma int_words others ++ codes "}" ∷ []
def_words (defs.Function name given t span) =
    codes "function" ∷ equation_words name given (term_words t)
def_words (defs.Rule name given body span) =
    codes "rule" ∷ equation_words name given (rule_words body)
def_words (defs.Invariant name first others t span) =
    codes "invariant" ∷ if_there [] single name
    ++ codes "over" ∷ word_of first ∷ after_each comma single others ++ codes ":" ∷ term_words t

-- ---- models

-- A text by its lines, each by its tokens.
abbrev pub Lines : Type 0
Lines = List Words

abbrev pub start_words : StartTree → Words
start_words s = codes "function" ∷ equation_words s.function s.params (term_words s.term)

abbrev pub init_lines : Option InitTree → Lines
init_lines None = []
init_lines (Some i) =
    (codes "default" ∷ codes "init" ∷ word_of i.name ∷ codes ":" ∷ []) ∷ map start_words i.starts

abbrev pub model_lines : ModelTree → Lines
model_lines m =
    (codes "asm" ∷ single m.name) ∷ (codes "signature" ∷ codes ":" ∷ []) ∷ map decl_words m.decls
    ++ (codes "definitions" ∷ codes ":" ∷ []) ∷ map def_words m.defs
    ++ (codes "main" ∷ codes "rule" ∷ word_of m.rule_name ∷ codes "=" ∷ rule_words m.rule)
    ∷ init_lines m.init

-- ---- texts

-- with a space between two tokens
abbrev pub spaced : Words → List ℕ
spaced [] = []
spaced (w ∷ []) = w
spaced (w ∷ v ∷ ws) = w ++ 32 ∷ spaced (v ∷ ws)

-- with a line feed after each line
abbrev pub broken : Lines → List ℕ
broken [] = []
broken (l ∷ ls) = spaced l ++ 10 ∷ broken ls

unfoldable pub canonical_term : TermTree → List ℕ
canonical_term t = spaced (term_words t)

unfoldable pub canonical : ModelTree → List ℕ
canonical m = broken (model_lines m)
