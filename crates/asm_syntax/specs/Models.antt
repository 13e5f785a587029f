-- The grammar of models.
use Rattle.std.specs.Prelude.{ℕ, Bool, List, [], ◌∷◌, codes, Option, Some, None}
use Rattle.asm_grammar.specs.Language.{Language, word, ◌then◌, ◌either◌, made, maybe}
use Rattle.asm_syntax.specs.declared.token.Span.{Span}
use Rattle.asm_syntax.specs.declared.token.Token.{Token}
use Rattle.asm_syntax.specs.declared.tree.DomainTree.{DomainTree}
use Rattle.asm_syntax.specs.declared.tree.ParamsTree.{ParamsTree}
use Rattle.asm_syntax.specs.declared.tree.IntTree.{IntTree}
use Rattle.asm_syntax.specs.declared.tree.TermTree.{TermTree}
use Rattle.asm_syntax.specs.declared.tree.RuleTree.{RuleTree}
use Rattle.asm_syntax.specs.declared.tree.DeclTree.{DeclTree}
use Rattle.asm_syntax.specs.declared.tree.DeclTree.TheVariants as decls
use Rattle.asm_syntax.specs.declared.tree.DefTree.{DefTree}
use Rattle.asm_syntax.specs.declared.tree.DefTree.TheVariants as defs
use Rattle.asm_syntax.specs.declared.tree.StartTree.{StartTree}
use Rattle.asm_syntax.specs.declared.tree.InitTree.{InitTree}
use Rattle.asm_syntax.specs.declared.tree.ModelTree.{ModelTree}
use Rattle.asm_syntax.specs.Marks.{Mark, is, is_one_of, id, keyword, symbol, text_of}
use Rattle.asm_syntax.specs.Forms.{is_open, quoted, second, after_word, after_sign, bracketed, many}
use Rattle.asm_syntax.specs.Forms.{listed, members, Rest, To, And, formed}
use Rattle.asm_syntax.specs.Domains.{domain, params, int}
use Rattle.asm_syntax.specs.Terms.{term_within}
use Rattle.asm_syntax.specs.Rules.{rule_within}

-- ---- imports, which the tree doesn't keep

-- the first part and those after it
abbrev pub Import : Type 0
Import = Token × List Token

-- part = "." | ".." | ID
abbrev pub part : Language Token Token
part = word (is_one_of (symbol (codes ".") ∷ symbol (codes "..") ∷ id ∷ []))

-- part {"/" part}
abbrev pub parts : Language Token Import
parts = part then many (after_sign (codes "/") part)

-- import = "import" part {"/" part}
abbrev pub imported : Language Token Import
imported = after_word (codes "import") parts

-- ---- declarations

abbrev pub enum_of : Span → Token × (Token × List Token) → DeclTree
enum_of span (name, (first, others)) = decls.Enum name first others span

-- a function's name and its domain, or its domains
abbrev pub Typed : Type 0
Typed = Token × (DomainTree × Option DomainTree)

abbrev pub defined_of : Span → Token × Typed → DeclTree
defined_of span (kind, (name, (first, next))) = decls.Defined (text_of kind) name first next span

abbrev pub dynamic_of : Span → Token × Typed → DeclTree
dynamic_of span (kind, (name, (first, next))) = decls.Dynamic (text_of kind) name first next span

-- what follows an optional `dynamic`
pub data Changing : Type 0 where
  Members : Token → Changing
  Values : Token × Typed → Changing

abbrev pub changing_of : Span → Option Token × Changing → DeclTree
changing_of span (dynamic, Members name) = decls.Abstract name span
changing_of span (dynamic, Values v) = dynamic_of span v

-- "|" | ","
abbrev pub separators : List Mark
separators = symbol (codes "|") ∷ symbol (codes ",") ∷ []

-- ID {("|" | ",") ID}
abbrev pub literals : Language Token (Token × List Token)
literals = word (is id) then many (made second (word (is_one_of separators) then word (is id)))

-- "controlled" | "monitored" | "shared" | "out"
abbrev pub dynamic_kinds : List Mark
dynamic_kinds =
    keyword (codes "controlled") ∷ keyword (codes "monitored") ∷ keyword (codes "shared")
    ∷ keyword (codes "out") ∷ []

module _ (n : ℕ) where
  -- "enum" "domain" ID "=" "{" ID {("|" | ",") ID} "}"
  abbrev pub enum : Language Token DeclTree
  enum = formed enum_of (after_word (codes "enum") (after_word (codes "domain") (word (is id)
      then after_sign (codes "=") (bracketed (is_open n) (codes "{") literals (codes "}")))))

  -- "domain" ID "subsetof" ("Integer" | "Natural")
  abbrev pub subset : Language Token DeclTree
  subset = formed (λ span p. decls.Subset p.0 (text_of p.1) span) (after_word (codes "domain")
      (word (is id) then after_word (codes "subsetof")
      (word (is_one_of (keyword (codes "Integer") ∷ keyword (codes "Natural") ∷ [])))))

  -- ID ":" domain ["->" domain]
  abbrev pub typed : Language Token Typed
  typed =
      word (is id)
      then after_sign (codes ":") (domain n then maybe (after_sign (codes "->") (domain n)))

  -- ("static" | "derived") ID ":" domain ["->" domain]
  abbrev pub defined : Language Token DeclTree
  defined = formed defined_of
      (word (is_one_of (keyword (codes "static") ∷ keyword (codes "derived") ∷ [])) then typed)

  -- ["dynamic"] "abstract" "domain" ID
  -- ["dynamic"] ("controlled" | "monitored" | "shared" | "out") ID ":" domain ["->" domain]
  abbrev pub changing : Language Token DeclTree
  changing = formed changing_of (maybe (quoted (codes "dynamic")) then (
      made Members (after_word (codes "abstract") (after_word (codes "domain") (word (is id))))
      either made Values (word (is_one_of dynamic_kinds) then typed)))

  -- decl
  abbrev pub decl : Language Token DeclTree
  decl = enum either subset either defined either changing

-- ---- definitions

abbrev pub integers_of : Span → Token × (IntTree × Option (Rest IntTree)) → DefTree
integers_of span (name, (first, None)) = defs.Integers name first [] span
integers_of span (name, (first, Some (To last))) = defs.Interval name first last span
integers_of span (name, (first, Some (And others))) = defs.Integers name first others span

abbrev pub invariant_of : Span → Option Token × ((Token × List Token) × TermTree) → DefTree
invariant_of span (name, ((first, others), t)) = defs.Invariant name first others t span

abbrev pub start_of : Token × (Option ParamsTree × TermTree) → StartTree
start_of (name, (given, t)) = record { function = name; params = given; term = t }

abbrev pub init_of : Span → Token × List StartTree → InitTree
init_of whole (state, given) = record { name = state; starts = given; span = whole }

module _ (fits : TermTree → Bool) (n : ℕ) where
  -- "domain" ID "=" "{" int ((".." | ":") int | {"," int}) "}"
  abbrev pub integers : Language Token DefTree
  integers = formed integers_of (after_word (codes "domain") (word (is id)
      then after_sign (codes "=") (bracketed (is_open n) (codes "{") (members int) (codes "}"))))

  -- "function" ID [params] "=" term
  abbrev pub equation : Language Token (Token × (Option ParamsTree × TermTree))
  equation = after_word (codes "function") (word (is id)
      then (maybe (params n) then after_sign (codes "=") (term_within fits n)))

  abbrev pub function : Language Token DefTree
  function = formed (λ span p. defs.Function p.0 p.1.0 p.1.1 span) equation

  -- ["macro"] "rule" ID [params] "=" rule
  abbrev pub macro : Language Token DefTree
  macro = formed (λ span p. defs.Rule p.0 p.1.0 p.1.1 span)
      (made second (maybe (quoted (codes "macro")) then after_word (codes "rule")
      (word (is id) then (maybe (params n) then after_sign (codes "=") (rule_within fits n)))))

  -- "invariant" [ID] "over" ID {"," ID} ":" term
  abbrev pub invariant : Language Token DefTree
  invariant = formed invariant_of (after_word (codes "invariant")
      (maybe (word (is id)) then after_word (codes "over")
      (listed (word (is id)) then after_sign (codes ":") (term_within fits n))))

  -- def
  abbrev pub def : Language Token DefTree
  def = integers either function either macro either invariant

  -- init = "default" "init" ID ":" {"function" ID [params] "=" term}
  abbrev pub init : Language Token InitTree
  init = formed init_of (after_word (codes "default") (after_word (codes "init")
      (word (is id) then after_sign (codes ":") (many (made start_of equation)))))

-- ---- models

-- the word `main`, the main rule's name, the rule and the initial state
abbrev pub Main : Type 0
Main = Token × (Token × (RuleTree × Option InitTree))

abbrev pub model_of : Span → Token × (List Import × (List DeclTree × (List DefTree × Main)))
    → List Import × ModelTree
model_of whole (title, (imports, (declared, (definitions, (word, (called, (body, initial))))))) = (
  imports,
  record {
    name = title;
    decls = declared;
    defs = definitions;
    main = word.span;
    rule_name = called;
    rule = body;
    init = initial;
    span = whole;
  },
)

module _ (fits : TermTree → Bool) (n : ℕ) where
  -- "main" "rule" ID "=" rule [init]
  abbrev pub main : Language Token Main
  main =
      quoted (codes "main") then after_word (codes "rule") (word (is id)
      then after_sign (codes "=") (rule_within fits n then maybe (init fits n)))

  -- "definitions" ":" {def} main
  abbrev pub definitions : Language Token (List DefTree × Main)
  definitions =
      after_word (codes "definitions") (after_sign (codes ":") (many (def fits n) then main))

  -- "signature" ":" {decl} "definitions" ":" {def} main
  abbrev pub signature : Language Token (List DeclTree × (List DefTree × Main))
  signature =
      after_word (codes "signature") (after_sign (codes ":") (many (decl n) then definitions))

  -- model = "asm" ID {import} "signature" ":" {decl}
  --         "definitions" ":" {def} "main" "rule" ID "=" rule [init]
  abbrev pub model_within : Language Token (List Import × ModelTree)
  model_within = formed model_of
      (after_word (codes "asm") (word (is id) then (many imported then signature)))
