-- The parser of models.
use Rattle.std.specs.Prelude.{ℕ, zero, suc, Bool, List, [], ◌∷◌, codes, length}
use Rattle.std.specs.Prelude.{Option, Some, None, if◌then◌else◌}
use Rattle.asm_grammar.specs.Parser.{Parser, Reply, Took, Refused, expect, choose, mapped}
use Rattle.asm_grammar.specs.Parser.{both, optional}
use Rattle.asm_syntax.specs.declared.token.Token.{Token}
use Rattle.asm_syntax.specs.declared.tree.DomainTree.{DomainTree}
use Rattle.asm_syntax.specs.declared.tree.ParamsTree.{ParamsTree}
use Rattle.asm_syntax.specs.declared.tree.TermTree.{TermTree}
use Rattle.asm_syntax.specs.declared.tree.RuleTree.{RuleTree}
use Rattle.asm_syntax.specs.declared.tree.DeclTree.{DeclTree}
use Rattle.asm_syntax.specs.declared.tree.DeclTree.TheVariants as decls
use Rattle.asm_syntax.specs.declared.tree.DefTree.{DefTree}
use Rattle.asm_syntax.specs.declared.tree.DefTree.TheVariants as defs
use Rattle.asm_syntax.specs.declared.tree.StartTree.{StartTree}
use Rattle.asm_syntax.specs.declared.tree.InitTree.{InitTree}
use Rattle.asm_syntax.specs.declared.tree.ModelTree.{ModelTree}
use Rattle.asm_syntax.specs.Marks.{is, is_one_of, id, keyword, symbol, text_of}
use Rattle.asm_syntax.specs.Forms.{is_open, second}
use Rattle.asm_syntax.specs.Models.{Import, Typed, Changing, Members, Values, Main, enum_of}
use Rattle.asm_syntax.specs.Models.{defined_of, changing_of, integers_of, invariant_of, start_of}
use Rattle.asm_syntax.specs.Models.{init_of, model_of}
use Rattle.asm_syntax.specs.Grammar.{is_standard}
use Rattle.asm_parse_theory.specs.Firsts.{starts_decl, starts_macro, starts_def}
use Rattle.asm_parse_theory.specs.Forms.{quoted, after_word, after_sign, bracketed, many, listed}
use Rattle.asm_parse_theory.specs.Forms.{members, formed}
use Rattle.asm_parse_theory.specs.Domains.{domain, params, int}
use Rattle.asm_parse_theory.specs.Terms.{term}
use Rattle.asm_parse_theory.specs.Rules.{rule}

-- ---- imports

-- part {"/" part}
abbrev pub part : Parser Token Token
part = expect (is_one_of (symbol (codes ".") ∷ symbol (codes "..") ∷ id ∷ []))

abbrev pub next_part : Parser Token Token
next_part = after_sign (codes "/") part

abbrev pub other_parts : Parser Token (List Token)
other_parts = many (is (symbol (codes "/"))) next_part

unfoldable pub parts : Parser Token Import
parts = both part other_parts

unfoldable pub imported : Parser Token Import
imported = after_word (codes "import") parts

abbrev pub imports : Parser Token (List Import)
imports = many (is (keyword (codes "import"))) imported

-- ---- declarations

abbrev pub is_literal_sign : Token → Bool
is_literal_sign = is_one_of (symbol (codes "|") ∷ symbol (codes ",") ∷ [])

abbrev pub is_defined_word : Token → Bool
is_defined_word = is_one_of (keyword (codes "static") ∷ keyword (codes "derived") ∷ [])

abbrev pub is_dynamic_word : Token → Bool
is_dynamic_word = is_one_of (keyword (codes "controlled") ∷ keyword (codes "monitored")
    ∷ keyword (codes "shared") ∷ keyword (codes "out") ∷ [])

abbrev pub is_base_word : Token → Bool
is_base_word = is_one_of (keyword (codes "Integer") ∷ keyword (codes "Natural") ∷ [])

-- ("|" | ",") ID
abbrev pub next_literal : Parser Token Token
next_literal = mapped second (both (expect is_literal_sign) (expect (is id)))

abbrev pub other_literals : Parser Token (List Token)
other_literals = many is_literal_sign next_literal

-- "abstract" "domain" ID
abbrev pub abstract_part : Parser Token Token
abstract_part = after_word (codes "abstract") (after_word (codes "domain") (expect (is id)))

module _ (n : ℕ) where
  -- "enum" "domain" ID "=" "{" ID {("|" | ",") ID} "}"
  unfoldable pub literals : Parser Token (Token × List Token)
  literals = both (expect (is id)) other_literals

  abbrev pub literal_set : Parser Token (Token × List Token)
  literal_set = bracketed (is_open n) (codes "{") literals (codes "}")

  unfoldable pub enum : Parser Token DeclTree
  enum = formed enum_of (after_word (codes "enum") (after_word (codes "domain")
      (both (expect (is id)) (after_sign (codes "=") literal_set))))

  -- "domain" ID "subsetof" ("Integer" | "Natural")
  unfoldable pub subset : Parser Token DeclTree
  subset = formed (λ span p. decls.Subset p.0 (text_of p.1) span) (after_word (codes "domain")
      (both (expect (is id)) (after_word (codes "subsetof") (expect is_base_word))))

  -- ID ":" domain ["->" domain]
  abbrev pub value_part : Parser Token (Option DomainTree)
  value_part = optional (is (symbol (codes "->"))) (after_sign (codes "->") (domain n))

  abbrev pub domains_part : Parser Token (DomainTree × Option DomainTree)
  domains_part = both (domain n) value_part

  unfoldable pub typed : Parser Token Typed
  typed = both (expect (is id)) (after_sign (codes ":") domains_part)

  -- ("static" | "derived") ID ":" domain ["->" domain]
  unfoldable pub defined : Parser Token DeclTree
  defined = formed defined_of (both (expect is_defined_word) typed)

  -- ["dynamic"] "abstract" "domain" ID
  -- ["dynamic"] ("controlled" | "monitored" | "shared" | "out") ID ":" domain ["->" domain]
  unfoldable pub changes : Parser Token Changing
  changes =
      choose (is (keyword (codes "abstract"))) (mapped Members abstract_part)
      (mapped Values (both (expect is_dynamic_word) typed))

  unfoldable pub changing : Parser Token DeclTree
  changing = formed changing_of
      (both (optional (is (keyword (codes "dynamic"))) (quoted (codes "dynamic"))) changes)

  -- decl
  unfoldable pub decl : Parser Token DeclTree
  decl =
      choose (is (keyword (codes "enum"))) enum (choose (is (keyword (codes "domain"))) subset
      (choose is_defined_word defined changing))

-- ---- definitions

module _ (n : ℕ) where
  -- "domain" ID "=" "{" int ((".." | ":") int | {"," int}) "}"
  unfoldable pub integers : Parser Token DefTree
  integers = formed integers_of (after_word (codes "domain") (both (expect (is id))
      (after_sign (codes "=") (bracketed (is_open n) (codes "{") (members int) (codes "}")))))

  -- [params]
  unfoldable pub parameters : Parser Token (Option ParamsTree)
  parameters = optional (is (symbol (codes "("))) (params n)

  -- "function" ID [params] "=" term
  abbrev pub equation_body : Parser Token (Option ParamsTree × TermTree)
  equation_body = both parameters (after_sign (codes "=") (term n))

  unfoldable pub equation : Parser Token (Token × (Option ParamsTree × TermTree))
  equation = after_word (codes "function") (both (expect (is id)) equation_body)

  unfoldable pub function : Parser Token DefTree
  function = formed (λ span p. defs.Function p.0 p.1.0 p.1.1 span) equation

  -- ["macro"] "rule" ID [params] "=" rule
  abbrev pub macro_body : Parser Token (Option ParamsTree × RuleTree)
  macro_body = both parameters (after_sign (codes "=") (rule n))

  unfoldable pub macro : Parser Token DefTree
  macro = formed (λ span p. defs.Rule p.0 p.1.0 p.1.1 span)
      (mapped second (both (optional (is (keyword (codes "macro"))) (quoted (codes "macro")))
      (after_word (codes "rule") (both (expect (is id)) macro_body))))

  -- "invariant" [ID] "over" ID {"," ID} ":" term
  abbrev pub invariant_body : Parser Token ((Token × List Token) × TermTree)
  invariant_body = after_word (codes "over")
      (both (listed (expect (is id))) (after_sign (codes ":") (term n)))

  unfoldable pub invariant : Parser Token DefTree
  invariant = formed invariant_of (after_word (codes "invariant")
      (both (optional (is id) (expect (is id))) invariant_body))

  -- def
  unfoldable pub def : Parser Token DefTree
  def =
      choose (is (keyword (codes "domain"))) integers
      (choose (is (keyword (codes "function"))) function (choose starts_macro macro invariant))

  -- init = "default" "init" ID ":" {"function" ID [params] "=" term}
  unfoldable pub start : Parser Token StartTree
  start = mapped start_of equation

  abbrev pub starts : Parser Token (List StartTree)
  starts = many (is (keyword (codes "function"))) start

  unfoldable pub init : Parser Token InitTree
  init = formed init_of (after_word (codes "default") (after_word (codes "init")
      (both (expect (is id)) (after_sign (codes ":") starts))))

-- ---- models

module _ (n : ℕ) where
  -- "main" "rule" ID "=" rule [init]
  abbrev pub init_part : Parser Token (Option InitTree)
  init_part = optional (is (keyword (codes "default"))) (init n)

  abbrev pub main_body : Parser Token (RuleTree × Option InitTree)
  main_body = both (rule n) init_part

  unfoldable pub main : Parser Token Main
  main = both (quoted (codes "main")) (after_word (codes "rule")
      (both (expect (is id)) (after_sign (codes "=") main_body)))

  -- "definitions" ":" {def} main
  unfoldable pub definitions : Parser Token (List DefTree × Main)
  definitions = after_word (codes "definitions")
      (after_sign (codes ":") (both (many starts_def (def n)) main))

  -- "signature" ":" {decl} definitions
  unfoldable pub signature : Parser Token (List DeclTree × (List DefTree × Main))
  signature = after_word (codes "signature")
      (after_sign (codes ":") (both (many starts_decl (decl n)) definitions))

  -- model
  abbrev pub after_title : Parser Token (List Import × (List DeclTree × (List DefTree × Main)))
  after_title = both imports signature

  unfoldable pub model : Parser Token (List Import × ModelTree)
  model = formed model_of (after_word (codes "asm") (both (expect (is id)) after_title))

-- ---- an import that isn't known

-- the parts of an import, and the tokens from them on
abbrev pub Found : Type 0
Found = Option (Import × List Token)

-- what is after the word `import`: where its parts are read and don't end in `StandardLibrary`,
-- they and the tokens from them on, else what `next` finds after them
abbrev pub foreign_parts : (List Token → Found) → List Token → Reply Token Import → Found
foreign_parts next ts (Took given rest) =
    if is_standard given then next rest else Some (given, ts)
foreign_parts next ts (Refused is_too_deep rest) = None

abbrev pub foreign_word : (List Token → Found) → Reply Token Token → Found
foreign_word next (Took word rest) = foreign_parts next rest (parts rest)
foreign_word next (Refused is_too_deep rest) = None

-- the first of at most so many imports that isn't of `StandardLibrary`, and the tokens from its
-- parts on
unfoldable pub foreign_among : ℕ → List Token → Found
foreign_among zero ts = None
foreign_among (suc n) ts = foreign_word (foreign_among n) (quoted (codes "import") ts)

abbrev pub title : Parser Token (Token × Token)
title = both (quoted (codes "asm")) (expect (is id))

abbrev pub foreign_after : Reply Token (Token × Token) → Found
foreign_after (Took words rest) = foreign_among (length rest) rest
foreign_after (Refused is_too_deep rest) = None

-- the first import of a model that isn't of `StandardLibrary`, and the tokens from its parts on
unfoldable pub first_foreign : List Token → Found
first_foreign ts = foreign_after (title ts)
