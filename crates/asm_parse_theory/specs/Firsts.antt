-- The marks with which the lines of the grammar begin.
use Rattle.std.specs.Prelude.{Bool, false, ◌||◌, List, [], ◌∷◌, ◌++◌, codes}
use Rattle.asm_syntax.specs.declared.token.Token.{Token}
use Rattle.asm_syntax.specs.Marks.{Mark, keyword, symbol, id, variable, number, chars, mark_of, same}

-- whether the mark is one of these
abbrev pub has : List Mark → Mark → Bool
has [] m = false
has (c ∷ []) m = same c m
has (c ∷ d ∷ cs) m = same c m || has (d ∷ cs) m

-- whether the token's mark is one of these
abbrev pub among : List Mark → Token → Bool
among cs t = has cs (mark_of t.kind)

-- ---- domains

abbrev pub first_domain : List Mark
first_domain =
    keyword (codes "Boolean") ∷ keyword (codes "Integer") ∷ keyword (codes "Natural") ∷ keyword (codes "String") ∷ id
    ∷ keyword (codes "Prod") ∷ keyword (codes "Seq") ∷ keyword (codes "Powerset") ∷ []

abbrev pub first_int : List Mark
first_int = number ∷ symbol (codes "-") ∷ []

-- ---- terms

abbrev pub first_plain : List Mark
first_plain = number ∷ chars ∷ keyword (codes "true") ∷ keyword (codes "false") ∷ keyword (codes "undef") ∷ variable ∷ []

abbrev pub first_prim : List Mark
first_prim =
    first_plain ++ id ∷ symbol (codes "(") ∷ symbol (codes "{") ∷ symbol (codes "[")
    ∷ keyword (codes "if") ∷ keyword (codes "let") ∷ keyword (codes "switch") ∷ []

abbrev pub first_sign : List Mark
first_sign = symbol (codes "-") ∷ first_prim

abbrev pub first_term : List Mark
first_term = keyword (codes "not") ∷ first_sign

abbrev pub first_quantifier : List Mark
first_quantifier = keyword (codes "forall") ∷ keyword (codes "exist") ∷ []

-- what may go on after a term: an operator, and arguments
abbrev pub after_term : List Mark
after_term =
    symbol (codes "*") ∷ keyword (codes "div") ∷ keyword (codes "mod") ∷ symbol (codes "+") ∷ symbol (codes "-")
    ∷ symbol (codes "=") ∷ symbol (codes "!=") ∷ symbol (codes "<") ∷ symbol (codes "<=") ∷ symbol (codes ">") ∷ symbol (codes ">=")
    ∷ keyword (codes "in") ∷ keyword (codes "notin") ∷ keyword (codes "and") ∷ keyword (codes "or") ∷ keyword (codes "xor")
    ∷ keyword (codes "implies") ∷ keyword (codes "iff") ∷ symbol (codes "(") ∷ []

-- ---- rules

abbrev pub first_rule : List Mark
first_rule =
    keyword (codes "skip") ∷ id ∷ keyword (codes "par") ∷ keyword (codes "seq") ∷ keyword (codes "if") ∷ keyword (codes "forall")
    ∷ keyword (codes "choose") ∷ keyword (codes "let") ∷ keyword (codes "switch") ∷ keyword (codes "extend") ∷ []

-- what may go on after a rule
abbrev pub after_rule : List Mark
after_rule = keyword (codes "ifnone") ∷ after_term

-- ---- models

abbrev pub first_decl : List Mark
first_decl =
    keyword (codes "enum") ∷ keyword (codes "domain") ∷ keyword (codes "static") ∷ keyword (codes "derived") ∷ keyword (codes "dynamic")
    ∷ keyword (codes "abstract") ∷ keyword (codes "controlled") ∷ keyword (codes "monitored") ∷ keyword (codes "shared") ∷ keyword (codes "out") ∷ []

abbrev pub first_macro : List Mark
first_macro = keyword (codes "macro") ∷ keyword (codes "rule") ∷ []

abbrev pub first_def : List Mark
first_def = keyword (codes "domain") ∷ keyword (codes "function") ∷ first_macro ++ keyword (codes "invariant") ∷ []

-- ---- tests of the next token

abbrev pub starts_plain : Token → Bool
starts_plain = among first_plain

abbrev pub starts_term : Token → Bool
starts_term = among first_term

abbrev pub starts_quantifier : Token → Bool
starts_quantifier = among first_quantifier

abbrev pub starts_rule : Token → Bool
starts_rule = among first_rule

abbrev pub starts_decl : Token → Bool
starts_decl = among first_decl

abbrev pub starts_macro : Token → Bool
starts_macro = among first_macro

abbrev pub starts_def : Token → Bool
starts_def = among first_def
