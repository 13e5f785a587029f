-- The parser of models is exact for the grammar.
use Rattle.std.proofs.Common.{List, [], ◌∷◌, true, false, refl, codes}
use Rattle.asm_grammar.specs.Language.{word, ◌then◌, made, maybe}
use Rattle.asm_syntax.specs.declared.tree.DeclTree.TheVariants as decls
use Rattle.asm_syntax.specs.declared.tree.DefTree.TheVariants as defs
use Rattle.asm_syntax.specs.Marks.{Mark, is, id, keyword, symbol, text_of}
use Rattle.asm_syntax.specs.Forms.{second, many}
use Rattle.asm_syntax.specs.Models as g
use Rattle.asm_syntax.specs.Models.{Members, Values}
use Rattle.asm_parse_theory.specs.Firsts.{among, first_domain, first_int, first_term, after_term, first_rule, after_rule, first_decl, first_macro, first_def, starts_macro, starts_decl, starts_def}
use Rattle.asm_parse_theory.specs.Models as r
use Rattle.asm_parse_theory.specs.Models.{is_literal_sign, is_defined_word, is_dynamic_word}
use Rattle.asm_parse_theory.specs.Domains as d
use Rattle.asm_syntax.specs.Domains as gd
use Rattle.asm_parse_theory.specs.Terms as t
use Rattle.asm_syntax.specs.Terms as gt
use Rattle.asm_parse_theory.specs.Rules as u
use Rattle.asm_syntax.specs.Rules as gu
use Rattle.asm_parse_theory.proofs.Facts.{Line}
use Rattle.asm_parse_theory.proofs.MarkLists.{one_of_among}
use Rattle.asm_parse_theory.proofs.Pieces.{Piece, piece_line, line_piece, piece_first, piece_off, piece_word, piece_one_of, piece_then, piece_made, piece_formed, piece_after_word, piece_after_sign}
use Rattle.asm_parse_theory.proofs.PieceForms.{piece_either, piece_maybe, piece_many, piece_listed, piece_bracketed, piece_members}
use Rattle.asm_parse_theory.proofs.Domains.{domain_line}
use Rattle.asm_parse_theory.proofs.DomainsRanges.{params_line, int_line}
use Rattle.asm_parse_theory.proofs.TermFacts.{term_line}
use Rattle.asm_parse_theory.proofs.RuleFacts.{rule_line}

abbrev marks_part : List Mark
marks_part = symbol (codes ".") ∷ symbol (codes "..") ∷ id ∷ []

abbrev marks_literal : List Mark
marks_literal = symbol (codes "|") ∷ symbol (codes ",") ∷ []

abbrev marks_defined : List Mark
marks_defined = keyword (codes "static") ∷ keyword (codes "derived") ∷ []

abbrev marks_dynamic : List Mark
marks_dynamic = keyword (codes "controlled") ∷ keyword (codes "monitored") ∷ keyword (codes "shared") ∷ keyword (codes "out") ∷ []

abbrev marks_base : List Mark
marks_base = keyword (codes "Integer") ∷ keyword (codes "Natural") ∷ []

abbrev arrow : List Mark
arrow = symbol (codes "->") ∷ []

-- ---- parts of other lines

piece_domain : Piece d.domain (λ f n. gd.domain n) first_domain [] false
piece_domain = piece_line first_domain [] domain_line

piece_params : Piece d.params (λ f n. gd.params n) (symbol (codes "(") ∷ []) [] false
piece_params = piece_line (symbol (codes "(") ∷ []) [] params_line

piece_int : Piece (λ n. d.int) (λ f n. gd.int) first_int [] false
piece_int = piece_line first_int [] int_line

piece_term : Piece t.term (λ f n. gt.term_within f n) first_term after_term false
piece_term = piece_line first_term after_term term_line

piece_rule : Piece u.rule (λ f n. gu.rule_within f n) first_rule after_rule false
piece_rule = piece_line first_rule after_rule rule_line

-- ---- imports

piece_imported : Piece (λ n. r.imported) (λ f n. g.imported) (keyword (codes "import") ∷ []) (symbol (codes "/") ∷ []) false
unfolding r.imported r.parts
piece_imported =
    piece_after_word (codes "import") (piece_off (piece_then (piece_one_of marks_part)
    (piece_many (is (symbol (codes "/"))) (λ t. refl) (piece_after_sign (codes "/") (piece_one_of marks_part)) refl) refl)
    (symbol (codes "/") ∷ []) refl)

-- ---- declarations

piece_literals : Piece r.literals (λ f n. word (is id) then many (made second (word is_literal_sign then word (is id)))) (id ∷ []) marks_literal false
unfolding r.literals
piece_literals =
    piece_then (piece_word id) (piece_many is_literal_sign (one_of_among marks_literal)
    (piece_made second (piece_then (piece_one_of marks_literal) (piece_word id) refl)) refl) refl

piece_enum : Piece r.enum (λ f n. g.enum n) (keyword (codes "enum") ∷ []) [] false
unfolding r.enum
piece_enum =
    piece_formed g.enum_of (piece_after_word (codes "enum") (piece_after_word (codes "domain") (piece_then (piece_word id)
    (piece_after_sign (codes "=") (piece_bracketed piece_literals (codes "{") (codes "}") refl)) refl)))

piece_subset : Piece r.subset (λ f n. g.subset n) (keyword (codes "domain") ∷ []) [] false
unfolding r.subset
piece_subset =
    piece_formed (λ span p. decls.Subset p.0 (text_of p.1) span) (piece_after_word (codes "domain") (piece_then (piece_word id)
    (piece_after_word (codes "subsetof") (piece_one_of marks_base)) refl))

piece_typed : Piece r.typed (λ f n. g.typed n) (id ∷ []) arrow false
unfolding r.typed
piece_typed =
    piece_then (piece_word id) (piece_after_sign (codes ":") (piece_then piece_domain
    (piece_maybe (is (symbol (codes "->"))) (λ t. refl) (piece_after_sign (codes "->") piece_domain)) refl)) refl

piece_defined : Piece r.defined (λ f n. g.defined n) marks_defined arrow false
unfolding r.defined
piece_defined = piece_formed g.defined_of (piece_then (piece_one_of marks_defined) piece_typed refl)

piece_changing : Piece r.changing (λ f n. g.changing n) (keyword (codes "dynamic") ∷ keyword (codes "abstract") ∷ marks_dynamic) arrow false
unfolding r.changing r.changes
piece_changing =
    piece_first (piece_formed g.changing_of (piece_then (piece_maybe (is (keyword (codes "dynamic"))) (λ t. refl) (piece_word (keyword (codes "dynamic"))))
    (piece_either (is (keyword (codes "abstract"))) (λ t. refl)
    (piece_made Members (piece_after_word (codes "abstract") (piece_after_word (codes "domain") (piece_word id))))
    (piece_made Values (piece_then (piece_one_of marks_dynamic) piece_typed refl)) refl) refl))
    (keyword (codes "dynamic") ∷ keyword (codes "abstract") ∷ marks_dynamic) refl refl

piece_decl : Piece r.decl (λ f n. g.decl n) first_decl arrow false
unfolding r.decl
piece_decl =
    piece_off (piece_either (is (keyword (codes "enum"))) (λ t. refl) piece_enum
    (piece_either (is (keyword (codes "domain"))) (λ t. refl) piece_subset
    (piece_either is_defined_word (one_of_among marks_defined) piece_defined piece_changing refl) refl) refl) arrow refl

-- ---- definitions

piece_integers : Piece r.integers g.integers (keyword (codes "domain") ∷ []) [] false
unfolding r.integers
piece_integers =
    piece_formed g.integers_of (piece_after_word (codes "domain") (piece_then (piece_word id)
    (piece_after_sign (codes "=") (piece_bracketed (piece_members piece_int) (codes "{") (codes "}") refl)) refl))

piece_parameters : Piece r.parameters (λ f n. maybe (gd.params n)) (symbol (codes "(") ∷ []) (symbol (codes "(") ∷ []) true
unfolding r.parameters
piece_parameters = piece_maybe (is (symbol (codes "("))) (λ t. refl) piece_params

piece_equation : Piece r.equation g.equation (keyword (codes "function") ∷ []) after_term false
unfolding r.equation
piece_equation =
    piece_after_word (codes "function") (piece_then (piece_word id) (piece_then piece_parameters (piece_after_sign (codes "=") piece_term) refl) refl)

piece_function : Piece r.function g.function (keyword (codes "function") ∷ []) after_term false
unfolding r.function
piece_function = piece_formed (λ span p. defs.Function p.0 p.1.0 p.1.1 span) piece_equation

piece_macro : Piece r.macro g.macro first_macro after_rule false
unfolding r.macro
piece_macro =
    piece_first (piece_formed (λ span p. defs.Rule p.0 p.1.0 p.1.1 span) (piece_made second
    (piece_then (piece_maybe (is (keyword (codes "macro"))) (λ t. refl) (piece_word (keyword (codes "macro"))))
    (piece_after_word (codes "rule") (piece_then (piece_word id) (piece_then piece_parameters (piece_after_sign (codes "=") piece_rule) refl) refl)) refl)))
    first_macro refl refl

piece_invariant : Piece r.invariant g.invariant (keyword (codes "invariant") ∷ []) after_term false
unfolding r.invariant
piece_invariant =
    piece_formed g.invariant_of (piece_after_word (codes "invariant") (piece_then (piece_maybe (is id) (λ t. refl) (piece_word id))
    (piece_after_word (codes "over") (piece_then (piece_listed (piece_word id) refl) (piece_after_sign (codes ":") piece_term) refl)) refl))

piece_def : Piece r.def g.def first_def after_rule false
unfolding r.def
piece_def =
    piece_off (piece_either (is (keyword (codes "domain"))) (λ t. refl) piece_integers
    (piece_either (is (keyword (codes "function"))) (λ t. refl) piece_function
    (piece_either starts_macro (λ t. refl) piece_macro piece_invariant refl) refl) refl) after_rule refl

-- ---- the initial state

abbrev after_init : List Mark
after_init = keyword (codes "function") ∷ after_term

piece_init : Piece r.init g.init (keyword (codes "default") ∷ []) after_init false
unfolding r.init r.start
piece_init =
    piece_formed g.init_of (piece_after_word (codes "default") (piece_after_word (codes "init") (piece_then (piece_word id)
    (piece_after_sign (codes ":") (piece_many (is (keyword (codes "function"))) (λ t. refl) (piece_made g.start_of piece_equation) refl)) refl)))

-- ---- models

-- what may go on after a model
abbrev pub after_model : List Mark
after_model = keyword (codes "default") ∷ keyword (codes "function") ∷ after_rule

piece_main : Piece r.main g.main (keyword (codes "main") ∷ []) after_model false
unfolding r.main
piece_main =
    piece_off (piece_then (piece_word (keyword (codes "main"))) (piece_after_word (codes "rule") (piece_then (piece_word id)
    (piece_after_sign (codes "=") (piece_then piece_rule (piece_maybe (is (keyword (codes "default"))) (λ t. refl) piece_init) refl)) refl)) refl)
    after_model refl

piece_definitions : Piece r.definitions g.definitions (keyword (codes "definitions") ∷ []) after_model false
unfolding r.definitions
piece_definitions =
    piece_after_word (codes "definitions") (piece_after_sign (codes ":") (piece_then (piece_many starts_def (λ t. refl) piece_def refl) piece_main refl))

piece_model : Piece r.model g.model_within (keyword (codes "asm") ∷ []) after_model false
unfolding r.model r.signature
piece_model =
    piece_formed g.model_of (piece_after_word (codes "asm") (piece_then (piece_word id) (piece_then
    (piece_many (is (keyword (codes "import"))) (λ t. refl) piece_imported refl)
    (piece_after_word (codes "signature") (piece_after_sign (codes ":") (piece_then (piece_many starts_decl (λ t. refl) piece_decl refl) piece_definitions refl)))
    refl) refl))

pub model_line : Line r.model (λ f n. g.model_within f n) (is (keyword (codes "asm"))) (λ v. among after_model)
model_line = line_piece piece_model
