-- Definitions, the initial state and whole models are spelled again by their words.
use Rattle.std.proofs.Common.{◌≡◌, ℕ, List, [], ◌∷◌, ◌++◌, map, inr, sym, refl, ap, ◌∙◌, append_assoc, append-nil}
use Rattle.std.specs.Prelude.{codes, Option, Some, None}
use Rattle.std.specs.Option.{option_map}
use Rattle.asm_syntax.specs.declared.token.Span.{Span}
use Rattle.asm_syntax.specs.declared.token.Token.{Token}
use Rattle.asm_syntax.specs.declared.tree.ParamsTree.{ParamsTree}
use Rattle.asm_syntax.specs.declared.tree.IntTree.{IntTree}
use Rattle.asm_syntax.specs.declared.tree.TermTree.{TermTree}
use Rattle.asm_syntax.specs.declared.tree.RuleTree.{RuleTree}
use Rattle.asm_syntax.specs.declared.tree.DeclTree.{DeclTree}
use Rattle.asm_syntax.specs.declared.tree.DefTree.{DefTree}
use Rattle.asm_syntax.specs.declared.tree.DefTree.TheVariants as defs
use Rattle.asm_syntax.specs.declared.tree.StartTree.{StartTree}
use Rattle.asm_syntax.specs.declared.tree.InitTree.{InitTree}
use Rattle.asm_syntax.specs.declared.tree.ModelTree.{ModelTree}
use Rattle.asm_syntax.specs.Forms.{is_open, second, many, Rest, To, And}
use Rattle.asm_syntax.specs.Heights.{fits}
use Rattle.asm_syntax.specs.Models.{Import, imported, integers_of, invariant_of, start_of, init_of, Main, model_of, integers, equation, function, macro, invariant, def, init, main, model_within}
use Rattle.asm_syntax.specs.Written.{Words, word_of, after_each, written_all, if_there, comma, own, single, int_words, term_words}
use Rattle.asm_syntax.specs.Canonical.{rule_words, decl_words, equation_words, def_words, start_words, Lines, init_lines, model_lines}
use Rattle.asm_print_theory.specs.Bare.{bare_token, bare_int, bare_params, bare_decl, bare_def, bare_start, bare_init, bare_model, here}
use Rattle.asm_print_theory.proofs.Propers.{none_left}
use Rattle.asm_print_theory.proofs.Back.{Backs, alike, whatever, both, in_option, in_list, back-then, back-either, back-made, back-formed, back-maybe}
use Rattle.asm_print_theory.proofs.Rows.{members_words, in_rest, back-quoted, back-after_word, back-after_sign, back-bracketed, back-many, back-listed, back-members}
use Rattle.asm_print_theory.proofs.Domains.{within_same, all_own, map_same, option_same, same_token, same_tokens, same_params, same_int, back-params, back-int}
use Rattle.asm_print_theory.proofs.Same.{same_term}
use Rattle.asm_print_theory.proofs.Terms.{back-term}
use Rattle.asm_print_theory.proofs.RulePhrases.{same_rule}
use Rattle.asm_print_theory.proofs.Rules.{back-rule}
use Rattle.asm_print_theory.proofs.Decls.{back-dropped, back-name, same_decl, back-decl}

-- ---- definitions

abbrev pub same_def : DefTree → DefTree → Type 0
same_def d e = bare_def d ≡ bare_def e

same_name : (t u : Option Token) → in_option alike t u → option_map bare_token t ≡ option_map bare_token u
same_name None None h = refl
same_name None (Some u) h = absurd h
same_name (Some t) None h = absurd h
same_name (Some t) (Some u) h = ap Some (same_token t u h)

same_integers : (s s' : Span) (u v : Token × (IntTree × Option (Rest IntTree))) → both alike (both same_int (in_option (in_rest same_int))) u v
    → same_def (integers_of s' u) (integers_of s v)
same_integers s s' (t, (x, None)) (t', (x', None)) h = λ i. defs.Integers (same_token t t' h.0 i) (h.1.0 i) [] here
same_integers s s' (t, (x, None)) (t', (x', Some r')) h = absurd h.1.1
same_integers s s' (t, (x, Some r)) (t', (x', None)) h = absurd h.1.1
same_integers s s' (t, (x, Some (To y))) (t', (x', Some (To y'))) h = λ i. defs.Interval (same_token t t' h.0 i) (h.1.0 i) (h.1.1 i) here
same_integers s s' (t, (x, Some (To y))) (t', (x', Some (And ys'))) h = absurd h.1.1
same_integers s s' (t, (x, Some (And ys))) (t', (x', Some (To y'))) h = absurd h.1.1
same_integers s s' (t, (x, Some (And ys))) (t', (x', Some (And ys'))) h =
    λ i. defs.Integers (same_token t t' h.0 i) (h.1.0 i) (map_same bare_int ys ys' h.1.1 i) here

words_integers : (s : Span) (v : Token × (IntTree × Option (Rest IntTree)))
    → def_words (integers_of s v) ≡ codes "domain" ∷ word_of v.0 ∷ codes "=" ∷ codes "{" ∷ members_words int_words v.1 ++ codes "}" ∷ []
words_integers s (t, (x, None)) = ap (λ ws. codes "domain" ∷ word_of t ∷ codes "=" ∷ codes "{" ∷ ws ++ codes "}" ∷ []) (append-nil (int_words x))
words_integers s (t, (x, Some (To y))) = refl
words_integers s (t, (x, Some (And ys))) = refl

-- a name, its parameters and its meaning
abbrev same_equation : Token × (Option ParamsTree × TermTree) → Token × (Option ParamsTree × TermTree) → Type 0
same_equation = both alike (both (in_option same_params) same_term)

same_function : (s s' : Span) (u v : Token × (Option ParamsTree × TermTree)) → same_equation u v
    → same_def (defs.Function u.0 u.1.0 u.1.1 s') (defs.Function v.0 v.1.0 v.1.1 s)
same_function s s' (t, (p, x)) (t', (p', x')) h = λ i. defs.Function (same_token t t' h.0 i) (option_same bare_params p p' h.1.0 i) (h.1.1.0 i) here

same_macro : (s s' : Span) (u v : Token × (Option ParamsTree × RuleTree)) → both alike (both (in_option same_params) same_rule) u v
    → same_def (defs.Rule u.0 u.1.0 u.1.1 s') (defs.Rule v.0 v.1.0 v.1.1 s)
same_macro s s' (t, (p, x)) (t', (p', x')) h = λ i. defs.Rule (same_token t t' h.0 i) (option_same bare_params p p' h.1.0 i) (h.1.1.0 i) here

same_invariant : (s s' : Span) (u v : Option Token × ((Token × List Token) × TermTree)) → both (in_option alike) (both (both alike (in_list alike)) same_term) u v
    → same_def (invariant_of s' u) (invariant_of s v)
same_invariant s s' (n, ((x, xs), t)) (n', ((x', xs'), t')) h =
    λ i. defs.Invariant (same_name n n' h.0 i) (same_token x x' h.1.0.0 i) (same_tokens xs xs' h.1.0.1 i) (h.1.1.0 i) here

words_invariant : (s : Span) (v : Option Token × ((Token × List Token) × TermTree))
    → def_words (invariant_of s v)
    ≡ codes "invariant" ∷ (if_there [] single v.0 ++ codes "over" ∷ ((word_of v.1.0.0 ∷ after_each comma single v.1.0.1) ++ codes ":" ∷ term_words v.1.1))
words_invariant s (n, ((x, xs), t)) =
    ap (λ ws. codes "invariant" ∷ ws) (append_assoc (if_there [] single n) (codes "over" ∷ word_of x ∷ after_each comma single xs) (codes ":" ∷ term_words t))

abbrev same_start : StartTree → StartTree → Type 0
same_start x y = bare_start x ≡ bare_start y

same_start_of : (u v : Token × (Option ParamsTree × TermTree)) → same_equation u v → same_start (start_of u) (start_of v)
same_start_of (t, (p, x)) (t', (p', x')) h =
    λ i. record { function = same_token t t' h.0 i; params = option_same bare_params p p' h.1.0 i; term = h.1.1.0 i }

abbrev same_init : InitTree → InitTree → Type 0
same_init x y = bare_init x ≡ bare_init y

abbrev init_words : InitTree → Words
init_words x = codes "default" ∷ codes "init" ∷ word_of x.name ∷ codes ":" ∷ written_all start_words x.starts

-- ---- models

abbrev main_words : Main → Words
main_words m = codes "main" ∷ codes "rule" ∷ word_of m.1.0 ∷ codes "=" ∷ (rule_words m.1.1.0 ++ if_there [] init_words m.1.1.1)

abbrev same_main : Main → Main → Type 0
same_main = both whatever (both alike (both same_rule (in_option same_init)))

abbrev pub model_words : ModelTree → Words
model_words m =
    codes "asm" ∷ word_of m.name ∷ codes "signature" ∷ codes ":" ∷ (written_all decl_words m.decls
    ++ codes "definitions" ∷ codes ":" ∷ (written_all def_words m.defs
    ++ codes "main" ∷ codes "rule" ∷ word_of m.rule_name ∷ codes "=" ∷ (rule_words m.rule ++ if_there [] init_words m.init)))

abbrev pub same_model : List Import × ModelTree → List Import × ModelTree → Type 0
same_model u v = (u.0 ≡ []) × (bare_model u.1 ≡ bare_model v.1)

abbrev All : Type 0
All = Token × (List Import × (List DeclTree × (List DefTree × Main)))

abbrev same_all : All → All → Type 0
same_all = both alike (both (λ u v. u ≡ []) (both (in_list same_decl) (both (in_list same_def) same_main)))

same_model_of : (s s' : Span) (u v : All) → same_all u v → same_model (model_of s' u) (model_of s v)
same_model_of s s' (t, (is, (ds, (fs, (w, (x, (r, o))))))) (t', (is', (ds', (fs', (w', (x', (r', o'))))))) h = (
  h.1.0,
  λ i. record {
    name = same_token t t' h.0 i;
    decls = map_same bare_decl ds ds' h.1.1.0 i;
    defs = map_same bare_def fs fs' h.1.1.1.0 i;
    main = here;
    rule_name = same_token x x' h.1.1.1.1.1.0 i;
    rule = h.1.1.1.1.1.1.0.0 i;
    init = option_same bare_init o o' h.1.1.1.1.1.1.1 i;
    span = here;
  },
)

words_model_of : (s : Span) (v : All)
    → model_words (model_of s v).1
    ≡ codes "asm" ∷ word_of v.0 ∷ codes "signature" ∷ codes ":" ∷ (written_all decl_words v.1.1.0
    ++ codes "definitions" ∷ codes ":" ∷ (written_all def_words v.1.1.1.0 ++ main_words v.1.1.1.1))
words_model_of s (t, (is, (ds, (fs, (w, (x, (r, o))))))) = refl

-- ---- the lines of the grammar

module _ (n : ℕ) where
  back-integers : Backs (integers fits n) (integers fits n) same_def def_words
  back-integers = back-formed integers_of same_integers (λ s v ts h. words_integers s v)
      (back-after_word (codes "domain") refl (back-then back-name (back-after_sign (codes "=") refl
      (back-bracketed (codes "{") (is_open n) (is_open n) (λ o. o) (codes "}") refl refl (λ o. back-members back-int)))))

  back-equation : Backs (equation fits n) (equation fits n) same_equation (λ v. codes "function" ∷ equation_words v.0 v.1.0 (term_words v.1.1))
  back-equation = back-after_word (codes "function") refl
      (back-then back-name (back-then (back-maybe (back-params n n (within_same n))) (back-after_sign (codes "=") refl (back-term n))))

  back-function : Backs (function fits n) (function fits n) same_def def_words
  back-function = back-formed (λ span p. defs.Function p.0 p.1.0 p.1.1 span) same_function (λ s v ts h. refl) back-equation

  back-macro : Backs (macro fits n) (macro fits n) same_def def_words
  back-macro = back-formed (λ span p. defs.Rule p.0 p.1.0 p.1.1 span) same_macro (λ s v ts h. refl)
      (back-made second (λ u v h. h.1) (λ v ts s. refl) (back-then (back-dropped _) (back-after_word (codes "rule") refl
      (back-then back-name (back-then (back-maybe (back-params n n (within_same n))) (back-after_sign (codes "=") refl (back-rule n)))))))

  back-invariant : Backs (invariant fits n) (invariant fits n) same_def def_words
  back-invariant = back-formed invariant_of same_invariant (λ s v ts h. words_invariant s v)
      (back-after_word (codes "invariant") refl (back-then (back-maybe back-name) (back-after_word (codes "over") refl
      (back-then (back-listed back-name) (back-after_sign (codes ":") refl (back-term n))))))

  back-def : Backs (def fits n) (def fits n) same_def def_words
  back-def = back-either back-integers (back-either back-function (back-either back-macro back-invariant))

  back-init : Backs (init fits n) (init fits n) same_init init_words
  back-init = back-formed init_of (λ s s' u v h i. record { name = same_token u.0 v.0 h.0 i; starts = map_same bare_start u.1 v.1 h.1 i; span = here })
      (λ s v ts h. refl)
      (back-after_word (codes "default") refl (back-after_word (codes "init") refl (back-then back-name (back-after_sign (codes ":") refl
      (back-many {words = start_words} (back-made start_of same_start_of (λ v ts s. refl) back-equation))))))

  back-main : Backs (main fits n) (main fits n) same_main main_words
  back-main = back-then (back-quoted (codes "main") refl) (back-after_word (codes "rule") refl
      (back-then back-name (back-after_sign (codes "=") refl (back-then (back-rule n) (back-maybe back-init)))))

  -- imports, of which none is written
  back-imports : Backs (many imported) (many imported) (λ u v. u ≡ []) (λ v. [])
  back-imports = record {
    at = λ v ts s l. record {
      kinds = [];
      proper = tt;
      written = refl;
      reads = λ us e. ([], refl, (None, refl, inr (refl, none_left us e)));
    };
  }

  pub back-model : Backs (model_within fits n) (model_within fits n) same_model (λ v. model_words v.1)
  back-model = back-formed model_of same_model_of (λ s v ts h. words_model_of s v)
      (back-after_word (codes "asm") refl (back-then back-name (back-then back-imports (back-after_word (codes "signature") refl
      (back-after_sign (codes ":") refl (back-then (back-many (back-decl n)) (back-after_word (codes "definitions") refl
      (back-after_sign (codes ":") refl (back-then (back-many back-def) back-main)))))))))

-- ---- the lines of a model

all_both : (ls ms : Lines) → written_all own (ls ++ ms) ≡ written_all own ls ++ written_all own ms
all_both [] ms = refl
all_both (l ∷ ls) ms = ap (λ ws. l ++ ws) (all_both ls ms) ∙ sym (append_assoc l (written_all own ls) (written_all own ms))

all_init : (o : Option InitTree) → written_all own (init_lines o) ≡ if_there [] init_words o
all_init None = refl
all_init (Some x) = ap (λ ws. codes "default" ∷ codes "init" ∷ word_of x.name ∷ codes ":" ∷ ws) (all_own start_words x.starts)

pub lines_words : (m : ModelTree) → written_all own (model_lines m) ≡ model_words m
lines_words m =
    let a : Lines = (codes "asm" ∷ single m.name) ∷ (codes "signature" ∷ codes ":" ∷ []) ∷ map decl_words m.decls in
    let b : Lines = (codes "definitions" ∷ codes ":" ∷ []) ∷ map def_words m.defs in
    let c : Lines = (codes "main" ∷ codes "rule" ∷ word_of m.rule_name ∷ codes "=" ∷ rule_words m.rule) ∷ init_lines m.init in
    all_both (a ++ b) c ∙ ap (λ ws. ws ++ written_all own c) (all_both a b)
    ∙ append_assoc (written_all own a) (written_all own b) (written_all own c)
    ∙ (λ i. codes "asm" ∷ word_of m.name ∷ codes "signature" ∷ codes ":" ∷ (all_own decl_words m.decls i
    ++ codes "definitions" ∷ codes ":" ∷ (all_own def_words m.defs i
    ++ codes "main" ∷ codes "rule" ∷ word_of m.rule_name ∷ codes "=" ∷ (rule_words m.rule ++ all_init m.init i))))
