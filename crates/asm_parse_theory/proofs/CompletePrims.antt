-- What is spelled without operators is taken, and a partial spelling is never stopped inside.
use Rattle.std.proofs.Common.{◌≡◌, List, [], ◌∷◌, Bool, true, false, refl, codes}
use Rattle.std.specs.Prelude.{◌||◌}
use Rattle.asm_grammar.proofs.Exact.{Complete, weaken}
use Rattle.asm_grammar.proofs.Basic.{complete-word, nowhere}
use Rattle.asm_grammar.proofs.Pairs.{sound-then}
use Rattle.asm_grammar.proofs.Choices.{complete-either}
use Rattle.asm_grammar.proofs.Maybe.{sound-maybe, complete-maybe, maybe_apart, both_false}
use Rattle.asm_syntax.specs.declared.token.Token.{Token}
use Rattle.asm_syntax.specs.declared.tree.TermTree.TheVariants as terms
use Rattle.asm_syntax.specs.Marks.{Mark, is, id, variable, number, chars, keyword, symbol}
use Rattle.asm_syntax.specs.Extents.{with_extent}
use Rattle.asm_syntax.specs.Terms as g
use Rattle.asm_syntax.specs.Terms.{Forms, binds_of, set_of, exist_of}
use Rattle.asm_parse_theory.specs.Firsts.{among, first_plain, first_prim, first_term, first_quantifier, starts_term, after_term}
use Rattle.asm_parse_theory.specs.Forms.{goes_on}
use Rattle.asm_parse_theory.specs.Terms as r
use Rattle.asm_parse_theory.specs.Terms.{Readers}
use Rattle.asm_parse_theory.proofs.FormFacts.{sound_listed, complete_quoted, complete_formed, complete_listed, complete_opened, complete_enclosed, complete_bracketed, complete_in_parentheses}
use Rattle.asm_parse_theory.proofs.Sets.{apart, under}
use Rattle.asm_parse_theory.proofs.TermParts.{SoundParts, CompleteParts, after_sign}
use Rattle.asm_parse_theory.proofs.SoundPrims.{sound_arguments, sound_bind, sound_with, sound_unique, sound_within, sound_items, sound_branches, sound_in, sound_cases}
use Rattle.asm_parse_theory.proofs.CompleteHeld.{after_terms, after_cases, complete_further, complete_arguments, complete_bind, complete_with, complete_unique, complete_within, complete_items, complete_branches, complete_in, complete_cases}

-- the marks with which constructs begin
abbrev first_construct : List Mark
first_construct =
    symbol (codes "(") ∷ symbol (codes "{") ∷ symbol (codes "[") ∷ keyword (codes "if") ∷ keyword (codes "let") ∷ keyword (codes "switch") ∷ []

either_prim : (t : Token) → (among first_plain t || among (id ∷ first_construct) t) ≡ true → among first_prim t ≡ true
either_prim t h = go (among first_plain t) refl h
  where
    go : (x : Bool) → among first_plain t ≡ x → (x || among (id ∷ first_construct) t) ≡ true → among first_prim t ≡ true
    go true e i = under first_plain first_prim refl t e
    go false e i = under (id ∷ first_construct) first_prim refl t i

no_item : (t : Token) → is (symbol (codes "}")) t ≡ true → (goes_on t || among after_term t) ≡ false
no_item t h =
    both_false (goes_on t) (among after_term t)
    (both_false (among (symbol (codes "..") ∷ symbol (codes ":") ∷ []) t) (is (symbol (codes ",")) t)
    (apart (symbol (codes "}") ∷ []) (symbol (codes "..") ∷ symbol (codes ":") ∷ []) refl t h)
    (apart (symbol (codes "}") ∷ []) (symbol (codes ",") ∷ []) refl t h))
    (apart (symbol (codes "}") ∷ []) after_term refl t h)

-- `room` says whether the parser lets one more construct be open, and `may` whether the language does
module _ (X : Bool) {room may : Bool} (loose : may ≡ true → room ≡ false → X ≡ true) {inner inner' : Readers} {L N M : Forms}
    (s : room ≡ true → SoundParts inner N M) (c : room ≡ true → may ≡ true → CompleteParts X inner L)
    (d : may ≡ true → CompleteParts true inner' L) where
  pub complete_call : Complete X (r.call room inner) (g.call may L) (is (symbol (codes "("))) nowhere false
  unfolding r.call
  complete_call =
      complete_in_parentheses X loose (λ o. sound_arguments (s o)) (λ o o'. complete_arguments X (c o o')) (λ o'. complete_arguments true (d o'))
      (λ v. apart (symbol (codes ")") ∷ []) after_terms refl)

  pub complete_binds : Complete X (r.binds room inner) (g.binds may L) (is (symbol (codes "("))) nowhere false
  unfolding r.binds
  complete_binds =
      complete_formed binds_of (complete_in_parentheses X loose (λ o. sound_listed (sound_bind (s o) room))
      (λ o o'. complete_listed X (complete_bind X (c o o') room may) (apart (symbol (codes ",") ∷ []) after_term refl))
      (λ o'. complete_listed true (complete_bind true (d o') room may) (apart (symbol (codes ",") ∷ []) after_term refl))
      (λ v. apart (symbol (codes ")") ∷ []) after_terms refl))

  complete_plain : Complete X (r.plain room inner) (g.plain may L) (among first_plain) nowhere false
  unfolding r.plain
  complete_plain =
      complete-either X (complete_formed (λ span t. terms.Number t span) (complete-word (is number) X))
      (complete-either X (complete_formed (λ span t. terms.Chars t span) (complete-word (is chars) X))
      (complete-either X (complete_formed (λ span t. terms.True span) (complete_quoted X (codes "true")))
      (complete-either X (complete_formed (λ span t. terms.False span) (complete_quoted X (codes "false")))
      (complete-either X (complete_formed (λ span t. terms.Undef span) (complete_quoted X (codes "undef")))
      (complete_formed (λ span t. terms.Var t span) (complete-word (is variable) X))
      (apart (variable ∷ []) (keyword (codes "undef") ∷ []) refl))
      (apart (keyword (codes "undef") ∷ variable ∷ []) (keyword (codes "false") ∷ []) refl))
      (apart (keyword (codes "false") ∷ keyword (codes "undef") ∷ variable ∷ []) (keyword (codes "true") ∷ []) refl))
      (apart (keyword (codes "true") ∷ keyword (codes "false") ∷ keyword (codes "undef") ∷ variable ∷ []) (chars ∷ []) refl))
      (apart (chars ∷ keyword (codes "true") ∷ keyword (codes "false") ∷ keyword (codes "undef") ∷ variable ∷ []) (number ∷ []) refl)

  complete_name : Complete X (r.name room inner) (g.name may L) (is id) (λ v. among after_sign) false
  unfolding r.name
  complete_name =
      complete_formed (λ span p. terms.Name p.0 p.1 span)
      (complete_further X [] (symbol (codes "(") ∷ []) [] after_sign (complete-word (is id) X) complete_call refl refl refl refl)

  pub complete_quantified : Complete X (r.quantified room inner) (g.quantified may L) (among first_quantifier) (λ v. among after_term) false
  unfolding r.quantified r.forall r.exist
  complete_quantified =
      weaken (among first_quantifier) (λ v. among after_term) (λ t h. h) (λ v t h. both_false (among after_term t) (among after_term t) h h)
      (complete-either X
      (complete_formed (λ span p. terms.Forall p.0 p.1 span)
      (complete_opened X loose (λ o. sound_with (s o)) (λ o o'. complete_with X (c o o')) (λ o'. complete_with true (d o')) (codes "forall")))
      (complete_formed exist_of
      (complete_opened X loose (λ o. sound-then (sound_unique (s o)) (sound_with (s o)))
      (λ o o'. complete_unique X (c o o')) (λ o'. complete_unique true (d o')) (codes "exist")))
      (apart (keyword (codes "exist") ∷ []) (keyword (codes "forall") ∷ []) refl))

  complete_parenthesis : Complete X (r.parenthesis room inner) (g.parenthesis may L) (is (symbol (codes "("))) nowhere false
  unfolding r.parenthesis
  complete_parenthesis =
      complete_formed with_extent (complete_in_parentheses X loose (λ o. sound_within (s o)) (λ o o'. complete_within X (c o o'))
      (λ o'. complete_within true (d o')) (λ v. apart (symbol (codes ")") ∷ []) after_terms refl))

  complete_set : Complete X (r.set room inner) (g.set may L) (is (symbol (codes "{"))) nowhere false
  unfolding r.set
  complete_set =
      complete_formed set_of (complete_bracketed X loose (λ o. sound_items (s o)) (λ o o'. complete_items X (c o o')) (λ o'. complete_items true (d o'))
      (codes "{") (codes "}")
      (maybe_apart starts_term (λ v t. goes_on t || among after_term t) (is (symbol (codes "}")))
      (apart (symbol (codes "}") ∷ []) first_term refl) (λ v. no_item)))

  complete_sequence : Complete X (r.sequence room inner) (g.sequence may L) (is (symbol (codes "["))) nowhere false
  unfolding r.sequence
  complete_sequence =
      complete_formed (λ span items. terms.Seq items span) (complete_bracketed X loose (λ o. sound-maybe starts_term (sound_arguments (s o)))
      (λ o o'. complete-maybe X (complete_arguments X (c o o'))) (λ o'. complete-maybe true (complete_arguments true (d o')))
      (codes "[") (codes "]")
      (maybe_apart starts_term (λ v. among after_terms) (is (symbol (codes "]")))
      (apart (symbol (codes "]") ∷ []) first_term refl) (λ v. apart (symbol (codes "]") ∷ []) after_terms refl)))

  complete_if_term : Complete X (r.if_term room inner) (g.if_term may L) (is (keyword (codes "if"))) nowhere false
  unfolding r.if_term
  complete_if_term =
      complete_formed (λ span p. terms.If p.0 p.1.0 p.1.1 span) (complete_enclosed X loose (λ o. sound_branches (s o))
      (λ o o'. complete_branches X (c o o')) (λ o'. complete_branches true (d o')) (codes "if") (codes "endif")
      (λ v. apart (keyword (codes "endif") ∷ []) (keyword (codes "else") ∷ after_term) refl))

  complete_let_term : Complete X (r.let_term room inner) (g.let_term may L) (is (keyword (codes "let"))) nowhere false
  unfolding r.let_term
  complete_let_term =
      complete_formed (λ span p. terms.Let p.0 p.1 span) (complete_enclosed X loose (λ o. sound_in (s o))
      (λ o o'. complete_in X (c o o')) (λ o'. complete_in true (d o')) (codes "let") (codes "endlet")
      (λ v. apart (keyword (codes "endlet") ∷ []) after_term refl))

  complete_switch_term : Complete X (r.switch_term room inner) (g.switch_term may L) (is (keyword (codes "switch"))) nowhere false
  unfolding r.switch_term
  complete_switch_term =
      complete_formed (λ span p. terms.Switch p.0 p.1.0 p.1.1 span) (complete_enclosed X loose (λ o. sound_cases (s o) room)
      (λ o o'. complete_cases X (c o o') room may) (λ o'. complete_cases true (d o') room may) (codes "switch") (codes "endswitch")
      (λ v. apart (keyword (codes "endswitch") ∷ []) after_cases refl))

  pub complete_prim : Complete X (r.prim_form room inner) (g.prim_form may L) (among first_prim) (λ v. among after_sign) false
  unfolding r.prim_form
  complete_prim =
      weaken (among first_prim) (λ v. among after_sign) either_prim (λ v t h. both_false (among after_sign t) false h refl)
      (complete-either X complete_plain
      (complete-either X complete_name
      (complete-either X complete_parenthesis
      (complete-either X complete_set
      (complete-either X complete_sequence
      (complete-either X complete_if_term
      (complete-either X complete_let_term complete_switch_term
      (apart (keyword (codes "switch") ∷ []) (keyword (codes "let") ∷ []) refl))
      (apart (keyword (codes "let") ∷ keyword (codes "switch") ∷ []) (keyword (codes "if") ∷ []) refl))
      (apart (keyword (codes "if") ∷ keyword (codes "let") ∷ keyword (codes "switch") ∷ []) (symbol (codes "[") ∷ []) refl))
      (apart (symbol (codes "[") ∷ keyword (codes "if") ∷ keyword (codes "let") ∷ keyword (codes "switch") ∷ []) (symbol (codes "{") ∷ []) refl))
      (apart (symbol (codes "{") ∷ symbol (codes "[") ∷ keyword (codes "if") ∷ keyword (codes "let") ∷ keyword (codes "switch") ∷ []) (symbol (codes "(") ∷ []) refl))
      (apart first_construct (id ∷ []) refl))
      (apart (id ∷ first_construct) first_plain refl))
