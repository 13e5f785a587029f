-- What the parsers of terms without operators take is spelled, and what they took before a refusal is a partial spelling.
use Rattle.std.proofs.Common.{◌≡◌, Bool, true, inl, inr, refl, codes}
use Rattle.asm_grammar.specs.Language.{◌then◌, ◌either◌, maybe}
use Rattle.asm_grammar.specs.Parser.{both, choose, optional}
use Rattle.asm_grammar.proofs.Exact.{Sound}
use Rattle.asm_grammar.proofs.Basic.{sound-word, sound-made}
use Rattle.asm_grammar.proofs.Pairs.{sound-then}
use Rattle.asm_grammar.proofs.Choices.{sound-either}
use Rattle.asm_grammar.proofs.Maybe.{sound-maybe}
use Rattle.asm_syntax.specs.declared.tree.TermTree.TheVariants as terms
use Rattle.asm_syntax.specs.Marks.{is, id, variable, number, chars, keyword, symbol}
use Rattle.asm_syntax.specs.Forms as gf
use Rattle.asm_syntax.specs.Extents.{with_extent}
use Rattle.asm_syntax.specs.Terms as g
use Rattle.asm_syntax.specs.Terms.{Forms, terms_of, bind_of, binds_of, case_of, tuple_of, set_of, exist_of}
use Rattle.asm_parse_theory.specs.Firsts.{starts_plain, starts_term, starts_quantifier}
use Rattle.asm_parse_theory.specs.Forms as rf
use Rattle.asm_parse_theory.specs.Terms as r
use Rattle.asm_parse_theory.specs.Terms.{Readers}
use Rattle.asm_parse_theory.proofs.FormFacts.{sound_quoted, sound_after_word, sound_after_sign, sound_many, sound_formed, sound_listed, sound_members, sound_opened, sound_enclosed, sound_bracketed, sound_in_parentheses}
use Rattle.asm_parse_theory.proofs.TermParts.{SoundParts, EmptyParts}

-- ---- what stands in constructs

module _ {inner : Readers} {L M : Forms} (s : SoundParts inner L M) where
  pub sound_arguments : Sound (r.arguments inner) (g.arguments L) (g.arguments M)
  sound_arguments = sound-made terms_of (sound_listed (s.line g.term))

  pub sound_bind : (room : Bool) → Sound (r.bind room inner) (g.bind room L) (g.bind true M)
  unfolding r.bind
  sound_bind room = sound-made bind_of (sound-then (sound-word (is variable)) (sound_after_sign (s.line g.term) (codes "=")))

  pub sound_with : Sound (both inner.ranges (rf.after_word (codes "with") (inner.line g.term)))
      (L.ranges then gf.after_word (codes "with") (L.line g.term)) (M.ranges then gf.after_word (codes "with") (M.line g.term))
  sound_with = sound-then s.ranges (sound_after_word (s.line g.term) (codes "with"))

  pub sound_unique : Sound (optional (is (keyword (codes "unique"))) (rf.quoted (codes "unique")))
      (maybe (gf.quoted (codes "unique"))) (maybe (gf.quoted (codes "unique")))
  sound_unique = sound-maybe (is (keyword (codes "unique"))) (sound_quoted (codes "unique"))

  pub sound_within : Sound (choose starts_quantifier (inner.line g.quantifier) (rf.formed tuple_of (rf.listed (inner.line g.term))))
      (L.line g.quantifier either gf.formed tuple_of (gf.listed (L.line g.term)))
      (M.line g.quantifier either gf.formed tuple_of (gf.listed (M.line g.term)))
  sound_within = sound-either starts_quantifier (s.line g.quantifier) (sound_formed (sound_listed (s.line g.term)) tuple_of)

  pub sound_items : Sound (optional starts_term (rf.members (inner.line g.term))) (maybe (gf.members (L.line g.term))) (maybe (gf.members (M.line g.term)))
  sound_items = sound-maybe starts_term (sound_members (s.line g.term))

  -- `then` and the rest of a conditional
  pub sound_branches : Sound
      (both (inner.line g.term) (both (rf.after_word (codes "then") (inner.line g.term))
      (optional (is (keyword (codes "else"))) (rf.after_word (codes "else") (inner.line g.term)))))
      (L.line g.term then (gf.after_word (codes "then") (L.line g.term) then maybe (gf.after_word (codes "else") (L.line g.term))))
      (M.line g.term then (gf.after_word (codes "then") (M.line g.term) then maybe (gf.after_word (codes "else") (M.line g.term))))
  sound_branches =
      sound-then (s.line g.term) (sound-then (sound_after_word (s.line g.term) (codes "then"))
      (sound-maybe (is (keyword (codes "else"))) (sound_after_word (s.line g.term) (codes "else"))))

  pub sound_in : Sound (both inner.binds (rf.after_word (codes "in") (inner.line g.term)))
      (L.binds then gf.after_word (codes "in") (L.line g.term)) (M.binds then gf.after_word (codes "in") (M.line g.term))
  sound_in = sound-then s.binds (sound_after_word (s.line g.term) (codes "in"))

  sound_case : (room : Bool) → Sound (r.case room inner) (g.case room L) (g.case true M)
  unfolding r.case
  sound_case room =
      sound-made case_of (sound_after_word (sound-then (s.line g.term) (sound_after_sign (s.line g.term) (codes ":"))) (codes "case"))

  pub sound_cases : (room : Bool) → Sound
      (both (inner.line g.term) (both (rf.many (is (keyword (codes "case"))) (r.case room inner))
      (optional (is (keyword (codes "otherwise"))) (rf.after_word (codes "otherwise") (inner.line g.term)))))
      (L.line g.term then (gf.many (g.case room L) then maybe (gf.after_word (codes "otherwise") (L.line g.term))))
      (M.line g.term then (gf.many (g.case true M) then maybe (gf.after_word (codes "otherwise") (M.line g.term))))
  sound_cases room =
      sound-then (s.line g.term) (sound-then (sound_many (sound_case room) (is (keyword (codes "case"))) (λ t h. inl (inr (t, h, refl))))
      (sound-maybe (is (keyword (codes "otherwise"))) (sound_after_word (s.line g.term) (codes "otherwise"))))

-- ---- the constructs; M has room for one more than L

module _ {room : Bool} {inner : Readers} {L M : Forms} (s : room ≡ true → SoundParts inner L M) (empty : EmptyParts M) where
  pub sound_call : Sound (r.call room inner) (g.call room L) (g.call true M)
  unfolding r.call
  sound_call = sound_in_parentheses room (λ o. sound_arguments (s o)) (inl (empty.line g.term))

  pub sound_binds : Sound (r.binds room inner) (g.binds room L) (g.binds true M)
  unfolding r.binds
  sound_binds = sound_formed (sound_in_parentheses room (λ o. sound_listed (sound_bind (s o) room)) (inl (inl (inl refl)))) binds_of

  sound_plain : Sound (r.plain room inner) (g.plain room L) (g.plain true M)
  unfolding r.plain
  sound_plain =
      sound-either (is number) (sound_formed (sound-word (is number)) (λ span t. terms.Number t span))
      (sound-either (is chars) (sound_formed (sound-word (is chars)) (λ span t. terms.Chars t span))
      (sound-either (is (keyword (codes "true"))) (sound_formed (sound_quoted (codes "true")) (λ span t. terms.True span))
      (sound-either (is (keyword (codes "false"))) (sound_formed (sound_quoted (codes "false")) (λ span t. terms.False span))
      (sound-either (is (keyword (codes "undef"))) (sound_formed (sound_quoted (codes "undef")) (λ span t. terms.Undef span))
      (sound_formed (sound-word (is variable)) (λ span t. terms.Var t span))))))

  sound_name : Sound (r.name room inner) (g.name room L) (g.name true M)
  unfolding r.name
  sound_name =
      sound_formed (sound-then (sound-word (is id)) (sound-maybe (is (symbol (codes "("))) sound_call)) (λ span p. terms.Name p.0 p.1 span)

  pub sound_quantified : Sound (r.quantified room inner) (g.quantified room L) (g.quantified true M)
  unfolding r.quantified r.forall r.exist
  sound_quantified =
      sound-either (is (keyword (codes "forall")))
      (sound_formed (sound_opened room (λ o. sound_with (s o)) (inl empty.ranges) (codes "forall")) (λ span p. terms.Forall p.0 p.1 span))
      (sound_formed (sound_opened room (λ o. sound-then (sound_unique (s o)) (sound_with (s o))) (inl (inr refl)) (codes "exist")) exist_of)

  sound_parenthesis : Sound (r.parenthesis room inner) (g.parenthesis room L) (g.parenthesis true M)
  unfolding r.parenthesis
  sound_parenthesis = sound_formed (sound_in_parentheses room (λ o. sound_within (s o)) (inl (empty.line g.quantifier))) with_extent

  sound_set : Sound (r.set room inner) (g.set room L) (g.set true M)
  unfolding r.set
  sound_set = sound_formed (sound_bracketed room (λ o. sound_items (s o)) (inr refl) (codes "{") (codes "}")) set_of

  sound_sequence : Sound (r.sequence room inner) (g.sequence room L) (g.sequence true M)
  unfolding r.sequence
  sound_sequence =
      sound_formed (sound_bracketed room (λ o. sound-maybe starts_term (sound_arguments (s o))) (inr refl) (codes "[") (codes "]"))
      (λ span items. terms.Seq items span)

  sound_if_term : Sound (r.if_term room inner) (g.if_term room L) (g.if_term true M)
  unfolding r.if_term
  sound_if_term =
      sound_formed (sound_enclosed room (λ o. sound_branches (s o)) (inl (empty.line g.term)) (codes "if") (codes "endif"))
      (λ span p. terms.If p.0 p.1.0 p.1.1 span)

  sound_let_term : Sound (r.let_term room inner) (g.let_term room L) (g.let_term true M)
  unfolding r.let_term
  sound_let_term =
      sound_formed (sound_enclosed room (λ o. sound_in (s o)) (inl empty.binds) (codes "let") (codes "endlet"))
      (λ span p. terms.Let p.0 p.1 span)

  sound_switch_term : Sound (r.switch_term room inner) (g.switch_term room L) (g.switch_term true M)
  unfolding r.switch_term
  sound_switch_term =
      sound_formed (sound_enclosed room (λ o. sound_cases (s o) room) (inl (empty.line g.term)) (codes "switch") (codes "endswitch"))
      (λ span p. terms.Switch p.0 p.1.0 p.1.1 span)

  pub sound_prim : Sound (r.prim_form room inner) (g.prim_form room L) (g.prim_form true M)
  unfolding r.prim_form
  sound_prim =
      sound-either starts_plain sound_plain (sound-either (is id) sound_name (sound-either (is (symbol (codes "("))) sound_parenthesis
      (sound-either (is (symbol (codes "{"))) sound_set (sound-either (is (symbol (codes "["))) sound_sequence
      (sound-either (is (keyword (codes "if"))) sound_if_term (sound-either (is (keyword (codes "let"))) sound_let_term sound_switch_term))))))
