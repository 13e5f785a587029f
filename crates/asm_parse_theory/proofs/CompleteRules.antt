-- What the grammar spells as a rule is taken by the parser.
use Rattle.std.proofs.Common.{◌≡◌, ℕ, zero, suc, List, [], ◌∷◌, Bool, true, false, inl, refl, subst, codes}
use Rattle.std.specs.Prelude.{◌||◌, Option, Some, None}
use Rattle.asm_grammar.specs.Language.{Language, ◌then◌, ◌either◌, made, maybe}
use Rattle.asm_grammar.specs.Parser.{Parser, choose, mapped, both, optional}
use Rattle.asm_grammar.proofs.Exact.{Complete, Apart, weaken}
use Rattle.asm_grammar.proofs.Basic.{nowhere, complete-word, complete-made}
use Rattle.asm_grammar.proofs.Pairs.{complete-then, or_false}
use Rattle.asm_grammar.proofs.Choices.{complete-either}
use Rattle.asm_grammar.proofs.Maybe.{sound-maybe, complete-maybe, maybe_apart, both_false}
use Rattle.asm_grammar.proofs.Dangling.{dangling_on}
use Rattle.asm_grammar.proofs.Spans.{complete-spanned}
use Rattle.asm_syntax.specs.declared.token.Span.{Span}
use Rattle.asm_syntax.specs.declared.token.Token.{Token}
use Rattle.asm_syntax.specs.declared.tree.TermTree.{TermTree}
use Rattle.asm_syntax.specs.declared.tree.TermsTree.{TermsTree}
use Rattle.asm_syntax.specs.declared.tree.RuleTree.{RuleTree}
use Rattle.asm_syntax.specs.declared.tree.RuleTree.TheVariants as rules
use Rattle.asm_syntax.specs.Marks.{is, id, keyword, symbol, span_of}
use Rattle.asm_syntax.specs.Forms as g
use Rattle.asm_syntax.specs.Forms.{is_open}
use Rattle.asm_syntax.specs.Terms as tg
use Rattle.asm_syntax.specs.Terms.{Forms}
use Rattle.asm_syntax.specs.Rules as rg
use Rattle.asm_syntax.specs.Rules.{is_closed, Use, Calls, Updates, use_of, choose_of, extend_of}
use Rattle.asm_parse_theory.specs.Firsts.{among, first_term, after_term, after_rule, starts_term, starts_rule}
use Rattle.asm_parse_theory.specs.Forms as q
use Rattle.asm_parse_theory.specs.Terms as t
use Rattle.asm_parse_theory.specs.Terms.{Readers}
use Rattle.asm_parse_theory.specs.Rules as r
use Rattle.asm_parse_theory.proofs.Sets.{apart}
use Rattle.asm_parse_theory.proofs.Facts.{Room, Loose}
use Rattle.asm_parse_theory.proofs.Rooms.{no_room, less_room}
use Rattle.asm_parse_theory.proofs.FormFacts as f
use Rattle.asm_parse_theory.proofs.Closed.{closed-Forall, closed-extend, closed-choose, closed-choose-else}
use Rattle.asm_parse_theory.proofs.RuleParts as parts
use Rattle.asm_parse_theory.proofs.RuleParts.{ifnone, Guarded}
use Rattle.asm_parse_theory.proofs.OfTerms.{OfTerms}
use Rattle.asm_parse_theory.proofs.SoundRules as sound
use Rattle.asm_parse_theory.proofs.CompleteRuleParts as held
use Rattle.asm_parse_theory.proofs.CompleteRuleParts.{on, rule_on, on_term, on_any}

-- ---- what may go on after what is made

-- after a form with its own end nothing goes on
shut : {V : Type 0} {X : Bool} {p : Parser Token V} {L : Language Token V} {F : Token → Bool} (h : Span → V → RuleTree)
    → Complete X p L F nowhere false → Complete X (q.formed h p) (g.formed h L) F rule_on false
shut h d = complete-spanned span_of h rule_on (λ s v t e. refl) d

-- one form or the other
other : {X : Bool} {p p' : Parser Token RuleTree} {L L' : Language Token RuleTree} {F F' : Token → Bool} → Complete X p L F rule_on false
    → Complete X p' L' F' rule_on false → Apart F F' → Complete X (choose F p p') (L either L') (λ t. F t || F' t) rule_on false
other {F = F} {F' = F'} d e ap =
    weaken (λ t. F t || F' t) rule_on (λ t h. h) (λ v t h. both_false (rule_on v t) (rule_on v t) h h) (complete-either _ d e ap)

on_forall : (s : Span) (v : Guarded RuleTree) (t : Token) → rule_on (rules.Forall v.0 v.1.0 v.1.1 s) t ≡ false → rule_on v.1.1 t ≡ false
on_forall s v t h = subst (λ x. on x t ≡ false) (closed-Forall v.0 v.1.0 v.1.1 s) h

on_extend : (s : Span) (v : Token × ((Token × List Token) × RuleTree)) (t : Token) → rule_on (extend_of s v) t ≡ false → rule_on v.1.1 t ≡ false
on_extend s (name, (names, body)) t h = subst (λ x. on x t ≡ false) (closed-extend s name names body) h

-- after a choice without `ifnone` it may go on, and after one with it what goes on after its last rule
on_choose : (s : Span) (v : Guarded (RuleTree × Option RuleTree)) (t : Token) → rule_on (choose_of s v) t ≡ false
    → dangling_on ifnone rule_on rule_on v.1.1 t ≡ false
on_choose s (ranges, (guard, (body, None))) t h =
    let none : on false t ≡ false = subst (λ x. on x t ≡ false) (closed-choose s ranges guard body) h in
    let both = or_false (among after_term t) (ifnone t) none in
    both_false (ifnone t) (rule_on body t) both.1 (on_any (is_closed body) t both.0 both.1)
on_choose s (ranges, (guard, (body, Some rule))) t h = subst (λ x. on x t ≡ false) (closed-choose-else s ranges guard body rule) h

-- ---- the forms of rules

-- c is of the parser, and d of one with as much room as the language
module _ (k : OfTerms) (X : Bool) (fits' : TermTree → Bool) (loose : Loose X fits') (n m : ℕ) (room : Room X n m)
    (c : is_open n ≡ true → is_open m ≡ true → Complete X (r.inside n) (rg.inside fits' m) starts_rule rule_on false)
    (d : is_open m ≡ true → Complete true (r.inside m) (rg.inside fits' m) starts_rule rule_on false) where
  abbrev CompleteForm : (Bool → Parser Token TermTree → Parser Token TermsTree → Readers → Parser Token RuleTree → Parser Token RuleTree)
      → (Bool → Language Token TermTree → Language Token TermsTree → Forms → Language Token RuleTree → Language Token RuleTree)
      → (Token → Bool) → Type 0
  CompleteForm q L F =
      Complete X (q (is_open n) (t.term n) (t.call (is_open n) (t.inside n)) (t.inside n) (r.inside n))
      (L (is_open m) (tg.term_within fits' m) (tg.call (is_open m) (tg.inside fits' m)) (tg.inside fits' m) (rg.inside fits' m)) F rule_on false

  abbrev free : Room true m m
  free = inl refl

  abbrev free_loose : Loose true fits'
  free_loose v a b = refl

  abbrev far : is_open m ≡ true → is_open n ≡ false → X ≡ true
  far = no_room X n m room

  complete_skip : CompleteForm r.skip rg.skip (is (keyword (codes "skip")))
  unfolding r.skip
  complete_skip = shut (λ span t. rules.Skip span) (f.complete_quoted X (codes "skip"))

  complete_par : CompleteForm r.par_rule rg.par_rule (is (keyword (codes "par")))
  unfolding r.par_rule
  complete_par =
      shut (λ span p. rules.Par p.0 p.1 span)
      (f.complete_enclosed X far (sound.sound_par_rule k n (sound.sound_inside k n) (sound.inside_starts k n))
      (held.complete_par_rule k X fits' loose n m room c) (λ o. held.complete_par_rule k true fits' free_loose m m free (λ a b. d b) o o)
      (codes "par") (codes "endpar") (λ v. apart (keyword (codes "endpar") ∷ []) held.after_par_rule refl))

  complete_seq : CompleteForm r.seq_rule rg.seq_rule (is (keyword (codes "seq")))
  unfolding r.seq_rule
  complete_seq =
      shut (λ span p. rules.Seq p.0 p.1 span)
      (f.complete_enclosed X far (sound.sound_par_rule k n (sound.sound_inside k n) (sound.inside_starts k n))
      (held.complete_par_rule k X fits' loose n m room c) (λ o. held.complete_par_rule k true fits' free_loose m m free (λ a b. d b) o o)
      (codes "seq") (codes "endseq") (λ v. apart (keyword (codes "endseq") ∷ []) held.after_par_rule refl))

  complete_if : CompleteForm r.if_rule rg.if_rule (is (keyword (codes "if")))
  unfolding r.if_rule
  complete_if =
      shut (λ span p. rules.If p.0 p.1.0 p.1.1 span)
      (f.complete_enclosed X far (sound.sound_if_rule k n (sound.sound_inside k n) (sound.inside_starts k n))
      (held.complete_if_rule k X fits' loose n m room c) (λ o. held.complete_if_rule k true fits' free_loose m m free (λ a b. d b) o o)
      (codes "if") (codes "endif") (λ v. apart (keyword (codes "endif") ∷ []) held.after_if_rule refl))

  complete_all : CompleteForm r.forall rg.forall (is (keyword (codes "forall")))
  unfolding r.forall
  complete_all =
      complete-spanned span_of (λ span p. rules.Forall p.0 p.1.0 p.1.1 span) rule_on on_forall
      (f.complete_opened X far (sound.sound_forall k n (sound.sound_inside k n) (sound.inside_starts k n))
      (held.complete_forall k X fits' loose n m room c) (λ o. held.complete_forall k true fits' free_loose m m free (λ a b. d b) o o)
      (codes "forall"))

  complete_choose : CompleteForm r.choose_rule rg.choose_rule (is (keyword (codes "choose")))
  unfolding r.choose_rule
  complete_choose =
      complete-spanned span_of choose_of rule_on on_choose
      (f.complete_opened X far (sound.sound_choose_rule k n (sound.sound_inside k n) (sound.inside_starts k n))
      (held.complete_choose_rule k X fits' loose n m room c) (λ o. held.complete_choose_rule k true fits' free_loose m m free (λ a b. d b) o o)
      (codes "choose"))

  complete_let : CompleteForm r.let_rule rg.let_rule (is (keyword (codes "let")))
  unfolding r.let_rule
  complete_let =
      shut (λ span p. rules.Let p.0 p.1 span)
      (f.complete_enclosed X far (sound.sound_let_rule k n (sound.sound_inside k n) (sound.inside_starts k n))
      (held.complete_let_rule k X fits' loose n m room c) (λ o. held.complete_let_rule k true fits' free_loose m m free (λ a b. d b) o o)
      (codes "let") (codes "endlet") (λ v. apart (keyword (codes "endlet") ∷ []) after_rule refl))

  complete_switch : CompleteForm r.switch_rule rg.switch_rule (is (keyword (codes "switch")))
  unfolding r.switch_rule r.case
  complete_switch =
      shut (λ span p. rules.Switch p.0 p.1.0 p.1.1 span)
      (f.complete_enclosed X far (sound.sound_switch_rule k n (sound.sound_inside k n) (sound.inside_starts k n))
      (held.complete_switch_rule k X fits' loose n m room c) (λ o. held.complete_switch_rule k true fits' free_loose m m free (λ a b. d b) o o)
      (codes "switch") (codes "endswitch") (λ v. apart (keyword (codes "endswitch") ∷ []) held.after_switch_rule refl))

  complete_extend : CompleteForm r.extend_rule rg.extend_rule (is (keyword (codes "extend")))
  unfolding r.extend_rule
  complete_extend =
      complete-spanned span_of extend_of rule_on on_extend
      (f.complete_opened X far (sound.sound_extend_rule k n (sound.sound_inside k n) (sound.inside_starts k n))
      (held.complete_extend_rule k X fits' loose n m room c) (λ o. held.complete_extend_rule k true fits' free_loose m m free (λ a b. d b) o o)
      (codes "extend"))

  -- what stands behind a rule's first name
  complete_calls : Complete X (mapped Calls (q.bracketed (is_open n) (codes "[") (optional starts_term (t.arguments (t.inside n))) (codes "]")))
      (made Calls (g.bracketed (is_open m) (codes "[") (maybe (tg.arguments (tg.inside fits' m))) (codes "]"))) (is (symbol (codes "[")))
      (λ v. among after_term) false
  complete_calls =
      complete-made Calls (λ v. among after_term) (λ v t h. refl)
      (f.complete_bracketed X far (λ o. sound-maybe starts_term (k.arguments.sound n o))
      (λ o o'. complete-maybe X (k.arguments.complete X fits' loose n m room o o'))
      (λ o. complete-maybe true (k.arguments.complete true fits' free_loose m m free o o)) (codes "[") (codes "]")
      (maybe_apart starts_term (λ v. among (symbol (codes ",") ∷ after_term)) (is (symbol (codes "]")))
      (apart (symbol (codes "]") ∷ []) first_term refl) (λ v. apart (symbol (codes "]") ∷ []) (symbol (codes ",") ∷ after_term) refl)))

  complete_updates : Complete X
      (mapped Updates (both (optional (is (symbol (codes "("))) (t.call (is_open n) (t.inside n))) (q.after_sign (codes ":=") (t.term n))))
      (made Updates (maybe (tg.call (is_open m) (tg.inside fits' m)) then g.after_sign (codes ":=") (tg.term_within fits' m)))
      (among (symbol (codes ":=") ∷ symbol (codes "(") ∷ [])) (λ v. among after_term) false
  complete_updates =
      f.complete_mapped Updates (complete-then X (complete-maybe X (k.call.complete X fits' loose n m room))
      (f.complete_after_sign X (k.value.complete X fits' loose n m room) (codes ":="))
      (maybe_apart (is (symbol (codes "("))) nowhere (is (symbol (codes ":=")))
      (apart (symbol (codes ":=") ∷ []) (symbol (codes "(") ∷ []) refl) (λ v t h. refl)))

  complete_call_or_update : CompleteForm r.call_or_update rg.call_or_update (is id)
  unfolding r.call_or_update
  complete_call_or_update =
      complete-spanned span_of use_of rule_on (λ s v t h. twice (is_closed (use_of s v)) t h)
      (complete-then X (complete-word (is id) X) (complete-either X complete_calls complete_updates
      (apart (symbol (codes ":=") ∷ symbol (codes "(") ∷ []) (symbol (codes "[") ∷ []) refl))
      (λ v t h. refl))
    where
      twice : (x : Bool) (t : Token) → on x t ≡ false → (among after_term t || among after_term t) ≡ false
      twice x t h = both_false (among after_term t) (among after_term t) (on_term x t h) (on_term x t h)

  pub complete_form : CompleteForm r.rule_form rg.rule_form starts_rule
  unfolding r.rule_form
  complete_form =
      other complete_skip (other complete_call_or_update (other complete_par (other complete_seq (other complete_if
      (other complete_all (other complete_choose (other complete_let (other complete_switch complete_extend
      (apart (keyword (codes "extend") ∷ []) (keyword (codes "switch") ∷ []) refl))
      (apart parts.from_switch (keyword (codes "let") ∷ []) refl))
      (apart parts.from_let (keyword (codes "choose") ∷ []) refl))
      (apart parts.from_choose (keyword (codes "forall") ∷ []) refl))
      (apart parts.from_forall (keyword (codes "if") ∷ []) refl))
      (apart parts.from_if (keyword (codes "seq") ∷ []) refl))
      (apart parts.from_seq (keyword (codes "par") ∷ []) refl))
      (apart parts.from_par (id ∷ []) refl))
      (apart parts.from_call_or_update (keyword (codes "skip") ∷ []) refl)

-- ---- rules to any depth

module _ (k : OfTerms) (fits' : TermTree → Bool) where
  -- how the rules of each language are begun, shown by the parser with as much room
  free_inside : (n : ℕ) → is_open n ≡ true → Complete true (r.inside n) (rg.inside fits' n) starts_rule rule_on false
  unfolding r.inside rg.inside
  free_inside zero o = absurd (cc o)
  free_inside (suc n) o = complete_form k true fits' (λ v a b. refl) n n (inl refl) (λ a b. free_inside n b) (free_inside n)

  module _ (X : Bool) (loose : Loose X fits') where
    complete_inside : (n m : ℕ) → Room X n m → is_open n ≡ true → is_open m ≡ true
        → Complete X (r.inside n) (rg.inside fits' m) starts_rule rule_on false
    unfolding r.inside rg.inside
    complete_inside zero m room o o' = absurd (cc o)
    complete_inside (suc n) zero room o o' = absurd (cc o')
    complete_inside (suc n) (suc m) room o o' =
        let less = less_room X n m room in
        complete_form k X fits' loose n m less (complete_inside n m less) (free_inside m)

    pub complete_rule : (n m : ℕ) → Room X n m → Complete X (r.rule n) (rg.rule_within fits' m) starts_rule rule_on false
    unfolding r.rule rg.rule_within
    complete_rule n m room = complete_form k X fits' loose n m room (complete_inside n m room) (free_inside m)
