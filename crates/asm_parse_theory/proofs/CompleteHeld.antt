-- What constructs of terms hold is taken, and a partial spelling is never stopped inside.
use Rattle.std.proofs.Common.{◌≡◌, List, [], ◌∷◌, Bool, true, false, refl, codes}
use Rattle.std.specs.Prelude.{◌||◌, Option}
use Rattle.asm_grammar.specs.Language.{Language, ◌then◌, ◌either◌, maybe}
use Rattle.asm_grammar.specs.Parser.{Parser, both, choose, optional}
use Rattle.asm_grammar.proofs.Exact.{Complete, weaken}
use Rattle.asm_grammar.proofs.Basic.{complete-word, nowhere}
use Rattle.asm_grammar.proofs.Pairs.{complete-then}
use Rattle.asm_grammar.proofs.Choices.{complete-either}
use Rattle.asm_grammar.proofs.Maybe.{complete-maybe, maybe_on, maybe_under, maybe_apart, both_false}
use Rattle.asm_syntax.specs.declared.token.Token.{Token}
use Rattle.asm_syntax.specs.declared.tree.CaseTree.{CaseTree}
use Rattle.asm_syntax.specs.declared.tree.TermTree.{TermTree}
use Rattle.asm_syntax.specs.Marks.{Mark, is, variable, keyword, symbol}
use Rattle.asm_syntax.specs.Forms as gf
use Rattle.asm_syntax.specs.Forms.{Rest}
use Rattle.asm_syntax.specs.Terms as g
use Rattle.asm_syntax.specs.Terms.{Forms, terms_of, bind_of, case_of, tuple_of}
use Rattle.asm_parse_theory.specs.Firsts.{among, first_term, first_quantifier, starts_term, starts_quantifier, after_term}
use Rattle.asm_parse_theory.specs.Forms as rf
use Rattle.asm_parse_theory.specs.Forms.{goes_on}
use Rattle.asm_parse_theory.specs.Terms as r
use Rattle.asm_parse_theory.specs.Terms.{Readers}
use Rattle.asm_parse_theory.proofs.FormFacts.{complete_quoted, complete_mapped, complete_formed, complete_after_word, complete_after_sign, complete_many, complete_listed, complete_members}
use Rattle.asm_parse_theory.proofs.Sets.{disjoint, within, apart, off}
use Rattle.asm_parse_theory.proofs.TermParts.{CompleteParts}

-- what may go on after a list of terms
abbrev pub after_terms : List Mark
after_terms = symbol (codes ",") ∷ after_term

-- what may go on after cases
abbrev pub after_cases : List Mark
after_cases = keyword (codes "otherwise") ∷ keyword (codes "case") ∷ after_term

-- A form, and then maybe another, where each of G may go on.
module _ {V W : Type 0} (X : Bool) (A B D G : List Mark) {p : Parser Token V} {q : Parser Token W} {L : Language Token V} {M : Language Token W}
    {F : Token → Bool} (c : Complete X p L F (λ v. among A) false) (c' : Complete X q M (among B) (λ v. among D) false)
    (ends : disjoint B A ≡ true) (of_first : within A G ≡ true) (of_next : within B G ≡ true) (of_last : within D G ≡ true) where
  pub complete_further : Complete X (both p (optional (among B) q)) (L then maybe M) F (λ v. among G) false
  complete_further =
      weaken F (λ v. among G) (λ t h. h)
      (λ v t h. both_false (among A t) (maybe_on (among B) (λ v. among D) v.1 t) (off A G of_first t h)
      (maybe_under (among B) (λ v. among D) (among G) (off B G of_next) (λ w. off D G of_last) v.1 t h))
      (complete-then X c (complete-maybe X c') (λ v. apart B A ends))

range_or_comma : (t : Token) → goes_on t ≡ true → among (symbol (codes "..") ∷ symbol (codes ":") ∷ symbol (codes ",") ∷ []) t ≡ true
range_or_comma t h = go (is (symbol (codes "..")) t) (is (symbol (codes ":")) t) (is (symbol (codes ",")) t) h
  where
    go : (x y z : Bool) → ((x || y) || z) ≡ true → (x || (y || z)) ≡ true
    go true y z e = refl
    go false y z e = e

module _ (X : Bool) {inner : Readers} {L : Forms} (c : CompleteParts X inner L) where
  complete_term : Complete X (inner.line g.term) (L.line g.term) starts_term (λ v. among after_term) false
  complete_term = c.line g.term

  pub complete_terms : Complete X (rf.listed (inner.line g.term)) (gf.listed (L.line g.term)) starts_term (λ v. among after_terms) false
  complete_terms = complete_listed X complete_term (apart (symbol (codes ",") ∷ []) after_term refl)

  pub complete_arguments : Complete X (r.arguments inner) (g.arguments L) starts_term (λ v. among after_terms) false
  complete_arguments = complete_mapped terms_of complete_terms

  pub complete_bind : (room may : Bool) → Complete X (r.bind room inner) (g.bind may L) (is variable) (λ v. among after_term) false
  unfolding r.bind
  complete_bind room may =
      complete_mapped bind_of (complete-then X (complete-word (is variable) X) (complete_after_sign X complete_term (codes "=")) (λ v t h. refl))

  pub complete_with : Complete X (both inner.ranges (rf.after_word (codes "with") (inner.line g.term)))
      (L.ranges then gf.after_word (codes "with") (L.line g.term)) (is variable) (λ v. among after_term) false
  complete_with =
      complete-then X c.ranges (complete_after_word X complete_term (codes "with"))
      (λ v. apart (keyword (codes "with") ∷ []) (symbol (codes ",") ∷ []) refl)

  pub complete_unique : Complete X (both (optional (is (keyword (codes "unique"))) (rf.quoted (codes "unique"))) (both inner.ranges (rf.after_word (codes "with") (inner.line g.term))))
      (maybe (gf.quoted (codes "unique")) then (L.ranges then gf.after_word (codes "with") (L.line g.term)))
      (among (variable ∷ keyword (codes "unique") ∷ [])) (λ v. among after_term) false
  complete_unique =
      complete-then X (complete-maybe X (complete_quoted X (codes "unique"))) complete_with
      (maybe_apart (is (keyword (codes "unique"))) nowhere (is variable)
      (apart (variable ∷ []) (keyword (codes "unique") ∷ []) refl) (λ v t h. refl))

  pub complete_within : Complete X (choose starts_quantifier (inner.line g.quantifier) (rf.formed tuple_of (rf.listed (inner.line g.term))))
      (L.line g.quantifier either gf.formed tuple_of (gf.listed (L.line g.term)))
      (λ t. starts_quantifier t || starts_term t) (λ v. among after_terms) false
  complete_within =
      weaken (λ t. starts_quantifier t || starts_term t) (λ v. among after_terms) (λ t h. h)
      (λ v t h. both_false (among after_term t) (among after_terms t) (off after_term after_terms refl t h) h)
      (complete-either X (c.line g.quantifier) (complete_formed tuple_of complete_terms) (apart first_term first_quantifier refl))

  pub complete_items : Complete X (optional starts_term (rf.members (inner.line g.term))) (maybe (gf.members (L.line g.term)))
      starts_term (maybe_on starts_term (λ v t. goes_on t || among after_term t)) true
  complete_items =
      complete-maybe X (complete_members X complete_term
      (λ t h. apart (symbol (codes "..") ∷ symbol (codes ":") ∷ symbol (codes ",") ∷ []) after_term refl t (range_or_comma t h)))

  pub complete_branches : Complete X
      (both (inner.line g.term) (both (rf.after_word (codes "then") (inner.line g.term))
      (optional (is (keyword (codes "else"))) (rf.after_word (codes "else") (inner.line g.term)))))
      (L.line g.term then (gf.after_word (codes "then") (L.line g.term) then maybe (gf.after_word (codes "else") (L.line g.term))))
      starts_term (λ v. among (keyword (codes "else") ∷ after_term)) false
  complete_branches =
      complete-then X complete_term (complete_further X after_term (keyword (codes "else") ∷ []) after_term (keyword (codes "else") ∷ after_term)
      (complete_after_word X complete_term (codes "then")) (complete_after_word X complete_term (codes "else")) refl refl refl refl)
      (λ v. apart (keyword (codes "then") ∷ []) after_term refl)

  pub complete_in : Complete X (both inner.binds (rf.after_word (codes "in") (inner.line g.term)))
      (L.binds then gf.after_word (codes "in") (L.line g.term)) (is (symbol (codes "("))) (λ v. among after_term) false
  complete_in = complete-then X c.binds (complete_after_word X complete_term (codes "in")) (λ v t h. refl)

  complete_case : (room may : Bool) → Complete X (r.case room inner) (g.case may L) (is (keyword (codes "case"))) (λ v. among after_term) false
  unfolding r.case
  complete_case room may =
      complete_mapped case_of (complete_after_word X (complete-then X complete_term (complete_after_sign X complete_term (codes ":"))
      (λ v. apart (symbol (codes ":") ∷ []) after_term refl)) (codes "case"))

  abbrev on_cases : List CaseTree × Option TermTree → Token → Bool
  on_cases v t =
      among (keyword (codes "case") ∷ after_term) t || maybe_on (is (keyword (codes "otherwise"))) (λ v. among after_term) v.1 t

  cases_off : (v : List CaseTree × Option TermTree) (t : Token) → among after_cases t ≡ false → on_cases v t ≡ false
  cases_off v t h =
      both_false (among (keyword (codes "case") ∷ after_term) t) (maybe_on (is (keyword (codes "otherwise"))) (λ v. among after_term) v.1 t)
      (off (keyword (codes "case") ∷ after_term) after_cases refl t h)
      (maybe_under (is (keyword (codes "otherwise"))) (λ v. among after_term) (among after_cases)
      (off (keyword (codes "otherwise") ∷ []) after_cases refl) (λ w. off after_term after_cases refl) v.1 t h)

  pub complete_cases : (room may : Bool) → Complete X
      (both (inner.line g.term) (both (rf.many (is (keyword (codes "case"))) (r.case room inner))
      (optional (is (keyword (codes "otherwise"))) (rf.after_word (codes "otherwise") (inner.line g.term)))))
      (L.line g.term then (gf.many (g.case may L) then maybe (gf.after_word (codes "otherwise") (L.line g.term))))
      starts_term (λ v. among after_cases) false
  complete_cases room may =
      weaken starts_term (λ v. among after_cases) (λ t h. h)
      (λ v t h. both_false (among after_term t) (on_cases v.1 t) (off after_term after_cases refl t h) (cases_off v.1 t h))
      (complete-then X complete_term
      (complete-then X (complete_many X (complete_case room may) (apart (keyword (codes "case") ∷ []) after_term refl))
      (complete-maybe X (complete_after_word X complete_term (codes "otherwise")))
      (λ v. apart (keyword (codes "otherwise") ∷ []) (keyword (codes "case") ∷ after_term) refl))
      (λ v. apart (keyword (codes "otherwise") ∷ keyword (codes "case") ∷ []) after_term refl))
