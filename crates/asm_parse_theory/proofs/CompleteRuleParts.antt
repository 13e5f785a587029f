-- What stands inside the constructs of rules is taken by the parser.
use Rattle.std.proofs.Common.{◌≡◌, ℕ, List, [], ◌∷◌, ◌++◌, Bool, true, false, refl, subst, codes}
use Rattle.std.specs.Prelude.{not, ◌||◌, ◌&&◌, Option}
use Rattle.asm_grammar.specs.Language.{Language}
use Rattle.asm_grammar.specs.Parser.{Parser}
use Rattle.asm_grammar.proofs.Exact.{Complete, Apart, weaken}
use Rattle.asm_grammar.proofs.Basic.{complete-word}
use Rattle.asm_grammar.proofs.Pairs.{complete-then, or_false}
use Rattle.asm_grammar.proofs.Maybe.{complete-maybe, maybe_on, maybe_under, maybe_apart, both_false}
use Rattle.asm_grammar.proofs.Dangling.{complete-dangling, dangling_on}
use Rattle.asm_syntax.specs.declared.token.Token.{Token}
use Rattle.asm_syntax.specs.declared.tree.TermTree.{TermTree}
use Rattle.asm_syntax.specs.declared.tree.RuleTree.{RuleTree}
use Rattle.asm_syntax.specs.Marks.{Mark, is, id, variable, keyword, symbol}
use Rattle.asm_syntax.specs.Forms.{is_open}
use Rattle.asm_syntax.specs.Terms as tg
use Rattle.asm_syntax.specs.Terms.{Forms}
use Rattle.asm_syntax.specs.Rules as g
use Rattle.asm_syntax.specs.Rules.{is_closed, case_of}
use Rattle.asm_parse_theory.specs.Firsts.{among, first_rule, after_term, after_rule, starts_term, starts_rule}
use Rattle.asm_parse_theory.specs.Terms as t
use Rattle.asm_parse_theory.specs.Terms.{Readers}
use Rattle.asm_parse_theory.specs.Rules as r
use Rattle.asm_parse_theory.proofs.Sets.{apart, off}
use Rattle.asm_parse_theory.proofs.Facts.{Room, Loose}
use Rattle.asm_parse_theory.proofs.FormFacts as f
use Rattle.asm_parse_theory.proofs.RuleParts as parts
use Rattle.asm_parse_theory.proofs.RuleParts.{ifnone}
use Rattle.asm_parse_theory.proofs.OfTerms.{OfTerms}

-- ---- what may go on after a rule

-- `ifnone` goes on after a rule that isn't closed
abbrev pub on : Bool → Token → Bool
on closed t = among after_term t || (not closed && ifnone t)

abbrev pub rule_on : RuleTree → Token → Bool
rule_on v t = on (is_closed v) t

pub on_term : (x : Bool) (t : Token) → on x t ≡ false → among after_term t ≡ false
on_term x t h = (or_false (among after_term t) (not x && ifnone t) h).0

pub on_any : (x : Bool) (t : Token) → among after_term t ≡ false → ifnone t ≡ false → on x t ≡ false
on_any true t h i = both_false (among after_term t) false h refl
on_any false t h i = both_false (among after_term t) (ifnone t) h i

-- nothing more goes on than after any rule
pub rule_under : (v : RuleTree) (t : Token) → among after_rule t ≡ false → rule_on v t ≡ false
rule_under v t h = on_any (is_closed v) t (off after_term after_rule refl t h) (off (keyword (codes "ifnone") ∷ []) after_rule refl t h)

closed_on : (x : Bool) (t : Token) → x ≡ true → ifnone t ≡ true → on x t ≡ false
closed_on true t e i = both_false (among after_term t) false (apart (keyword (codes "ifnone") ∷ []) after_term refl t i) refl
closed_on false t e i = absurd (cc e)

closed_apart : (v : RuleTree) → is_closed v ≡ true → Apart (rule_on v) ifnone
closed_apart v e t i = closed_on (is_closed v) t e i

-- ---- what constructs hold

abbrev pub after_par_rule : List Mark
after_par_rule = first_rule ++ after_rule

abbrev pub after_switch_rule : List Mark
after_switch_rule = keyword (codes "case") ∷ keyword (codes "otherwise") ∷ after_rule

abbrev pub after_if_rule : List Mark
after_if_rule = keyword (codes "else") ∷ after_rule

module _ (k : OfTerms) (X : Bool) (fits' : TermTree → Bool) (loose : Loose X fits') (n m : ℕ) (room : Room X n m)
    (c : is_open n ≡ true → is_open m ≡ true → Complete X (r.inside n) (g.inside fits' m) starts_rule rule_on false) where
  abbrev CompleteParts : {V : Type 0} → (Readers → Parser Token RuleTree → Parser Token V) → (Forms → Language Token RuleTree → Language Token V)
      → (Token → Bool) → (V → Token → Bool) → Bool → Type 0
  CompleteParts q L F C e =
      is_open n ≡ true → is_open m ≡ true → Complete X (q (t.inside n) (r.inside n)) (L (tg.inside fits' m) (g.inside fits' m)) F C e

  -- a rule, with what may go on after any rule
  complete_part : CompleteParts (λ i q. q) (λ i L. L) starts_rule (λ v. among after_rule) false
  complete_part o o' = weaken starts_rule (λ v. among after_rule) (λ t h. h) rule_under (c o o')

  pub complete_guard : CompleteParts parts.guard_read parts.guard (is (keyword (codes "with")))
      (maybe_on (is (keyword (codes "with"))) (λ v. among after_term)) true
  complete_guard o o' = complete-maybe X (f.complete_after_word X (k.inner.complete X fits' loose n m room o o') (codes "with"))

  guard_apart : (o : Option TermTree) → Apart (maybe_on (is (keyword (codes "with"))) (λ v. among after_term) o) (is (keyword (codes "do")))
  guard_apart =
      maybe_apart (is (keyword (codes "with"))) (λ v. among after_term) (is (keyword (codes "do")))
      (apart (keyword (codes "do") ∷ []) (keyword (codes "with") ∷ []) refl) (λ v. apart (keyword (codes "do") ∷ []) after_term refl)

  pub complete_par_rule : CompleteParts parts.par_rule_read parts.par_rule starts_rule (λ v. among after_par_rule) false
  complete_par_rule o o' =
      weaken starts_rule (λ v. among after_par_rule) (λ t h. h) (λ v. ends)
      (complete-then X (complete_part o o')
      (f.complete_many X (complete_part o o') (apart first_rule after_rule refl)) (λ v. apart first_rule after_rule refl))
    where
      ends : (t : Token) → among after_par_rule t ≡ false → (among after_rule t || (starts_rule t || among after_rule t)) ≡ false
      ends t h =
          let after : among after_rule t ≡ false = off after_rule after_par_rule refl t h in
          both_false (among after_rule t) (starts_rule t || among after_rule t) after
          (both_false (starts_rule t) (among after_rule t) (off first_rule after_par_rule refl t h) after)

  pub complete_if_rule : CompleteParts parts.if_rule_read parts.if_rule starts_term (λ v. among after_if_rule) false
  complete_if_rule o o' =
      weaken starts_term (λ v. among after_if_rule) (λ t h. h) (λ v t h. ends v.1.1 t h)
      (complete-then X (k.inner.complete X fits' loose n m room o o') (complete-then X (f.complete_after_word X (complete_part o o') (codes "then"))
      (complete-maybe X (f.complete_after_word X (complete_part o o') (codes "else")))
      (λ v. apart (keyword (codes "else") ∷ []) after_rule refl))
      (λ v. apart (keyword (codes "then") ∷ []) after_term refl))
    where
      otherwise : Token → Bool
      otherwise = is (keyword (codes "else"))

      ends : (w : Option RuleTree) (t : Token) → among after_if_rule t ≡ false
          → (among after_rule t || maybe_on otherwise (λ v. among after_rule) w t) ≡ false
      ends w t h =
          both_false (among after_rule t) (maybe_on otherwise (λ v. among after_rule) w t) (off after_rule after_if_rule refl t h)
          (maybe_under otherwise (λ v. among after_rule) (among after_if_rule)
          (off (keyword (codes "else") ∷ []) after_if_rule refl) (λ v. off after_rule after_if_rule refl) w t h)

  pub complete_forall : CompleteParts parts.forall_read parts.forall (is variable) (λ v. rule_on v.1.1) false
  complete_forall o o' =
      complete-then X (k.ranges.complete X fits' loose n m room o o')
      (complete-then X (complete_guard o o') (f.complete_after_word X (c o o') (codes "do")) guard_apart)
      (λ v. apart (keyword (codes "do") ∷ keyword (codes "with") ∷ []) (symbol (codes ",") ∷ []) refl)

  pub complete_choose_rule : CompleteParts parts.choose_rule_read parts.choose_rule (is variable) (λ v. dangling_on ifnone rule_on rule_on v.1.1) false
  complete_choose_rule o o' =
      complete-then X (k.ranges.complete X fits' loose n m room o o') (complete-then X (complete_guard o o')
      (f.complete_after_word X (complete-dangling X is_closed (c o o') (f.complete_after_word X (c o o') (codes "ifnone")) closed_apart) (codes "do"))
      guard_apart)
      (λ v. apart (keyword (codes "do") ∷ keyword (codes "with") ∷ []) (symbol (codes ",") ∷ []) refl)

  pub complete_let_rule : CompleteParts parts.let_rule_read parts.let_rule (is (symbol (codes "("))) (λ v. among after_rule) false
  complete_let_rule o o' =
      complete-then X (k.binds.complete X fits' loose n m room o o') (f.complete_after_word X (complete_part o o') (codes "in")) (λ v t h. refl)

  pub complete_case : CompleteParts parts.case_read parts.case (is (keyword (codes "case"))) (λ v. among after_rule) false
  complete_case o o' =
      f.complete_mapped case_of (f.complete_after_word X (complete-then X (k.inner.complete X fits' loose n m room o o')
      (f.complete_after_sign X (complete_part o o') (codes ":")) (λ v. apart (symbol (codes ":") ∷ []) after_term refl)) (codes "case"))

  pub complete_switch_rule : CompleteParts parts.switch_rule_read parts.switch_rule starts_term (λ v. among after_switch_rule) false
  complete_switch_rule o o' =
      weaken starts_term (λ v. among after_switch_rule) (λ t h. h) (λ v t h. ends v.1.1 t h)
      (complete-then X (k.inner.complete X fits' loose n m room o o') (complete-then X
      (f.complete_many X (complete_case o o') (apart (keyword (codes "case") ∷ []) after_rule refl))
      (complete-maybe X (f.complete_after_word X (complete_part o o') (codes "otherwise")))
      (λ v. apart (keyword (codes "otherwise") ∷ []) (keyword (codes "case") ∷ after_rule) refl))
      (λ v. apart (keyword (codes "otherwise") ∷ keyword (codes "case") ∷ []) after_term refl))
    where
      other : Token → Bool
      other = is (keyword (codes "otherwise"))

      ends : (w : Option RuleTree) (t : Token) → among after_switch_rule t ≡ false
          → (among after_term t || (among (keyword (codes "case") ∷ after_rule) t || maybe_on other (λ v. among after_rule) w t)) ≡ false
      ends w t h =
          both_false (among after_term t) (among (keyword (codes "case") ∷ after_rule) t || maybe_on other (λ v. among after_rule) w t)
          (off after_term after_switch_rule refl t h)
          (both_false (among (keyword (codes "case") ∷ after_rule) t) (maybe_on other (λ v. among after_rule) w t)
          (off (keyword (codes "case") ∷ after_rule) after_switch_rule refl t h)
          (maybe_under other (λ v. among after_rule) (among after_switch_rule)
          (off (keyword (codes "otherwise") ∷ []) after_switch_rule refl) (λ v. off after_rule after_switch_rule refl) w t h))

  pub complete_extend_rule : CompleteParts parts.extend_rule_read parts.extend_rule (is id) (λ v. rule_on v.1.1) false
  complete_extend_rule o o' =
      subst (λ q. Complete X q (parts.extend_rule (tg.inside fits' m) (g.inside fits' m)) (is id) (λ v. rule_on v.1.1) false)
      (parts.extend_rule_same (t.inside n) (r.inside n))
      (complete-then X (complete-word (is id) X) (f.complete_after_word X
      (complete-then X (f.complete_listed X (complete-word (is variable) X) (λ t h. refl))
      (f.complete_after_word X (c o o') (codes "do"))
      (λ v t h. both_false (is (symbol (codes ",")) t) false (apart (keyword (codes "do") ∷ []) (symbol (codes ",") ∷ []) refl t h) refl)) (codes "with"))
      (λ v t h. refl))
