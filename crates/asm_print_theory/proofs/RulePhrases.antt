-- Rules that are the same apart from their spans, and the words of rules, by their forms.
use Rattle.std.proofs.Common.{◌≡◌, Bool, List, [], ◌∷◌, ◌++◌, map, sym, refl, ap, ◌∙◌, append_assoc}
use Rattle.std.specs.Prelude.{codes, Option, Some, None}
use Rattle.std.specs.Option.{option_map}
use Rattle.asm_syntax.specs.declared.token.Span.{Span}
use Rattle.asm_syntax.specs.declared.token.Token.{Token}
use Rattle.asm_syntax.specs.declared.tree.RangesTree.{RangesTree}
use Rattle.asm_syntax.specs.declared.tree.TermTree.{TermTree}
use Rattle.asm_syntax.specs.declared.tree.BindsTree.{BindsTree}
use Rattle.asm_syntax.specs.declared.tree.RuleTree.{RuleTree}
use Rattle.asm_syntax.specs.declared.tree.RuleCaseTree.{RuleCaseTree}
use Rattle.asm_syntax.specs.declared.tree.RuleTree.TheOpen.{RuleTree-F}
use Rattle.asm_syntax.specs.declared.tree.RuleTree.TheViews.{roll-RuleCaseTree}
use Rattle.asm_syntax.specs.declared.tree.RuleTree.TheVariants as rules
use Rattle.asm_syntax.specs.Rules.{closed_step, is_closed, Use, Calls, Updates, use_of, choose_of, extend_of, case_of}
use Rattle.asm_syntax.specs.Written.{Words, word_of, after_each, written_all, if_there, comma, own, single, ranges_words, term_words, terms_words, binds_words}
use Rattle.asm_syntax.specs.Canonical.{guard_words, rule_step, rule_case_step, rule_words}
use Rattle.asm_print_theory.specs.Bare.{bare_term, bare_terms, bare_rule_step, bare_rule_case_step, bare_rule, here}
use Rattle.asm_print_theory.proofs.Back.{alike, both, in_option, in_list}
use Rattle.asm_print_theory.proofs.Domains.{map_same, same_token, same_tokens, same_ranges, all_own}
use Rattle.asm_print_theory.proofs.Same.{twice, map_first, option_first, same_term, same_terms, same_binds, terms_height}
use Rattle.asm_print_theory.proofs.RuleFolds.{folded_case, folded-Skip, folded-Call, folded-Update, folded-Par, folded-Seq, folded-If, folded-Forall, folded-Choose, folded-Let, folded-Switch, folded-Extend, folded-case}
use Rattle.asm_syntax.specs.Heights.{height}

abbrev pub bare_rule_case : RuleCaseTree → RuleCaseTree
bare_rule_case = folded_case bare_rule_step bare_rule_case_step

-- the same apart from spans, and closed where the other is
abbrev pub same_rule : RuleTree → RuleTree → Type 0
same_rule = twice bare_rule is_closed

abbrev pub same_rule_case : RuleCaseTree → RuleCaseTree → Type 0
same_rule_case c d = bare_rule_case c ≡ bare_rule_case d

abbrev pub rule_case_words : RuleCaseTree → Words
rule_case_words = folded_case rule_step rule_case_step

abbrev pub same_use : Use → Use → Type 0
same_use (Calls a) (Calls b) = in_option same_terms a b
same_use (Calls a) (Updates q) = ⊥
same_use (Updates p) (Calls b) = ⊥
same_use (Updates p) (Updates q) = both (in_option same_terms) same_term p q

-- ---- the same rule

pub same_skip : (s s' : Span) → same_rule (rules.Skip s') (rules.Skip s)
unfolding bare_rule is_closed
same_skip s s' = (folded-Skip _ _ s' ∙ sym (folded-Skip _ _ s), folded-Skip _ _ s' ∙ sym (folded-Skip _ _ s))

pub same_use_of : (s s' : Span) (u v : Token × Use) → both alike same_use u v → same_rule (use_of s' u) (use_of s v)
unfolding bare_rule is_closed
same_use_of s s' (t, Calls a) (t', Calls a') h = (
  folded-Call _ _ t a s' ∙ (λ i. rules.Call (same_token t t' h.0 i) (option_first bare_terms terms_height a a' h.1 i) here) ∙ sym (folded-Call _ _ t' a' s),
  folded-Call _ _ t a s' ∙ sym (folded-Call _ _ t' a' s),
)
same_use_of s s' (t, Calls a) (t', Updates q) h = absurd h.1
same_use_of s s' (t, Updates p) (t', Calls a') h = absurd h.1
same_use_of s s' (t, Updates (a, x)) (t', Updates (a', x')) h = (
  folded-Update _ _ t a x s'
      ∙ (λ i. rules.Update (same_token t t' h.0 i) (option_first bare_terms terms_height a a' h.1.0 i) (h.1.1.0 i) here)
      ∙ sym (folded-Update _ _ t' a' x' s),
  folded-Update _ _ t a x s' ∙ sym (folded-Update _ _ t' a' x' s),
)

pub same_par_rule : (s s' : Span) (u v : RuleTree × List RuleTree) → both same_rule (in_list same_rule) u v → same_rule (rules.Par u.0 u.1 s') (rules.Par v.0 v.1 s)
unfolding bare_rule is_closed
same_par_rule s s' (r, rs) (r', rs') h = (
  folded-Par _ _ r rs s' ∙ (λ i. rules.Par (h.0.0 i) (map_first bare_rule is_closed rs rs' h.1 i) here) ∙ sym (folded-Par _ _ r' rs' s),
  folded-Par _ _ r rs s' ∙ sym (folded-Par _ _ r' rs' s),
)

pub same_seq_rule : (s s' : Span) (u v : RuleTree × List RuleTree) → both same_rule (in_list same_rule) u v → same_rule (rules.Seq u.0 u.1 s') (rules.Seq v.0 v.1 s)
unfolding bare_rule is_closed
same_seq_rule s s' (r, rs) (r', rs') h = (
  folded-Seq _ _ r rs s' ∙ (λ i. rules.Seq (h.0.0 i) (map_first bare_rule is_closed rs rs' h.1 i) here) ∙ sym (folded-Seq _ _ r' rs' s),
  folded-Seq _ _ r rs s' ∙ sym (folded-Seq _ _ r' rs' s),
)

pub same_if_rule : (s s' : Span) (u v : TermTree × (RuleTree × Option RuleTree)) → both same_term (both same_rule (in_option same_rule)) u v
    → same_rule (rules.If u.0 u.1.0 u.1.1 s') (rules.If v.0 v.1.0 v.1.1 s)
unfolding bare_rule is_closed
same_if_rule s s' (g, (r, o)) (g', (r', o')) h = (
  folded-If _ _ g r o s' ∙ (λ i. rules.If (h.0.0 i) (h.1.0.0 i) (option_first bare_rule is_closed o o' h.1.1 i) here) ∙ sym (folded-If _ _ g' r' o' s),
  folded-If _ _ g r o s' ∙ sym (folded-If _ _ g' r' o' s),
)

pub same_forall : (s s' : Span) (u v : RangesTree × (Option TermTree × RuleTree)) → both same_ranges (both (in_option same_term) same_rule) u v
    → same_rule (rules.Forall u.0 u.1.0 u.1.1 s') (rules.Forall v.0 v.1.0 v.1.1 s)
unfolding bare_rule is_closed
same_forall s s' (q, (g, r)) (q', (g', r')) h = (
  folded-Forall _ _ q g r s' ∙ (λ i. rules.Forall (h.0 i) (option_first bare_term height g g' h.1.0 i) (h.1.1.0 i) here) ∙ sym (folded-Forall _ _ q' g' r' s),
  folded-Forall _ _ q g r s' ∙ h.1.1.1 ∙ sym (folded-Forall _ _ q' g' r' s),
)

closed_choose : (q q' : RangesTree) (g g' : Option TermTree) (r r' : Bool) (o o' : Option RuleTree) (s s' : Span) → in_option same_rule o o'
    → closed_step (RuleTree-F.Choose q g r (option_map is_closed o) s')
    ≡ closed_step (RuleTree-F.Choose q' g' r' (option_map is_closed o') s)
closed_choose q q' g g' r r' None None s s' h = refl
closed_choose q q' g g' r r' None (Some o') s s' h = absurd h
closed_choose q q' g g' r r' (Some o) None s s' h = absurd h
closed_choose q q' g g' r r' (Some o) (Some o') s s' h = h.1

pub same_choose_rule : (s s' : Span) (u v : RangesTree × (Option TermTree × (RuleTree × Option RuleTree)))
    → both same_ranges (both (in_option same_term) (both same_rule (in_option same_rule))) u v → same_rule (choose_of s' u) (choose_of s v)
unfolding bare_rule is_closed
same_choose_rule s s' (q, (g, (r, o))) (q', (g', (r', o'))) h = (
  folded-Choose _ _ q g r o s'
      ∙ (λ i. rules.Choose (h.0 i) (option_first bare_term height g g' h.1.0 i) (h.1.1.0.0 i) (option_first bare_rule is_closed o o' h.1.1.1 i) here)
      ∙ sym (folded-Choose _ _ q' g' r' o' s),
  folded-Choose _ _ q g r o s' ∙ closed_choose q q' g g' (is_closed r) (is_closed r') o o' s s' h.1.1.1 ∙ sym (folded-Choose _ _ q' g' r' o' s),
)

pub same_let_rule : (s s' : Span) (u v : BindsTree × RuleTree) → both same_binds same_rule u v → same_rule (rules.Let u.0 u.1 s') (rules.Let v.0 v.1 s)
unfolding bare_rule is_closed
same_let_rule s s' (b, r) (b', r') h = (
  folded-Let _ _ b r s' ∙ (λ i. rules.Let (h.0.0 i) (h.1.0 i) here) ∙ sym (folded-Let _ _ b' r' s),
  folded-Let _ _ b r s' ∙ sym (folded-Let _ _ b' r' s),
)

pub same_switch_rule : (s s' : Span) (u v : TermTree × (List RuleCaseTree × Option RuleTree)) → both same_term (both (in_list same_rule_case) (in_option same_rule)) u v
    → same_rule (rules.Switch u.0 u.1.0 u.1.1 s') (rules.Switch v.0 v.1.0 v.1.1 s)
unfolding bare_rule is_closed
same_switch_rule s s' (t, (cs, o)) (t', (cs', o')) h = (
  folded-Switch _ _ t cs o s'
      ∙ (λ i. rules.Switch (h.0.0 i) (map_same bare_rule_case cs cs' h.1.0 i) (option_first bare_rule is_closed o o' h.1.1 i) here)
      ∙ sym (folded-Switch _ _ t' cs' o' s),
  folded-Switch _ _ t cs o s' ∙ sym (folded-Switch _ _ t' cs' o' s),
)

pub same_extend_rule : (s s' : Span) (u v : Token × ((Token × List Token) × RuleTree)) → both alike (both (both alike (in_list alike)) same_rule) u v
    → same_rule (extend_of s' u) (extend_of s v)
unfolding bare_rule is_closed
same_extend_rule s s' (t, ((x, xs), r)) (t', ((x', xs'), r')) h = (
  folded-Extend _ _ t x xs r s'
      ∙ (λ i. rules.Extend (same_token t t' h.0 i) (same_token x x' h.1.0.0 i) (same_tokens xs xs' h.1.0.1 i) (h.1.1.0 i) here)
      ∙ sym (folded-Extend _ _ t' x' xs' r' s),
  folded-Extend _ _ t x xs r s' ∙ h.1.1.1 ∙ sym (folded-Extend _ _ t' x' xs' r' s),
)

pub same_case_of : (u v : TermTree × RuleTree) → both same_term same_rule u v → same_rule_case (case_of u) (case_of v)
unfolding bare_rule
same_case_of (t, r) (t', r') h =
    folded-case _ _ t r ∙ (λ i. roll-RuleCaseTree (record { value = h.0.0 i; rule = h.1.0 i })) ∙ sym (folded-case _ _ t' r')

-- ---- the words of rules

abbrev pub use_words : Use → Words
use_words (Calls args) = codes "[" ∷ if_there [] terms_words args ++ codes "]" ∷ []
use_words (Updates (args, value)) = if_there [] (λ a. codes "(" ∷ terms_words a ++ codes ")" ∷ []) args ++ codes ":=" ∷ term_words value

pub words-skip : (s : Span) → rule_words (rules.Skip s) ≡ codes "skip" ∷ []
unfolding rule_words
words-skip s = folded-Skip _ _ s

pub words-use_of : (s : Span) (v : Token × Use) → rule_words (use_of s v) ≡ word_of v.0 ∷ use_words v.1
unfolding rule_words
words-use_of s (t, Calls a) = folded-Call _ _ t a s
words-use_of s (t, Updates (None, x)) = folded-Update _ _ t None x s
words-use_of s (t, Updates (Some a, x)) =
    folded-Update _ _ t (Some a) x s ∙ ap (λ ws. word_of t ∷ ws) (sym (append_assoc (codes "(" ∷ terms_words a) (codes ")" ∷ []) (codes ":=" ∷ term_words x)))

pub words-par_rule : (s : Span) (v : RuleTree × List RuleTree)
    → rule_words (rules.Par v.0 v.1 s) ≡ codes "par" ∷ (rule_words v.0 ++ written_all rule_words v.1) ++ codes "endpar" ∷ []
unfolding rule_words
words-par_rule s (r, rs) = folded-Par _ _ r rs s ∙ ap (λ ws. codes "par" ∷ (rule_words r ++ ws) ++ codes "endpar" ∷ []) (all_own rule_words rs)

pub words-seq_rule : (s : Span) (v : RuleTree × List RuleTree)
    → rule_words (rules.Seq v.0 v.1 s) ≡ codes "seq" ∷ (rule_words v.0 ++ written_all rule_words v.1) ++ codes "endseq" ∷ []
unfolding rule_words
words-seq_rule s (r, rs) = folded-Seq _ _ r rs s ∙ ap (λ ws. codes "seq" ∷ (rule_words r ++ ws) ++ codes "endseq" ∷ []) (all_own rule_words rs)

pub words-if_rule : (s : Span) (v : TermTree × (RuleTree × Option RuleTree))
    → rule_words (rules.If v.0 v.1.0 v.1.1 s)
    ≡ codes "if" ∷ (term_words v.0 ++ (codes "then" ∷ rule_words v.1.0 ++ if_there [] (λ r. codes "else" ∷ rule_words r) v.1.1)) ++ codes "endif" ∷ []
unfolding rule_words
words-if_rule s (g, (r, None)) =
    folded-If _ _ g r None s ∙ ap (λ ws. codes "if" ∷ ws ++ codes "endif" ∷ []) (append_assoc (term_words g) (codes "then" ∷ rule_words r) [])
words-if_rule s (g, (r, Some o)) =
    folded-If _ _ g r (Some o) s
    ∙ ap (λ ws. codes "if" ∷ ws ++ codes "endif" ∷ []) (append_assoc (term_words g) (codes "then" ∷ rule_words r) (codes "else" ∷ rule_words o))

-- a guard after its word
abbrev pub guarded : Option TermTree → Words
guarded g = if_there [] (λ t. codes "with" ∷ term_words t) g

guard_is : (g : Option TermTree) → guard_words g ≡ guarded g
guard_is None = refl
guard_is (Some t) = refl

pub words-forall : (s : Span) (v : RangesTree × (Option TermTree × RuleTree))
    → rule_words (rules.Forall v.0 v.1.0 v.1.1 s) ≡ codes "forall" ∷ (ranges_words v.0 ++ (guarded v.1.0 ++ codes "do" ∷ rule_words v.1.1))
unfolding rule_words
words-forall s (q, (g, r)) =
    folded-Forall _ _ q g r s
    ∙ ap (λ ws. codes "forall" ∷ ranges_words q ++ ws ++ codes "do" ∷ rule_words r) (guard_is g)
    ∙ ap (λ ws. codes "forall" ∷ ws) (append_assoc (ranges_words q) (guarded g) (codes "do" ∷ rule_words r))

choose_rule_words : (q g r o : Words) → q ++ g ++ r ++ o ≡ q ++ (g ++ (r ++ o))
choose_rule_words q g r o = append_assoc (q ++ g) r o ∙ append_assoc q g (r ++ o)

pub words-choose_rule : (s : Span) (v : RangesTree × (Option TermTree × (RuleTree × Option RuleTree)))
    → rule_words (choose_of s v)
    ≡ codes "choose"
    ∷ (ranges_words v.0 ++ (guarded v.1.0 ++ codes "do" ∷ (rule_words v.1.1.0 ++ if_there [] (λ r. codes "ifnone" ∷ rule_words r) v.1.1.1)))
unfolding rule_words
words-choose_rule s (q, (g, (r, None))) =
    folded-Choose _ _ q g r None s
    ∙ ap (λ ws. codes "choose" ∷ ranges_words q ++ ws ++ codes "do" ∷ rule_words r ++ []) (guard_is g)
    ∙ ap (λ ws. codes "choose" ∷ ws) (choose_rule_words (ranges_words q) (guarded g) (codes "do" ∷ rule_words r) [])
words-choose_rule s (q, (g, (r, Some o))) =
    folded-Choose _ _ q g r (Some o) s
    ∙ ap (λ ws. codes "choose" ∷ ranges_words q ++ ws ++ codes "do" ∷ rule_words r ++ codes "ifnone" ∷ rule_words o) (guard_is g)
    ∙ ap (λ ws. codes "choose" ∷ ws) (choose_rule_words (ranges_words q) (guarded g) (codes "do" ∷ rule_words r) (codes "ifnone" ∷ rule_words o))

pub words-let_rule : (s : Span) (v : BindsTree × RuleTree)
    → rule_words (rules.Let v.0 v.1 s) ≡ codes "let" ∷ (binds_words v.0 ++ codes "in" ∷ rule_words v.1) ++ codes "endlet" ∷ []
unfolding rule_words
words-let_rule s (b, r) = folded-Let _ _ b r s

switch_rule_words : (t : TermTree) (cs : List RuleCaseTree) (ws : Words)
    → ((codes "switch" ∷ term_words t) ++ written_all own (map rule_case_words cs) ++ ws) ++ codes "endswitch" ∷ []
    ≡ codes "switch" ∷ (term_words t ++ (written_all rule_case_words cs ++ ws)) ++ codes "endswitch" ∷ []
switch_rule_words t cs ws =
    ap (λ x. ((codes "switch" ∷ term_words t) ++ x ++ ws) ++ codes "endswitch" ∷ []) (all_own rule_case_words cs)
    ∙ ap (λ x. codes "switch" ∷ x ++ codes "endswitch" ∷ []) (append_assoc (term_words t) (written_all rule_case_words cs) ws)

pub words-switch_rule : (s : Span) (v : TermTree × (List RuleCaseTree × Option RuleTree))
    → rule_words (rules.Switch v.0 v.1.0 v.1.1 s)
    ≡ codes "switch" ∷ (term_words v.0 ++ (written_all rule_case_words v.1.0 ++ if_there [] (λ r. codes "otherwise" ∷ rule_words r) v.1.1)) ++ codes "endswitch" ∷ []
unfolding rule_words
words-switch_rule s (t, (cs, None)) = folded-Switch _ _ t cs None s ∙ switch_rule_words t cs []
words-switch_rule s (t, (cs, Some o)) = folded-Switch _ _ t cs (Some o) s ∙ switch_rule_words t cs (codes "otherwise" ∷ rule_words o)

pub words-extend_rule : (s : Span) (v : Token × ((Token × List Token) × RuleTree))
    → rule_words (extend_of s v)
    ≡ codes "extend" ∷ word_of v.0 ∷ codes "with" ∷ ((word_of v.1.0.0 ∷ after_each comma single v.1.0.1) ++ codes "do" ∷ rule_words v.1.1)
unfolding rule_words
words-extend_rule s (t, ((x, xs), r)) = folded-Extend _ _ t x xs r s

pub words-case : (v : TermTree × RuleTree) → rule_case_words (case_of v) ≡ codes "case" ∷ (term_words v.0 ++ codes ":" ∷ rule_words v.1)
unfolding rule_words
words-case (t, r) = folded-case _ _ t r
