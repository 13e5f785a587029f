-- A term with another span is the same term.
use Rattle.std.proofs.Common.{◌≡◌, true, false, refl, subst}
use Rattle.asm_syntax.specs.declared.token.Span.{Span}
use Rattle.asm_syntax.specs.declared.tree.TermTree.{TermTree}
use Rattle.asm_syntax.specs.declared.tree.TermTree.TheOpen.{TermTree-F}
use Rattle.asm_syntax.specs.declared.tree.TermTree.TheViews.{out-TermTree, roll-TermTree, roll-out-TermTree}
use Rattle.asm_syntax.specs.Heights.{height}
use Rattle.asm_syntax.specs.Extents.{Parts, with_among, with_extent}
use Rattle.asm_syntax.specs.Written.{term_writing}
use Rattle.asm_print_theory.specs.Bare.{bare_term}
use Rattle.asm_print_theory.proofs.Same.{same_term}
use Rattle.asm_print_theory.proofs.Folds.{on-Prefix, on-Binary, on-Number, on-Chars, on-True, on-False, on-Undef, on-Var, on-Name, on-Tuple, on-Forall, on-Exist, on-Interval, on-Set, on-Seq, on-If, on-Let, on-Switch}

-- the same, and written in the same words
abbrev Kept : TermTree → TermTree → Type 0
Kept t u = same_term t u × (term_writing t ≡ term_writing u)

kept_among : (s : Span) (d : Parts) → Kept (with_among s d) (roll-TermTree d)
unfolding bare_term height term_writing roll-TermTree denote.Hole.Carrier.roll
kept_among s (TermTree-F.Prefix op t s') = ((on-Prefix _ _ _ _ _ s' s op t t refl refl, on-Prefix _ _ _ _ _ s' s op t t refl refl), on-Prefix _ _ _ _ _ s' s op t t refl refl)
kept_among s (TermTree-F.Binary l op r s') = ((on-Binary _ _ _ _ _ s' s l l op r r refl refl refl, on-Binary _ _ _ _ _ s' s l l op r r refl refl refl), on-Binary _ _ _ _ _ s' s l l op r r refl refl refl)
kept_among s (TermTree-F.Number t s') = ((on-Number _ _ _ _ _ s' s t refl, on-Number _ _ _ _ _ s' s t refl), on-Number _ _ _ _ _ s' s t refl)
kept_among s (TermTree-F.Chars t s') = ((on-Chars _ _ _ _ _ s' s t refl, on-Chars _ _ _ _ _ s' s t refl), on-Chars _ _ _ _ _ s' s t refl)
kept_among s (TermTree-F.True s') = ((on-True _ _ _ _ _ s' s refl, on-True _ _ _ _ _ s' s refl), on-True _ _ _ _ _ s' s refl)
kept_among s (TermTree-F.False s') = ((on-False _ _ _ _ _ s' s refl, on-False _ _ _ _ _ s' s refl), on-False _ _ _ _ _ s' s refl)
kept_among s (TermTree-F.Undef s') = ((on-Undef _ _ _ _ _ s' s refl, on-Undef _ _ _ _ _ s' s refl), on-Undef _ _ _ _ _ s' s refl)
kept_among s (TermTree-F.Var t s') = ((on-Var _ _ _ _ _ s' s t refl, on-Var _ _ _ _ _ s' s t refl), on-Var _ _ _ _ _ s' s t refl)
kept_among s (TermTree-F.Name t a s') = ((on-Name _ _ _ _ _ s' s t a a refl refl, on-Name _ _ _ _ _ s' s t a a refl refl), on-Name _ _ _ _ _ s' s t a a refl refl)
kept_among s (TermTree-F.Tuple t s') = ((on-Tuple _ _ _ _ _ s' s t t refl refl, on-Tuple _ _ _ _ _ s' s t t refl refl), on-Tuple _ _ _ _ _ s' s t t refl refl)
kept_among s (TermTree-F.Forall r t s') = ((on-Forall _ _ _ _ _ s' s r t t refl refl, on-Forall _ _ _ _ _ s' s r t t refl refl), on-Forall _ _ _ _ _ s' s r t t refl refl)
kept_among s (TermTree-F.Exist false r t s') = ((on-Exist _ _ _ _ _ s' s false r t t refl refl, on-Exist _ _ _ _ _ s' s false r t t refl refl), on-Exist _ _ _ _ _ s' s false r t t refl refl)
kept_among s (TermTree-F.Exist true r t s') = ((on-Exist _ _ _ _ _ s' s true r t t refl refl, on-Exist _ _ _ _ _ s' s true r t t refl refl), on-Exist _ _ _ _ _ s' s true r t t refl refl)
kept_among s (TermTree-F.Interval x y s') = ((on-Interval _ _ _ _ _ s' s x x y y refl refl refl, on-Interval _ _ _ _ _ s' s x x y y refl refl refl), on-Interval _ _ _ _ _ s' s x x y y refl refl refl)
kept_among s (TermTree-F.Set a s') = ((on-Set _ _ _ _ _ s' s a a refl refl, on-Set _ _ _ _ _ s' s a a refl refl), on-Set _ _ _ _ _ s' s a a refl refl)
kept_among s (TermTree-F.Seq a s') = ((on-Seq _ _ _ _ _ s' s a a refl refl, on-Seq _ _ _ _ _ s' s a a refl refl), on-Seq _ _ _ _ _ s' s a a refl refl)
kept_among s (TermTree-F.If g t o s') = ((on-If _ _ _ _ _ s' s g g t t o o refl refl refl refl, on-If _ _ _ _ _ s' s g g t t o o refl refl refl refl), on-If _ _ _ _ _ s' s g g t t o o refl refl refl refl)
kept_among s (TermTree-F.Let b t s') = ((on-Let _ _ _ _ _ s' s b b t t refl refl refl, on-Let _ _ _ _ _ s' s b b t t refl refl refl), on-Let _ _ _ _ _ s' s b b t t refl refl refl)
kept_among s (TermTree-F.Switch t cs o s') = ((on-Switch _ _ _ _ _ s' s t t cs cs o o refl refl refl refl, on-Switch _ _ _ _ _ s' s t t cs cs o o refl refl refl refl), on-Switch _ _ _ _ _ s' s t t cs cs o o refl refl refl refl)

kept : (s : Span) (t : TermTree) → Kept (with_extent s t) t
unfolding with_extent
kept s t = subst (λ (u : TermTree). Kept (with_among s (out-TermTree t)) u) (roll-out-TermTree t) (kept_among s (out-TermTree t))

pub same_extent : (s : Span) (t : TermTree) → same_term (with_extent s t) t
same_extent s t = (kept s t).0

pub words-extent : (s : Span) (t : TermTree) → term_writing (with_extent s t) ≡ term_writing t
words-extent s t = (kept s t).1
