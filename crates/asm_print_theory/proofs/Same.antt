-- Terms that are the same apart from their spans, by their forms.
use Rattle.std.proofs.Common.{◌≡◌, ℕ, suc, Bool, true, false, List, [], ◌∷◌, map, sym, refl, ap, ◌∙◌}
use Rattle.std.specs.Prelude.{Option, Some, None, nat_lt}
use Rattle.std.specs.Option.{option_map}
use Rattle.asm_syntax.specs.declared.token.Span.{Span}
use Rattle.asm_syntax.specs.declared.token.Token.{Token}
use Rattle.asm_syntax.specs.declared.tree.RangesTree.{RangesTree}
use Rattle.asm_syntax.specs.declared.tree.TermTree.{TermTree}
use Rattle.asm_syntax.specs.declared.tree.TermsTree.{TermsTree}
use Rattle.asm_syntax.specs.declared.tree.BindTree.{BindTree}
use Rattle.asm_syntax.specs.declared.tree.BindsTree.{BindsTree}
use Rattle.asm_syntax.specs.declared.tree.CaseTree.{CaseTree}
use Rattle.asm_syntax.specs.declared.tree.TermTree.TheVariants as terms
use Rattle.asm_syntax.specs.declared.tree.TermTree.TheViews.{roll-BindTree}
use Rattle.asm_syntax.specs.Marks.{text_of, kind_text}
use Rattle.asm_syntax.specs.Forms.{Rest, To, And}
use Rattle.asm_syntax.specs.Heights.{height, term_step, bind_step, binds_step, case_step, terms_step, above, fits}
use Rattle.asm_syntax.specs.Terms.{terms_of, bind_of, binds_of, case_of, prefix_of, tuple_of, set_of, exist_of}
use Rattle.asm_print_theory.specs.Bare.{bare_term, bare_terms, bare_binds, bare_term_step, bare_bind_step, bare_binds_step, bare_case_step, bare_terms_step, here}
use Rattle.asm_print_theory.proofs.Back.{alike, whatever, both, in_option, in_list}
use Rattle.asm_print_theory.proofs.Rows.{in_rest}
use Rattle.asm_print_theory.proofs.Domains.{same_token, same_ranges}
use Rattle.asm_print_theory.proofs.Folds.{folded_bind, folded_binds, folded_case, folded_terms, folded-Number, folded-Chars, folded-Var, folded-Name, folded-Forall, folded-Exist, folded-bind, folded-binds, folded-case, folded-terms, on-Prefix, on-Binary, on-True, on-False, on-Undef, on-Tuple, on-Interval, on-Set, on-Seq, on-If, on-Let, on-Switch}

-- two values of which both functions give the same
abbrev pub twice : {V A B : Type 0} → (V → A) → (V → B) → V → V → Type 0
twice f g u v = (f u ≡ f v) × (g u ≡ g v)

module _ {V A B : Type 0} (f : V → A) (g : V → B) where
  pub map_first : (us vs : List V) → in_list (twice f g) us vs → map f us ≡ map f vs
  map_first [] [] h = refl
  map_first [] (v ∷ vs) h = absurd h
  map_first (u ∷ us) [] h = absurd h
  map_first (u ∷ us) (v ∷ vs) h = λ i. h.0.0 i ∷ map_first us vs h.1 i

  pub map_second : (us vs : List V) → in_list (twice f g) us vs → map g us ≡ map g vs
  map_second [] [] h = refl
  map_second [] (v ∷ vs) h = absurd h
  map_second (u ∷ us) [] h = absurd h
  map_second (u ∷ us) (v ∷ vs) h = λ i. h.0.1 i ∷ map_second us vs h.1 i

  pub option_first : (u v : Option V) → in_option (twice f g) u v → option_map f u ≡ option_map f v
  option_first None None h = refl
  option_first None (Some v) h = absurd h
  option_first (Some u) None h = absurd h
  option_first (Some u) (Some v) h = ap Some h.0

  pub option_second : (u v : Option V) → in_option (twice f g) u v → option_map g u ≡ option_map g v
  option_second None None h = refl
  option_second None (Some v) h = absurd h
  option_second (Some u) None h = absurd h
  option_second (Some u) (Some v) h = ap Some h.1

abbrev pub bare_bind : BindTree → BindTree
bare_bind = folded_bind bare_term_step bare_bind_step bare_binds_step bare_case_step bare_terms_step

abbrev pub bare_case : CaseTree → CaseTree
bare_case = folded_case bare_term_step bare_bind_step bare_binds_step bare_case_step bare_terms_step

abbrev pub bind_height : BindTree → ℕ
bind_height = folded_bind term_step bind_step binds_step case_step terms_step

abbrev pub binds_height : BindsTree → ℕ
binds_height = folded_binds term_step bind_step binds_step case_step terms_step

abbrev pub case_height : CaseTree → ℕ
case_height = folded_case term_step bind_step binds_step case_step terms_step

abbrev pub terms_height : TermsTree → ℕ
terms_height = folded_terms term_step bind_step binds_step case_step terms_step

-- the same apart from spans, and as high
abbrev pub same_term : TermTree → TermTree → Type 0
same_term = twice bare_term height

abbrev pub same_terms : TermsTree → TermsTree → Type 0
same_terms = twice bare_terms terms_height

abbrev pub same_bind : BindTree → BindTree → Type 0
same_bind = twice bare_bind bind_height

abbrev pub same_binds : BindsTree → BindsTree → Type 0
same_binds = twice bare_binds binds_height

abbrev pub same_case : CaseTree → CaseTree → Type 0
same_case = twice bare_case case_height

pub same_fits : (t u : TermTree) → same_term t u → fits u ≡ true → fits t ≡ true
unfolding fits
same_fits t u h f = ap (λ n. nat_lt n 64) h.1 ∙ f

-- ---- forms without parts

pub same_number : (s s' : Span) (t u : Token) → alike t u → same_term (terms.Number t s') (terms.Number u s)
unfolding bare_term height
same_number s s' t u e = (
  folded-Number _ _ _ _ _ t s' ∙ ap (λ x. terms.Number x here) (same_token t u e) ∙ sym (folded-Number _ _ _ _ _ u s),
  folded-Number _ _ _ _ _ t s' ∙ sym (folded-Number _ _ _ _ _ u s),
)

pub same_chars : (s s' : Span) (t u : Token) → alike t u → same_term (terms.Chars t s') (terms.Chars u s)
unfolding bare_term height
same_chars s s' t u e = (
  folded-Chars _ _ _ _ _ t s' ∙ ap (λ x. terms.Chars x here) (same_token t u e) ∙ sym (folded-Chars _ _ _ _ _ u s),
  folded-Chars _ _ _ _ _ t s' ∙ sym (folded-Chars _ _ _ _ _ u s),
)

pub same_var : (s s' : Span) (t u : Token) → alike t u → same_term (terms.Var t s') (terms.Var u s)
unfolding bare_term height
same_var s s' t u e = (
  folded-Var _ _ _ _ _ t s' ∙ ap (λ x. terms.Var x here) (same_token t u e) ∙ sym (folded-Var _ _ _ _ _ u s),
  folded-Var _ _ _ _ _ t s' ∙ sym (folded-Var _ _ _ _ _ u s),
)

pub same_true : (s s' : Span) → same_term (terms.True s') (terms.True s)
unfolding bare_term height
same_true s s' = (on-True _ _ _ _ _ s s' refl, on-True _ _ _ _ _ s s' refl)

pub same_false : (s s' : Span) → same_term (terms.False s') (terms.False s)
unfolding bare_term height
same_false s s' = (on-False _ _ _ _ _ s s' refl, on-False _ _ _ _ _ s s' refl)

pub same_undef : (s s' : Span) → same_term (terms.Undef s') (terms.Undef s)
unfolding bare_term height
same_undef s s' = (on-Undef _ _ _ _ _ s s' refl, on-Undef _ _ _ _ _ s s' refl)

-- ---- lists, binds and cases

pub same_terms_of : (u v : TermTree × List TermTree) → both same_term (in_list same_term) u v → same_terms (terms_of u) (terms_of v)
unfolding bare_term bare_terms height
same_terms_of (t, ts) (t', ts') h = (
  folded-terms _ _ _ _ _ t ts ∙ (λ i. bare_terms_step (record { first = h.0.0 i; others = map_first bare_term height ts ts' h.1 i })) ∙ sym (folded-terms _ _ _ _ _ t' ts'),
  folded-terms _ _ _ _ _ t ts ∙ (λ i. terms_step (record { first = h.0.1 i; others = map_second bare_term height ts ts' h.1 i })) ∙ sym (folded-terms _ _ _ _ _ t' ts'),
)

pub same_bind_of : (u v : Token × TermTree) → both alike same_term u v → same_bind (bind_of u) (bind_of v)
unfolding bare_term height
same_bind_of (x, t) (x', t') h = (
  folded-bind _ _ _ _ _ x t
      ∙ (λ i. roll-BindTree (record { variable = same_token x x' h.0 i; value = h.1.0 i }))
      ∙ sym (folded-bind _ _ _ _ _ x' t'),
  folded-bind _ _ _ _ _ x t ∙ h.1.1 ∙ sym (folded-bind _ _ _ _ _ x' t'),
)

pub same_binds_of : (s s' : Span) (u v : BindTree × List BindTree) → both same_bind (in_list same_bind) u v → same_binds (binds_of s' u) (binds_of s v)
unfolding bare_binds
same_binds_of s s' (b, bs) (b', bs') h = (
  folded-binds _ _ _ _ _ b bs s'
      ∙ (λ i. bare_binds_step (record { first = h.0.0 i; others = map_first bare_bind bind_height bs bs' h.1 i; span = s' }))
      ∙ sym (folded-binds _ _ _ _ _ b' bs' s),
  folded-binds _ _ _ _ _ b bs s'
      ∙ (λ i. binds_step (record { first = h.0.1 i; others = map_second bare_bind bind_height bs bs' h.1 i; span = s' }))
      ∙ sym (folded-binds _ _ _ _ _ b' bs' s),
)

pub same_case_of : (u v : TermTree × TermTree) → both same_term same_term u v → same_case (case_of u) (case_of v)
unfolding bare_term height
same_case_of (x, t) (x', t') h = (
  folded-case _ _ _ _ _ x t ∙ (λ i. bare_case_step (record { value = h.0.0 i; term = h.1.0 i })) ∙ sym (folded-case _ _ _ _ _ x' t'),
  folded-case _ _ _ _ _ x t ∙ (λ i. case_step (record { value = h.0.1 i; term = h.1.1 i })) ∙ sym (folded-case _ _ _ _ _ x' t'),
)

-- ---- forms with parts

pub same_prefix : (s s' : Span) (u v : Token × TermTree) → both alike same_term u v → same_term (prefix_of s' u) (prefix_of s v)
unfolding bare_term height
same_prefix s s' (o, t) (o', t') h = (
  ap (λ k. bare_term (terms.Prefix (kind_text k) t s')) h.0 ∙ on-Prefix _ _ _ _ _ s s' (text_of o') t t' h.1.0 refl,
  ap (λ k. height (terms.Prefix (kind_text k) t s')) h.0 ∙ on-Prefix _ _ _ _ _ s s' (text_of o') t t' h.1.1 refl,
)

pub same_binary : (s s' : Span) (t t' : TermTree) (o o' : Token) (r r' : TermTree) → same_term t t' → alike o o' → same_term r r'
    → same_term (terms.Binary t (text_of o) r s') (terms.Binary t' (text_of o') r' s)
unfolding bare_term height
same_binary s s' t t' o o' r r' h e k = (
  ap (λ x. bare_term (terms.Binary t (kind_text x) r s')) e ∙ on-Binary _ _ _ _ _ s s' t t' (text_of o') r r' h.0 k.0 refl,
  ap (λ x. height (terms.Binary t (kind_text x) r s')) e ∙ on-Binary _ _ _ _ _ s s' t t' (text_of o') r r' h.1 k.1 refl,
)

pub same_name : (s s' : Span) (u v : Token × Option TermsTree) → both alike (in_option same_terms) u v
    → same_term (terms.Name u.0 u.1 s') (terms.Name v.0 v.1 s)
unfolding bare_term bare_terms height
same_name s s' (t, a) (t', a') h = (
  folded-Name _ _ _ _ _ t a s'
      ∙ (λ i. terms.Name (same_token t t' h.0 i) (option_first bare_terms terms_height a a' h.1 i) here)
      ∙ sym (folded-Name _ _ _ _ _ t' a' s),
  folded-Name _ _ _ _ _ t a s' ∙ ap above (option_second bare_terms terms_height a a' h.1) ∙ sym (folded-Name _ _ _ _ _ t' a' s),
)

pub same_tuple : (s s' : Span) (t t' : TermsTree) → same_terms t t' → same_term (terms.Tuple t s') (terms.Tuple t' s)
unfolding bare_term bare_terms height
same_tuple s s' t t' h = (on-Tuple _ _ _ _ _ s s' t t' h.0 refl, on-Tuple _ _ _ _ _ s s' t t' h.1 refl)

pub same_forall : (s s' : Span) (u v : RangesTree × TermTree) → both same_ranges same_term u v → same_term (terms.Forall u.0 u.1 s') (terms.Forall v.0 v.1 s)
unfolding bare_term height
same_forall s s' (r, t) (r', t') h = (
  folded-Forall _ _ _ _ _ r t s' ∙ (λ i. terms.Forall (h.0 i) (h.1.0 i) here) ∙ sym (folded-Forall _ _ _ _ _ r' t' s),
  folded-Forall _ _ _ _ _ r t s' ∙ ap suc h.1.1 ∙ sym (folded-Forall _ _ _ _ _ r' t' s),
)

pub same_exist : (s s' : Span) (unique : Bool) (r r' : RangesTree) (t t' : TermTree) → same_ranges r r' → same_term t t'
    → same_term (terms.Exist unique r t s') (terms.Exist unique r' t' s)
unfolding bare_term height
same_exist s s' u r r' t t' e h = (
  folded-Exist _ _ _ _ _ u r t s' ∙ (λ i. terms.Exist u (e i) (h.0 i) here) ∙ sym (folded-Exist _ _ _ _ _ u r' t' s),
  folded-Exist _ _ _ _ _ u r t s' ∙ ap suc h.1 ∙ sym (folded-Exist _ _ _ _ _ u r' t' s),
)

pub same_exist_of : (s s' : Span) (u v : Option Token × (RangesTree × TermTree)) → both (in_option whatever) (both same_ranges same_term) u v
    → same_term (exist_of s' u) (exist_of s v)
same_exist_of s s' (None, (r, t)) (None, (r', t')) h = same_exist s s' false r r' t t' h.1.0 h.1.1
same_exist_of s s' (Some x, (r, t)) (Some x', (r', t')) h = same_exist s s' true r r' t t' h.1.0 h.1.1
same_exist_of s s' (None, (r, t)) (Some x', (r', t')) h = absurd h.0
same_exist_of s s' (Some x, (r, t)) (None, (r', t')) h = absurd h.0

pub same_interval : (s s' : Span) (x x' y y' : TermTree) → same_term x x' → same_term y y' → same_term (terms.Interval x y s') (terms.Interval x' y' s)
unfolding bare_term height
same_interval s s' x x' y y' h k = (on-Interval _ _ _ _ _ s s' x x' y y' h.0 k.0 refl, on-Interval _ _ _ _ _ s s' x x' y y' h.1 k.1 refl)

pub same_set : (s s' : Span) (a a' : Option TermsTree) → in_option same_terms a a' → same_term (terms.Set a s') (terms.Set a' s)
unfolding bare_term bare_terms height
same_set s s' a a' h =
    (on-Set _ _ _ _ _ s s' a a' (option_first bare_terms terms_height a a' h) refl, on-Set _ _ _ _ _ s s' a a' (option_second bare_terms terms_height a a' h) refl)

pub same_seq : (s s' : Span) (a a' : Option TermsTree) → in_option same_terms a a' → same_term (terms.Seq a s') (terms.Seq a' s)
unfolding bare_term bare_terms height
same_seq s s' a a' h =
    (on-Seq _ _ _ _ _ s s' a a' (option_first bare_terms terms_height a a' h) refl, on-Seq _ _ _ _ _ s s' a a' (option_second bare_terms terms_height a a' h) refl)

pub same_set_of : (s s' : Span) (u v : Option (TermTree × Option (Rest TermTree))) → in_option (both same_term (in_option (in_rest same_term))) u v
    → same_term (set_of s' u) (set_of s v)
same_set_of s s' None None h = same_set s s' None None tt
same_set_of s s' None (Some v) h = absurd h
same_set_of s s' (Some u) None h = absurd h
same_set_of s s' (Some (t, None)) (Some (t', None)) h = same_set s s' (Some (terms_of (t, []))) (Some (terms_of (t', []))) (same_terms_of (t, []) (t', []) (h.0, tt))
same_set_of s s' (Some (t, None)) (Some (t', Some r')) h = absurd h.1
same_set_of s s' (Some (t, Some r)) (Some (t', None)) h = absurd h.1
same_set_of s s' (Some (t, Some (To l))) (Some (t', Some (To l'))) h = same_interval s s' t t' l l' h.0 h.1
same_set_of s s' (Some (t, Some (To l))) (Some (t', Some (And ts'))) h = absurd h.1
same_set_of s s' (Some (t, Some (And ts))) (Some (t', Some (To l'))) h = absurd h.1
same_set_of s s' (Some (t, Some (And ts))) (Some (t', Some (And ts'))) h = same_set s s' (Some (terms_of (t, ts))) (Some (terms_of (t', ts'))) (same_terms_of (t, ts) (t', ts') h)

pub same_tuple_of : (s s' : Span) (u v : TermTree × List TermTree) → both same_term (in_list same_term) u v → same_term (tuple_of s' u) (tuple_of s v)
same_tuple_of s s' (t, []) (t', []) h = h.0
same_tuple_of s s' (t, []) (t', x ∷ ts') h = absurd h.1
same_tuple_of s s' (t, x ∷ ts) (t', []) h = absurd h.1
same_tuple_of s s' (t, x ∷ ts) (t', x' ∷ ts') h = same_tuple s s' _ _ (same_terms_of (t, x ∷ ts) (t', x' ∷ ts') h)

pub same_if_term : (s s' : Span) (u v : TermTree × (TermTree × Option TermTree)) → both same_term (both same_term (in_option same_term)) u v
    → same_term (terms.If u.0 u.1.0 u.1.1 s') (terms.If v.0 v.1.0 v.1.1 s)
unfolding bare_term height
same_if_term s s' (g, (t, o)) (g', (t', o')) h = (
  on-If _ _ _ _ _ s s' g g' t t' o o' h.0.0 h.1.0.0 (option_first bare_term height o o' h.1.1) refl,
  on-If _ _ _ _ _ s s' g g' t t' o o' h.0.1 h.1.0.1 (option_second bare_term height o o' h.1.1) refl,
)

pub same_let_term : (s s' : Span) (u v : BindsTree × TermTree) → both same_binds same_term u v → same_term (terms.Let u.0 u.1 s') (terms.Let v.0 v.1 s)
unfolding bare_term bare_binds height
same_let_term s s' (b, t) (b', t') h = (on-Let _ _ _ _ _ s s' b b' t t' h.0.0 h.1.0 refl, on-Let _ _ _ _ _ s s' b b' t t' h.0.1 h.1.1 refl)

pub same_switch_term : (s s' : Span) (u v : TermTree × (List CaseTree × Option TermTree)) → both same_term (both (in_list same_case) (in_option same_term)) u v
    → same_term (terms.Switch u.0 u.1.0 u.1.1 s') (terms.Switch v.0 v.1.0 v.1.1 s)
unfolding bare_term height
same_switch_term s s' (t, (cs, o)) (t', (cs', o')) h = (
  on-Switch _ _ _ _ _ s s' t t' cs cs' o o' h.0.0 (map_first bare_case case_height cs cs' h.1.0) (option_first bare_term height o o' h.1.1) refl,
  on-Switch _ _ _ _ _ s s' t t' cs cs' o o' h.0.1 (map_second bare_case case_height cs cs' h.1.0) (option_second bare_term height o o' h.1.1) refl,
)
