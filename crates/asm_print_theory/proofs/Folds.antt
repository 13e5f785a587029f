-- What a fold over terms gives at each form.
use Rattle.std.proofs.Common.{◌≡◌, ℕ, Bool, List, map, sym, ◌∙◌}
use Rattle.std.specs.Prelude.{Option, Some, None}
use Rattle.std.specs.Option.{option_map}
use Rattle.asm_syntax.specs.declared.token.Span.{Span}
use Rattle.asm_syntax.specs.declared.token.Token.{Token}
use Rattle.asm_syntax.specs.declared.tree.RangesTree.{RangesTree}
use Rattle.asm_syntax.specs.declared.tree.TermTree.{TermTree}
use Rattle.asm_syntax.specs.declared.tree.TermsTree.{TermsTree}
use Rattle.asm_syntax.specs.declared.tree.BindTree.{BindTree}
use Rattle.asm_syntax.specs.declared.tree.BindsTree.{BindsTree}
use Rattle.asm_syntax.specs.declared.tree.CaseTree.{CaseTree}
use Rattle.asm_syntax.specs.declared.tree.TermTree.TheOpen.{TermTree-F, TermsTree-F, BindTree-F, BindsTree-F, CaseTree-F}
use Rattle.asm_syntax.specs.declared.tree.TermTree.TheVariants as terms
use Rattle.asm_syntax.specs.declared.tree.TermTree.TheFolds.{fold-TermTree, fold-TermsTree, fold-BindTree, fold-BindsTree, fold-CaseTree, fold-roll-TermTree, fold-roll-TermsTree, fold-roll-BindTree, fold-roll-BindsTree, fold-roll-CaseTree}
use Rattle.asm_syntax.specs.declared.tree.TermTree.TheViews.{roll-TermTree, roll-TermsTree, roll-BindTree, roll-BindsTree, roll-CaseTree}

module _ {A B C D E : Type 0} (term : TermTree-F A B C D E → A) (bind : BindTree-F A B C D E → B) (binds : BindsTree-F A B C D E → C)
    (case : CaseTree-F A B C D E → D) (several : TermsTree-F A B C D E → E) where
  abbrev pub folded : TermTree → A
  folded = fold-TermTree A B C D E term bind binds case several

  abbrev pub folded_bind : BindTree → B
  folded_bind = fold-BindTree A B C D E term bind binds case several

  abbrev pub folded_binds : BindsTree → C
  folded_binds = fold-BindsTree A B C D E term bind binds case several

  abbrev pub folded_case : CaseTree → D
  folded_case = fold-CaseTree A B C D E term bind binds case several

  abbrev pub folded_terms : TermsTree → E
  folded_terms = fold-TermsTree A B C D E term bind binds case several

  pub folded-Prefix : (op : List ℕ) (t : TermTree) (s : Span) → folded (terms.Prefix op t s) ≡ term (TermTree-F.Prefix op (folded t) s)
  unfolding roll-TermTree denote.Hole.Carrier.roll
  folded-Prefix op t s = fold-roll-TermTree A B C D E term bind binds case several (TermTree-F.Prefix op t s)

  pub folded-Binary : (l : TermTree) (op : List ℕ) (r : TermTree) (s : Span) → folded (terms.Binary l op r s) ≡ term (TermTree-F.Binary (folded l) op (folded r) s)
  unfolding roll-TermTree denote.Hole.Carrier.roll
  folded-Binary l op r s = fold-roll-TermTree A B C D E term bind binds case several (TermTree-F.Binary l op r s)

  pub folded-Number : (t : Token) (s : Span) → folded (terms.Number t s) ≡ term (TermTree-F.Number t s)
  unfolding roll-TermTree denote.Hole.Carrier.roll
  folded-Number t s = fold-roll-TermTree A B C D E term bind binds case several (TermTree-F.Number t s)

  pub folded-Chars : (t : Token) (s : Span) → folded (terms.Chars t s) ≡ term (TermTree-F.Chars t s)
  unfolding roll-TermTree denote.Hole.Carrier.roll
  folded-Chars t s = fold-roll-TermTree A B C D E term bind binds case several (TermTree-F.Chars t s)

  pub folded-True : (s : Span) → folded (terms.True s) ≡ term (TermTree-F.True s)
  unfolding roll-TermTree denote.Hole.Carrier.roll
  folded-True s = fold-roll-TermTree A B C D E term bind binds case several (TermTree-F.True s)

  pub folded-False : (s : Span) → folded (terms.False s) ≡ term (TermTree-F.False s)
  unfolding roll-TermTree denote.Hole.Carrier.roll
  folded-False s = fold-roll-TermTree A B C D E term bind binds case several (TermTree-F.False s)

  pub folded-Undef : (s : Span) → folded (terms.Undef s) ≡ term (TermTree-F.Undef s)
  unfolding roll-TermTree denote.Hole.Carrier.roll
  folded-Undef s = fold-roll-TermTree A B C D E term bind binds case several (TermTree-F.Undef s)

  pub folded-Var : (t : Token) (s : Span) → folded (terms.Var t s) ≡ term (TermTree-F.Var t s)
  unfolding roll-TermTree denote.Hole.Carrier.roll
  folded-Var t s = fold-roll-TermTree A B C D E term bind binds case several (TermTree-F.Var t s)

  pub folded-Name : (t : Token) (args : Option TermsTree) (s : Span) → folded (terms.Name t args s) ≡ term (TermTree-F.Name t (option_map folded_terms args) s)
  unfolding roll-TermTree denote.Hole.Carrier.roll
  folded-Name t None s = fold-roll-TermTree A B C D E term bind binds case several (TermTree-F.Name t None s)
  folded-Name t (Some x) s = fold-roll-TermTree A B C D E term bind binds case several (TermTree-F.Name t (Some x) s)

  pub folded-Tuple : (items : TermsTree) (s : Span) → folded (terms.Tuple items s) ≡ term (TermTree-F.Tuple (folded_terms items) s)
  unfolding roll-TermTree denote.Hole.Carrier.roll
  folded-Tuple items s = fold-roll-TermTree A B C D E term bind binds case several (TermTree-F.Tuple items s)

  pub folded-Forall : (rs : RangesTree) (t : TermTree) (s : Span) → folded (terms.Forall rs t s) ≡ term (TermTree-F.Forall rs (folded t) s)
  unfolding roll-TermTree denote.Hole.Carrier.roll
  folded-Forall rs t s = fold-roll-TermTree A B C D E term bind binds case several (TermTree-F.Forall rs t s)

  pub folded-Exist : (u : Bool) (rs : RangesTree) (t : TermTree) (s : Span) → folded (terms.Exist u rs t s) ≡ term (TermTree-F.Exist u rs (folded t) s)
  unfolding roll-TermTree denote.Hole.Carrier.roll
  folded-Exist u rs t s = fold-roll-TermTree A B C D E term bind binds case several (TermTree-F.Exist u rs t s)

  pub folded-Interval : (x : TermTree) (y : TermTree) (s : Span) → folded (terms.Interval x y s) ≡ term (TermTree-F.Interval (folded x) (folded y) s)
  unfolding roll-TermTree denote.Hole.Carrier.roll
  folded-Interval x y s = fold-roll-TermTree A B C D E term bind binds case several (TermTree-F.Interval x y s)

  pub folded-Set : (items : Option TermsTree) (s : Span) → folded (terms.Set items s) ≡ term (TermTree-F.Set (option_map folded_terms items) s)
  unfolding roll-TermTree denote.Hole.Carrier.roll
  folded-Set None s = fold-roll-TermTree A B C D E term bind binds case several (TermTree-F.Set None s)
  folded-Set (Some x) s = fold-roll-TermTree A B C D E term bind binds case several (TermTree-F.Set (Some x) s)

  pub folded-Seq : (items : Option TermsTree) (s : Span) → folded (terms.Seq items s) ≡ term (TermTree-F.Seq (option_map folded_terms items) s)
  unfolding roll-TermTree denote.Hole.Carrier.roll
  folded-Seq None s = fold-roll-TermTree A B C D E term bind binds case several (TermTree-F.Seq None s)
  folded-Seq (Some x) s = fold-roll-TermTree A B C D E term bind binds case several (TermTree-F.Seq (Some x) s)

  pub folded-If : (g : TermTree) (t : TermTree) (o : Option TermTree) (s : Span) → folded (terms.If g t o s) ≡ term (TermTree-F.If (folded g) (folded t) (option_map folded o) s)
  unfolding roll-TermTree denote.Hole.Carrier.roll
  folded-If g t None s = fold-roll-TermTree A B C D E term bind binds case several (TermTree-F.If g t None s)
  folded-If g t (Some x) s = fold-roll-TermTree A B C D E term bind binds case several (TermTree-F.If g t (Some x) s)

  pub folded-Let : (bs : BindsTree) (t : TermTree) (s : Span) → folded (terms.Let bs t s) ≡ term (TermTree-F.Let (folded_binds bs) (folded t) s)
  unfolding roll-TermTree denote.Hole.Carrier.roll
  folded-Let bs t s = fold-roll-TermTree A B C D E term bind binds case several (TermTree-F.Let bs t s)

  pub folded-Switch : (t : TermTree) (cs : List CaseTree) (o : Option TermTree) (s : Span) → folded (terms.Switch t cs o s) ≡ term (TermTree-F.Switch (folded t) (map folded_case cs) (option_map folded o) s)
  unfolding roll-TermTree denote.Hole.Carrier.roll
  folded-Switch t cs None s = fold-roll-TermTree A B C D E term bind binds case several (TermTree-F.Switch t cs None s)
  folded-Switch t cs (Some x) s = fold-roll-TermTree A B C D E term bind binds case several (TermTree-F.Switch t cs (Some x) s)

  pub folded-bind : (x : Token) (t : TermTree) → folded_bind (roll-BindTree (record { variable = x; value = t })) ≡ bind (record { variable = x; value = folded t })
  folded-bind x t = fold-roll-BindTree A B C D E term bind binds case several (record { variable = x; value = t })

  pub folded-binds : (x : BindTree) (xs : List BindTree) (s : Span)
      → folded_binds (roll-BindsTree (record { first = x; others = xs; span = s })) ≡ binds (record { first = folded_bind x; others = map folded_bind xs; span = s })
  folded-binds x xs s = fold-roll-BindsTree A B C D E term bind binds case several (record { first = x; others = xs; span = s })

  pub folded-case : (x t : TermTree) → folded_case (roll-CaseTree (record { value = x; term = t })) ≡ case (record { value = folded x; term = folded t })
  folded-case x t = fold-roll-CaseTree A B C D E term bind binds case several (record { value = x; term = t })

  pub folded-terms : (t : TermTree) (ts : List TermTree)
      → folded_terms (roll-TermsTree (record { first = t; others = ts })) ≡ several (record { first = folded t; others = map folded ts })
  folded-terms t ts = fold-roll-TermsTree A B C D E term bind binds case several (record { first = t; others = ts })

  -- ---- two terms of one form, where the parts give the same and the span gives nothing

  pub on-Prefix : (s s' : Span) (op : List ℕ) (t t' : TermTree) → folded t ≡ folded t' → term (TermTree-F.Prefix op (folded t') s') ≡ term (TermTree-F.Prefix op (folded t') s)
      → folded (terms.Prefix op t s') ≡ folded (terms.Prefix op t' s)
  on-Prefix s s' op t t' h0 b =
      folded-Prefix op t s' ∙ (λ i. term (TermTree-F.Prefix op (h0 i) s')) ∙ b ∙ sym (folded-Prefix op t' s)

  pub on-Binary : (s s' : Span) (l l' : TermTree) (op : List ℕ) (r r' : TermTree) → folded l ≡ folded l' → folded r ≡ folded r' → term (TermTree-F.Binary (folded l') op (folded r') s') ≡ term (TermTree-F.Binary (folded l') op (folded r') s)
      → folded (terms.Binary l op r s') ≡ folded (terms.Binary l' op r' s)
  on-Binary s s' l l' op r r' h0 h1 b =
      folded-Binary l op r s' ∙ (λ i. term (TermTree-F.Binary (h0 i) op (h1 i) s')) ∙ b ∙ sym (folded-Binary l' op r' s)

  pub on-Number : (s s' : Span) (t : Token) → term (TermTree-F.Number t s') ≡ term (TermTree-F.Number t s)
      → folded (terms.Number t s') ≡ folded (terms.Number t s)
  on-Number s s' t b =
      folded-Number t s' ∙ b ∙ sym (folded-Number t s)

  pub on-Chars : (s s' : Span) (t : Token) → term (TermTree-F.Chars t s') ≡ term (TermTree-F.Chars t s)
      → folded (terms.Chars t s') ≡ folded (terms.Chars t s)
  on-Chars s s' t b =
      folded-Chars t s' ∙ b ∙ sym (folded-Chars t s)

  pub on-True : (s s' : Span) → term (TermTree-F.True s') ≡ term (TermTree-F.True s)
      → folded (terms.True s') ≡ folded (terms.True s)
  on-True s s' b =
      folded-True s' ∙ b ∙ sym (folded-True s)

  pub on-False : (s s' : Span) → term (TermTree-F.False s') ≡ term (TermTree-F.False s)
      → folded (terms.False s') ≡ folded (terms.False s)
  on-False s s' b =
      folded-False s' ∙ b ∙ sym (folded-False s)

  pub on-Undef : (s s' : Span) → term (TermTree-F.Undef s') ≡ term (TermTree-F.Undef s)
      → folded (terms.Undef s') ≡ folded (terms.Undef s)
  on-Undef s s' b =
      folded-Undef s' ∙ b ∙ sym (folded-Undef s)

  pub on-Var : (s s' : Span) (t : Token) → term (TermTree-F.Var t s') ≡ term (TermTree-F.Var t s)
      → folded (terms.Var t s') ≡ folded (terms.Var t s)
  on-Var s s' t b =
      folded-Var t s' ∙ b ∙ sym (folded-Var t s)

  pub on-Name : (s s' : Span) (t : Token) (args args' : Option TermsTree) → option_map folded_terms args ≡ option_map folded_terms args' → term (TermTree-F.Name t (option_map folded_terms args') s') ≡ term (TermTree-F.Name t (option_map folded_terms args') s)
      → folded (terms.Name t args s') ≡ folded (terms.Name t args' s)
  on-Name s s' t args args' h0 b =
      folded-Name t args s' ∙ (λ i. term (TermTree-F.Name t (h0 i) s')) ∙ b ∙ sym (folded-Name t args' s)

  pub on-Tuple : (s s' : Span) (items items' : TermsTree) → folded_terms items ≡ folded_terms items' → term (TermTree-F.Tuple (folded_terms items') s') ≡ term (TermTree-F.Tuple (folded_terms items') s)
      → folded (terms.Tuple items s') ≡ folded (terms.Tuple items' s)
  on-Tuple s s' items items' h0 b =
      folded-Tuple items s' ∙ (λ i. term (TermTree-F.Tuple (h0 i) s')) ∙ b ∙ sym (folded-Tuple items' s)

  pub on-Forall : (s s' : Span) (rs : RangesTree) (t t' : TermTree) → folded t ≡ folded t' → term (TermTree-F.Forall rs (folded t') s') ≡ term (TermTree-F.Forall rs (folded t') s)
      → folded (terms.Forall rs t s') ≡ folded (terms.Forall rs t' s)
  on-Forall s s' rs t t' h0 b =
      folded-Forall rs t s' ∙ (λ i. term (TermTree-F.Forall rs (h0 i) s')) ∙ b ∙ sym (folded-Forall rs t' s)

  pub on-Exist : (s s' : Span) (u : Bool) (rs : RangesTree) (t t' : TermTree) → folded t ≡ folded t' → term (TermTree-F.Exist u rs (folded t') s') ≡ term (TermTree-F.Exist u rs (folded t') s)
      → folded (terms.Exist u rs t s') ≡ folded (terms.Exist u rs t' s)
  on-Exist s s' u rs t t' h0 b =
      folded-Exist u rs t s' ∙ (λ i. term (TermTree-F.Exist u rs (h0 i) s')) ∙ b ∙ sym (folded-Exist u rs t' s)

  pub on-Interval : (s s' : Span) (x x' : TermTree) (y y' : TermTree) → folded x ≡ folded x' → folded y ≡ folded y' → term (TermTree-F.Interval (folded x') (folded y') s') ≡ term (TermTree-F.Interval (folded x') (folded y') s)
      → folded (terms.Interval x y s') ≡ folded (terms.Interval x' y' s)
  on-Interval s s' x x' y y' h0 h1 b =
      folded-Interval x y s' ∙ (λ i. term (TermTree-F.Interval (h0 i) (h1 i) s')) ∙ b ∙ sym (folded-Interval x' y' s)

  pub on-Set : (s s' : Span) (items items' : Option TermsTree) → option_map folded_terms items ≡ option_map folded_terms items' → term (TermTree-F.Set (option_map folded_terms items') s') ≡ term (TermTree-F.Set (option_map folded_terms items') s)
      → folded (terms.Set items s') ≡ folded (terms.Set items' s)
  on-Set s s' items items' h0 b =
      folded-Set items s' ∙ (λ i. term (TermTree-F.Set (h0 i) s')) ∙ b ∙ sym (folded-Set items' s)

  pub on-Seq : (s s' : Span) (items items' : Option TermsTree) → option_map folded_terms items ≡ option_map folded_terms items' → term (TermTree-F.Seq (option_map folded_terms items') s') ≡ term (TermTree-F.Seq (option_map folded_terms items') s)
      → folded (terms.Seq items s') ≡ folded (terms.Seq items' s)
  on-Seq s s' items items' h0 b =
      folded-Seq items s' ∙ (λ i. term (TermTree-F.Seq (h0 i) s')) ∙ b ∙ sym (folded-Seq items' s)

  pub on-If : (s s' : Span) (g g' : TermTree) (t t' : TermTree) (o o' : Option TermTree) → folded g ≡ folded g' → folded t ≡ folded t' → option_map folded o ≡ option_map folded o' → term (TermTree-F.If (folded g') (folded t') (option_map folded o') s') ≡ term (TermTree-F.If (folded g') (folded t') (option_map folded o') s)
      → folded (terms.If g t o s') ≡ folded (terms.If g' t' o' s)
  on-If s s' g g' t t' o o' h0 h1 h2 b =
      folded-If g t o s' ∙ (λ i. term (TermTree-F.If (h0 i) (h1 i) (h2 i) s')) ∙ b ∙ sym (folded-If g' t' o' s)

  pub on-Let : (s s' : Span) (bs bs' : BindsTree) (t t' : TermTree) → folded_binds bs ≡ folded_binds bs' → folded t ≡ folded t' → term (TermTree-F.Let (folded_binds bs') (folded t') s') ≡ term (TermTree-F.Let (folded_binds bs') (folded t') s)
      → folded (terms.Let bs t s') ≡ folded (terms.Let bs' t' s)
  on-Let s s' bs bs' t t' h0 h1 b =
      folded-Let bs t s' ∙ (λ i. term (TermTree-F.Let (h0 i) (h1 i) s')) ∙ b ∙ sym (folded-Let bs' t' s)

  pub on-Switch : (s s' : Span) (t t' : TermTree) (cs cs' : List CaseTree) (o o' : Option TermTree) → folded t ≡ folded t' → map folded_case cs ≡ map folded_case cs' → option_map folded o ≡ option_map folded o' → term (TermTree-F.Switch (folded t') (map folded_case cs') (option_map folded o') s') ≡ term (TermTree-F.Switch (folded t') (map folded_case cs') (option_map folded o') s)
      → folded (terms.Switch t cs o s') ≡ folded (terms.Switch t' cs' o' s)
  on-Switch s s' t t' cs cs' o o' h0 h1 h2 b =
      folded-Switch t cs o s' ∙ (λ i. term (TermTree-F.Switch (h0 i) (h1 i) (h2 i) s')) ∙ b ∙ sym (folded-Switch t' cs' o' s)
