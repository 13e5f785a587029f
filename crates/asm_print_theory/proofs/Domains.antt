-- Domains, ranges and integers are spelled again by their words.
use Rattle.std.proofs.Common.{◌≡◌, ℕ, zero, suc, Bool, true, false, List, [], ◌∷◌, ◌++◌, map, sym, refl, ap, ◌∙◌, append_assoc}
use Rattle.std.specs.Prelude.{codes, Option, Some, None}
use Rattle.std.specs.Option.{option_map}
use Rattle.asm_grammar.specs.Language.{Language}
use Rattle.asm_syntax.specs.declared.token.Span.{Span}
use Rattle.asm_syntax.specs.declared.token.Token.{Token}
use Rattle.asm_syntax.specs.declared.tree.DomainTree.{DomainTree, fold-DomainTree}
use Rattle.asm_syntax.specs.declared.tree.DomainTree.TheOpen.{DomainTree-F}
use Rattle.asm_syntax.specs.declared.tree.DomainTree.TheVariants as domains
use Rattle.asm_syntax.specs.declared.tree.DomainTree.TheFolds.{fold-roll-DomainTree}
use Rattle.asm_syntax.specs.declared.tree.DomainTree.TheViews.{roll-DomainTree}
use Rattle.asm_syntax.specs.declared.tree.RangeTree.{RangeTree}
use Rattle.asm_syntax.specs.declared.tree.RangesTree.{RangesTree}
use Rattle.asm_syntax.specs.declared.tree.ParamsTree.{ParamsTree}
use Rattle.asm_syntax.specs.declared.tree.IntTree.{IntTree}
use Rattle.asm_syntax.specs.Marks.{mark_of, same, id, variable, number}
use Rattle.asm_syntax.specs.Forms.{is_open}
use Rattle.asm_syntax.specs.Domains.{prod_of, range_of, ranges_of, params_of, int_of, domain_form, inside, domain, range, ranges, params, int}
use Rattle.asm_syntax.specs.Written.{Words, word_of, after_each, written_all, if_there, comma, own, domain_words, range_words, ranges_words, params_words, int_words}
use Rattle.asm_print_theory.specs.Bare.{bare_token, bare_domain, bare_range, bare_ranges, bare_params, bare_int, here}
use Rattle.asm_print_theory.proofs.Back.{Backs, alike, whatever, both, in_option, in_list, back-word, back-then, back-either, back-made, back-formed, back-maybe}
use Rattle.asm_print_theory.proofs.Rows.{back-quoted, back-sign, back-after_word, back-after_sign, back-bracketed, back-listed}

-- ---- lists of what is the same

pub map_same : {V W : Type 0} (f : V → W) (us vs : List V) → in_list (λ u v. f u ≡ f v) us vs → map f us ≡ map f vs
map_same f [] [] h = refl
map_same f [] (v ∷ vs) h = absurd h
map_same f (u ∷ us) [] h = absurd h
map_same f (u ∷ us) (v ∷ vs) h = λ i. h.0 i ∷ map_same f us vs h.1 i

pub option_same : {V W : Type 0} (f : V → W) (u v : Option V) → in_option (λ u v. f u ≡ f v) u v → option_map f u ≡ option_map f v
option_same f None None h = refl
option_same f None (Some v) h = absurd h
option_same f (Some u) None h = absurd h
option_same f (Some u) (Some v) h = ap Some h

-- of mapped items
pub each_mapped : {V W : Type 0} (separator : List ℕ) (g : W → Words) (f : V → W) (vs : List V) → after_each separator g (map f vs) ≡ after_each separator (λ v. g (f v)) vs
each_mapped separator g f [] = refl
each_mapped separator g f (v ∷ vs) = ap (λ ws. separator ∷ (g (f v) ++ ws)) (each_mapped separator g f vs)

pub each_own : {V : Type 0} (separator : List ℕ) (f : V → Words) (vs : List V) → after_each separator own (map f vs) ≡ after_each separator f vs
each_own separator f [] = refl
each_own separator f (v ∷ vs) = ap (λ ws. separator ∷ (f v ++ ws)) (each_own separator f vs)

pub all_own : {V : Type 0} (f : V → Words) (vs : List V) → written_all own (map f vs) ≡ written_all f vs
all_own f [] = refl
all_own f (v ∷ vs) = ap (λ ws. f v ++ ws) (all_own f vs)

pub same_token : (t u : Token) → alike t u → bare_token t ≡ bare_token u
same_token t u e = ap (λ k. record { kind = k; span = here }) e

pub same_tokens : (ts us : List Token) → in_list alike ts us → map bare_token ts ≡ map bare_token us
same_tokens [] [] h = refl
same_tokens [] (v ∷ vs) h = absurd h
same_tokens (u ∷ us) [] h = absurd h
same_tokens (u ∷ us) (v ∷ vs) h = λ i. same_token u v h.0 i ∷ same_tokens us vs h.1 i

-- ---- how many constructs may be open

-- the first is at most the second
abbrev pub Within : ℕ → ℕ → Type 0
Within zero m = Unit {0}
Within (suc n) zero = ⊥
Within (suc n) (suc m) = Within n m

pub within_same : (n : ℕ) → Within n n
within_same zero = tt
within_same (suc n) = within_same n

pub within_more : (n m : ℕ) → Within n m → Within n (suc m)
within_more zero m h = tt
within_more (suc n) zero h = absurd h
within_more (suc n) (suc m) h = within_more n m h

pub within_open : (n m : ℕ) → Within n m → is_open n ≡ true → is_open m ≡ true
within_open zero m h o = absurd (cc)
within_open (suc n) zero h o = absurd h
within_open (suc n) (suc m) h o = refl

-- ---- domains

module _ {A : Type 0} (step : DomainTree-F A → A) where
  abbrev folded : DomainTree → A
  folded = fold-DomainTree A step

  folded-Boolean : (s : Span) → folded (domains.Truth s) ≡ step (DomainTree-F.Truth s)
  unfolding roll-DomainTree denote.Hole.Carrier.roll
  folded-Boolean s = fold-roll-DomainTree A step (DomainTree-F.Truth s)

  folded-Integer : (s : Span) → folded (domains.Int s) ≡ step (DomainTree-F.Int s)
  unfolding roll-DomainTree denote.Hole.Carrier.roll
  folded-Integer s = fold-roll-DomainTree A step (DomainTree-F.Int s)

  folded-Natural : (s : Span) → folded (domains.Nat s) ≡ step (DomainTree-F.Nat s)
  unfolding roll-DomainTree denote.Hole.Carrier.roll
  folded-Natural s = fold-roll-DomainTree A step (DomainTree-F.Nat s)

  folded-Chars : (s : Span) → folded (domains.Chars s) ≡ step (DomainTree-F.Chars s)
  unfolding roll-DomainTree denote.Hole.Carrier.roll
  folded-Chars s = fold-roll-DomainTree A step (DomainTree-F.Chars s)

  folded-Named : (t : Token) (s : Span) → folded (domains.Named t s) ≡ step (DomainTree-F.Named t s)
  unfolding roll-DomainTree denote.Hole.Carrier.roll
  folded-Named t s = fold-roll-DomainTree A step (DomainTree-F.Named t s)

  folded-Prod : (d e : DomainTree) (ds : List DomainTree) (s : Span)
      → folded (domains.Prod d e ds s) ≡ step (DomainTree-F.Prod (folded d) (folded e) (map folded ds) s)
  unfolding roll-DomainTree denote.Hole.Carrier.roll
  folded-Prod d e ds s = fold-roll-DomainTree A step (DomainTree-F.Prod d e ds s)

  folded-Seq : (d : DomainTree) (s : Span) → folded (domains.Seq d s) ≡ step (DomainTree-F.Seq (folded d) s)
  unfolding roll-DomainTree denote.Hole.Carrier.roll
  folded-Seq d s = fold-roll-DomainTree A step (DomainTree-F.Seq d s)

  folded-Powerset : (d : DomainTree) (s : Span) → folded (domains.Powerset d s) ≡ step (DomainTree-F.Powerset (folded d) s)
  unfolding roll-DomainTree denote.Hole.Carrier.roll
  folded-Powerset d s = fold-roll-DomainTree A step (DomainTree-F.Powerset d s)

-- two domains that are the same apart from spans
abbrev pub same_domain : DomainTree → DomainTree → Type 0
same_domain d e = bare_domain d ≡ bare_domain e

same_boolean : (s s' : Span) → same_domain (domains.Truth s') (domains.Truth s)
unfolding bare_domain
same_boolean s s' = folded-Boolean _ s' ∙ sym (folded-Boolean _ s)

same_integer : (s s' : Span) → same_domain (domains.Int s') (domains.Int s)
unfolding bare_domain
same_integer s s' = folded-Integer _ s' ∙ sym (folded-Integer _ s)

same_natural : (s s' : Span) → same_domain (domains.Nat s') (domains.Nat s)
unfolding bare_domain
same_natural s s' = folded-Natural _ s' ∙ sym (folded-Natural _ s)

same_chars : (s s' : Span) → same_domain (domains.Chars s') (domains.Chars s)
unfolding bare_domain
same_chars s s' = folded-Chars _ s' ∙ sym (folded-Chars _ s)

same_named : (s s' : Span) (t u : Token) → alike t u → same_domain (domains.Named t s') (domains.Named u s)
unfolding bare_domain
same_named s s' t u e = folded-Named _ t s' ∙ ap (λ x. domains.Named x here) (same_token t u e) ∙ sym (folded-Named _ u s)

same_prod : (s s' : Span) (u v : DomainTree × (DomainTree × List DomainTree)) → both same_domain (both same_domain (in_list same_domain)) u v
    → same_domain (prod_of s' u) (prod_of s v)
unfolding bare_domain
same_prod s s' (d, (e, ds)) (d', (e', ds')) h =
    folded-Prod _ d e ds s'
    ∙ (λ i. domains.Prod (h.0 i) (h.1.0 i) (map_same bare_domain ds ds' h.1.1 i) here)
    ∙ sym (folded-Prod _ d' e' ds' s)

same_seq : (s s' : Span) (d e : DomainTree) → same_domain d e → same_domain (domains.Seq d s') (domains.Seq e s)
unfolding bare_domain
same_seq s s' d e h = folded-Seq _ d s' ∙ ap (λ x. domains.Seq x here) h ∙ sym (folded-Seq _ e s)

same_powerset : (s s' : Span) (d e : DomainTree) → same_domain d e → same_domain (domains.Powerset d s') (domains.Powerset e s)
unfolding bare_domain
same_powerset s s' d e h = folded-Powerset _ d s' ∙ ap (λ x. domains.Powerset x here) h ∙ sym (folded-Powerset _ e s)

words_prod : (s : Span) (v : DomainTree × (DomainTree × List DomainTree))
    → domain_words (prod_of s v)
    ≡ codes "Prod" ∷ codes "(" ∷ (domain_words v.0 ++ comma ∷ (domain_words v.1.0 ++ after_each comma domain_words v.1.1)) ++ codes ")" ∷ []
unfolding domain_words
words_prod s (d, (e, ds)) =
    folded-Prod _ d e ds s
    ∙ ap (λ ws. codes "Prod" ∷ codes "(" ∷ domain_words d ++ comma ∷ domain_words e ++ ws ++ codes ")" ∷ []) (each_own comma domain_words ds)
    ∙ ap (λ ws. codes "Prod" ∷ codes "(" ∷ ws ++ codes ")" ∷ []) (append_assoc (domain_words d) (comma ∷ domain_words e) (after_each comma domain_words ds))

words_boolean : (s : Span) → domain_words (domains.Truth s) ≡ codes "Boolean" ∷ []
unfolding domain_words
words_boolean s = folded-Boolean _ s

words_integer : (s : Span) → domain_words (domains.Int s) ≡ codes "Integer" ∷ []
unfolding domain_words
words_integer s = folded-Integer _ s

words_natural : (s : Span) → domain_words (domains.Nat s) ≡ codes "Natural" ∷ []
unfolding domain_words
words_natural s = folded-Natural _ s

words_chars : (s : Span) → domain_words (domains.Chars s) ≡ codes "String" ∷ []
unfolding domain_words
words_chars s = folded-Chars _ s

words_named : (t : Token) (s : Span) → domain_words (domains.Named t s) ≡ word_of t ∷ []
unfolding domain_words
words_named t s = folded-Named _ t s

words_seq : (d : DomainTree) (s : Span) → domain_words (domains.Seq d s) ≡ codes "Seq" ∷ codes "(" ∷ domain_words d ++ codes ")" ∷ []
unfolding domain_words
words_seq d s = folded-Seq _ d s

words_powerset : (d : DomainTree) (s : Span) → domain_words (domains.Powerset d s) ≡ codes "Powerset" ∷ codes "(" ∷ domain_words d ++ codes ")" ∷ []
unfolding domain_words
words_powerset d s = folded-Powerset _ d s

module _ (is_open is_open' : Bool) (inner inner' : Language Token DomainTree) (more : is_open ≡ true → is_open' ≡ true)
    (f : is_open ≡ true → Backs inner inner' same_domain domain_words) where
  back-domain_form : Backs (domain_form is_open inner) (domain_form is_open' inner') same_domain domain_words
  back-domain_form =
      back-either (back-formed _ (λ s s' u v h. same_boolean s s') (λ s v ts h. words_boolean s) (back-quoted (codes "Boolean") refl))
      (back-either (back-formed _ (λ s s' u v h. same_integer s s') (λ s v ts h. words_integer s) (back-quoted (codes "Integer") refl))
      (back-either (back-formed _ (λ s s' u v h. same_natural s s') (λ s v ts h. words_natural s) (back-quoted (codes "Natural") refl))
      (back-either (back-formed _ (λ s s' u v h. same_chars s s') (λ s v ts h. words_chars s) (back-quoted (codes "String") refl))
      (back-either (back-formed _ same_named (λ s v ts h. words_named v s) (back-word (λ k. same id (mark_of k))))
      (back-either (back-formed prod_of same_prod (λ s v ts h. words_prod s v)
      (back-after_word (codes "Prod") refl (back-bracketed (codes "(") is_open is_open' more (codes ")") refl refl
      (λ o. back-then (f o) (back-after_sign (codes ",") refl (back-listed (f o)))))))
      (back-either (back-formed _ same_seq (λ s v ts h. words_seq v s)
      (back-after_word (codes "Seq") refl (back-bracketed (codes "(") is_open is_open' more (codes ")") refl refl f)))
      (back-formed _ same_powerset (λ s v ts h. words_powerset v s)
      (back-after_word (codes "Powerset") refl (back-bracketed (codes "(") is_open is_open' more (codes ")") refl refl f)))))))))

pub back-inside : (n m : ℕ) → Within n m → Backs (inside n) (inside m) same_domain domain_words
unfolding inside
back-inside zero m h = record { at = λ v ts s l. absurd s }
back-inside (suc n) zero h = absurd h
back-inside (suc n) (suc m) h =
    back-domain_form (is_open n) (is_open m) (inside n) (inside m) (within_open n m h) (λ o. back-inside n m h)

pub back-domain : (n m : ℕ) → Within n m → Backs (domain n) (domain m) same_domain domain_words
unfolding domain
back-domain n m h = back-domain_form (is_open n) (is_open m) (inside n) (inside m) (within_open n m h) (λ o. back-inside n m h)

-- ---- ranges and integers

abbrev pub same_range : RangeTree → RangeTree → Type 0
same_range r q = bare_range r ≡ bare_range q

abbrev pub same_ranges : RangesTree → RangesTree → Type 0
same_ranges r q = bare_ranges r ≡ bare_ranges q

abbrev pub same_params : ParamsTree → ParamsTree → Type 0
same_params p q = bare_params p ≡ bare_params q

abbrev pub same_int : IntTree → IntTree → Type 0
same_int i j = bare_int i ≡ bare_int j

module _ {values values' : Language Token DomainTree} (f : Backs values values' same_domain domain_words) where
  pub back-range : Backs (range values) (range values') same_range range_words
  back-range = back-made range_of (λ u v h i. record { variable = same_token u.0 v.0 h.0 i; domain = h.1 i }) (λ v ts s. refl)
      (back-then (back-word (λ k. same variable (mark_of k))) (back-after_word (codes "in") refl f))

  pub back-ranges : Backs (ranges values) (ranges values') same_ranges ranges_words
  back-ranges = back-formed ranges_of
      (λ s s' u v h i. record { first = h.0 i; others = map_same bare_range u.1 v.1 h.1 i; span = here }) (λ s v ts h. refl) (back-listed back-range)

pub back-params : (n m : ℕ) → Within n m → Backs (params n) (params m) same_params params_words
back-params n m h = back-formed params_of (λ s s' u v e i. record { ranges = e i; span = here }) (λ s v ts e. refl)
    (back-bracketed (codes "(") (is_open n) (is_open m) (within_open n m h) (codes ")") refl refl (λ o. back-ranges (back-inside n m h)))

same_int_of : (s s' : Span) (u v : Option Token × Token) → both (in_option whatever) alike u v → same_int (int_of s' u) (int_of s v)
same_int_of s s' (None, t) (None, t') h = ap (λ x. record { is_negative = false; number = x; span = here }) (same_token t t' h.1)
same_int_of s s' (Some m, t) (Some m', t') h = ap (λ x. record { is_negative = true; number = x; span = here }) (same_token t t' h.1)
same_int_of s s' (None, t) (Some m', t') h = absurd h.0
same_int_of s s' (Some m, t) (None, t') h = absurd h.0

words_int_of : (s : Span) (v : Option Token × Token) → int_words (int_of s v) ≡ if_there [] (λ t. codes "-" ∷ []) v.0 ++ word_of v.1 ∷ []
words_int_of s (None, t) = refl
words_int_of s (Some m, t) = refl

pub back-int : Backs int int same_int int_words
back-int = back-formed int_of same_int_of (λ s v ts h. words_int_of s v)
    (back-then (back-maybe (back-sign (codes "-") refl)) (back-word (λ k. same number (mark_of k))))
