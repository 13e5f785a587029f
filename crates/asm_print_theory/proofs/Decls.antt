-- Declarations are spelled again by their words.
use Rattle.std.proofs.Common.{◌≡◌, ℕ, Bool, true, false, List, [], ◌∷◌, ◌++◌, inr, sym, refl, ap}
use Rattle.std.specs.Prelude.{codes, ◌||◌, Option, Some, None}
use Rattle.asm_grammar.specs.Language.{Language, word, maybe}
use Rattle.asm_syntax.specs.declared.token.Span.{Span}
use Rattle.asm_syntax.specs.declared.token.Token.{Token}
use Rattle.asm_syntax.specs.declared.token.TokenKind.{TokenKind}
use Rattle.asm_syntax.specs.declared.token.TokenKind.TheVariants.{Symbol}
use Rattle.asm_syntax.specs.declared.tree.DeclTree.{DeclTree}
use Rattle.asm_syntax.specs.declared.tree.DeclTree.TheVariants as decls
use Rattle.asm_syntax.specs.Marks.{Mark, keyword, symbol, id, mark_of, same, is_one_of, kind_text, text_of}
use Rattle.asm_syntax.specs.Forms.{is_open, second}
use Rattle.asm_syntax.specs.Models.{enum_of, Typed, defined_of, Changing, Members, Values, changing_of, enum, subset, typed, defined, changing, decl}
use Rattle.asm_syntax.specs.Written.{Words, kind_word, word_of, written_all, if_there, single, domain_words}
use Rattle.asm_syntax.specs.Canonical.{typed_words, decl_words}
use Rattle.asm_print_theory.specs.Bare.{bare_domain, bare_decl, here}
use Rattle.asm_print_theory.proofs.Propers.{none_left}
use Rattle.asm_print_theory.proofs.Back.{Backs, alike, whatever, both, in_option, in_list, back-word, back-fixed, back-then, back-either, back-made, back-formed, back-maybe, back_as}
use Rattle.asm_print_theory.proofs.Rows.{back-after_word, back-after_sign, back-bracketed, back-many, each_is}
use Rattle.asm_print_theory.proofs.Domains.{within_same, same_domain, same_token, same_tokens, option_same, back-domain}
use Rattle.asm_print_theory.proofs.Operators.{are_ops, one_of, one_of_ops}

-- a token with its own text as its word
pub back-text : (p : TokenKind → Bool) → ((k : TokenKind) → p k ≡ true → kind_word k ≡ kind_text k)
    → Backs (word (λ (t : Token). p t.kind)) (word (λ (t : Token). p t.kind)) alike (λ t. text_of t ∷ [])
back-text p f = record { at = λ v ts s l. back_as (ap (λ w. w ∷ []) (sym (f v.kind s.0))) ((back-word p).at v ts s l) }

-- what may be left out, and is
pub back-dropped : {V : Type 0} (L : Language Token V) → Backs (maybe L) (maybe L) whatever (λ v. [])
back-dropped L = record {
  at = λ v ts s l. record {
    kinds = [];
    proper = tt;
    written = refl;
    reads = λ us e. (None, tt, inr (refl, none_left us e));
  };
}

pub if_after : {V : Type 0} (w : List ℕ) (f : V → Words) (o : Option V) → if_there (w ∷ []) f o ≡ if_there [] (λ x. w ∷ f x) o
if_after w f None = refl
if_after w f (Some x) = refl

pub back-name : Backs (word (λ (t : Token). same id (mark_of t.kind))) (word (λ (t : Token). same id (mark_of t.kind))) alike single
back-name = back-word (λ k. same id (mark_of k))

abbrev pub same_decl : DeclTree → DeclTree → Type 0
same_decl d e = bare_decl d ≡ bare_decl e

abbrev same_typed : Typed → Typed → Type 0
same_typed = both alike (both same_domain (in_option same_domain))

abbrev same_changing : Changing → Changing → Type 0
same_changing (Members t) (Members u) = alike t u
same_changing (Members t) (Values v) = ⊥
same_changing (Values v) (Members u) = ⊥
same_changing (Values u) (Values v) = both alike same_typed u v

abbrev words_of_typed : Typed → Words
words_of_typed v = word_of v.0 ∷ codes ":" ∷ (domain_words v.1.0 ++ if_there [] (λ d. codes "->" ∷ domain_words d) v.1.1)

typed_is : (v : Typed) → typed_words v.0 v.1.0 v.1.1 ≡ words_of_typed v
typed_is (t, (d, o)) = ap (λ ws. word_of t ∷ codes ":" ∷ (domain_words d ++ ws)) (if_after (codes "->") domain_words o)

abbrev changing_words : Changing → Words
changing_words (Members t) = codes "abstract" ∷ codes "domain" ∷ single t
changing_words (Values v) = text_of v.0 ∷ words_of_typed v.1

same_enum : (s s' : Span) (u v : Token × (Token × List Token)) → both alike (both alike (in_list alike)) u v → same_decl (enum_of s' u) (enum_of s v)
same_enum s s' (t, (x, xs)) (t', (x', xs')) h = λ i. decls.Enum (same_token t t' h.0 i) (same_token x x' h.1.0 i) (same_tokens xs xs' h.1.1 i) here

same_subset : (s s' : Span) (u v : Token × Token) → both alike alike u v → same_decl (decls.Subset u.0 (text_of u.1) s') (decls.Subset v.0 (text_of v.1) s)
same_subset s s' u v h = λ i. decls.Subset (same_token u.0 v.0 h.0 i) (kind_text (h.1 i)) here

same_defined : (s s' : Span) (u v : Token × Typed) → both alike same_typed u v → same_decl (defined_of s' u) (defined_of s v)
same_defined s s' (k, (t, (d, o))) (k', (t', (d', o'))) h =
    λ i. decls.Defined (kind_text (h.0 i)) (same_token t t' h.1.0 i) (h.1.1.0 i) (option_same bare_domain o o' h.1.1.1 i) here

same_changing_of : (s s' : Span) (u v : Option Token × Changing) → both whatever same_changing u v → same_decl (changing_of s' u) (changing_of s v)
same_changing_of s s' (m, Members t) (m', Members t') h = λ i. decls.Abstract (same_token t t' h.1 i) here
same_changing_of s s' (m, Members t) (m', Values v) h = absurd h.1
same_changing_of s s' (m, Values u) (m', Members t') h = absurd h.1
same_changing_of s s' (m, Values (k, (t, (d, o)))) (m', Values (k', (t', (d', o')))) h =
    λ i. decls.Dynamic (kind_text (h.1.0 i)) (same_token t t' h.1.1.0 i) (h.1.1.1.0 i) (option_same bare_domain o o' h.1.1.1.1 i) here

words_enum : (s : Span) (v : Token × (Token × List Token))
    → decl_words (enum_of s v)
    ≡ codes "enum" ∷ codes "domain" ∷ word_of v.0 ∷ codes "=" ∷ codes "{" ∷ word_of v.1.0
    ∷ written_all (λ t. codes "|" ∷ word_of t ∷ []) v.1.1 ++ codes "}" ∷ []
words_enum s (t, (x, xs)) =
    ap (λ ws. codes "enum" ∷ codes "domain" ∷ word_of t ∷ codes "=" ∷ codes "{" ∷ word_of x ∷ ws ++ codes "}" ∷ []) (each_is (codes "|") single xs)

words_changing : (s : Span) (v : Option Token × Changing) → decl_words (changing_of s v) ≡ changing_words v.1
words_changing s (m, Members t) = refl
words_changing s (m, Values (k, v)) = ap (λ ws. text_of k ∷ ws) (typed_is v)

words_defined : (s : Span) (v : Token × Typed) → decl_words (defined_of s v) ≡ text_of v.0 ∷ words_of_typed v.1
words_defined s (k, v) = ap (λ ws. text_of k ∷ ws) (typed_is v)

is_bar : (u : Token) → u.kind ≡ Symbol (codes "|") → is_one_of (symbol (codes "|") ∷ symbol (codes ",") ∷ []) u ≡ true
is_bar u e = ap (λ (k : TokenKind). same (symbol (codes "|")) (mark_of k) || (same (symbol (codes ",")) (mark_of k) || false)) e

-- the words of a table have their texts
texts : (ms : List Mark) → are_ops (λ w. 0) 0 ms ≡ true → (k : TokenKind) → one_of ms k ≡ true → kind_word k ≡ kind_text k
texts ms h k e = (one_of_ops (λ w. 0) 0 ms k h e).0

module _ (n : ℕ) where
  back-enum : Backs (enum n) (enum n) same_decl decl_words
  back-enum = back-formed enum_of same_enum (λ s v ts h. words_enum s v)
      (back-after_word (codes "enum") refl (back-after_word (codes "domain") refl (back-then back-name (back-after_sign (codes "=") refl
      (back-bracketed (codes "{") (is_open n) (is_open n) (λ o. o) (codes "}") refl refl (λ o. back-then back-name
      (back-many {words = λ t. codes "|" ∷ word_of t ∷ []} (back-made second (λ u v h. h.1) (λ v ts s. refl)
      (back-then (back-fixed _ _ (Symbol (codes "|")) refl is_bar) back-name)))))))))

  back-subset : Backs (subset n) (subset n) same_decl decl_words
  back-subset = back-formed (λ span p. decls.Subset p.0 (text_of p.1) span) same_subset (λ s v ts h. refl)
      (back-after_word (codes "domain") refl (back-then back-name (back-after_word (codes "subsetof") refl
      (back-text (one_of (keyword (codes "Integer") ∷ keyword (codes "Natural") ∷ []))
      (texts (keyword (codes "Integer") ∷ keyword (codes "Natural") ∷ []) refl)))))

  back-typed : Backs (typed n) (typed n) same_typed words_of_typed
  back-typed = back-then back-name (back-after_sign (codes ":") refl
      (back-then (back-domain n n (within_same n)) (back-maybe (back-after_sign (codes "->") refl (back-domain n n (within_same n))))))

  back-defined : Backs (defined n) (defined n) same_decl decl_words
  back-defined = back-formed defined_of same_defined (λ s v ts h. words_defined s v)
      (back-then (back-text (one_of (keyword (codes "static") ∷ keyword (codes "derived") ∷ []))
      (texts (keyword (codes "static") ∷ keyword (codes "derived") ∷ []) refl)) back-typed)

  abbrev dynamics : List Mark
  dynamics = keyword (codes "controlled") ∷ keyword (codes "monitored") ∷ keyword (codes "shared") ∷ keyword (codes "out") ∷ []

  back-changing : Backs (changing n) (changing n) same_decl decl_words
  back-changing = back-formed changing_of same_changing_of (λ s v ts h. words_changing s v)
      (back-then (back-dropped _) (back-either {same = same_changing} {words = changing_words}
      (back-made Members (λ u v h. h) (λ v ts s. refl) (back-after_word (codes "abstract") refl (back-after_word (codes "domain") refl back-name)))
      (back-made Values (λ u v h. h) (λ v ts s. refl) (back-then (back-text (one_of dynamics) (texts dynamics refl)) back-typed))))

  pub back-decl : Backs (decl n) (decl n) same_decl decl_words
  back-decl = back-either back-enum (back-either back-subset (back-either back-defined back-changing))
