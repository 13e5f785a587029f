-- Operators with their operands are spelled again by their words.
use Rattle.std.proofs.Common.{◌≡◌, ℕ, zero, suc, Bool, true, false, List, [], ◌∷◌, ◌++◌, ◌⊎◌, inl, inr, sym, refl, ap, ◌∙◌, subst, arith}
use Rattle.std.proofs.lemmas.Bool.Decides.{nat_tests}
use Rattle.std.proofs.lemmas.Slice.Eq.{bytes_eq-Decides}
use Rattle.std.specs.Prelude.{codes, nat_lt, ◌==◌, ◌||◌, ◌&&◌, cond, Some, None}
use Rattle.asm_grammar.specs.Language.{Language, ◌then◌, opens, made, Follows, chain, dangling}
use Rattle.asm_lex_theory.proofs.Lists.{eq_is, and_both}
use Rattle.asm_syntax.specs.declared.token.Token.{Token}
use Rattle.asm_syntax.specs.declared.token.TokenKind.{TokenKind}
use Rattle.asm_syntax.specs.declared.token.TokenKind.TheVariants.{Id, Var, Number, Chars, Keyword, Refused, Symbol}
use Rattle.asm_syntax.specs.declared.tree.TermTree.{TermTree}
use Rattle.asm_syntax.specs.Marks.{Mark, keyword, symbol, id, variable, number, chars, refused, mark_of, same, kind_text, text_of, up_to}
use Rattle.asm_syntax.specs.Forms.{formed}
use Rattle.asm_syntax.specs.Heights.{fits}
use Rattle.asm_syntax.specs.Extents.{extent}
use Rattle.asm_syntax.specs.Terms.{Line, Forms, joined, joined_once, prefix_of}
use Rattle.asm_syntax.specs.Written.{Words, kind_word, word_of, binary_tightness, left_tightness, right_tightness, prefix_tightness, bound, term_writing}
use Rattle.asm_print_theory.proofs.Propers.{Lexed, lexed_parts}
use Rattle.asm_print_theory.proofs.Back.{Back, alike, both, back_on, back_as, back_then_at, back_step_own, back_formed_to}
use Rattle.asm_print_theory.proofs.Same.{same_term, same_fits, same_prefix, same_binary}
use Rattle.asm_print_theory.proofs.Phrases.{words-Prefix, words-Binary}
use Rattle.asm_print_theory.proofs.Levels.{tight, level, loosened, chain_more}
use Rattle.asm_print_theory.proofs.Prims.{Inside, is_term}
use Rattle.asm_print_theory.proofs.Parenthesized.{Operator, Fine, fine_looser, parenthesized}

-- ---- the texts of operators

abbrev is_op : (List ℕ → ℕ) → ℕ → Mark → Bool
is_op tightness n (keyword w) = tightness w == n
is_op tightness n (symbol w) = tightness w == n
is_op tightness n id = false
is_op tightness n variable = false
is_op tightness n number = false
is_op tightness n chars = false
is_op tightness n refused = false

-- its word is its text, and this tight
abbrev pub Op : (List ℕ → ℕ) → ℕ → TokenKind → Type 0
Op tightness n k = (kind_word k ≡ kind_text k) × (tightness (kind_text k) ≡ n)

module _ (tightness : List ℕ → ℕ) (n : ℕ) where
  pub op_of : (m : Mark) (k : TokenKind) → is_op tightness n m ≡ true → same m (mark_of k) ≡ true → Op tightness n k
  op_of (keyword v) (Keyword w) h e = (refl, ap tightness (sym ((bytes_eq-Decides v w).0 e)) ∙ eq_is (tightness v) n h)
  op_of (keyword v) (Id w) h e = absurd (cc)
  op_of (keyword v) (Var w) h e = absurd (cc)
  op_of (keyword v) (Number w) h e = absurd (cc)
  op_of (keyword v) (Chars w) h e = absurd (cc)
  op_of (keyword v) (Refused w) h e = absurd (cc)
  op_of (keyword v) (Symbol w) h e = absurd (cc)
  op_of (symbol v) (Symbol w) h e = (refl, ap tightness (sym ((bytes_eq-Decides v w).0 e)) ∙ eq_is (tightness v) n h)
  op_of (symbol v) (Id w) h e = absurd (cc)
  op_of (symbol v) (Var w) h e = absurd (cc)
  op_of (symbol v) (Number w) h e = absurd (cc)
  op_of (symbol v) (Chars w) h e = absurd (cc)
  op_of (symbol v) (Keyword w) h e = absurd (cc)
  op_of (symbol v) (Refused w) h e = absurd (cc)
  op_of id k h e = absurd (cc)
  op_of variable k h e = absurd (cc)
  op_of number k h e = absurd (cc)
  op_of chars k h e = absurd (cc)
  op_of refused k h e = absurd (cc)

  abbrev pub are_ops : List Mark → Bool
  are_ops [] = true
  are_ops (m ∷ ms) = is_op tightness n m && are_ops ms

-- a kind of one of these marks
abbrev pub one_of : List Mark → TokenKind → Bool
one_of [] k = false
one_of (m ∷ ms) k = same m (mark_of k) || one_of ms k

either_of : (v w : Bool) → (v || w) ≡ true → (v ≡ true) ⊎ (w ≡ true)
either_of true w e = inl refl
either_of false w e = inr e

pub one_of_ops : (tightness : List ℕ → ℕ) (n : ℕ) (ms : List Mark) (k : TokenKind) → are_ops tightness n ms ≡ true → one_of ms k ≡ true → Op tightness n k
one_of_ops tightness n [] k h e = absurd (cc)
one_of_ops tightness n (m ∷ ms) k h e =
    let parts = and_both (is_op tightness n m) (are_ops tightness n ms) h in
    elim (either_of (same m (mark_of k)) (one_of ms k) e) [ inl f ↦ op_of tightness n m k parts.0 f | inr f ↦ one_of_ops tightness n ms k parts.1 f ]

-- ---- a term by its operator

bound_tied : (n m : ℕ) (ws : Words) → nat_lt n m ≡ true → bound n ws m ≡ codes "(" ∷ ws ++ codes ")" ∷ []
bound_tied n m ws h = ap (λ b. cond b (codes "(" ∷ ws ++ codes ")" ∷ []) ws) h

bound_loose : (n m : ℕ) (ws : Words) → nat_lt n m ≡ false → bound n ws m ≡ ws
bound_loose n m ws h = ap (λ b. cond b (codes "(" ∷ ws ++ codes ")" ∷ []) ws) h

not_below : (n : ℕ) → nat_lt n 0 ≡ false
not_below n = grind (arith, nat_tests)

not_self : (n : ℕ) → nat_lt n n ≡ false
not_self n = grind (arith, nat_tests)

module _ (is_open is_open' : Bool) (inner inner' : Forms) (more : is_open ≡ true → is_open' ≡ true)
    (deeper : is_open ≡ true → Inside inner inner') where
  abbrev Good : ℕ → TermTree → Type 0
  Good = Fine fits is_open' inner'

  abbrev line : ℕ → Language Token TermTree
  line = level fits is_open' inner'

  fine_operator : (n : ℕ) (t : TermTree) (ws : Words) → ((m : ℕ) → term_writing t m ≡ bound n ws m) → Back same_term ws (line n) t → Good n t
  fine_operator n t ws w b = record {
    shape = record {
      own = Operator n;
      tied = λ m h. w m ∙ bound_tied n m ws h ∙ ap (λ x. codes "(" ∷ x ++ codes ")" ∷ []) (sym (w 0 ∙ bound_loose n 0 ws (not_below n)));
      loose = λ m h. back_as (w m ∙ bound_loose n m ws h) (back_on t t (λ u us k s. (u, k, loosened fits is_open' inner' n m h u us s)) b);
    };
    deep = λ h. absurd (let no = not_self n in cc);
  }

  -- an operator before its operand
  pub fine_prefix : (n : ℕ) (p : TokenKind → Bool) (l : Line) → ((k : TokenKind) → p k ≡ true → Op prefix_tightness n k) → tight l ≡ n → is_term l ≡ true
      → ((u : TermTree) (us : List Token) → (formed prefix_of (opens is_open' (λ (t : Token). p t.kind) (inner'.line l))).Spells u us → (line n).Spells u us)
      → (t : TermTree) (ts : List Token) → (formed prefix_of (opens is_open (λ (t : Token). p t.kind) (inner.line l))).Spells t ts → Lexed ts → Good n t
  fine_prefix n p l op same_tight is on t ts s x =
      let o = s.0.0 in
      let r = s.0.1 in
      let f = op o.kind s.2.2 in
      let xs = subst (λ (z : List Token). Lexed z) s.2.1 x in
      let b = back_step_own is_open' p o r (more s.2.3) s.2.2 xs.0 (((deeper s.2.3).line l is).at r s.2.0 s.2.4 xs.1) in
      fine_operator n t (word_of o ∷ term_writing r (tight l))
      (λ m.
      ap (λ y. term_writing y m) s.1 ∙ words-Prefix m (text_of o) r _
      ∙ ap (λ k. bound k (text_of o ∷ term_writing r k) m) f.1
      ∙ ap (λ k. bound n (text_of o ∷ term_writing r k) m) (sym same_tight)
      ∙ ap (λ w. bound n (w ∷ term_writing r (tight l)) m) (sym f.0))
      (back_on {same = same_term} t t (λ u us h q. (u, h, on u us q))
      (back_formed_to prefix_of (o, r) t (λ s' u h. subst (λ y. same_term (prefix_of s' u) y) (sym s.1) (same_prefix _ s' u (o, r) h)) b))

  -- ---- an operator between two operands

  module _ (n : ℕ) (p : TokenKind → Bool) (l : Line) (op : (k : TokenKind) → p k ≡ true → Op binary_tightness n k)
      (right : right_tightness n ≡ tight l) (is : is_term l ≡ true) where
    abbrev step : Language Token (Token × TermTree)
    step = opens is_open (λ (t : Token). p t.kind) (inner.line l)

    abbrev step' : Language Token (Token × TermTree)
    step' = opens is_open' (λ (t : Token). p t.kind) (inner'.line l)

    binary_words : (left : TermTree) (o : Token × TermTree) → p o.0.kind ≡ true → (k : ℕ) → left_tightness n ≡ k → (m : ℕ)
        → term_writing (joined left o) m ≡ bound n (term_writing left k ++ word_of o.0 ∷ term_writing o.1 (tight l)) m
    binary_words left o h k e m =
        let f = op o.0.kind h in
        words-Binary m left (text_of o.0) o.1 (up_to (extent left) (extent o.1))
        ∙ ap (λ j. bound j (term_writing left (left_tightness j) ++ text_of o.0 ∷ term_writing o.1 (right_tightness j)) m) f.1
        ∙ (λ i. bound n (term_writing left (e i) ++ sym f.0 i ∷ term_writing o.1 (right i)) m)

    -- both operands, where the left one is on a line this tight
    operands : (k : ℕ) (left : TermTree) (o : Token × TermTree) (a : List Token) → Good k left → step.Spells o a → Lexed a
        → Back (both same_term (both alike same_term)) (term_writing left k ++ word_of o.0 ∷ term_writing o.1 (tight l)) (line k then step') (left, o)
    operands k left o a f s x =
        let xs = subst (λ (z : List Token). Lexed z) s.1 x in
        back_then_at left o (parenthesized fits is_open' inner' k left f)
        (back_step_own is_open' p o.0 o.1 (more s.3) s.2 xs.0 (((deeper s.3).line l is).at o.1 s.0 s.4 xs.1))

    same_joined : (u v : TermTree × (Token × TermTree)) → both same_term (both alike same_term) u v → same_term (joined u.0 u.1) (joined v.0 v.1)
    same_joined u v h = same_binary _ _ u.0 v.0 u.1.0 v.1.0 u.1.1 v.1.1 h.0 h.1.0 h.1.1

    -- ---- chains

    module _ (first first' : Language Token TermTree) (left_is : left_tightness n ≡ n)
        (firsts : (t : TermTree) (ts : List Token) → first.Spells t ts → Lexed ts → Good (suc n) t)
        (from : (u : TermTree) (us : List Token) → (line n).Spells u us → (chain fits joined step' first').Spells u us)
        (on : (u : TermTree) (us : List Token) → (chain fits joined step' first').Spells u us → (line n).Spells u us) where
      fine_step : (left : TermTree) (o : Token × TermTree) (a : List Token) → Good n left → step.Spells o a → Lexed a → fits left ≡ true → Good n (joined left o)
      fine_step left o a f s x h =
          fine_operator n (joined left o) _ (binary_words left o s.2 n left_is)
          (back_on (left, o) (joined left o) (λ u us k q. (
            joined u.0 u.1,
            same_joined u (left, o) k,
            on (joined u.0 u.1) us
                (subst (λ z. (chain fits joined step' first').Spells (joined u.0 u.1) z) (sym q.2)
                (chain_more fits joined step' first' u.0 q.0 q.1 u.1 (from u.0 q.0 q.3) (same_fits u.0 left k.0 h) q.4)),
          )) (operands n left o a f s x))

      fine_steps : (k : ℕ) (left t : TermTree) (a : List Token) → Good n left → Follows fits joined step k left t a → Lexed a → Good n t
      fine_steps zero left t a f s x = subst (λ z. Good n z) (sym s.0) f
      fine_steps (suc k) left t a f s x =
          let xs = lexed_parts s.1 s.2 (subst (λ (z : List Token). Lexed z) s.3 x) in
          fine_steps k (joined left s.0) t s.2 (fine_step left s.0 s.1 f s.5 xs.0 s.4) s.6 xs.1

      pub fine_chain : (t : TermTree) (ts : List Token) → (chain fits joined step first).Spells t ts → Lexed ts → Good n t
      fine_chain t ts s x =
          let xs = lexed_parts s.2 s.3 (subst (λ (z : List Token). Lexed z) s.4 x) in
          fine_steps s.1 s.0 t s.3 (fine_looser fits is_open' inner' n s.0 (firsts s.0 s.2 s.5 xs.0)) s.6 xs.1

    -- ---- at most one operator

    module _ (first : Language Token TermTree) (left_is : left_tightness n ≡ suc n)
        (firsts : (t : TermTree) (ts : List Token) → first.Spells t ts → Lexed ts → Good (suc n) t)
        (on : (u : TermTree) (us : List Token) → (made joined_once (dangling fits (line (suc n)) step')).Spells u us → (line n).Spells u us) where
      pub fine_once : (t : TermTree) (ts : List Token) → (made joined_once (dangling fits first step)).Spells t ts → Lexed ts → Good n t
      fine_once t ts ((left, None), e, s) x =
          subst (λ z. Good n z) (sym e) (fine_looser fits is_open' inner' n left (firsts left ts s x))
      fine_once t ts ((left, Some o), e, s) x =
          let xs = lexed_parts s.0 s.1 (subst (λ (z : List Token). Lexed z) s.2 x) in
          subst (λ z. Good n z) (sym e)
          (fine_operator n (joined left o) _ (binary_words left o s.5.2 (suc n) left_is)
          (back_on (left, o) (joined left o) (λ u us k q. (
            joined u.0 u.1,
            same_joined u (left, o) k,
            on (joined u.0 u.1) us ((u.0, Some u.1), refl, (q.0, q.1, q.2, same_fits u.0 left k.0 s.3, q.3, q.4)),
          )) (operands (suc n) left o s.1 (firsts left s.0 s.4 xs.0) s.5 xs.1)))
