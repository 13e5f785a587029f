-- Rows of any length are spelled again by their words.
use Rattle.std.proofs.Common.{◌≡◌, ℕ, zero, suc, Bool, true, List, [], ◌∷◌, ◌++◌, inl, inr, sym, refl, ap, ◌∙◌, subst, append_assoc, append-nil}
use Rattle.std.specs.Prelude.{codes, Option, Some, None, ◌||◌}
use Rattle.std.proofs.lemmas.Slice.Eq.{bytes_eq-Decides}
use Rattle.asm_grammar.specs.Language.{Language, word, ◌then◌, ◌either◌, made, Follows}
use Rattle.asm_syntax.specs.declared.token.Token.{Token}
use Rattle.asm_syntax.specs.declared.token.TokenKind.{TokenKind}
use Rattle.asm_syntax.specs.declared.token.TokenKind.TheVariants.{Keyword, Symbol}
use Rattle.asm_syntax.specs.Words.{is_among, symbols, keywords}
use Rattle.asm_syntax.specs.Marks.{is, keyword, symbol, same, mark_of}
use Rattle.asm_syntax.specs.Forms.{quoted, sign, second, after_word, after_sign, between, opened, enclosed, bracketed, one_more, any, several, or_none, many, listed, Rest, To, And, is_range_sign, members}
use Rattle.asm_syntax.specs.Written.{Words, after_each, written_all, if_there, comma}
use Rattle.asm_print_theory.proofs.Propers.{Lexed, lexed_parts, none_left}
use Rattle.asm_print_theory.proofs.Back.{Back, Backs, whatever, both, in_option, in_list, back-fixed, back-then, back_then_at, back-opens-fixed, back_step_fixed, back_fixed_at, back_made_to, back-either, back-made, back-maybe}

-- ---- words that are always there

is_keyword : (w : List ℕ) (u : Token) → u.kind ≡ Keyword w → is (keyword w) u ≡ true
is_keyword w u e = ap (λ k. same (keyword w) (mark_of k)) e ∙ (bytes_eq-Decides w w).1 refl

is_symbol : (w : List ℕ) (u : Token) → u.kind ≡ Symbol w → is (symbol w) u ≡ true
is_symbol w u e = ap (λ k. same (symbol w) (mark_of k)) e ∙ (bytes_eq-Decides w w).1 refl

pub back-quoted : (w : List ℕ) → is_among keywords w ≡ true → Backs (quoted w) (quoted w) whatever (λ t. w ∷ [])
back-quoted w h = back-fixed (is (keyword w)) (is (keyword w)) (Keyword w) h (is_keyword w)

pub back-sign : (w : List ℕ) → is_among symbols w ≡ true → Backs (sign w) (sign w) whatever (λ t. w ∷ [])
back-sign w h = back-fixed (is (symbol w)) (is (symbol w)) (Symbol w) h (is_symbol w)

module _ {V : Type 0} {L M : Language Token V} {same : V → V → Type 0} {words : V → Words} (w : List ℕ) where
  pub back-after_word : is_among keywords w ≡ true → Backs L M same words → Backs (after_word w L) (after_word w M) same (λ v. w ∷ words v)
  back-after_word h f = back-made second (λ u v s. s.1) (λ v ts s. refl) (back-then (back-quoted w h) f)

  pub back-after_sign : is_among symbols w ≡ true → Backs L M same words → Backs (after_sign w L) (after_sign w M) same (λ v. w ∷ words v)
  back-after_sign h f = back-made second (λ u v s. s.1) (λ v ts s. refl) (back-then (back-sign w h) f)

  module _ (is_open is_open' : Bool) (more : is_open ≡ true → is_open' ≡ true) where
    pub back-opened : is_among keywords w ≡ true → (is_open ≡ true → Backs L M same words)
        → Backs (opened is_open w L) (opened is_open' w M) same (λ v. w ∷ words v)
    back-opened h f = back-made second (λ u v s. s.1) (λ v ts s. refl) (back-opens-fixed is_open is_open' _ (Keyword w) more h (is_keyword w) f)

    pub back-enclosed : (end : List ℕ) → is_among keywords w ≡ true → is_among keywords end ≡ true → (is_open ≡ true → Backs L M same words)
        → Backs (enclosed is_open w L end) (enclosed is_open' w M end) same (λ v. w ∷ words v ++ end ∷ [])
    back-enclosed end h h' f = back-made between (λ u v s. s.1.0) (λ v ts s. refl)
        (back-opens-fixed is_open is_open' _ (Keyword w) more h (is_keyword w) (λ o. back-then (f o) (back-quoted end h')))

    pub back-bracketed : (end : List ℕ) → is_among symbols w ≡ true → is_among symbols end ≡ true → (is_open ≡ true → Backs L M same words)
        → Backs (bracketed is_open w L end) (bracketed is_open' w M end) same (λ v. w ∷ words v ++ end ∷ [])
    back-bracketed end h h' f = back-made between (λ u v s. s.1.0) (λ v ts s. refl)
        (back-opens-fixed is_open is_open' _ (Symbol w) more h (is_symbol w) (λ o. back-then (f o) (back-sign end h')))

-- a value between two symbols
pub back_between : {V : Type 0} {M : Language Token V} {same : V → V → Type 0} {words : Words} (s : List ℕ) (is_open : Bool) (end : List ℕ) (v : V)
    → is_among symbols s ≡ true → is_among symbols end ≡ true → is_open ≡ true → Back same words M v
    → Back same (s ∷ words ++ end ∷ []) (bracketed is_open s M end) v
back_between s is_open end v h h' o b =
    let t : Token = record { kind = Symbol s; span = record { start = 0; end = 0 } } in
    back_made_to between (t, (v, t)) v (λ u k. k.1.0)
    (back_step_fixed is_open (is (symbol s)) (Symbol s) t (v, t) o h (is_symbol s)
    (back_then_at v t b (back_fixed_at (is (symbol end)) (Symbol end) t h' (is_symbol end))))

-- what is between two symbols
pub unbracketed : {V : Type 0} (is_open : Bool) (s : List ℕ) (L : Language Token V) (end : List ℕ) (v : V) (ts : List Token)
    → (bracketed is_open s L end).Spells v ts → Lexed ts → (is_open ≡ true) × (a : List Token) × L.Spells v a × Lexed a
unbracketed is_open s L end v ts (p, e, (b, f, t, o, (a, c, g, x, y))) l =
    let ls = subst (λ (z : List Token). Lexed z) f l in
    let lp = lexed_parts a c (subst (λ (z : List Token). Lexed z) g ls.1) in (o, a, subst (λ w. L.Spells w a) (sym e) x, lp.0)

-- ---- rows

-- each spelled after the one before it
abbrev Row : {V : Type 0} → Language Token V → List V → List Token → Type 0
Row L [] ts = ts ≡ []
Row L (v ∷ vs) ts = (a : List Token) × (b : List Token) × (ts ≡ a ++ b) × L.Spells v a × Row L vs b

abbrev rows : {V : Type 0} → Language Token V → Language Token (List V)
rows L = record { Spells = λ vs ts. Row L vs ts; Begins = λ ts. ⊥ }

back_rows : {V : Type 0} {L M : Language Token V} {same : V → V → Type 0} {words : V → Words} → Backs L M same words
    → (vs : List V) (ts : List Token) → Row L vs ts → Lexed ts → Back (in_list same) (written_all words vs) (rows M) vs
back_rows {V} {L} {M} {same} {words} f [] ts s l = record {
  kinds = [];
  proper = tt;
  written = refl;
  reads = λ us e. ([], tt, none_left us e);
}
back_rows {V} {L} {M} {same} {words} f (v ∷ vs) ts s l =
    let ls = lexed_parts s.0 s.1 (subst (λ (x : List Token). Lexed x) s.2 l) in
    let b = back_then_at v vs (f.at v s.0 s.3 ls.0) (back_rows f vs s.1 s.4 ls.1) in
    record {
      kinds = b.kinds;
      proper = b.proper;
      written = b.written;
      reads = λ us e.
          let x = b.reads us e in
          (x.0.0 ∷ x.0.1, (x.1.0, x.1.1), (x.2.0, x.2.1, x.2.2, x.2.3, x.2.4));
    }

-- what follows a first item is a row
module _ {V : Type 0} (L : Language Token V) where
  row_of : (n : ℕ) (left vs : List V) (ts : List Token) → Follows any one_more L n left vs ts → (ws : List V) × (vs ≡ left ++ ws) × Row L ws ts
  row_of zero left vs ts s = ([], s.0 ∙ sym (append-nil left), s.1)
  row_of (suc n) left vs ts s =
      let r = row_of n (one_more left s.0) vs s.2 s.6 in
      (s.0 ∷ r.0, r.1 ∙ append_assoc left (s.0 ∷ []) r.0, (s.1, s.2, s.3, s.5, r.2))

  follows_of : (ws left : List V) (ts : List Token) → Row L ws ts → (n : ℕ) × Follows any one_more L n left (left ++ ws) ts
  follows_of [] left ts r = (0, (append-nil left, r))
  follows_of (w ∷ ws) left ts r =
      let f = follows_of ws (one_more left w) r.1 r.4 in
      (suc f.0, (w, r.0, r.1, r.2, refl, r.3, subst (λ vs. Follows any one_more L f.0 (one_more left w) vs r.1) (append_assoc left (w ∷ []) ws) f.1))

  -- one or more
  row_several : (vs : List V) (ts : List Token) → (several L).Spells vs ts → Row L vs ts
  row_several vs ts s =
      let r = row_of s.1 s.0 vs s.3 s.6 in
      subst (λ x. Row L x ts) (sym (r.1 ∙ ap (λ x. x ++ r.0) s.5.1)) (s.2, s.3, s.4, s.5.2, r.2)

  several_row : (v : V) (vs : List V) (ts : List Token) → Row L (v ∷ vs) ts → (several L).Spells (v ∷ vs) ts
  several_row v vs ts r =
      let f = follows_of vs (v ∷ []) r.1 r.4 in (v ∷ [], f.0, r.0, r.1, r.2, (v, refl, r.3), f.1)

  row_many : (vs : List V) (ts : List Token) → (many L).Spells vs ts → Row L vs ts
  row_many vs ts (o, e, inl s) = subst (λ x. Row L x ts) (sym (e ∙ ap or_none s.1)) (row_several s.0 ts s.2)
  row_many vs ts (o, e, inr s) = subst (λ x. Row L x ts) (sym (e ∙ ap or_none s.0)) s.1

  many_row : (vs : List V) (ts : List Token) → Row L vs ts → (many L).Spells vs ts
  many_row [] ts r = (None, refl, inr (refl, r))
  many_row (v ∷ vs) ts r = (Some (v ∷ vs), refl, inl (v ∷ vs, refl, several_row v vs ts r))

module _ {V : Type 0} {L M : Language Token V} {same : V → V → Type 0} {words : V → Words} (f : Backs L M same words) where
  pub back-many : Backs (many L) (many M) (in_list same) (written_all words)
  back-many = record {
    at = λ vs ts s l.
        let b = back_rows f vs ts (row_many L vs ts s) l in
        record {
          kinds = b.kinds;
          proper = b.proper;
          written = b.written;
          reads = λ us e. let x = b.reads us e in (x.0, x.1, many_row M x.0 us x.2);
        };
  }

  pub back-several : Backs (several L) (several M) (in_list same) (written_all words)
  back-several = record { at = λ vs ts s l. go vs ts (row_several L vs ts s) (begun vs ts s) l }
    where
      begun : (vs : List V) (ts : List Token) → (several L).Spells vs ts → (v : V) × (ws : List V) × (vs ≡ v ∷ ws)
      begun vs ts s = let r = row_of L s.1 s.0 vs s.3 s.6 in (s.5.0, r.0, r.1 ∙ ap (λ x. x ++ r.0) s.5.1)

      spelled : (us vs : List V) (ts : List Token) → (v : V) × (ws : List V) × (vs ≡ v ∷ ws) → in_list same us vs → Row M us ts → (several M).Spells us ts
      spelled [] vs ts b h r = absurd (subst (in_list same []) b.2 h)
      spelled (u ∷ us) vs ts b h r = several_row M u us ts r

      go : (vs : List V) (ts : List Token) → Row L vs ts → (v : V) × (ws : List V) × (vs ≡ v ∷ ws) → Lexed ts
          → Back (in_list same) (written_all words vs) (several M) vs
      go vs ts r b l =
          let c = back_rows f vs ts r l in
          record {
            kinds = c.kinds;
            proper = c.proper;
            written = c.written;
            reads = λ us e. let x = c.reads us e in (x.0, x.1, spelled x.0 vs us b x.1 x.2);
          }

-- ---- with commas, and the members of a set

-- each after a separator
pub each_is : {V : Type 0} (separator : List ℕ) (write : V → Words) (vs : List V) → after_each separator write vs ≡ written_all (λ v. separator ∷ write v) vs
each_is separator write [] = refl
each_is separator write (v ∷ vs) = ap (λ ws. separator ∷ (write v ++ ws)) (each_is separator write vs)

abbrev pub members_words : {V : Type 0} → (V → Words) → V × Option (Rest V) → Words
members_words write (first, None) = write first
members_words write (first, Some (To last)) = write first ++ codes ".." ∷ write last
members_words write (first, Some (And others)) = write first ++ after_each comma write others

abbrev pub in_rest : {V : Type 0} → (V → V → Type 0) → Rest V → Rest V → Type 0
in_rest f (To u) (To v) = f u v
in_rest f (To u) (And vs) = ⊥
in_rest f (And us) (To v) = ⊥
in_rest f (And us) (And vs) = in_list f us vs

range_sign : (u : Token) → u.kind ≡ Symbol (codes "..") → is_range_sign u ≡ true
range_sign u e = ap (λ (k : TokenKind). same (symbol (codes "..")) (mark_of k) || same (symbol (codes ":")) (mark_of k)) e

module _ {V : Type 0} {L M : Language Token V} {same : V → V → Type 0} {words : V → Words} (f : Backs L M same words) where
  pub back-listed : Backs (listed L) (listed M) (both same (in_list same)) (λ v. words v.0 ++ after_each comma words v.1)
  back-listed = record {
    at = λ v ts s l.
        let b = (back-then f (back-many (back-after_sign comma refl f))).at v ts s l in
        record {
          kinds = b.kinds;
          proper = b.proper;
          written = b.written ∙ ap (λ ws. words v.0 ++ ws) (sym (each_is comma words v.1));
          reads = b.reads;
        };
  }

  abbrev rest_words : Rest V → Words
  rest_words (To v) = codes ".." ∷ words v
  rest_words (And vs) = after_each comma words vs

  rest_back : Backs (made To (made second (word is_range_sign then L)) either made And (several (after_sign comma L)))
      (made To (made second (word is_range_sign then M)) either made And (several (after_sign comma M))) (in_rest same) rest_words
  rest_back = back-either
      (back-made To (λ u v h. h) (λ v ts s. refl) (back-made second (λ u v h. h.1) (λ v ts s. refl)
      (back-then (back-fixed is_range_sign is_range_sign (Symbol (codes "..")) refl range_sign) f)))
      (back-made And (λ u v h. h) (λ vs ts s. each_is comma words vs) (back-several (back-after_sign comma refl f)))

  split_words : (v : V) (o : Option (Rest V)) → members_words words (v, o) ≡ words v ++ if_there [] rest_words o
  split_words v None = sym (append-nil (words v))
  split_words v (Some (To w)) = refl
  split_words v (Some (And ws)) = refl

  pub back-members : Backs (members L) (members M) (both same (in_option (in_rest same))) (members_words words)
  back-members = record {
    at = λ v ts s l.
        let b = (back-then f (back-maybe rest_back)).at v ts s l in
        record {
          kinds = b.kinds;
          proper = b.proper;
          written = b.written ∙ sym (split_words v.0 v.1);
          reads = b.reads;
        };
  }
