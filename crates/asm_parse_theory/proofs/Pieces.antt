-- Forms that may be empty too, put together: what is shown of a line is shown of each at once.
use Rattle.std.proofs.Common.{◌≡◌, ℕ, suc, List, [], ◌∷◌, Bool, true, false, inl, inr, sym, refl, ◌∙◌}
use Rattle.std.specs.Prelude.{◌&&◌}
use Rattle.asm_grammar.specs.Language.{word, ◌then◌, made}
use Rattle.asm_grammar.specs.Parser.{Parser, expect, mapped, both}
use Rattle.asm_grammar.proofs.Exact.{Sound, Complete, weaken}
use Rattle.asm_grammar.proofs.Basic.{sound-word, complete-word, sound-made}
use Rattle.asm_grammar.proofs.Pairs.{sound-then, complete-then}
use Rattle.asm_grammar.proofs.Fronts.{Fronts, fronts-word, fronts-then, fronts-made}
use Rattle.asm_grammar.proofs.Wider.{Wider, wider-same, wider-then, wider-made}
use Rattle.asm_syntax.specs.declared.token.Span.{Span}
use Rattle.asm_syntax.specs.declared.token.Token.{Token}
use Rattle.asm_syntax.specs.declared.tree.TermTree.{TermTree}
use Rattle.asm_syntax.specs.Marks.{Mark, is, is_one_of, keyword, symbol, span_of}
use Rattle.asm_syntax.specs.Heights.{fits}
use Rattle.asm_syntax.specs.Forms as g
use Rattle.asm_syntax.specs.Forms.{any, is_open, second, Rest}
use Rattle.asm_parse_theory.specs.Firsts.{among}
use Rattle.asm_parse_theory.specs.Forms as r
use Rattle.asm_parse_theory.specs.Forms.{goes_on}
use Rattle.asm_parse_theory.proofs.Sets.{disjoint, within, apart, under, off}
use Rattle.asm_parse_theory.proofs.MarkLists.{one_of_among, far, among_far}
use Rattle.asm_parse_theory.proofs.Facts.{Limited, Room, Loose, Line}
use Rattle.asm_parse_theory.proofs.FormFacts.{by_either, starts_after_word, starts_after_sign, sound_after_word, sound_after_sign, sound_formed, complete_mapped, complete_formed, complete_after_word, complete_after_sign, fronts_after_word, fronts_after_sign, fronts_formed, wider_after_word, wider_after_sign, wider_formed}

-- Marks of F begin it, marks of C may go on after a value, and e says whether it spells the empty list.
pub record Piece {V : Type 0} (p : ℕ → Parser Token V) (L : Limited V) (F C : List Mark) (e : Bool) : Type 0 where
  pub sound : (n : ℕ) → Sound (p n) (L fits n) (L any (suc n))
  pub starts : (n : ℕ) (t : Token) → among F t ≡ true → (L any (suc n)).Begins (t ∷ [])
  pub empty : (fits' : TermTree → Bool) (n : ℕ) → (L fits' n).Begins []
  pub complete : (X : Bool) (fits' : TermTree → Bool) → Loose X fits' → (n k : ℕ) → Room X n k
      → Complete X (p n) (L fits' k) (among F) (λ v. among C) e
  pub fronts : (fits' : TermTree → Bool) (n : ℕ) → Fronts (L fits' n)
  pub wider : (n : ℕ) → Wider (L fits n) (L any n)
  -- where it may be empty, what the empty list spells
  pub skips : e ≡ true → (fits' : TermTree → Bool) (n : ℕ) → (v : V) × (L fits' n).Spells v []

-- a line is one
pub piece_line : {V : Type 0} {p : ℕ → Parser Token V} {L : Limited V} (F C : List Mark) → Line p L (among F) (λ v. among C) → Piece p L F C false
piece_line F C line = record {
  sound = line.sound;
  starts = line.starts;
  empty = line.empty;
  complete = line.complete;
  fronts = line.fronts;
  wider = line.wider;
  skips = λ e. absurd (cc e);
}

pub line_piece : {V : Type 0} {p : ℕ → Parser Token V} {L : Limited V} {F C : List Mark} → Piece p L F C false → Line p L (among F) (λ v. among C)
line_piece a = record {
  sound = a.sound;
  starts = a.starts;
  empty = a.empty;
  complete = a.complete;
  fronts = a.fronts;
  wider = a.wider;
}

-- ---- other lists of marks

module _ {V : Type 0} {p : ℕ → Parser Token V} {L : Limited V} {F C : List Mark} {e : Bool} (a : Piece p L F C e) where
  -- the same marks in another order begin it
  pub piece_first : (F' : List Mark) → within F F' ≡ true → within F' F ≡ true → Piece p L F' C e
  piece_first F' i i' = record {
    sound = a.sound;
    starts = λ n t h. a.starts n t (under F' F i' t h);
    empty = a.empty;
    complete = λ X f loose n k room. weaken (among F') (λ v. among C) (under F F' i) (λ v t h. h) (a.complete X f loose n k room);
    fronts = a.fronts;
    wider = a.wider;
    skips = a.skips;
  }

  -- more marks may go on
  pub piece_off : (C' : List Mark) → within C C' ≡ true → Piece p L F C' e
  piece_off C' i = record {
    sound = a.sound;
    starts = a.starts;
    empty = a.empty;
    complete = λ X f loose n k room. weaken (among F) (λ v. among C') (λ t h. h) (λ v t h. off C C' i t h) (a.complete X f loose n k room);
    fronts = a.fronts;
    wider = a.wider;
    skips = a.skips;
  }

-- ---- words

piece_test : (test : Token → Bool) (F : List Mark) → ((t : Token) → test t ≡ among F t) → Piece (λ n. expect test) (λ f n. word test) F [] false
piece_test test F same = record {
  sound = λ n. sound-word test;
  starts = λ n t h. inr (t, same t ∙ h, refl);
  empty = λ f n. inl refl;
  complete = λ X f loose n k room.
      weaken (among F) (λ v. among []) (λ t h. sym (same t) ∙ h) (λ v t h. refl) (complete-word test X);
  fronts = λ f n. fronts-word test;
  wider = λ n. wider-same (word test);
  skips = λ e. absurd (cc e);
}

pub piece_word : (c : Mark) → Piece (λ n. expect (is c)) (λ f n. word (is c)) (c ∷ []) [] false
piece_word c = piece_test (is c) (c ∷ []) (λ t. refl)

pub piece_one_of : (cs : List Mark) → Piece (λ n. expect (is_one_of cs)) (λ f n. word (is_one_of cs)) cs [] false
piece_one_of cs = piece_test (is_one_of cs) cs (one_of_among cs)

-- ---- two in a row

and_both : (x y : Bool) → (x && y) ≡ true → (x ≡ true) × (y ≡ true)
and_both true y e = (refl, e)
and_both false y e = absurd (cc e)

module _ {V W : Type 0} {p : ℕ → Parser Token V} {q : ℕ → Parser Token W} {L : Limited V} {M : Limited W} {F F' C C' : List Mark} {e e' : Bool}
    (a : Piece p L F C e) (b : Piece q M F' C' e') where
  then_starts : (n : ℕ) (t : Token) → among (far e F' F) t ≡ true → (L any (suc n) then M any (suc n)).Begins (t ∷ [])
  then_starts n t h =
      by_either (e && among F' t) (among F t)
      (λ g. let x = and_both e (among F' t) g in
      let s = a.skips x.0 any (suc n) in
      inr (s.0, [], t ∷ [], refl, s.1, b.starts n t x.1))
      (λ g. inl (a.starts n t g))
      (among_far e F' F t ∙ h)

  pub piece_then : disjoint F' C ≡ true → Piece (λ n. both (p n) (q n)) (λ f n. L f n then M f n) (far e F' F) (far e' C C') (e && e')
  piece_then i = record {
    sound = λ n. sound-then (a.sound n) (b.sound n);
    starts = then_starts;
    empty = λ f n. inl (a.empty f n);
    complete = λ X f loose n k room.
        weaken (among (far e F' F)) (λ v. among (far e' C C')) (λ t h. sym (among_far e F' F t) ∙ h) (λ v t h. among_far e' C C' t ∙ h)
        (complete-then X (a.complete X f loose n k room) (b.complete X f loose n k room) (λ v. apart F' C i));
    fronts = λ f n. fronts-then (a.fronts f n) (b.fronts f n);
    wider = λ n. wider-then (a.wider n) (b.wider n);
    skips = λ x f n.
        let both = and_both e e' x in
        let s = a.skips both.0 f n in
        let s' = b.skips both.1 f n in
        ((s.0, s'.0), ([], [], refl, s.1, s'.1));
  }

-- ---- what is made of it

module _ {V W : Type 0} {p : ℕ → Parser Token V} {L : Limited V} {F C : List Mark} {e : Bool} where
  pub piece_made : (h : V → W) → Piece p L F C e → Piece (λ n. mapped h (p n)) (λ f n. made h (L f n)) F C e
  piece_made h a = record {
    sound = λ n. sound-made h (a.sound n);
    starts = a.starts;
    empty = a.empty;
    complete = λ X f loose n k room. complete_mapped h (a.complete X f loose n k room);
    fronts = λ f n. fronts-made h (a.fronts f n);
    wider = λ n. wider-made h (a.wider n);
    skips = λ x f n. let s = a.skips x f n in (h s.0, (s.0, refl, s.1));
  }

  pub piece_formed : (h : Span → V → W) → Piece p L F C e → Piece (λ n. r.formed h (p n)) (λ f n. g.formed h (L f n)) F C e
  piece_formed h a = record {
    sound = λ n. sound_formed (a.sound n) h;
    starts = a.starts;
    empty = a.empty;
    complete = λ X f loose n k room. complete_formed h (a.complete X f loose n k room);
    fronts = λ f n. fronts_formed (a.fronts f n) h;
    wider = λ n. wider_formed (a.wider n) h;
    skips = λ x f n. let s = a.skips x f n in (h (span_of []) s.0, (s.0, refl, s.1));
  }

module _ {V : Type 0} {p : ℕ → Parser Token V} {L : Limited V} {F C : List Mark} {e : Bool} where
  pub piece_after_word : (w : List ℕ) → Piece p L F C e
      → Piece (λ n. r.after_word w (p n)) (λ f n. g.after_word w (L f n)) (keyword w ∷ []) C false
  piece_after_word w a = record {
    sound = λ n. sound_after_word (a.sound n) w;
    starts = λ n t h. starts_after_word w (L any (suc n)) t h;
    empty = λ f n. inl (inl refl);
    complete = λ X f loose n k room. complete_after_word X (a.complete X f loose n k room) w;
    fronts = λ f n. fronts_after_word (a.fronts f n) w;
    wider = λ n. wider_after_word (a.wider n) w;
    skips = λ x. absurd (cc x);
  }

  pub piece_after_sign : (s : List ℕ) → Piece p L F C e
      → Piece (λ n. r.after_sign s (p n)) (λ f n. g.after_sign s (L f n)) (symbol s ∷ []) C false
  piece_after_sign s a = record {
    sound = λ n. sound_after_sign (a.sound n) s;
    starts = λ n t h. starts_after_sign s (L any (suc n)) t h;
    empty = λ f n. inl (inl refl);
    complete = λ X f loose n k room. complete_after_sign X (a.complete X f loose n k room) s;
    fronts = λ f n. fronts_after_sign (a.fronts f n) s;
    wider = λ n. wider_after_sign (a.wider n) s;
    skips = λ x. absurd (cc x);
  }
