-- Choices, forms that may be empty, lists and sets, put together as pieces.
use Rattle.std.proofs.Common.{◌≡◌, ℕ, suc, List, [], ◌∷◌, ◌++◌, Bool, true, false, inl, inr, sym, refl, ap, ◌∙◌, codes}
use Rattle.std.specs.Prelude.{◌||◌, None}
use Rattle.asm_grammar.specs.Language.{Language, ◌either◌, maybe}
use Rattle.asm_grammar.specs.Parser.{Parser, choose, optional}
use Rattle.asm_grammar.proofs.Exact.{Complete, Apart, weaken}
use Rattle.asm_grammar.proofs.Pairs.{or_false}
use Rattle.asm_grammar.proofs.Choices.{sound-either, complete-either}
use Rattle.asm_grammar.proofs.Maybe.{sound-maybe, complete-maybe, maybe_under}
use Rattle.asm_grammar.proofs.Fronts.{fronts-either, fronts-maybe}
use Rattle.asm_grammar.proofs.Wider.{wider-either, wider-maybe}
use Rattle.asm_syntax.specs.declared.token.Token.{Token}
use Rattle.asm_syntax.specs.Marks.{Mark, is, symbol}
use Rattle.asm_syntax.specs.Forms as g
use Rattle.asm_syntax.specs.Forms.{any, is_open, second, Rest}
use Rattle.asm_parse_theory.specs.Firsts.{among}
use Rattle.asm_parse_theory.specs.Forms as r
use Rattle.asm_parse_theory.specs.Forms.{goes_on}
use Rattle.asm_parse_theory.proofs.Sets.{disjoint, apart}
use Rattle.asm_parse_theory.proofs.MarkLists.{among_two, or_assoc, or_nothing}
use Rattle.asm_parse_theory.proofs.Facts.{Limited}
use Rattle.asm_parse_theory.proofs.Rooms.{no_room}
use Rattle.asm_parse_theory.proofs.FormFacts.{by_either, starts_bracketed, sound_many, sound_members, sound_bracketed, complete_many, complete_members, complete_bracketed, fronts_many, fronts_members, fronts_bracketed, wider_many, wider_members, wider_bracketed}
use Rattle.asm_parse_theory.proofs.Pieces.{Piece, piece_then, piece_after_sign}

-- ---- choices, by a test that is of the first marks

-- the facts of the first form by the parser's test
by_test : {V : Type 0} {X : Bool} {q : Parser Token V} {M : Language Token V} (F C : List Mark) (test : Token → Bool)
    → ((t : Token) → test t ≡ among F t) → Complete X q M (among F) (λ v. among C) false → Complete X q M test (λ v. among C) false
by_test F C test same c = weaken test (λ v. among C) (λ t h. same t ∙ h) (λ v t h. h) c

module _ {V : Type 0} {p q : ℕ → Parser Token V} {L M : Limited V} {F F' C C' : List Mark} (test : Token → Bool) (same : (t : Token) → test t ≡ among F t)
    (a : Piece p L F C false) (b : Piece q M F' C' false) where
  either_starts : (n : ℕ) (t : Token) → among (F ++ F') t ≡ true → (L any (suc n) either M any (suc n)).Begins (t ∷ [])
  either_starts n t h =
      by_either (among F t) (among F' t) (λ g. inl (a.starts n t g)) (λ g. inr (b.starts n t g)) (sym (among_two F F' t) ∙ h)

  either_apart : disjoint F' F ≡ true → Apart test (among F')
  either_apart i t h = same t ∙ apart F' F i t h

  pub piece_either : disjoint F' F ≡ true → Piece (λ n. choose test (p n) (q n)) (λ f n. L f n either M f n) (F ++ F') (C ++ C') false
  piece_either i = record {
    sound = λ n. sound-either test (a.sound n) (b.sound n);
    starts = either_starts;
    empty = λ f n. inl (a.empty f n);
    complete = λ X f loose n k room.
        weaken (among (F ++ F')) (λ v. among (C ++ C'))
        (λ t h. among_two F F' t ∙ ap (λ x. x || among F' t) (sym (same t)) ∙ h) (λ v t h. sym (among_two C C' t) ∙ h)
        (complete-either X (by_test F C test same (a.complete X f loose n k room)) (b.complete X f loose n k room) (either_apart i));
    fronts = λ f n. fronts-either (a.fronts f n) (b.fronts f n);
    wider = λ n. wider-either (a.wider n) (b.wider n);
    skips = λ x. absurd (cc x);
  }

-- ---- forms that may be empty

module _ {V : Type 0} {p : ℕ → Parser Token V} {L : Limited V} {F C : List Mark} (test : Token → Bool) (same : (t : Token) → test t ≡ among F t)
    (a : Piece p L F C false) where
  two_off : (t : Token) → among (F ++ C) t ≡ false → (test t || among C t) ≡ false
  two_off t h = ap (λ x. x || among C t) (same t) ∙ sym (among_two F C t) ∙ h

  test_off : (t : Token) → among (F ++ C) t ≡ false → test t ≡ false
  test_off t h = (or_false (test t) (among C t) (two_off t h)).0

  more_off : (v : V) (t : Token) → among (F ++ C) t ≡ false → among C t ≡ false
  more_off v t h = (or_false (test t) (among C t) (two_off t h)).1

  pub piece_maybe : Piece (λ n. optional test (p n)) (λ f n. maybe (L f n)) F (F ++ C) true
  piece_maybe = record {
    sound = λ n. sound-maybe test (a.sound n);
    starts = λ n t h. inl (a.starts n t h);
    empty = λ f n. inr refl;
    complete = λ X f loose n k room.
        weaken (among F) (λ v. among (F ++ C)) (λ t h. sym (same t) ∙ h) (maybe_under test (λ v. among C) (among (F ++ C)) test_off more_off)
        (complete-maybe X (by_test F C test same (a.complete X f loose n k room)));
    fronts = λ f n. fronts-maybe (a.fronts f n);
    wider = λ n. wider-maybe (a.wider n);
    skips = λ x f n. (None, inr (refl, refl));
  }

  many_apart : disjoint F C ≡ true → Apart (among C) test
  many_apart i t h = apart F C i t (sym (same t) ∙ h)

  pub piece_many : disjoint F C ≡ true → Piece (λ n. r.many test (p n)) (λ f n. g.many (L f n)) F (F ++ C) true
  piece_many i = record {
    sound = λ n. sound_many (a.sound n) test (λ t h. a.starts n t (sym (same t) ∙ h));
    starts = λ n t h. inl (inl (a.starts n t h));
    empty = λ f n. inr refl;
    complete = λ X f loose n k room.
        weaken (among F) (λ v. among (F ++ C)) (λ t h. sym (same t) ∙ h) (λ v t h. two_off t h)
        (complete_many X (by_test F C test same (a.complete X f loose n k room)) (many_apart i));
    fronts = λ f n. fronts_many (a.fronts f n);
    wider = λ n. wider_many (a.wider n);
    skips = λ x f n. ([], (None, refl, inr (refl, refl)));
  }

-- ---- lists and sets, and what stands in braces

module _ {V : Type 0} {p : ℕ → Parser Token V} {L : Limited V} {F C : List Mark} (a : Piece p L F C false) where
  pub piece_listed : disjoint (symbol (codes ",") ∷ []) C ≡ true
      → Piece (λ n. r.listed (p n)) (λ f n. g.listed (L f n)) F (C ++ symbol (codes ",") ∷ C) false
  piece_listed i =
      piece_then a (piece_many (is (symbol (codes ","))) (λ t. refl) (piece_after_sign (codes ",") a) i) i

  pub piece_bracketed : (s end : List ℕ) → disjoint (symbol end ∷ []) C ≡ true
      → Piece (λ n. r.bracketed (is_open n) s (p n) end) (λ f n. g.bracketed (is_open n) s (L f n) end) (symbol s ∷ []) [] false
  piece_bracketed s end i = record {
    sound = λ n. sound_bracketed (is_open n) (λ o. a.sound n) (a.empty any (suc n)) s end;
    starts = λ n. starts_bracketed s (L any (suc n)) end (a.empty any (suc n));
    empty = λ f n. inl refl;
    complete = λ X f loose n k room.
        complete_bracketed X (no_room X n k room) (λ o. a.sound n) (λ o o'. a.complete X f loose n k room)
        (λ o'. a.complete true f (λ t e e'. refl) k k (inl refl)) s end (λ v. apart (symbol end ∷ []) C i);
    fronts = λ f n. fronts_bracketed (is_open n) (λ o. a.fronts f n) s end;
    wider = λ n. wider_bracketed (is_open n) (is_open n) (λ o. o) (λ o. a.wider n) s end;
    skips = λ x. absurd (cc x);
  }

-- the first of a set and the rest of it; nothing goes on after one
module _ {V : Type 0} {p : ℕ → Parser Token V} {L : Limited V} {F : List Mark} (a : Piece p L F [] false) where
  abbrev after_member : List Mark
  after_member = symbol (codes "..") ∷ symbol (codes ":") ∷ symbol (codes ",") ∷ []

  member_off : (t : Token) → among after_member t ≡ false → (goes_on t || false) ≡ false
  member_off t h = or_nothing (goes_on t) ∙ or_assoc (is (symbol (codes "..")) t) (is (symbol (codes ":")) t) (is (symbol (codes ",")) t) ∙ h

  pub piece_members : Piece (λ n. r.members (p n)) (λ f n. g.members (L f n)) F after_member false
  piece_members = record {
    sound = λ n. sound_members (a.sound n);
    starts = λ n t h. inl (a.starts n t h);
    empty = λ f n. inl (a.empty f n);
    complete = λ X f loose n k room.
        weaken (among F) (λ v. among after_member) (λ t h. h) (λ v t h. member_off t h)
        (complete_members X (a.complete X f loose n k room) (λ t h. refl));
    fronts = λ f n. fronts_members (a.fronts f n);
    wider = λ n. wider_members (a.wider n);
    skips = λ x. absurd (cc x);
  }
