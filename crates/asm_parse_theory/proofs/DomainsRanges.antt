-- The parsers of ranges, parameters and integers are exact for the grammar.
use Rattle.std.proofs.Common.{◌≡◌, ℕ, suc, [], ◌∷◌, Bool, true, false, inl, inr, refl, codes}
use Rattle.std.specs.Prelude.{None}
use Rattle.asm_grammar.specs.Language.{Language}
use Rattle.asm_grammar.specs.Parser.{Parser}
use Rattle.asm_grammar.proofs.Exact.{Sound, Complete, weaken}
use Rattle.asm_grammar.proofs.Basic.{sound-word, complete-word, sound-made, nowhere, true_is_false}
use Rattle.asm_grammar.proofs.Pairs.{sound-then, complete-then}
use Rattle.asm_grammar.proofs.Maybe.{sound-maybe, complete-maybe, maybe_apart, both_false}
use Rattle.asm_grammar.proofs.Fronts.{Fronts, fronts-word, fronts-then, fronts-made, fronts-maybe}
use Rattle.asm_grammar.proofs.Wider.{wider-same}
use Rattle.asm_syntax.specs.declared.token.Token.{Token}
use Rattle.asm_syntax.specs.declared.tree.DomainTree.{DomainTree}
use Rattle.asm_syntax.specs.Marks.{is, variable, number, symbol}
use Rattle.asm_syntax.specs.Forms.{is_open}
use Rattle.asm_syntax.specs.Heights.{fits}
use Rattle.asm_syntax.specs.Domains as g
use Rattle.asm_syntax.specs.Domains.{range_of, ranges_of, params_of, int_of}
use Rattle.asm_parse_theory.specs.Firsts.{among, first_int}
use Rattle.asm_parse_theory.specs.Domains as r
use Rattle.asm_parse_theory.proofs.Sets.{apart}
use Rattle.asm_parse_theory.proofs.Facts.{Room, Line, Deeper}
use Rattle.asm_parse_theory.proofs.Rooms.{no_room}
use Rattle.asm_parse_theory.proofs.FormFacts.{Starts, by_either, sound_sign, sound_after_word, sound_listed, sound_formed, sound_in_parentheses, starts_in_parentheses, complete_sign, complete_mapped, complete_formed, complete_after_word, complete_listed, complete_in_parentheses, fronts_sign, fronts_after_word, fronts_listed, fronts_formed, fronts_in_parentheses}
use Rattle.asm_parse_theory.proofs.Domains.{domain_line, inside_domain}

-- ---- ranges, by their values

pub sound_ranges : {q : Parser Token DomainTree} {L M : Language Token DomainTree} → Sound q L M → Sound (r.ranges q) (g.ranges L) (g.ranges M)
unfolding r.ranges r.range
sound_ranges s =
    sound_formed (sound_listed (sound-made range_of (sound-then (sound-word (is variable)) (sound_after_word s (codes "in"))))) ranges_of

pub empty_ranges : (L : Language Token DomainTree) → (g.ranges L).Begins []
empty_ranges L = inl (inl (inl refl))

pub starts_ranges : (L : Language Token DomainTree) → Starts (is variable) (g.ranges L)
starts_ranges L t h = inl (inl (inr (t, h, refl)))

pub complete_ranges : (X : Bool) {q : Parser Token DomainTree} {L : Language Token DomainTree} {F : Token → Bool}
    → Complete X q L F nowhere false → Complete X (r.ranges q) (g.ranges L) (is variable) (λ v. is (symbol (codes ","))) false
unfolding r.ranges r.range
complete_ranges X c =
    weaken (is variable) (λ v. is (symbol (codes ","))) (λ t h. h) (λ v t h. both_false (is (symbol (codes ",")) t) false h refl)
    (complete_formed ranges_of (complete_listed X (complete_mapped range_of
    (complete-then X (complete-word (is variable) X) (complete_after_word X c (codes "in")) (λ v t h. refl))) (λ t h. refl)))

pub fronts_ranges : {L : Language Token DomainTree} → Fronts L → Fronts (g.ranges L)
fronts_ranges f =
    fronts_formed (fronts_listed (fronts-made range_of (fronts-then (fronts-word (is variable)) (fronts_after_word f (codes "in"))))) ranges_of

-- ---- ranges over domains

pub ranges_line : Line (λ n. r.ranges (r.domain n)) (λ f n. g.ranges (g.domain n)) (is variable) (λ v. is (symbol (codes ",")))
ranges_line = record {
  sound = λ n. sound_ranges (domain_line.sound n);
  starts = λ n. starts_ranges (g.domain (suc n));
  empty = λ f n. empty_ranges (g.domain n);
  complete = λ X f loose n k room. complete_ranges X (domain_line.complete X f loose n k room);
  fronts = λ f n. fronts_ranges (domain_line.fronts f n);
  wider = λ n. wider-same (g.ranges (g.domain n));
}

-- the same one construct deeper
pub inside_ranges : Deeper (λ n. r.ranges (r.inside n)) (λ f n. g.ranges (g.inside n)) (is variable) (λ v. is (symbol (codes ",")))
inside_ranges = record {
  sound = λ n o. sound_ranges (inside_domain.sound n o);
  starts = λ n o. starts_ranges (g.inside (suc n));
  empty = λ f n. empty_ranges (g.inside (suc n));
  complete = λ X f loose n k room o o'. complete_ranges X (inside_domain.complete X f loose n k room o o');
  fronts = λ f n o. fronts_ranges (inside_domain.fronts f n o);
  wider = λ n o. wider-same (g.ranges (g.inside n));
}

-- ---- parameters

sound_params : (n : ℕ) → Sound (r.params n) (g.params n) (g.params (suc n))
unfolding r.params
sound_params n =
    sound_formed (sound_in_parentheses (is_open n) (inside_ranges.sound n) (empty_ranges (g.inside (suc n)))) params_of

complete_params : (X : Bool) (n k : ℕ) → Room X n k → Complete X (r.params n) (g.params k) (is (symbol (codes "("))) nowhere false
unfolding r.params
complete_params X n k room =
    complete_formed params_of (complete_in_parentheses X (no_room X n k room) (inside_ranges.sound n)
    (inside_ranges.complete X fits (λ t e f. absurd (true_is_false (fits t) e f)) n k room)
    (λ o. inside_ranges.complete true fits (λ t e f. refl) k k (inl refl) o o) (λ v. ends))
  where
    ends : (t : Token) → is (symbol (codes ")")) t ≡ true → is (symbol (codes ",")) t ≡ false
    ends = apart (symbol (codes ")") ∷ []) (symbol (codes ",") ∷ []) refl

pub params_line : Line r.params (λ f n. g.params n) (is (symbol (codes "("))) nowhere
params_line = record {
  sound = sound_params;
  starts = λ n. starts_in_parentheses (g.ranges (g.inside (suc n))) (empty_ranges (g.inside (suc n)));
  empty = λ f n. inl refl;
  complete = λ X f loose n k room. complete_params X n k room;
  fronts = λ f n. fronts_formed (fronts_in_parentheses (is_open n) (inside_ranges.fronts f n)) params_of;
  wider = λ n. wider-same (g.params n);
}

-- ---- integers

abbrev minus : Token → Bool
minus = is (symbol (codes "-"))

sound_int : Sound r.int g.int g.int
unfolding r.int
sound_int = sound_formed (sound-then (sound-maybe minus (sound_sign (codes "-"))) (sound-word (is number))) int_of

starts_int : Starts (among first_int) g.int
starts_int t = by_either (is number t) (minus t) (λ e. inr (None, [], t ∷ [], refl, inr (refl, refl), inr (t, e, refl))) (λ e. inl (inl (inr (t, e, refl))))

complete_int : (X : Bool) → Complete X r.int g.int (among first_int) nowhere false
unfolding r.int
complete_int X =
    complete_formed int_of (complete-then X (complete-maybe X (complete_sign X (codes "-"))) (complete-word (is number) X)
    (maybe_apart minus nowhere (is number) (apart (number ∷ []) (symbol (codes "-") ∷ []) refl) (λ v t h. refl)))

fronts_int : Fronts g.int
fronts_int = fronts_formed (fronts-then (fronts-maybe (fronts_sign (codes "-"))) (fronts-word (is number))) int_of

pub int_line : Line (λ n. r.int) (λ f n. g.int) (among first_int) nowhere
int_line = record {
  sound = λ n. sound_int;
  starts = λ n. starts_int;
  empty = λ f n. inl (inl (inl refl));
  complete = λ X f loose n k room. complete_int X;
  fronts = λ f n. fronts_int;
  wider = λ n. wider-same g.int;
}
