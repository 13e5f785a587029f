-- The parser of terms is exact for the grammar, to any depth.
use Rattle.std.proofs.Common.{◌≡◌, ℕ, zero, suc, Bool, true, inl, refl, codes}
use Rattle.asm_grammar.proofs.Basic.{nowhere}
use Rattle.asm_syntax.specs.declared.tree.TermTree.{TermTree}
use Rattle.asm_syntax.specs.Marks.{is, variable, symbol}
use Rattle.asm_syntax.specs.Forms.{any, is_open}
use Rattle.asm_syntax.specs.Heights.{fits}
use Rattle.asm_syntax.specs.Terms as g
use Rattle.asm_syntax.specs.Terms.{Forms}
use Rattle.asm_parse_theory.specs.Firsts.{among, starts_term, after_term}
use Rattle.asm_parse_theory.specs.Terms as r
use Rattle.asm_parse_theory.specs.Terms.{Readers}
use Rattle.asm_parse_theory.proofs.Facts.{Room, Loose, Line, Deeper}
use Rattle.asm_parse_theory.proofs.Rooms.{no_room, less_room}
use Rattle.asm_parse_theory.proofs.DomainsRanges.{ranges_line}
use Rattle.asm_parse_theory.proofs.TermParts.{first, after, SoundParts, EmptyParts, CompleteParts, FrontsParts, WiderParts}
use Rattle.asm_parse_theory.proofs.StartsTerms.{empty_line, starts_line, starts_call, starts_binds}
use Rattle.asm_parse_theory.proofs.FrontsPrims.{fronts_arguments, fronts_call, fronts_binds, fronts_quantified, fronts_prim}
use Rattle.asm_parse_theory.proofs.WiderPrims.{wider_arguments, wider_call, wider_binds, wider_quantified, wider_prim}
use Rattle.asm_parse_theory.proofs.FrontsOperators.{fronts_or, fronts_line}
use Rattle.asm_parse_theory.proofs.WiderOperators.{wider_line}
use Rattle.asm_parse_theory.proofs.SoundPrims.{sound_arguments, sound_call, sound_binds, sound_quantified, sound_prim}
use Rattle.asm_parse_theory.proofs.SoundOperators.{sound_line}
use Rattle.asm_parse_theory.proofs.CompleteHeld.{after_terms, complete_arguments}
use Rattle.asm_parse_theory.proofs.CompletePrims.{complete_call, complete_binds, complete_quantified, complete_prim}
use Rattle.asm_parse_theory.proofs.CompleteOperators.{complete_line}

-- ---- what stands at a place, by what stands one construct deeper

empty_at : (f : TermTree → Bool) (n : ℕ) (M : Forms) → EmptyParts (g.forms_at f n M)
empty_at f n M = record { line = empty_line f (is_open n) M; ranges = ranges_line.empty f n; binds = inl refl }

fronts_at : (f : TermTree → Bool) (n : ℕ) {L : Forms} → (is_open n ≡ true → FrontsParts L) → FrontsParts (g.forms_at f n L)
fronts_at f n s = record {
  line = fronts_line f s (fronts_prim (is_open n) s) (fronts_quantified (is_open n) s);
  ranges = ranges_line.fronts f n;
  binds = fronts_binds (is_open n) s;
}

wider_at : (n : ℕ) {L M : Forms} → (is_open n ≡ true → WiderParts L M) → WiderParts (g.forms_at fits n L) (g.forms_at any n M)
wider_at n s = record {
  line = wider_line s (wider_prim (is_open n) s) (wider_quantified (is_open n) s);
  ranges = ranges_line.wider n;
  binds = wider_binds (is_open n) s;
}

sound_at : (n : ℕ) {inner : Readers} {L M : Forms} → (is_open n ≡ true → SoundParts inner L M) → EmptyParts M → (is_open n ≡ true → FrontsParts L)
    → SoundParts (r.readers_at n inner) (g.forms_at fits n L) (g.forms_at any (suc n) M)
sound_at n {inner} {L} {M} s empty f = record {
  line = sound_line s empty (sound_prim s empty) (sound_quantified s empty)
      (λ l. (fronts_line fits f (fronts_prim (is_open n) f) (fronts_quantified (is_open n) f) l).begins)
      (fronts_or fits f (fronts_prim (is_open n) f) (fronts_quantified (is_open n) f)).begins;
  ranges = ranges_line.sound n;
  binds = sound_binds s empty;
  starts = λ l t. starts_line empty t any l;
  starts_ranges = ranges_line.starts n;
  starts_binds = λ t. starts_binds empty t;
}

complete_at : (X : Bool) (f : TermTree → Bool) → Loose X f → (n k : ℕ) → Room X n k → {inner inner' : Readers} {L N M : Forms}
    → (is_open n ≡ true → SoundParts inner N M) → (is_open n ≡ true → is_open k ≡ true → CompleteParts X inner L)
    → (is_open k ≡ true → CompleteParts true inner' L) → CompleteParts X (r.readers_at n inner) (g.forms_at f k L)
complete_at X f loose n k room s c d =
    let no = no_room X n k room in
    record {
      line = complete_line X no f loose s c d (complete_prim X no s c d) (complete_quantified X no s c d);
      ranges = ranges_line.complete X f loose n k room;
      binds = complete_binds X no s c d;
    }

-- ---- one construct deeper

empty_inside : (f : TermTree → Bool) (n : ℕ) → EmptyParts (g.inside f (suc n))
unfolding g.inside
empty_inside f n = empty_at f n (g.inside f n)

fronts_inside : (f : TermTree → Bool) (n : ℕ) → is_open n ≡ true → FrontsParts (g.inside f n)
unfolding g.inside
fronts_inside f zero o = absurd (cc o)
fronts_inside f (suc n) o = fronts_at f n (fronts_inside f n)

wider_inside : (n : ℕ) → is_open n ≡ true → WiderParts (g.inside fits n) (g.inside any n)
unfolding g.inside
wider_inside zero o = absurd (cc o)
wider_inside (suc n) o = wider_at n (wider_inside n)

sound_inside : (n : ℕ) → is_open n ≡ true → SoundParts (r.inside n) (g.inside fits n) (g.inside any (suc n))
unfolding r.inside g.inside
sound_inside zero o = absurd (cc o)
sound_inside (suc n) o = sound_at n (sound_inside n) (empty_inside any n) (fronts_inside fits n)

-- how the terms of each language are begun, shown by the parser with as much room
free_inside : (f : TermTree → Bool) (n : ℕ) → is_open n ≡ true → CompleteParts true (r.inside n) (g.inside f n)
unfolding r.inside g.inside
free_inside f zero o = absurd (cc o)
free_inside f (suc n) o =
    complete_at true f (λ t e h. refl) n n (inl refl) (sound_inside n) (λ a b. free_inside f n b) (free_inside f n)

complete_inside : (X : Bool) (f : TermTree → Bool) → Loose X f → (n k : ℕ) → Room X n k → is_open n ≡ true → is_open k ≡ true
    → CompleteParts X (r.inside n) (g.inside f k)
unfolding r.inside g.inside
complete_inside X f loose zero k room o o' = absurd (cc o)
complete_inside X f loose (suc n) zero room o o' = absurd (cc o')
complete_inside X f loose (suc n) (suc k) room o o' =
    let less = less_room X n k room in
    complete_at X f loose n k less (sound_inside n) (complete_inside X f loose n k less) (free_inside f k)

pub deeper_line : (l : g.Line) → Deeper (λ n. (r.inside n).line l) (λ f n. (g.inside f n).line l) (among (first l)) (λ v. among (after l))
deeper_line l = record {
  sound = λ n o. (sound_inside n o).line l;
  starts = λ n o. (sound_inside n o).starts l;
  empty = λ f n. (empty_inside f n).line l;
  complete = λ X f loose n k room o o'. (complete_inside X f loose n k room o o').line l;
  fronts = λ f n o. (fronts_inside f n o).line l;
  wider = λ n o. (wider_inside n o).line l;
}

pub deeper_term : Deeper (λ n. (r.inside n).line g.term) (λ f n. (g.inside f n).line g.term) starts_term (λ v. among after_term)
deeper_term = deeper_line g.term

pub deeper_ranges : Deeper (λ n. (r.inside n).ranges) (λ f n. (g.inside f n).ranges) (is variable) (λ v. is (symbol (codes ",")))
deeper_ranges = record {
  sound = λ n o. (sound_inside n o).ranges;
  starts = λ n o. (sound_inside n o).starts_ranges;
  empty = λ f n. (empty_inside f n).ranges;
  complete = λ X f loose n k room o o'. (complete_inside X f loose n k room o o').ranges;
  fronts = λ f n o. (fronts_inside f n o).ranges;
  wider = λ n o. (wider_inside n o).ranges;
}

pub deeper_binds : Deeper (λ n. (r.inside n).binds) (λ f n. (g.inside f n).binds) (is (symbol (codes "("))) nowhere
deeper_binds = record {
  sound = λ n o. (sound_inside n o).binds;
  starts = λ n o. (sound_inside n o).starts_binds;
  empty = λ f n. (empty_inside f n).binds;
  complete = λ X f loose n k room o o'. (complete_inside X f loose n k room o o').binds;
  fronts = λ f n o. (fronts_inside f n o).binds;
  wider = λ n o. (wider_inside n o).binds;
}

pub deeper_arguments : Deeper (λ n. r.arguments (r.inside n)) (λ f n. g.arguments (g.inside f n)) starts_term (λ v. among after_terms)
deeper_arguments = record {
  sound = λ n o. sound_arguments (sound_inside n o);
  starts = λ n o t h. inl ((sound_inside n o).starts g.term t h);
  empty = λ f n. inl ((empty_inside f n).line g.term);
  complete = λ X f loose n k room o o'. complete_arguments X (complete_inside X f loose n k room o o');
  fronts = λ f n o. fronts_arguments (fronts_inside f n o);
  wider = λ n o. wider_arguments (wider_inside n o);
}

-- ---- at a place where so many constructs may be open

pub lines : (l : g.Line) → Line (λ n. r.line n l) (λ f n. (g.forms f n).line l) (among (first l)) (λ v. among (after l))
unfolding r.line g.forms
lines l = record {
  sound = λ n. (sound_at n (sound_inside n) (empty_inside any n) (fronts_inside fits n)).line l;
  starts = λ n. (sound_at n (sound_inside n) (empty_inside any n) (fronts_inside fits n)).starts l;
  empty = λ f n. (empty_at f n (g.inside f n)).line l;
  complete = λ X f loose n k room.
      (complete_at X f loose n k room (sound_inside n) (complete_inside X f loose n k room) (free_inside f k)).line l;
  fronts = λ f n. (fronts_at f n (fronts_inside f n)).line l;
  wider = λ n. (wider_at n (wider_inside n)).line l;
}

pub term_line : Line r.term (λ f n. g.term_within f n) starts_term (λ v. among after_term)
unfolding r.term
term_line = lines g.term

pub call_line : Line (λ n. r.call (is_open n) (r.inside n)) (λ f n. g.call (is_open n) (g.inside f n)) (is (symbol (codes "("))) nowhere
call_line = record {
  sound = λ n. sound_call (sound_inside n) (empty_inside any n);
  starts = λ n t. starts_call (empty_inside any n) t;
  empty = λ f n. inl refl;
  complete = λ X f loose n k room.
      complete_call X (no_room X n k room) (sound_inside n) (complete_inside X f loose n k room) (free_inside f k);
  fronts = λ f n. fronts_call (is_open n) (fronts_inside f n);
  wider = λ n. wider_call (is_open n) (wider_inside n);
}
