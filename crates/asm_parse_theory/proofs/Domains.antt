-- The parser of domains is exact for the grammar, to any depth.
use Rattle.std.proofs.Common.{◌≡◌, ℕ, zero, suc, [], Bool, true, false, refl}
use Rattle.asm_grammar.proofs.Exact.{Sound, Complete}
use Rattle.asm_grammar.proofs.Basic.{nowhere}
use Rattle.asm_grammar.proofs.Fronts.{Fronts}
use Rattle.asm_grammar.proofs.Wider.{wider-same}
use Rattle.asm_syntax.specs.Forms.{is_open}
use Rattle.asm_syntax.specs.Domains as g
use Rattle.asm_parse_theory.specs.Firsts.{among, first_domain}
use Rattle.asm_parse_theory.specs.Domains as r
use Rattle.asm_parse_theory.proofs.Facts.{Room, Line, Deeper}
use Rattle.asm_parse_theory.proofs.Rooms.{no_room, less_room}
use Rattle.asm_parse_theory.proofs.FormFacts.{Starts}
use Rattle.asm_parse_theory.proofs.DomainsForm.{sound_form, form_begins, form_starts, complete_form, fronts_form}

-- ---- one construct deeper

empty_inside : (n : ℕ) → (g.inside (suc n)).Begins []
unfolding g.inside
empty_inside n = form_begins (is_open n) (g.inside n)

starts_inside : (n : ℕ) → is_open n ≡ true → Starts (among first_domain) (g.inside (suc n))
unfolding g.inside
starts_inside zero o = absurd (cc o)
starts_inside (suc n) o = form_starts (g.inside (suc n))

sound_inside : (n : ℕ) → is_open n ≡ true → Sound (r.inside n) (g.inside n) (g.inside (suc n))
unfolding r.inside g.inside
sound_inside zero o = absurd (cc o)
sound_inside (suc n) o = sound_form (sound_inside n) (empty_inside n)

-- how the domains of each language are begun, shown by the parser with as much room
free_inside : (n : ℕ) → is_open n ≡ true → Complete true (r.inside n) (g.inside n) (among first_domain) nowhere false
unfolding r.inside g.inside
free_inside zero o = absurd (cc o)
free_inside (suc n) o = complete_form true (λ a b. refl) (sound_inside n) (λ a b. free_inside n b) (free_inside n)

complete_inside : (X : Bool) (n k : ℕ) → Room X n k → is_open n ≡ true → is_open k ≡ true
    → Complete X (r.inside n) (g.inside k) (among first_domain) nowhere false
unfolding r.inside g.inside
complete_inside X zero k room o o' = absurd (cc o)
complete_inside X (suc n) zero room o o' = absurd (cc o')
complete_inside X (suc n) (suc k) room o o' =
    let less = less_room X n k room in
    complete_form X (no_room X n k less) (sound_inside n) (complete_inside X n k less) (free_inside k)

fronts_inside : (n : ℕ) → is_open n ≡ true → Fronts (g.inside n)
unfolding g.inside
fronts_inside zero o = absurd (cc o)
fronts_inside (suc n) o = fronts_form (is_open n) (fronts_inside n)

pub inside_domain : Deeper r.inside (λ f n. g.inside n) (among first_domain) nowhere
inside_domain = record {
  sound = sound_inside;
  starts = starts_inside;
  empty = λ f n. empty_inside n;
  complete = λ X f loose n k room o o'. complete_inside X n k room o o';
  fronts = λ f n o. fronts_inside n o;
  wider = λ n o. wider-same (g.inside n);
}

-- ---- domains

sound_domain : (n : ℕ) → Sound (r.domain n) (g.domain n) (g.domain (suc n))
unfolding r.domain g.domain
sound_domain n = sound_form (sound_inside n) (empty_inside n)

starts_domain : (n : ℕ) → Starts (among first_domain) (g.domain (suc n))
unfolding g.domain
starts_domain n = form_starts (g.inside (suc n))

empty_domain : (n : ℕ) → (g.domain n).Begins []
unfolding g.domain
empty_domain n = form_begins (is_open n) (g.inside n)

complete_domain : (X : Bool) (n k : ℕ) → Room X n k → Complete X (r.domain n) (g.domain k) (among first_domain) nowhere false
unfolding r.domain g.domain
complete_domain X n k room = complete_form X (no_room X n k room) (sound_inside n) (complete_inside X n k room) (free_inside k)

fronts_domain : (n : ℕ) → Fronts (g.domain n)
unfolding g.domain
fronts_domain n = fronts_form (is_open n) (fronts_inside n)

pub domain_line : Line r.domain (λ f n. g.domain n) (among first_domain) nowhere
domain_line = record {
  sound = sound_domain;
  starts = starts_domain;
  empty = λ f n. empty_domain n;
  complete = λ X f loose n k room. complete_domain X n k room;
  fronts = λ f n. fronts_domain n;
  wider = λ n. wider-same (g.domain n);
}
