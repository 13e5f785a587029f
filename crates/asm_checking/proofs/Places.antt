-- A place that is the same is reported as the same.
use Rattle.std.proofs.Common.{◌≡◌, ℕ, ◌+◌, List, take}
use Rattle.std.specs.Prelude.{◌==◌, not, count_by}
use Rattle.std.specs.List.{suffix_len}
use Rattle.asm_meaning.specs.Texts.{reported_at}

pub same_place : (text : List ℕ) (a b : ℕ) (kind more : List ℕ) → take a text ≡ take b text → reported_at text a kind more ≡ reported_at text b kind more
same_place text a b kind more same = λ i. record {
  kind = kind;
  more = more;
  line = 1 + count_by (λ c. c == 10) (same i);
  column = 1 + suffix_len (λ c. not (c == 10)) (same i);
}
